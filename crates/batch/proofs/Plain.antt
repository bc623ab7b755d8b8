-- What a packet of compressed gains means, and what is told of a batch.
use mathlib.Core.Path.{refl}
use Rattle.batch.specs.Plain.{Pinned}
use Rattle.batch.proofs.Writing.{pairs-form}

pub pinned : Pinned
pinned =
    record {
      pairs-packet = pairs-form;
      sent = λ sent. (refl, refl);
      none-sent = (refl, refl);
    }
