-- What the code's answer means, by unfolding it.
use mathlib.Core.Path.{refl}
use Rattle.compressor.specs.Plain.{Pinned}

pub pinned : Pinned
pinned =
    record {
      numbers = (refl, refl);
      taken = λ pairs. (refl, refl);
      refused = λ why. (refl, refl);
    }
