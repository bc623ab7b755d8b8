-- What the code's answer means, by unfolding it.
use mathlib.Core.Path.{refl}
use Rattle.planning.specs.Plain.{Pinned}

pub pinned : Pinned
pinned =
    record {
      numbers = (refl, refl);
      taken = λ sent. (refl, refl, refl);
      refused = λ why. (refl, refl, refl);
    }
