-- What names mean, by unfolding them.
use mathlib.Core.Path.{refl}
use Rattle.gain_words.specs.Pairs.{expand, sum_runs}
use Rattle.gain_words.specs.Plain.{Pinned}

pub pinned : Pinned
unfolding expand sum_runs
pinned =
    record {
      expand-0 = refl;
      expand-1 = λ run. refl;
      expand-2 = λ run gain rest. refl;
      runs-0 = refl;
      runs-1 = λ run. refl;
      runs-2 = λ run gain rest. refl;
    }
