-- The worked examples, computed.
use mathlib.Core.Path.{refl}
use Rattle.upload.specs.Cost.{best, rooms, more}
use Rattle.upload.specs.Plan.{plan_from, cost}
use Rattle.upload.specs.Parts.{counts}
use Rattle.upload.specs.Examples.{Examples}

pub examples : Examples
unfolding best rooms more plan_from cost counts
examples =
    record {
      near = record { split = refl; total = refl };
      apart = record { split = refl; total = refl };
      gap = record { split = refl; total = refl };
      filled-left = refl;
    }
