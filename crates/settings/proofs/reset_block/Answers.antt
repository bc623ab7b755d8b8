-- The runs are those of the law; what they leave is allowed.
use mathlib.Core.Path.{refl}
use Rattle.settings.proofs.Resets.{over_zeros}
use Rattle.settings.proofs.Allowed.{reset-allowed}
use Rattle.settings.proofs.reset_block.Goals as goal

pub returns : goal.returns
returns c = rw (
  c.reset_frequencies.ensures,
  c.fill-2.ensures.after (λ y e. e),
  c.reset_shape-2.ensures,
  c.reset_shape.ensures,
  c.fill.ensures.after (λ y e. e),
  c.requires,
  over_zeros,
)
    (refl, reset-allowed)
