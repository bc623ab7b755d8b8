-- The mark's four bytes.
use mathlib.Core.Path.{refl, ◌∙◌}
use mathlib.Core.List.{[], ◌∷◌}
use native.Mathlib.Omega.{arith}
use Rattle.std.proofs.lemmas.Slice.{put_mid-paste}
use Rattle.wire.specs.Tables.{long_bytes}
use Rattle.settings.specs.Layout.{mark_place, mark_size}
use Rattle.front_end.proofs.Fresh.{mark-stored}
use Rattle.front_end.proofs.mark.put.Goals as goal

pub returns : goal.returns
returns c = let mark = c.args.mark in
    put_mid-paste mark_place mark_size c.args.block.now c.copy_from_slice.new.self (long_bytes (mark ∷ [])) mark_size
    (c.copy_from_slice.ensures.after ∙ c.to_le_bytes.ensures ∙ mark-stored mark (omega arith)) refl refl
