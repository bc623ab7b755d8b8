-- Copies within the block, out of it and into it: what a run of stores or a copy leaves is what the definitions say, since each is the part
-- before, what was put in, and the part behind.
use Prim.Native.Nat.{ℕ, ◌+◌}
use mathlib.Core.Path.{◌≡◌, sym, ◌∙◌}
use mathlib.Core.List.{List, [], ◌∷◌, ◌++◌}
use native.Mathlib.Omega.{arith}
use lib.ListN.{length, take, drop, set, length-drop}
use lib.Seq.{sets, length-sets, paste, take-set-le, drop-set-add}
use Rattle.wire.specs.Numbers.{byte_at, word_bytes}
use Rattle.wire.proofs.Laws.{sets-append}
use Rattle.wire.proofs.Copies.{sets-paste}
use Rattle.front_end.specs.Commands.{write_shape, shape_bytes}
use Rattle.settings.specs.Layout.{block_size, enable, live_shape, shape_size, staged_shape, column_list, column_entries, row_entries, lists_size}

-- 35h in mode 1: mode, columns, rows and the lists, stored one behind the other, are one copy.
pub lists-stored : (block d : List ℕ) → length block ≡ block_size → length d ≡ 1 + lists_size → byte_at d 0 ≡ 1
    → paste (sets (sets (sets block staged_shape (1 ∷ [])) (staged_shape + 1) (word_bytes column_entries)) (staged_shape + 3) (word_bytes row_entries)) (column_list staged_shape) (drop 1 d) lists_size ≡ write_shape d block
unfolding write_shape shape_bytes
lists-stored block d whole long mode =
    let head : List ℕ = 1 ∷ 62 ∷ 0 ∷ 32 ∷ 0 ∷ [] in
    let rest : length (drop 1 d) ≡ lists_size = rw length-drop (omega arith) in
    let behind : sets (sets block staged_shape head) (column_list staged_shape) (drop 1 d) ≡ paste (sets block staged_shape head) (column_list staged_shape) (drop 1 d) lists_size =
    rw rest at (sets-paste (sets block staged_shape head) (column_list staged_shape) (drop 1 d) (rw length-sets (omega arith))) in
    sym behind ∙ sets-append block staged_shape head (drop 1 d) ∙ sets-paste block staged_shape (head ++ drop 1 d) (omega arith)
    ∙ rw mode

-- 36h: the staged shape lies before enable, so it is copied as it was.
pub shape-applied : (block : List ℕ) → length block ≡ block_size
    → paste (sets block enable (1 ∷ [])) live_shape (drop staged_shape (sets block enable (1 ∷ []))) shape_size
    ≡ paste (paste block enable (1 ∷ []) 1) live_shape (drop staged_shape block) shape_size
shape-applied block whole =
    let same : take shape_size (drop staged_shape (set block enable 1)) ≡ take shape_size (drop staged_shape block) =
    rw (drop-set-add staged_shape block shape_size 1) (take-set-le shape_size (drop staged_shape block) shape_size 1 (omega arith)) in
    rw (same, sets-paste block enable (1 ∷ []) (omega arith))
