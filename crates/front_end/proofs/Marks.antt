-- The pass that writes the mark: it changes the four bytes of the mark alone, so that whoever looks elsewhere sees what the command left.
use Prim.Native.Nat.{ℕ, ◌+◌, ◌≤◌, ◌<◌}
use mathlib.Core.Path.{◌≡◌, refl, sym}
use mathlib.Core.Bool.{Bool, true, false}
use mathlib.Core.List.{List}
use native.Mathlib.Omega.{arith}
use lib.ListN.{length, take, drop, get_or, length-take, length-drop, take-append-drop}
use lib.Seq.{paste, length-paste, take-take, take-add}
use Rattle.wire.proofs.Copies.{Same, part, same-part, paste-apart, behind-paste}
use Rattle.settings.specs.Ranges.{settings_right}
use Rattle.settings.proofs.Same.{settings-same}
use Rattle.settings.specs.Layout.{block_size, settings_end, mark_place, mark_size}
use Rattle.front_end.specs.Mark.{marks, mark_bytes, with_mark, marked_block}

-- A block of the same length, of which all but the mark is as it was.
pub record AllButMark (block after : List ℕ) : Type 0 where
  pub long : length after ≡ length block
  pub front : Same after 0 block 0 settings_end
  pub behind : drop (mark_place + mark_size) after ≡ drop (mark_place + mark_size) block

-- Whatever four bytes are put there.
pub put-mark : (block new : List ℕ) → length block ≡ block_size → length new ≡ mark_size → AllButMark block (paste block mark_place new mark_size)
put-mark block new l four =
    record {
      long = length-paste block mark_place new mark_size (omega arith) (omega arith);
      front = paste-apart block new mark_place mark_size (omega arith) (omega arith) 0 settings_end (omega arith);
      behind = behind-paste block new mark_place mark_size (omega arith) (omega arith) (mark_place + mark_size) (omega arith);
    }

pub mark-alone : (op : ℕ) (d block staged live : List ℕ) → length block ≡ block_size → AllButMark block (marked_block op d block staged live)
unfolding marked_block
mark-alone op d block staged live l = go (marks op d) refl
  where
    put : (mark : List Bool) → AllButMark block (with_mark mark block)
    put mark = put-mark block (mark_bytes mark) l refl

    go : (b : Bool) → marks op d ≡ b → AllButMark block (marked_block op d block staged live)
    go true e = rw e (put _)
    go false e = rw e (record { long = refl; front = record { each = λ k h. refl }; behind = refl })

-- A part of the settings.
pub front-part : {block after : List ℕ} → AllButMark block after → (at n : ℕ) → at + n ≤ settings_end → settings_end ≤ length block → take n (drop at after) ≡ take n (drop at block)
front-part {block} {after} a at n h l =
    let e : 0 + at ≡ at = omega arith in
    same-part (rw e at (part a.front at n (omega arith))) (omega (arith, a.long)) (omega arith)

pub front-byte : {block after : List ℕ} → AllButMark block after → (at : ℕ) → at < settings_end → get_or after at 0 ≡ get_or block at 0
front-byte a at h = let e : 0 + at ≡ at = omega arith in rw e at (a.front.each at h)

-- All but the mark, and the mark.
pub mark-put : {block after : List ℕ} → AllButMark block after → length block ≡ block_size
    → after ≡ paste block mark_place (take mark_size (drop mark_place after)) (length (take mark_size (drop mark_place after)))
mark-put {block} {after} a l =
    let four : length (take mark_size (drop mark_place after)) ≡ mark_size = simp (length-take, length-drop) (omega (arith, a.long)) in
    let front : take mark_place after ≡ take mark_place block = front-part a 0 mark_place (omega arith) (omega arith) in
    rw (four, ← front, ← a.behind, take-take mark_size mark_size (drop mark_place after) (omega arith))
    (sym (rw (take-add mark_place mark_size after) at (take-append-drop (mark_place + mark_size) after)))

-- What stays of a block in range.
pub mark-right : {block after : List ℕ} → AllButMark block after → settings_right after ≡ settings_right block
mark-right a = settings-same a.front
