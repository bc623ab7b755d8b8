-- Rules 6.3, 7.3, 11.2 and 11.3: the packets of a plan, sent to a front end.
use Rattle.std.specs.Prelude.{ℕ, ◌*◌, ◌<◌, ◌≡◌, List, [], ◌∷◌, take, drop}
use Rattle.row_mark.specs.Bits.{bit_at}
use Rattle.front_end.specs.State.{State}
use Rattle.front_end.specs.Step.{out, step}
use Rattle.front_end.specs.Rows.{mark_of, columns_of, RowRight, MarkRight, TouchedBy}
use Rattle.front_end.specs.Calls.{Call, calls_of, state_after_all}
use Rattle.upload.specs.Plan.{packets_of}

-- Each of the calls is accepted and changes the state alone: status 0, no reply, and the reply buffer as it was.
pub data AllStored : List Call → State → Type 0 where
  none : {s : State} → AllStored [] s
  next : {x : Call} {xs : List Call} {s : State} → step x.packet s x.reply ≡ out 0 0 0 (step x.packet s x.reply).state x.reply
      → AllStored xs (step x.packet s x.reply).state → AllStored (x ∷ xs) s

-- Rule 11.2: one of some 34h packets has a point in a row, of a shape of so many columns.
pub data TouchedByOne (columns r : ℕ) : List (List ℕ) → Type 0 where
  here : {p : List ℕ} {ps : List (List ℕ)} → TouchedBy columns p r → TouchedByOne columns r (p ∷ ps)
  later : {p : List ℕ} {ps : List (List ℕ)} → TouchedByOne columns r ps → TouchedByOne columns r (p ∷ ps)

-- The state that the plan's packets leave.
abbrev pub uploaded : List ℕ → List ℕ → State → List ℕ → State
uploaded held wanted s reply = state_after_all (calls_of reply (packets_of held wanted)) s

-- Rules 6.3 and 7.3: the plan's packets sent to a front end whose staged map of n points is held.
pub record Delivered (n : ℕ) (held wanted : List ℕ) (s : State) (reply : List ℕ) : Type 0 where
  -- Rule 7.2: the staged points have become wanted.
  pub turned : take (2 * n) (uploaded held wanted s reply).staged ≡ wanted
  -- Points past the shape are as they were.
  pub behind : drop (2 * n) (uploaded held wanted s reply).staged ≡ drop (2 * n) s.staged
  -- So are settings and all else of the block but the row mark, the live map and gains: nothing is applied.
  pub settings-kept : take 865 (uploaded held wanted s reply).block ≡ take 865 s.block
  pub tail-kept : drop 869 (uploaded held wanted s reply).block ≡ drop 869 s.block
  pub live-kept : (uploaded held wanted s reply).live ≡ s.live
  pub gains-kept : (uploaded held wanted s reply).gains ≡ s.gains
  -- Rules 11.2 and 11.3: the bits of the rows that the packets write to are right, the others as they were; so a mark that was right is right.
  pub rows_right : (r : ℕ) → TouchedByOne (columns_of s.block) r (packets_of held wanted) → RowRight (uploaded held wanted s reply) r
  pub rows-kept : (r : ℕ) → r < 32 → (TouchedByOne (columns_of s.block) r (packets_of held wanted) → ⊥)
      → bit_at (mark_of (uploaded held wanted s reply).block) r ≡ bit_at (mark_of s.block) r
  pub mark-right : MarkRight s → MarkRight (uploaded held wanted s reply)
  -- Rule 7.3: every one of them is accepted.
  pub taken : AllStored (calls_of reply (packets_of held wanted)) s
