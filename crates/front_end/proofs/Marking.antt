-- What every packet does to the row mark, from the ways of a packet.
use Prim.Native.Nat.{ℕ, ◌<◌}
use mathlib.Core.Path.{◌≡◌, sym, ap, subst, ◌∙◌}
use mathlib.Core.List.{List, [], ◌∷◌}
use native.Mathlib.Omega.{arith}
use borrow.Author.Tests.{ne_eqb}
use lib.ListN.{take, drop}
use Rattle.opcode.specs.Options.{is_read}
use Rattle.packet.specs.Frame.{header_of, opcode_of, data_of}
use Rattle.row_mark.specs.Bits.{bit_at}
use Rattle.settings.specs.Layout.{mark_place, mark_size}
use Rattle.front_end.specs.State.{State}
use Rattle.front_end.specs.Mark.{written_marked}
use Rattle.front_end.specs.Step.{Out, step}
use Rattle.front_end.specs.Writes.{Writes, Applies}
use Rattle.front_end.specs.Rows.{mark_of, RowRight, MarkRight, RowsMarked}
use Rattle.front_end.specs.Calls.{Call, state_after_all}
use Rattle.front_end.proofs.Demands.{decided}
use Rattle.front_end.proofs.Steps.{step-written}
use Rattle.front_end.proofs.Changes.{Way, way}
use Rattle.front_end.proofs.Moves.{stays-right, touched-right, untouched-same, same_bit, reshaped, cleared-mark, tail-same}

module _ (p : List ℕ) (s : State) (reply : List ℕ) where
  -- The state that an accepted write leaves.
  wrote : (step p s reply).status ≡ 0 → is_read (header_of p) ≡ 0 → (step p s reply).state ≡ written_marked (opcode_of p) (data_of p) s
  wrote st w =
      let d = decided p s reply st in
      ap (λ (o : Out). o.state) (step-written p s reply d.0 d.1 (ne_eqb (is_read (header_of p)) 1 (omega arith)))

  row_kept : (r : ℕ) → r < 32 → RowRight s r → RowRight (step p s reply).state r
  row_kept r few right = go (way p s reply)
    where
      go : Way p s reply → RowRight (step p s reply).state r
      go (Way.same e) = subst (λ (t : State). RowRight t r) (sym e) right
      go (Way.wrote st w c e) = subst (λ (t : State). RowRight t r) (sym e) (stays-right p s reply st w r few right)

  kept : (Writes 0x34 p (step p s reply) → ⊥) → (Writes 0x35 p (step p s reply) → ⊥) → (Applies p (step p s reply) → ⊥)
      → take mark_size (drop mark_place (step p s reply).state.block) ≡ take mark_size (drop mark_place s.block)
  kept a b c = go (way p s reply)
    where
      go : Way p s reply → take mark_size (drop mark_place (step p s reply).state.block) ≡ take mark_size (drop mark_place s.block)
      go (Way.same e) = rw e
      go (Way.wrote st w d e) =
          rw e (ap (take mark_size) (tail-same p s reply st w (λ o. a (st, o, w)) (λ o. b (st, o, w)) (λ o v. c (st, o, w, v))))

  pub rows-marked : RowsMarked p s (step p s reply)
  rows-marked =
      record {
        right = λ h. record { each = λ r few. row_kept r few (h.each r few) };
        row-right = row_kept;
        touched = λ w r t. subst (λ (t : State). RowRight t r) (sym (wrote w.0 w.2)) (touched-right p s reply w.0 w.2 w.1 r t);
        untouched = λ w r few off.
            ap (λ (t : State). bit_at (mark_of t.block) r) (wrote w.0 w.2)
            ∙ same_bit _ _ r (untouched-same p s reply w.0 w.2 w.1 r few off);
        reshaped = λ w. subst MarkRight (sym (wrote w.0 w.2)) (record { each = λ r few. reshaped p s reply w.0 w.2 w.1 r few });
        cleared = λ w. ap (λ (t : State). mark_of t.block) (wrote w.0 w.2) ∙ cleared-mark p s reply w.0 w.2 w.1 w.3;
        kept = kept;
      }

-- Packet after packet.
pub always-right : (xs : List Call) (s : State) → MarkRight s → MarkRight (state_after_all xs s)
unfolding state_after_all
always-right [] s right = right
always-right (x ∷ xs) s right = always-right xs (step x.packet s x.reply).state ((rows-marked x.packet s x.reply).right right)
