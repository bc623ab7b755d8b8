-- Where nothing is refused a packet is whole and no longer than 512 bytes: so what reading gives is small and lies within the packet, and a
-- packet that is made is no longer either. Refusal 10 comes behind refusal 3, so its place is small too.
use Prim.Native.Nat.{ℕ, ◌+◌, ◌≤◌, ◌<◌}
use mathlib.Core.Path.{◌≡◌, refl, ◌∙◌}
use mathlib.Core.Bool.{Bool, true, false}
use mathlib.Core.List.{List, [], ◌++◌}
use native.Mathlib.Decide.{ℕ_discrete}
use native.Mathlib.Omega.{arith}
use borrow.Author.Tests.{ltb-false, eqb-true, ne_eqb}
use lib.ListN.{length, drop, length-take}
use lib.Dec.{eqb}
use Rattle.wire.specs.First.{first}
use Rattle.opcode.specs.Options.{options_in}
use Rattle.opcode.specs.Judgement.{judgement, fault_place}
use Rattle.opcode.proofs.Faults.{Apart, tenth}
use Rattle.wire.proofs.Tests.{first-silent, first-behind}
use Rattle.packet.specs.Frame.{header_of, opcode_of, options_of, place, fields, data_size, data_of}
use Rattle.packet.specs.Reading.{Answer, frame_refusals, refusals, fault_of, answered, reading}
use Rattle.packet.specs.Making.{make_refusals, made_by, made}
use Rattle.packet.proofs.Stores.{length-packet}
use Rattle.packet.proofs.Makes.{make_front}

-- The place of refusal 10, which no test before it stopped.
pub fault-small : (p : List ℕ) (ts : List (ℕ × Bool)) (n : ℕ) → Apart (frame_refusals p) ts → first (refusals p ++ ts) ≡ n → fault_of n p < 512
fault-small p ts n apart same =
    elim (ℕ_discrete n 10) [
      | yes e ↦
          let h = first-behind 10 (frame_refusals p) (judgement (opcode_of p) (options_of p) (data_of p) ++ ts) (omega arith) (same ∙ e) in
          let inside = (tenth (opcode_of p) (options_of p) (data_of p) (frame_refusals p) ts apart (same ∙ e)).inside in
          rw e (omega (arith, inside, ltb-false 512 (length p) h.0.1.0, length-take (data_size p) (drop (place (header_of p)) p)))
      | no e ↦ rw (ne_eqb n 10 e) (omega arith)
    ]

pub record Within (a : Answer) (p : List ℕ) : Type 0 where
  pub place : a.place ≤ 5
  pub size : a.size ≤ 512
  pub inside : a.place + a.size ≤ length p
  pub fault-place : a.fault-place < 512

pub reading-within : (p : List ℕ) → Within (reading p) p
unfolding reading judgement
reading-within p = go (first (refusals p)) whole (fault-small p [] (first (refusals p)) (omega arith) refl) (eqb (first (refusals p)) 0) refl
  where
    whole : first (refusals p) ≡ 0 → (fields (header_of p) ≤ length p) × (length p ≤ 512)
    whole e =
        let s = first-silent (refusals p) (omega arith) e in
        (ltb-false _ _ s.0, ltb-false _ _ s.1.0)

    go : (n : ℕ) → (n ≡ 0 → (fields (header_of p) ≤ length p) × (length p ≤ 512)) → fault_of n p < 512 → (b : Bool) → eqb n 0 ≡ b
        → Within (answered n p) p
    go n s f true e =
        let z = s (eqb-true n 0 e) in
        rw e (record { place = omega arith; size = omega (arith, z.1); inside = omega (arith, z.0); fault-place = omega arith })
    go n s f false e = rw e (record { place = omega arith; size = omega arith; inside = omega arith; fault-place = f })

made-fault-small : (op options : ℕ) (d buffer : List ℕ) → fault_place (first (make_refusals op (options_in options) d (length buffer))) op (options_in options) d < 512
unfolding judgement
made-fault-small op options d buffer =
    elim (ℕ_discrete (first (make_refusals op (options_in options) d (length buffer))) 10) [
      | yes e ↦
          let front = make_front (options_in options) d (length buffer) in
          let h = first-behind 10 front (judgement op (options_in options) d) (omega arith) e in
          rw e (omega (arith, (tenth op (options_in options) d front [] (omega arith) e).inside, ltb-false 512 (fields (options_in options) + length d) h.0.1.0))
      | no e ↦ rw (ne_eqb _ 10 e) (omega arith)
    ]

pub made-within : (op options : ℕ) (d buffer : List ℕ) → ((made op options d buffer).size ≤ 512) × ((made op options d buffer).fault-place < 512)
unfolding made judgement
made-within op options d buffer =
    go (first (make_refusals op (options_in options) d (length buffer))) fit (made-fault-small op options d buffer) (eqb (first (make_refusals op (options_in options) d (length buffer))) 0) refl
  where
    fit : first (make_refusals op (options_in options) d (length buffer)) ≡ 0 → fields (options_in options) + length d ≤ 512
    fit e = ltb-false _ _ (first-silent (make_refusals op (options_in options) d (length buffer)) (omega arith) e).1.0

    go : (n : ℕ) → (n ≡ 0 → fields (options_in options) + length d ≤ 512) → fault_place n op (options_in options) d < 512 → (b : Bool) → eqb n 0 ≡ b
        → ((made_by n op (options_in options) d buffer).size ≤ 512) × ((made_by n op (options_in options) d buffer).fault-place < 512)
    go n s f true e = rw (e, length-packet op (options_in options) d) (s (eqb-true n 0 e), omega arith)
    go n s f false e = rw e (omega arith, f)
