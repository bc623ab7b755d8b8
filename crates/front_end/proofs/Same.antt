-- One packet: what the judge accepts is what the front end accepts as a 34h write, and both write the same points.
use Prim.Native.Nat.{ℕ, ◌+◌, ◌≤◌}
use mathlib.Core.Path.{◌≡◌, refl, sym, ap, ◌∙◌}
use mathlib.Core.Logic.{◌↔◌}
use mathlib.Core.Bool.{Bool, true, false}
use mathlib.Core.List.{List, [], ◌∷◌}
use native.Mathlib.Omega.{arith}
use borrow.Author.Tests.{ltb-false, le-ltb, le-leb, eq-eqb, ne_eqb}
use lib.ListN.{length}
use lib.Dec.{ltb}
use Rattle.wire.specs.First.{first}
use Rattle.wire.specs.Buffers.{over}
use Rattle.opcode.specs.Options.{is_read}
use Rattle.opcode.specs.Judgement.{judgement}
use Rattle.wire.proofs.Tests.{Numbered, none_both, told}
use Rattle.packet.specs.Frame.{header_of, opcode_of, data_of}
use Rattle.packet.specs.Reading.{Answer, refusals, reading}
use Rattle.packet.specs.Points.{start_of, count_of, accepted_at, map_after}
use Rattle.packet.proofs.Frames.{reading-number, accepted}
use Rattle.front_end.specs.State.{State, state, stopped}
use Rattle.front_end.specs.Commands.{points, runs_past, written, block_after}
use Rattle.front_end.specs.Mark.{marked}
use Rattle.front_end.specs.Step.{Out, out, reads, read_and_placed, status_reply, step}
use Rattle.front_end.proofs.Steps.{decision-number, step-written}
use Rattle.front_end.proofs.Demands.{decided}
use Rattle.front_end.proofs.Changes.{Way, way}
use Rattle.front_end.specs.Writes.{Writes}
use Rattle.front_end.specs.Demands.{SameWrite}

refusals-numbered : (p : List ℕ) → Numbered (refusals p)
unfolding judgement
refusals-numbered p = omega arith

-- A 34h write that reading takes, with its points within n.
record Judged (n : ℕ) (p : List ℕ) : Type 0 where
  none : first (refusals p) ≡ 0
  opcode : opcode_of p ≡ 0x34
  write : is_read (header_of p) ≡ 0
  within : start_of (data_of p) + count_of (data_of p) ≤ n

-- The judge's test.
judged : (n : ℕ) (p : List ℕ) → accepted_at n p ≡ true → Judged n p
judged n p h =
    let number : (reading p).number ≡ 0 = search told in
    let opcode : (reading p).opcode ≡ 0x34 = search told in
    let write : is_read (reading p).options ≡ 0 = search told in
    let none : first (refusals p) ≡ 0 = sym (reading-number p) ∙ number in
    let stands = accepted p none in
    let options = ap (λ (a : Answer). a.options) stands in
    record {
      none = none;
      opcode = sym (ap (λ (a : Answer). a.opcode) stands) ∙ opcode;
      write = omega arith;
      within = search told;
    }

judges : (n : ℕ) (p : List ℕ) → Judged n p → accepted_at n p ≡ true
judges n p j =
    let stands = accepted p j.none in
    let number = ap (λ (a : Answer). a.number) stands in
    let opcode = ap (λ (a : Answer). a.opcode) stands ∙ j.opcode in
    let options = ap (λ (a : Answer). a.options) stands in
    let write : is_read (reading p).options ≡ 0 = omega arith in
    rw (eq-eqb _ _ number, eq-eqb _ _ opcode, eq-eqb _ _ write, le-leb _ _ j.within)

-- The front end's tests.
placed : (p block : List ℕ) → opcode_of p ≡ 0x34 → is_read (header_of p) ≡ 0 → (first (read_and_placed p block) ≡ 0) ↔ Judged (points block) p
unfolding runs_past
placed p block o w = (
  λ e.
      let q = both.0 e in
      record { none = q.0; opcode = o; write = w; within = ltb-false _ _ (sym past ∙ passes _ q.1) },
  λ j. both.1 (j.none, rw (past, le-ltb _ _ j.within)),
)
  where
    both : (first (read_and_placed p block) ≡ 0)
        ↔ ((first (refusals p) ≡ 0) × (first ((12, runs_past (opcode_of p) (reads p) (data_of p) block) ∷ []) ≡ 0))
    both = none_both (refusals p) ((12, runs_past (opcode_of p) (reads p) (data_of p) block) ∷ []) (refusals-numbered p)

    past : runs_past (opcode_of p) (reads p) (data_of p) block ≡ ltb (points block) (start_of (data_of p) + count_of (data_of p))
    past = rw (eq-eqb (opcode_of p) 0x34 o, ne_eqb (is_read (header_of p)) 1 (omega arith))

    passes : (b : Bool) → first ((12, b) ∷ []) ≡ 0 → b ≡ false
    passes true e = absurd (omega arith)
    passes false e = refl

module _ (p : List ℕ) (s : State) (reply : List ℕ) (runs : stopped s reply ≡ false) where
  -- What the judge accepts: the write alone, and its rows marked.
  pub accepted-step : accepted_at (points s.block) p ≡ true
      → step p s reply
      ≡ out 0 0 (length (status_reply 0 0 p)) (marked 0x34 (data_of p) (state s.block (map_after (points s.block) p s.staged) s.live s.gains))
      (over (status_reply 0 0 p) reply)
  unfolding map_after written block_after
  accepted-step a =
      let j = judged (points s.block) p a in
      let none = decision-number p s.block ∙ (placed p s.block j.opcode j.write).1 j in
      step-written p s reply runs none (ne_eqb (is_read (header_of p)) 1 (omega arith)) ∙ rw (j.opcode, a)

  write-accepted : Writes 0x34 p (step p s reply) → accepted_at (points s.block) p ≡ true
  write-accepted w =
      let none = (decided p s reply w.0).1 in
      judges (points s.block) p ((placed p s.block w.1 w.2).0 (sym (decision-number p s.block) ∙ none))

  pub same_write : SameWrite p s (step p s reply)
  unfolding map_after written
  same_write =
      record {
        staged = go (accepted_at (points s.block) p) refl (way p s reply);
        accepted = (
          λ a.
              let j = judged (points s.block) p a in
              (ap (λ (o : Out). o.status) (accepted-step a), j.opcode, j.write),
          write-accepted,
        );
      }
    where
      go : (b : Bool) → accepted_at (points s.block) p ≡ b → Way p s reply → (step p s reply).state.staged ≡ map_after (points s.block) p s.staged
      go true a w = ap (λ (o : Out). o.state.staged) (accepted-step a)
      go false a (Way.same e) = rw (e, a)
      go false a (Way.wrote st r c e) =
          let other : opcode_of p ≡ 0x34 → ⊥ = λ o. let z : ◌≡◌ {A = ℕ} 0 1 = cc (write-accepted (st, o, r)) in omega arith in
          rw (e, ne_eqb (opcode_of p) 0x34 other, a)
