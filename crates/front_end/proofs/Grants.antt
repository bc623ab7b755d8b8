-- What both families of entries cite: the ways of a packet that refusal 1 does not stop, each as its step; and what an accepted command may
-- rely on: its data was judged and lies within its table, so each of the four moves between a packet and a table stays within both.
use Prim.Native.Nat.{ℕ, ◌+◌, ◌*◌, ◌≤◌}
use mathlib.Core.Path.{◌≡◌, sym, ap, ◌∙◌}
use mathlib.Core.Bool.{true, false}
use mathlib.Core.List.{List}
use native.Mathlib.Omega.{arith}
use borrow.Author.Tests.{ne_eqb}
use lib.ListN.{length, take, drop}
use lib.Seq.{sets, paste}
use Rattle.wire.specs.Buffers.{Overwrites}
use Rattle.wire.specs.Numbers.{word_at}
use Rattle.wire.proofs.Copies.{sets-paste}
use Rattle.gain_words.specs.Pairs.{expand, sum_runs}
use Rattle.gain_words.proofs.Expand.{length-expand}
use Rattle.opcode.specs.Options.{is_read, has_checksum, options_in}
use Rattle.opcode.specs.Judgement.{in_pairs}
use Rattle.packet.specs.Frame.{header_of}
use Rattle.packet.specs.Reading.{Answer, command_at, refused_by}
use Rattle.front_end.specs.State.{State, stopped}
use Rattle.front_end.specs.Commands.{third, gains_colour, gains_start, gains_place, gains_words, gains_sent, gains_into, colour_into, write_gains, data_back}
use Rattle.front_end.specs.Mark.{written_marked}
use Rattle.front_end.specs.Step.{reads, decision, status_reply, read_reply, out, step}
use Rattle.front_end.specs.Internal.{Granted, PointsWrite, PointsRead, GainsWrite, GainsRead}
use Rattle.front_end.proofs.Bounds.{points-write, points-read, gains-write, gains-read, commanded, refused}
use Rattle.front_end.proofs.Steps.{step-refused, step-read, step-written}
use Rattle.front_end.proofs.Demands.{lent}

module _ (op o : ℕ) (d block : List ℕ) (g : Granted op o d block) where
  pub writes-points : is_read o ≡ 0 → op ≡ 0x34 → PointsWrite d
  writes-points h e = points-write o d block h (rw e at g.judged) (rw e at g.fits) g.settings

  pub writes-gains : is_read o ≡ 0 → op ≡ 0x2B → GainsWrite d
  writes-gains h e = gains-write o d block h (rw e at g.judged) (rw e at g.fits)

  pub reads-points : is_read o ≡ 1 → op ≡ 0x34 → PointsRead d
  reads-points h e = points-read o d block h (rw e at g.judged) (rw e at g.fits) g.settings

  pub reads-gains : is_read o ≡ 1 → op ≡ 0x2B → GainsRead d
  reads-gains h e = gains-read o d block h (rw e at g.judged) (rw e at g.fits)

-- The gains that a write sends, by its flag, and how many they are.
module _ (d : List ℕ) where
  pub sent-pairs : in_pairs d ≡ true → gains_sent d ≡ expand (gains_words d)
  sent-pairs e = rw e

  pub sent-plain : in_pairs d ≡ false → gains_sent d ≡ gains_words d
  sent-plain e = rw e

  pub pairs-many : in_pairs d ≡ true → length (gains_sent d) ≡ sum_runs (gains_words d)
  pairs-many e = rw (sent-pairs e) (length-expand (gains_words d))

  pub plain-many : in_pairs d ≡ false → GainsWrite d → length (gains_sent d) ≡ word_at d 2
  plain-many e w = w.numbers ∙ rw e

  -- As the code writes them, from a place on.
  pub pairs-into : (gains : List ℕ) (place : ℕ) → in_pairs d ≡ true → place + length (gains_sent d) ≤ length gains
      → sets gains place (expand (gains_words d)) ≡ gains_into gains place (gains_sent d)
  pairs-into gains place e h =
      ap (sets gains place) (sym (sent-pairs e)) ∙ sets-paste gains place (gains_sent d) h

  pub plain-into : (gains : List ℕ) (place n : ℕ) → in_pairs d ≡ false → GainsWrite d → n ≡ word_at d 2
      → paste gains place (gains_words d) n ≡ gains_into gains place (gains_sent d)
  plain-into gains place n e w m =
      ap (paste gains place (gains_words d)) (m ∙ sym (plain-many e w))
      ∙ ap (λ (new : List ℕ). paste gains place new (length (gains_sent d))) (sym (sent-plain e))

-- An accepted 2Bh write, as the code stores it: at its place, and for colour 0 a third and two thirds behind it too.
module _ (d gains : List ℕ) (place : ℕ) (here : place ≡ gains_place false d) where
  pub gains-one : (gains_colour false d ≡ 0 → ⊥) → gains_into gains place (gains_sent d) ≡ write_gains d gains
  unfolding colour_into
  gains-one some = rw (ne_eqb (gains_colour false d) 0 some, here)

  pub gains-three : gains_colour false d ≡ 0
      → gains_into (gains_into (gains_into gains place (gains_sent d)) (third + place) (gains_sent d)) (2 * third + place) (gains_sent d)
      ≡ write_gains d gains
  unfolding colour_into
  gains-three none = let start : place ≡ gains_start false d = omega arith in rw (none, start)

-- Options have the header's checksum bit.
same_sum : (h o : ℕ) → o ≡ options_in h → has_checksum o ≡ has_checksum h
same_sum h o e = omega arith

module _ (p : List ℕ) (s : State) (reply : List ℕ) (runs : stopped s reply ≡ false) where
  -- A refusal's reply, as its step: its number is not 0.
  pub answers-refusal : {n f status fault size : ℕ} {answer : List ℕ} → refused_by n f ≡ decision p s.block
      → (status ≡ n) × (fault ≡ f) × Overwrites size (status_reply n f p) reply answer → out status fault size s answer ≡ step p s reply
  answers-refusal {n} {f} told e =
      let r = refused p s.block n f told in
      rw (e.0, e.1, e.2.0, e.2.1, r.fault-place)
      (sym (step-refused p s reply runs n (λ z. omega (arith, r.some)) (sym (ap (λ (a : Answer). a.number) told))))

  -- The command that a decision gives, on the part of the packet that holds its data.
  module _ (op o at size : ℕ) (told : command_at op o at size ≡ decision p s.block) where
    pub inside : at + size ≤ length p
    inside = (commanded p s.block op o at size told).inside

    pub granted : Granted op o (take size (drop at p)) s.block
    granted =
        let c = commanded p s.block op o at size told in
        let l = lent s reply runs in
        rw c.same-data (record { judged = c.judged; fits = c.within; settings = l.settings; long = l.tables.block })

    accepted : (decision p s.block).number ≡ 0
    accepted = sym (ap (λ (a : Answer). a.number) told)

    -- A read's reply, and a write's, as its step.
    pub answers-read : {n : ℕ} {answer : List ℕ} → is_read o ≡ 1
        → Overwrites n (read_reply op o (take size (drop at p)) s) reply answer
        → out 0 0 n s answer ≡ step p s reply
    unfolding data_back
    answers-read r e =
        let c = commanded p s.block op o at size told in
        let reads-it : reads p ≡ true = c.same_reads ∙ rw r in
        rw (e.0, e.1, c.same-data, c.same-opcode, same_sum (header_of p) o c.same-options) (sym (step-read p s reply runs accepted reads-it))

    pub stores_write : {n : ℕ} {s' : State} {answer : List ℕ} → is_read o ≡ 0 → s' ≡ written_marked op (take size (drop at p)) s
        → Overwrites n (status_reply 0 0 p) reply answer → out 0 0 n s' answer ≡ step p s reply
    stores_write r w e =
        let c = commanded p s.block op o at size told in
        let writes : reads p ≡ false = c.same_reads ∙ rw r in
        rw (e.0, e.1, w, c.same-data, c.same-opcode) (sym (step-written p s reply runs accepted writes))
