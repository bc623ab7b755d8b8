-- A packet of pairs at the front end: it is accepted, asks for no reply, and writes what its pairs stand for. So do packets cut from pairs, one
-- after another.
use Prim.Native.Nat.{ℕ, zero, suc, ◌+◌, ◌*◌, ◌%◌, ◌≤◌}
use mathlib.Core.Path.{◌≡◌, refl, sym, ap, ◌∙◌}
use mathlib.Core.Bool.{Bool, false}
use mathlib.Core.List.{List, [], ◌∷◌}
use native.Mathlib.Omega.{arith}
use borrow.Author.Tests.{le-ltb}
use lib.ListN.{length, drop}
use Rattle.wire.specs.First.{first}
use Rattle.wire.specs.Buffers.{over}
use Rattle.wire.specs.Numbers.{byte_at, word_at}
use Rattle.wire.specs.Tables.{words}
use Rattle.wire.proofs.Tables.{pairs-halves, length-halves}
use Rattle.wire.proofs.Tests.{silent-first, first-right, first-silent}
use Rattle.gain_words.specs.Pairs.{expand, sum_runs}
use Rattle.gain_words.specs.Plain.{Pairs}
use Rattle.gain_words.proofs.Right.{pairs-even}
use Rattle.gain_words.proofs.Expand.{length-expand, expand-append, sum-append, pairs-both}
use Rattle.opcode.specs.Commands.{command_of}
use Rattle.opcode.specs.Judgement.{judgement}
use Rattle.opcode.proofs.Accepts.Fields.{All}
use Rattle.opcode.proofs.Accepts.Passes.{passes-silent}
use Rattle.opcode.proofs.Accepts.Varying.{runs-passes}
use Rattle.packet.specs.Frame.{opcode_of, fields, data_of}
use Rattle.packet.specs.Reading.{refusals}
use Rattle.packet.specs.Making.{packet_of}
use Rattle.packet.proofs.MadeReads.{made_reads}
use Rattle.front_end.specs.State.{State, state, stopped}
use Rattle.front_end.specs.Commands.{third, colour_into, written, block_after, runs_past}
use Rattle.front_end.specs.Mark.{marked_block}
use Rattle.front_end.specs.Step.{Out, out, reads, step}
use Rattle.front_end.proofs.Steps.{decision-number, step-written}
use Rattle.front_end.specs.Calls.{Call, calls_of, state_after_all}
use Rattle.front_end.proofs.Demands.{lent, refusals-numbered}
use Rattle.front_end.proofs.InRange.{colour-long}
use Rattle.batch.specs.Pairs.{pairs_data, pairs_packet}
use Rattle.splitter.specs.Plain.{CutUp, Splittable}
use Rattle.splitter.proofs.Cutting.{cut_up}
use Rattle.compressor.specs.Compress.{compressed}
use Rattle.compressor.specs.Plain.{Compressible}
use Rattle.compressor.proofs.Fewest.{sum-compressed, compressed-pairs}
use Rattle.end_to_end.specs.Gains.{Blended, GainsDelivered}
use Rattle.end_to_end.specs.Delivery.{AllStored}
use Rattle.end_to_end.proofs.Blends.{colour-behind}
use Rattle.end_to_end.proofs.Sent.{no-reply}

-- What the data of such a packet is.
record Data (colour start : ℕ) (ws d : List ℕ) : Type 0 where
  flag : byte_at d 0 ≡ 1
  colour-at : byte_at d 1 ≡ colour
  count_at : word_at d 2 ≡ length ws
  start-at : word_at d 4 ≡ start
  long : length d ≡ 6 + 2 * length ws
  words-at : words (drop 6 d) ≡ ws

pairs-data : (colour start : ℕ) (ws : List ℕ) → Data colour start ws (pairs_data colour start ws)
pairs-data colour start ws =
    record {
      flag = refl;
      colour-at = refl;
      count_at = omega arith;
      start-at = omega arith;
      long = omega (arith, length-halves 256 ws);
      words-at = pairs-halves 256 ws;
    }

-- A packet that is sent alone: its pairs are right and few, and end within the colour.
pub record Sendable (colour start : ℕ) (ws : List ℕ) : Type 0 where
  pub some : 1 ≤ length ws
  pub few : length ws ≤ 250
  pub right : Pairs ws
  pub colour-right : colour ≤ 3
  pub within : start + sum_runs ws ≤ 2016

module _ (colour start : ℕ) (ws : List ℕ) (f : Sendable colour start ws) where
  abbrev d : List ℕ
  d = pairs_data colour start ws

  abbrev p : List ℕ
  p = packet_of 0x2B 0x10 d

  fields-right : All (command_of 0x2B).sets d 0
  unfolding command_of
  fields-right =
      let q = pairs-data colour start ws in
      omega (arith, q.count_at, q.start-at)

  none : first (refusals p) ≡ 0
  unfolding judgement command_of
  none =
      let reads = made_reads 0x2B 0x10 d refl in
      let q = pairs-data colour start ws in
      let whole : length d ≡ 6 + 2 * word_at d 2 = omega (arith, q.long, q.count_at) in
      let sent : Pairs (words (drop 6 d)) = rw q.words-at f.right in
      let silent = passes-silent 0x2B 0x10 d refl refl refl (runs-passes d fields-right whole refl sent) in
      reads.refusal
      ∙ ap (λ (b : Bool). first ((3, b) ∷ judgement 0x2B 0x10 d)) (le-ltb 512 (fields 0x10 + length d) (omega (arith, q.long, f.few)))
      ∙ silent-first (judgement 0x2B 0x10 d) silent

  -- The same command, whatever it is called by.
  past_of : {op : ℕ} {reads : Bool} {e : List ℕ} (block : List ℕ) → op ≡ 0x2B → reads ≡ false → e ≡ d
      → runs_past op reads e block ≡ runs_past 0x2B false d block
  past_of block o r c = rw (o, r, c)

  past-none : (block : List ℕ) → runs_past (opcode_of p) (reads p) (data_of p) block ≡ false
  unfolding runs_past
  past-none block =
      let q = pairs-data colour start ws in
      let m = made_reads 0x2B 0x10 d refl in
      let ends : word_at d 4 + sum_runs (words (drop 6 d)) ≤ third = rw q.words-at (omega (arith, q.start-at, f.within)) in
      let write : reads p ≡ false = rw m.header in
      past_of block m.opcode write m.content ∙ le-ltb third (word_at d 4 + sum_runs (words (drop 6 d))) ends

  pub pairs-step : (s : State) (reply : List ℕ) → stopped s reply ≡ false
      → step (pairs_packet colour start ws) s reply
      ≡ out 0 0 0 (state s.block s.staged s.live (colour_into colour start (expand ws) s.gains)) reply
  unfolding pairs_packet written block_after marked_block over
  pairs-step s reply runs =
      let q = pairs-data colour start ws in
      let m = made_reads 0x2B 0x10 d refl in
      let number =
      decision-number p s.block
      ∙ first-right (refusals p) ((12, runs_past (opcode_of p) (reads p) (data_of p) s.block) ∷ []) (first-silent (refusals p) (refusals-numbered p) none)
      ∙ ap (λ (b : Bool). first ((12, b) ∷ [])) (past-none s.block) in
      step-written p s reply runs number (rw m.header) ∙ rw (no-reply p m.header, m.opcode, m.content, q.words-at, q.start-at)

-- The state with gains for a colour.
abbrev coloured : State → ℕ → ℕ → List ℕ → State
coloured s colour start new = state s.block s.staged s.live (colour_into colour start new s.gains)

-- It has the lengths and the settings that it had.
stopped-coloured : (s : State) (reply : List ℕ) (colour start : ℕ) (new : List ℕ) → length (colour_into colour start new s.gains) ≡ length s.gains
    → stopped (coloured s colour start new) reply ≡ stopped s reply
unfolding stopped
stopped-coloured s reply colour start new l = rw l

-- Each packet gets the state that the one before left.
pub cut-sent : {colour start : ℕ} {ws : List ℕ} {ps : List (List ℕ)} → CutUp colour start ws ps → Pairs ws → colour ≤ 3 → start + sum_runs ws ≤ 2016
    → (s : State) (reply : List ℕ) → stopped s reply ≡ false
    → (state_after_all (calls_of reply ps) s ≡ coloured s colour start (expand ws)) × AllStored (calls_of reply ps) s
unfolding state_after_all
cut-sent {colour} (CutUp.last {start} {ws} some few) right c within s reply runs =
    let one = pairs-step colour start ws (record { some = some; few = few; right = right; colour-right = c; within = within }) s reply runs in
    let call : Call = record { packet = pairs_packet colour start ws; reply = reply } in
    (ap (λ (o : Out). o.state) one, AllStored.next {x = call} {xs = []} {s = s} (rw one) AllStored.none)
cut-sent {colour} (CutUp.more {start} ws rest {ps} full some cut) right c within s reply runs =
    let even : length ws % 2 ≡ 0 = omega arith in
    let both = pairs-both ws rest even right in
    let sum = sum-append ws rest even in
    let one = pairs-step colour start ws (record { some = omega arith; few = omega arith; right = both.0; colour-right = c; within = omega arith }) s reply runs in
    let gains : length s.gains ≡ 6048 = (lent s reply runs).tables.gains in
    let first-long = length-expand ws in
    let rest-long = length-expand rest in
    let long = colour-long colour start (expand ws) s.gains c (omega arith) gains ∙ sym gains in
    let behind = cut-sent cut both.1 c (omega arith) (coloured s colour start (expand ws)) reply (stopped-coloured s reply colour start (expand ws) long ∙ runs) in
    let call : Call = record { packet = pairs_packet colour start ws; reply = reply } in
    let joined = rw (first-long, ← expand-append ws rest even) at (colour-behind colour start (expand ws) (expand rest) s.gains gains c (omega arith)) in (
      ap (λ (o : Out). state_after_all (calls_of reply ps) o.state) one ∙ behind.0 ∙ ap (λ (g : List ℕ). state s.block s.staged s.live g) joined,
      AllStored.next {x = call} {xs = calls_of reply ps} {s = s} (rw one) (rw one behind.1),
    )

-- Colour by colour.
blended : (s : State) (colour start : ℕ) (new : List ℕ) {t : State} → colour ≤ 3 → t ≡ coloured s colour start new → Blended s start new colour t
unfolding colour_into
blended s zero start new c e = rw e Blended.all
blended s (suc zero) start new c e = let here : 0 + start ≡ start = omega arith in rw (e, here) Blended.red
blended s (suc (suc zero)) start new c e = rw e Blended.green
blended s (suc (suc (suc zero))) start new c e = rw e Blended.blue
blended s (suc (suc (suc (suc k)))) start new c e = absurd (omega arith)

pub gains-delivered : (colour start : ℕ) (ws : List ℕ) → Splittable colour start ws → (s : State) (reply : List ℕ) → stopped s reply ≡ false
    → GainsDelivered colour start ws s reply
gains-delivered colour start ws f s reply runs =
    let r = f.right in
    let cut = cut_up colour start ws (pairs-even r.pairs) r.some in
    let sent = cut-sent cut r.pairs r.colour-right f.within s reply runs in
    record { set = blended s colour start (expand ws) r.colour-right sent.0; taken = sent.1 }

-- What was compressed can be split.
some_words : (ws : List ℕ) → 1 ≤ sum_runs ws → 1 ≤ length ws
unfolding sum_runs
some_words [] h = absurd (omega arith)
some_words (w ∷ ws) h = omega arith

pub compressed-splittable : (colour start : ℕ) (gains : List ℕ) → Compressible gains → colour ≤ 3 → start + length gains ≤ 2016
    → Splittable colour start (compressed gains)
compressed-splittable colour start gains g c h =
    let sum = sum-compressed gains in
    record {
      right =
          record {
            some = some_words (compressed gains) (omega (arith, g.some));
            pairs = compressed-pairs gains g.few g.small;
            colour-right = c;
          };
      within = omega arith;
    }
