-- Every row of the table holds: one test, computed along the whole table from the definitions, and carried to each row and to both families.
use Prim.Native.Nat.{ℕ}
use mathlib.Core.Path.{◌≡◌, refl, ap, ◌∙◌}
use mathlib.Core.Bool.{Bool, true, false, ◌&&◌}
use mathlib.Core.List.{List, [], ◌∷◌}
use lib.Dec.{T, eqb, eqb→eq}
use Rattle.wire.specs.Checksum.{checksum}
use Rattle.wire.specs.Buffers.{over}
use Rattle.opcode.proofs.Table.{and_left, and_right}
use Rattle.gain_words.specs.Gains.{first_large}
use Rattle.gain_words.specs.Pairs.{expand, sum_runs, pair_fault}
use Rattle.opcode.specs.Fields.{fault, words_at, rise_from, rise}
use Rattle.opcode.specs.Commands.{command_of}
use Rattle.opcode.specs.Judgement.{judgement, points_size_wrong, gains_size_wrong, control_size_wrong, smooth_size_wrong, size_wrong}
use Rattle.opcode.specs.Judgement.{words_fault, gains_fault, lists_fault, control_fault, smooth_fault, value_fault}
use Rattle.reply.specs.Reply.{reply_bytes}
use Rattle.settings.specs.Layout.{place_of}
use Rattle.settings.specs.Ranges.{picture_fields, device_fields, right, shape_right, settings_right}
use Rattle.settings.specs.Reset.{reset_shape, reset_block, reset_map, reset_gains}
use Rattle.front_end.specs.State.{State, state, lengths_right, stopped}
use Rattle.front_end.specs.Commands.{colour_into, read_gains, read_points, shape_bytes, write_shape, read_shape, apply_block, apply_live}
use Rattle.front_end.specs.Commands.{write_smooth, read_smooth, block_after, written, block_back, data_back, runs_past}
use Rattle.row_mark.specs.Bits.{bits_of, of_bits}
use Rattle.row_mark.specs.Rows.{differ, each_from, refreshed}
use Rattle.front_end.specs.Mark.{mark_after, marked_block}
use Rattle.front_end.specs.Step.{Out, out, number_of, reply_to, step}
use Rattle.front_end.specs.Calls.{state_after_all}
use Rattle.front_end.proofs.Demands.{state-lent}
use Rattle.front_end_bytes.specs.Bytes.{out_bytes}
use Rattle.front_end_bytes.proofs.Promises.{step-bytes}
use Rattle.packet.specs.Making.{packet_of}
use Rattle.upload.specs.Cost.{differs, best, rooms, more, choices}
use Rattle.upload.specs.Plan.{plan_from, plan_of, packet_for, packets_of, joined, batch_of, plan_numbers}
use Rattle.upload.specs.Plain.{PlanOut}
use Rattle.upload.specs.Planning.{plan_lists, plan_out, firsts, byte_plan_out, planned}
use Rattle.upload.proofs.Outcome.{plan-bytes}
use Rattle.bench_table.specs.Table.{PacketRow, PlanRow, BenchRow, packets, plans, rows, buffer, blank, state_after}
use Rattle.bench_table.specs.Holds.{packet_out, plan_row_out, PacketHolds, PlanHolds, EachHolds}

-- ---- The test.

abbrev same_list : List ℕ → List ℕ → Bool
same_list [] [] = true
same_list [] (y ∷ ys) = false
same_list (x ∷ xs) [] = false
same_list (x ∷ xs) (y ∷ ys) = eqb x y && same_list xs ys

abbrev same_state : State → State → Bool
same_state s t =
    same_list s.block t.block
    && same_list s.staged t.staged
    && same_list s.live t.live
    && same_list s.gains t.gains

abbrev same_out : Out → Out → Bool
same_out o q =
    eqb o.status q.status
    && eqb o.fault-place q.fault-place
    && eqb o.size q.size
    && same_state o.state q.state
    && same_list o.reply q.reply

abbrev same_plan : PlanOut → PlanOut → Bool
same_plan o q =
    eqb o.status q.status
    && eqb o.packets q.packets
    && eqb o.bytes q.bytes
    && same_list o.left.plan q.left.plan
    && same_list o.left.room q.left.room
    && same_list o.left.choices q.left.choices
    && same_list o.left.batch q.left.batch

abbrev holds : BenchRow → Bool
holds (packets r) =
    lengths_right (state_after r.before) && same_out (step r.packet (state_after r.before) buffer) (packet_out r)
holds (plans r) = eqb (planned r.n r.held r.wanted blank).status 0 && same_plan (planned r.n r.held r.wanted blank) (plan_row_out r)

abbrev all_hold : List BenchRow → Bool
all_hold [] = true
all_hold (r ∷ rs) = holds r && all_hold rs

all_hold-true : T (all_hold rows)
unfolding checksum over fault words_at rise_from rise first_large expand sum_runs pair_fault command_of judgement points_size_wrong gains_size_wrong control_size_wrong smooth_size_wrong size_wrong words_fault gains_fault lists_fault control_fault smooth_fault value_fault reply_bytes place_of picture_fields device_fields right shape_right settings_right reset_shape reset_block reset_map reset_gains stopped colour_into read_gains read_points shape_bytes write_shape read_shape apply_block apply_live write_smooth read_smooth block_after written bits_of of_bits differ each_from refreshed mark_after marked_block block_back data_back runs_past number_of reply_to step state_after_all packet_of differs best rooms more choices firsts plan_from plan_of packet_for packets_of joined batch_of plan_numbers planned
all_hold-true = tt

-- ---- What it tells.

same-list : (a b : List ℕ) → T (same_list a b) → a ≡ b
same-list [] [] t = refl
same-list [] (y ∷ ys) t = absurd t
same-list (x ∷ xs) [] t = absurd t
same-list (x ∷ xs) (y ∷ ys) t =
    cc (eqb→eq x y (and_left (eqb x y) (same_list xs ys) t), same-list xs ys (and_right (eqb x y) (same_list xs ys) t))

T_true : (b : Bool) → T b → b ≡ true
T_true true t = refl
T_true false t = absurd t

ruleset parts = (and_left, and_right, eqb→eq, same-list)

same_out-sound : (o q : Out) → T (same_out o q) → o ≡ q
same_out-sound o q t =
    let status : o.status ≡ q.status = search parts depth 12 in
    let fault-place : o.fault-place ≡ q.fault-place = search parts depth 12 in
    let size : o.size ≡ q.size = search parts depth 12 in
    let block : o.state.block ≡ q.state.block = search parts depth 12 in
    let staged : o.state.staged ≡ q.state.staged = search parts depth 12 in
    let live : o.state.live ≡ q.state.live = search parts depth 12 in
    let gains : o.state.gains ≡ q.state.gains = search parts depth 12 in
    let reply : o.reply ≡ q.reply = search parts depth 12 in
    let whole : out o.status o.fault-place o.size (state o.state.block o.state.staged o.state.live o.state.gains) o.reply
    ≡ out q.status q.fault-place q.size (state q.state.block q.state.staged q.state.live q.state.gains) q.reply = cc in
    whole

same-plan : (o q : PlanOut) → T (same_plan o q) → o ≡ q
same-plan o q t =
    let status : o.status ≡ q.status = search parts depth 12 in
    let packets : o.packets ≡ q.packets = search parts depth 12 in
    let size : o.bytes ≡ q.bytes = search parts depth 12 in
    let plan : o.left.plan ≡ q.left.plan = search parts depth 12 in
    let room : o.left.room ≡ q.left.room = search parts depth 12 in
    let choices : o.left.choices ≡ q.left.choices = search parts depth 12 in
    let batch : o.left.batch ≡ q.left.batch = search parts depth 12 in
    let whole : plan_out o.status o.packets o.bytes (plan_lists o.left.plan o.left.room o.left.choices o.left.batch)
    ≡ plan_out q.status q.packets q.bytes (plan_lists q.left.plan q.left.room q.left.choices q.left.batch) = cc in
    whole

-- ---- A row.

packet-holds : (r : PacketRow) → T (holds (packets r)) → PacketHolds r
packet-holds r t =
    let s : State = state_after r.before in
    let right = and_left (lengths_right s) (same_out (step r.packet s buffer) (packet_out r)) t in
    let same : step r.packet s buffer ≡ packet_out r = same_out-sound _ _ (and_right (lengths_right s) (same_out (step r.packet s buffer) (packet_out r)) t) in
    record {
      on-numbers = λ o h. h.outcome ∙ same;
      on-bytes = λ o h. h.outcome ∙ step-bytes r.packet s buffer ((state-lent s).0 (T_true _ right)) ∙ ap out_bytes same;
    }

plan-holds : (r : PlanRow) → T (holds (plans r)) → PlanHolds r
plan-holds r t =
    let o : PlanOut = planned r.n r.held r.wanted blank in
    let done : o.status ≡ 0 = eqb→eq o.status 0 (and_left (eqb o.status 0) (same_plan o (plan_row_out r)) t) in
    let same : o ≡ plan_row_out r = same-plan o (plan_row_out r) (and_right (eqb o.status 0) (same_plan o (plan_row_out r)) t) in
    record {
      on-numbers = λ o h. h.outcome ∙ same;
      on-bytes = λ o h. h.outcome ∙ plan-bytes r.n r.held r.wanted blank done ∙ ap byte_plan_out same;
    }

each_holds : (rs : List BenchRow) → T (all_hold rs) → EachHolds rs
each_holds [] t = EachHolds.none
each_holds (packets r ∷ rs) t =
    EachHolds.packet (packet-holds r (and_left (holds (packets r)) (all_hold rs) t)) (each_holds rs (and_right (holds (packets r)) (all_hold rs) t))
each_holds (plans r ∷ rs) t =
    EachHolds.plan (plan-holds r (and_left (holds (plans r)) (all_hold rs) t)) (each_holds rs (and_right (holds (plans r)) (all_hold rs) t))

pub rows-hold : EachHolds rows
rows-hold = each_holds rows all_hold-true
