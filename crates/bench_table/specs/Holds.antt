-- Rule 8.1: what it means that the bench rows hold: whatever meets the contract of an entry, on tables of numbers or on their
-- bytes, is what the row says, answer and every lent list.
use Rattle.std.specs.Prelude.{◌≡◌, List, [], ◌∷◌, length}
use Rattle.wire.specs.Buffers.{over}
use Rattle.wire.specs.Tables.{bytes}
use Rattle.front_end.specs.Step.{Out, out}
use Rattle.front_end.specs.Demands.{Handled}
use Rattle.front_end_bytes.specs.Bytes.{LentOut, lent_of, out_bytes}
use Rattle.front_end_bytes.specs.Promises.{HandledBytes}
use Rattle.upload.specs.Plain.{PlanOut}
use Rattle.upload.specs.Planning.{plan_lists, plan_out, list_bytes, byte_plan_out, Planned, PlannedBytes}
use Rattle.bench_table.specs.Table.{PacketRow, PlanRow, BenchRow, packets, plans, buffer, blank, state_after}

-- The answer and all that was lent, as the row says.
abbrev pub packet_out : PacketRow → Out
packet_out r = out r.status r.fault-place (length r.reply) r.after (over r.reply buffer)

abbrev pub plan_row_out : PlanRow → PlanOut
plan_row_out r = plan_out r.status r.packets r.bytes (plan_lists r.plan r.room r.choices r.batch)

-- A packet's row, of the entries on numbers and on bytes.
pub record PacketHolds (r : PacketRow) : Type 0 where
  pub on-numbers : (o : Out) → Handled r.packet (state_after r.before) buffer o → o ≡ packet_out r
  pub on-bytes : (o : LentOut) → HandledBytes r.packet (lent_of (state_after r.before)) buffer o
      → o ≡ out_bytes (packet_out r)

-- A plan's row, likewise.
pub record PlanHolds (r : PlanRow) : Type 0 where
  pub on-numbers : (o : PlanOut) → Planned r.n r.held r.wanted blank o → o ≡ plan_row_out r
  pub on-bytes : (o : PlanOut) → PlannedBytes r.n (bytes r.held) (bytes r.wanted) (list_bytes blank) o
      → o ≡ byte_plan_out (plan_row_out r)

-- Every row of a list holds.
pub data EachHolds : List BenchRow → Type 0 where
  none : EachHolds []
  packet : {r : PacketRow} {rs : List BenchRow} → PacketHolds r → EachHolds rs → EachHolds (packets r ∷ rs)
  plan : {r : PlanRow} {rs : List BenchRow} → PlanHolds r → EachHolds rs → EachHolds (plans r ∷ rs)
