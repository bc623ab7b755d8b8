-- What one packet on a state promises, of whatever an entry answers and leaves (`Out`), and what
-- reset does; with every place as a number and apart from the tests. The promise holds of one
-- outcome at most (proofs/Determined).
use Rattle.std.specs.Prelude.{ℕ, ◌+◌, ◌-◌, ◌*◌, ◌/◌, ◌%◌, ◌≤◌, ◌<◌, ◌≡◌, ◌⊎◌, List, [], ◌∷◌, ◌++◌, length, take, drop, get_or, eqb}
use Rattle.wire.specs.Numbers.{byte_at, word_at}
use Rattle.wire.specs.Tables.{words}
use Rattle.wire.specs.Plain.{Least, Bytes}
use Rattle.gain_words.specs.Pairs.{expand}
use Rattle.opcode.specs.Options.{has_checksum, asks_reply, is_read}
use Rattle.opcode.specs.Faults.{FirstFault}
use Rattle.packet.specs.Frame.{header_of, opcode_of, options_of, data_of}
use Rattle.packet.specs.Plain.{Refuses}
use Rattle.reply.specs.Reply.{reply_bytes}
use Rattle.settings.specs.Allowed.{SettingsAllowed}
use Rattle.settings.specs.AfterReset.{byte_after_reset}
use Rattle.front_end.specs.State.{State, state, reset_state, ResetOut, reset_out}
use Rattle.front_end.specs.Step.{Out, out, step}
use Rattle.front_end.specs.Effects.{block_with, Leaves, Returns}
use Rattle.front_end.specs.Rows.{MarkBytes, columns_of, rows_of, RowsMarked}

-- ---- What is lent.

-- Rule 1.3: the lengths of block and tables: 1,024 bytes, two maps of 1,984 points, and three times
-- 2,016 gains.
pub record StateLent (s : State) : Type 0 where
  pub block : length s.block ≡ 1024
  pub staged : length s.staged ≡ 3968
  pub live : length s.live ≡ 3968
  pub gains : length s.gains ≡ 6048

-- Rule 4.1, 1: what refusal 1 asks for: these lengths, room for any reply, and every setting in its
-- range.
pub record LentRight (s : State) (reply : List ℕ) : Type 0 where
  pub tables : StateLent s
  pub room : 512 ≤ length reply
  pub settings : SettingsAllowed s.block

-- ---- Start and count.

-- Rule 5.4: the staged shape's points: columns × rows, as they stand in the block.
abbrev pub staged_points : List ℕ → ℕ
staged_points block = columns_of block * rows_of block

-- Rule 5.4: the start is a packet's first number; its points are what stands behind it, four bytes
-- each.
abbrev pub points_end : List ℕ → ℕ
points_end p = word_at (data_of p) 0 + (length (data_of p) - 2) / 4

-- Rules 5.4, 5.8 and 5.11: start and count lie within their table: 34h within the staged shape's
-- points, 2Bh within a colour's gains, where pairs (compression 1) count as many as the gains that
-- they stand for.
pub record WithinTable (p : List ℕ) (block : List ℕ) : Type 0 where
  pub points-written : opcode_of p ≡ 0x34 → is_read (header_of p) ≡ 0 → points_end p ≤ staged_points block
  pub points-read : opcode_of p ≡ 0x34 → is_read (header_of p) ≡ 1 → word_at (data_of p) 0 + word_at (data_of p) 2 ≤ staged_points block
  pub gains-written : opcode_of p ≡ 0x2B → is_read (header_of p) ≡ 0 → (byte_at (data_of p) 0 ≡ 1 → ⊥)
      → word_at (data_of p) 4 + word_at (data_of p) 2 ≤ 2016
  pub runs-written : opcode_of p ≡ 0x2B → is_read (header_of p) ≡ 0 → byte_at (data_of p) 0 ≡ 1
      → word_at (data_of p) 4 + length (expand (words (drop 6 (data_of p)))) ≤ 2016
  pub gains-read : opcode_of p ≡ 0x2B → is_read (header_of p) ≡ 1 → word_at (data_of p) 1 + word_at (data_of p) 3 ≤ 2016

-- ---- Which number is given, rule 4.1.

-- When each of the refusals 1 to 12 applies, whatever the others do.
pub data StepRefuses (p : List ℕ) (s : State) (reply : List ℕ) : ℕ → Type 0 where
  lent-wrong : (LentRight s reply → ⊥) → StepRefuses p s reply 1
  packet : {n : ℕ} → Refuses p n → StepRefuses p s reply n
  past-table : (WithinTable p s.block → ⊥) → StepRefuses p s reply 12

-- ---- The reply, rules 3.1 to 3.3.

-- Rule 3.2: a packet asks for a reply by its first byte: a read, or bit 6.
pub record Asks (p : List ℕ) : Type 0 where
  pub some : 1 ≤ length p
  pub bit : (is_read (header_of p) ≡ 1) ⊎ (asks_reply (header_of p) ≡ 1)

-- Rules 3.3 and 4.6: the data of the reply: what an accepted read returns, the place of a fault in
-- two bytes, or none.
pub data ReplyData (p : List ℕ) (s : State) (status fault : ℕ) : List ℕ → Type 0 where
  returned : {back : List ℕ} → status ≡ 0 → is_read (header_of p) ≡ 1 → Returns s (opcode_of p) (data_of p) back → ReplyData p s status fault back
  place : status ≡ 10 → ReplyData p s status fault (fault % 256 ∷ fault / 256 ∷ [])
  none : (status ≡ 0 → is_read (header_of p) ≡ 0) → (status ≡ 10 → ⊥) → ReplyData p s status fault []

-- Rule 3.1: status, length, data and, if the packet has one, a checksum, over the start of the
-- reply buffer; what lies behind them stays.
pub record ReplyWritten (p : List ℕ) (s : State) (reply : List ℕ) (o : Out) : Type 0 where
  pub content : List ℕ
  pub by : ReplyData p s o.status o.fault-place content
  pub size : o.size ≡ length (reply_bytes (eqb (has_checksum (header_of p)) 1) o.status content)
  pub bytes : o.reply ≡ reply_bytes (eqb (has_checksum (header_of p)) 1) o.status content ++ drop o.size reply

-- ---- What an accepted write leaves, rules 5.1 to 5.9 and 5.11.

-- Command by command, with every place as a number; but for the row mark, of which `rows` below
-- speaks.
pub record LeftBy (p : List ℕ) (s : State) (o : Out) : Type 0 where
  pub after : State
  pub by : Leaves s (opcode_of p) (data_of p) after
  pub all-but-mark : o.state ≡ block_with after 865 (take 4 (drop 865 o.state.block))

-- ---- One packet.

pub record StepPlain (p : List ℕ) (s : State) (reply : List ℕ) (o : Out) : Type 0 where
  -- Rule 4.1: the first refusal that applies; 0 where none does, so that a packet is accepted
  -- exactly then.
  pub number : Least (StepRefuses p s reply) o.status
  -- Rule 4.6: 10 has the place of the first fault, nothing else has one.
  pub fault-place : o.status ≡ 10 → FirstFault (opcode_of p) (options_of p) (data_of p) o.fault-place
  pub no-fault : (o.status ≡ 10 → ⊥) → o.fault-place ≡ 0
  -- Rule 4.2: a refused packet changes no setting and no table point, and neither does a read.
  pub unchanged : (o.status ≡ 0 → is_read (header_of p) ≡ 1) → o.state ≡ s
  pub written : o.status ≡ 0 → is_read (header_of p) ≡ 0 → LeftBy p s o
  -- Section 11: what becomes of the row mark.
  pub rows : RowsMarked p s o
  -- Rule 3.2: a reply is written exactly if the packet asks for one and the number is not 1.
  pub replied : Asks p → (o.status ≡ 1 → ⊥) → ReplyWritten p s reply o
  pub silent : (Asks p → o.status ≡ 1) → (o.size ≡ 0) × (o.reply ≡ reply)

-- ---- Reset, rule 5.10.

pub record ResetPlain (s : State) (o : ResetOut) : Type 0 where
  -- A wrong length is 1, and nothing changes.
  pub wrong-length : (StateLent s → ⊥) → (o.status ≡ 1) × (o.state ≡ s)
  -- Else what stands in each byte and each number.
  pub accepted : StateLent s → o.status ≡ 0
  pub long : StateLent s → StateLent o.state
  pub block-after : StateLent s → (k : ℕ) → k < 1024 → get_or o.state.block k 0 ≡ byte_after_reset k
  pub staged-after : StateLent s → (k : ℕ) → k < 3968 → get_or o.state.staged k 0 ≡ 0
  pub live-after : StateLent s → (k : ℕ) → k < 3968 → get_or o.state.live k 0 ≡ 0
  pub gains-after : StateLent s → (k : ℕ) → k < 6048 → get_or o.state.gains k 0 ≡ 4096

-- ---- What the names mean that are cited here and above.

pub record Pinned : Type 0 where
  -- Which lent list is which, and what an answer holds.
  pub lists : (b t l g : List ℕ) → state b t l g ≡ record { block = b; staged = t; live = l; gains = g }
  pub answer : (status fault size : ℕ) (s : State) (reply : List ℕ)
      → out status fault size s reply ≡ record { status = status; fault-place = fault; size = size; state = s; reply = reply }
  pub reset-answer : (status : ℕ) (s : State) → reset_out status s ≡ record { status = status; state = s }
  -- One packet, and the state that reset leaves, of which session files speak.
  pub one-packet : (p : List ℕ) → Bytes p → (s : State) (reply : List ℕ) → StepPlain p s reply (step p s reply)
  -- Where the row mark is bytes it stays bytes, so that its bits determine it.
  pub mark-stays-bytes : (p : List ℕ) (s : State) (reply : List ℕ) → MarkBytes s.block → MarkBytes (step p s reply).state.block
  pub at-reset : (s : State) → StateLent s → ResetPlain s (record { status = 0; state = reset_state })
