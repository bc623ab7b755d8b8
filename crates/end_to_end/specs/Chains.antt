-- Rule 1.3: calls one after another on a state that is lent as bytes, as C makes them, each on the
-- bytes that the last one left.
use Rattle.std.specs.Prelude.{ℕ, ◌≤◌, ◌≡◌, List, [], ◌∷◌, length, take, drop}
use Rattle.wire.specs.Plain.{Bytes}
use Rattle.settings.specs.Allowed.{SettingsAllowed}
use Rattle.front_end.specs.State.{State}
use Rattle.front_end.specs.Step.{step}
use Rattle.front_end.specs.Writes.{Applies}
use Rattle.front_end.specs.Calls.{Call, state_after_all}
use Rattle.front_end_bytes.specs.Bytes.{Lent, state_in, lent_of, lent_out, numbers_out, step_bytes}
use Rattle.front_end_bytes.specs.Plain.{BytesLent, AllBytes}

-- The bytes that calls leave, one after another.
unfoldable pub lent_after_all : List Call → Lent → Lent
lent_after_all [] l = l
lent_after_all (x ∷ xs) l = lent_after_all xs (step_bytes x.packet l x.reply).lent

-- Each packet of the calls is bytes.
pub data PacketBytes : List Call → Type 0 where
  none : PacketBytes []
  next : {x : Call} {xs : List Call} → Bytes x.packet → PacketBytes xs → PacketBytes (x ∷ xs)

-- Each call on bytes has the status, place, size and reply that it has on numbers, and leaves the
-- numbers that it leaves there.
pub data SameAnswers : List Call → Lent → State → Type 0 where
  none : {l : Lent} {s : State} → SameAnswers [] l s
  next : {x : Call} {xs : List Call} {l : Lent} {s : State}
      → numbers_out (step_bytes x.packet l x.reply) ≡ step x.packet s x.reply
      → SameAnswers xs (step_bytes x.packet l x.reply).lent (step x.packet s x.reply).state
      → SameAnswers (x ∷ xs) l s

-- Calls on bytes do what they do on the numbers that the bytes hold.
pub record SameOnBytes (xs : List Call) (l : Lent) : Type 0 where
  pub long : BytesLent (lent_after_all xs l)
  pub answers : SameAnswers xs l (state_in l)
  pub numbers : state_in (lent_after_all xs l) ≡ state_after_all xs (state_in l)
  -- Byte for byte: low byte first, two bytes a number.
  pub bytes_left : lent_after_all xs l ≡ lent_of (state_after_all xs (state_in l))

-- Rule 4.1, 1: what refusal 1 asks for, of lent bytes.
pub record LentRightBytes (l : Lent) (reply : List ℕ) : Type 0 where
  pub long : BytesLent l
  pub bytes : AllBytes l
  pub room : 512 ≤ length reply
  pub settings : SettingsAllowed l.block

-- Each of the calls is accepted and changes the lent state alone: status 0, no reply, and the reply
-- buffer as it was.
pub data AllStoredBytes : List Call → Lent → Type 0 where
  none : {l : Lent} → AllStoredBytes [] l
  next : {x : Call} {xs : List Call} {l : Lent}
      → step_bytes x.packet l x.reply ≡ lent_out 0 0 0 (step_bytes x.packet l x.reply).lent x.reply
      → AllStoredBytes xs (step_bytes x.packet l x.reply).lent → AllStoredBytes (x ∷ xs) l

-- Rule 5.6: no packet of the calls applies, each judged on the bytes that it gets.
pub data NoneAppliesBytes : List Call → Lent → Type 0 where
  none : {l : Lent} → NoneAppliesBytes [] l
  next : {x : Call} {xs : List Call} {l : Lent}
      → (Applies x.packet (numbers_out (step_bytes x.packet l x.reply)) → ⊥)
      → NoneAppliesBytes xs (step_bytes x.packet l x.reply).lent → NoneAppliesBytes (x ∷ xs) l

-- Rule 5.6: the live side, byte for byte: the points, and shape, mode and lists in the block.
pub record LiveBytesKept (l k : Lent) : Type 0 where
  pub points_kept : k.live ≡ l.live
  pub settings-kept : take 193 (drop 202 k.block) ≡ take 193 (drop 202 l.block)
