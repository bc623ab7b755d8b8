-- Rule 1.3: one packet on a state that is lent as bytes, and reset of it: lengths are judged in
-- bytes, exactly, and all else is of the numbers that the bytes hold. The promises hold of one
-- outcome at most (proofs/Determined).
use Rattle.std.specs.Prelude.{ℕ, ◌≡◌, List, length}
use Rattle.wire.specs.Tables.{words}
use Rattle.wire.specs.Plain.{Bytes}
use Rattle.front_end.specs.Plain.{StepPlain, ResetPlain}
use Rattle.front_end_bytes.specs.Bytes.{Lent, lent, state_in, LentOut, lent_out, numbers_out, LentReset, lent_reset}

-- Rule 1.3: the lengths of block and tables in bytes.
pub record BytesLent (l : Lent) : Type 0 where
  pub block : length l.block ≡ 1024
  pub staged : length l.staged ≡ 7936
  pub live : length l.live ≡ 7936
  pub gains : length l.gains ≡ 12096

-- Every element of a lent list is a byte.
pub record AllBytes (l : Lent) : Type 0 where
  pub block : Bytes l.block
  pub staged : Bytes l.staged
  pub live : Bytes l.live
  pub gains : Bytes l.gains

-- A wrong length is refusal 1, without a reply, and all is as it was. Else the lengths stay, and
-- all that is promised on numbers holds.
pub record StepBytesPlain (p : List ℕ) (l : Lent) (reply : List ℕ) (o : LentOut) : Type 0 where
  pub wrong-length : (BytesLent l → ⊥) → (o.status ≡ 1) × (o.fault-place ≡ 0) × (o.size ≡ 0) × (o.lent ≡ l) × (o.reply ≡ reply)
  pub long : BytesLent l → BytesLent o.lent
  pub numbers : BytesLent l → StepPlain p (state_in l) reply (numbers_out o)

-- Rule 5.10: reset, likewise.
pub record ResetBytesPlain (l : Lent) (o : LentReset) : Type 0 where
  pub wrong-length : (BytesLent l → ⊥) → (o.status ≡ 1) × (o.lent ≡ l)
  pub long : BytesLent l → BytesLent o.lent
  pub numbers : BytesLent l → ResetPlain (state_in l) (record { status = o.status; state = state_in o.lent })

-- Which lent list is which, and the numbers that bytes hold.
pub record Pinned : Type 0 where
  pub lists : (b t l g : List ℕ) → lent b t l g ≡ record { block = b; staged = t; live = l; gains = g }
  pub held : (l : Lent) → state_in l ≡ record { block = l.block; staged = words l.staged; live = words l.live; gains = words l.gains }
  pub answer : (status fault size : ℕ) (l : Lent) (reply : List ℕ)
      → lent_out status fault size l reply ≡ record { status = status; fault-place = fault; size = size; lent = l; reply = reply }
  pub numbers-left : (o : LentOut)
      → numbers_out o ≡ record { status = o.status; fault-place = o.fault-place; size = o.size; state = state_in o.lent; reply = o.reply }
  pub reset-answer : (status : ℕ) (l : Lent) → lent_reset status l ≡ record { status = status; lent = l }
