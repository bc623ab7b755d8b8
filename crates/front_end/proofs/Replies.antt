-- When a packet is answered, and with what: an accepted read with its data, refusal 10 with its place, whatever else with none. Each law turns one of the tests on
-- length, header bits and number into its value.
use Prim.Native.Nat.{ℕ, ◌≤◌, ◌<◌}
use mathlib.Core.Path.{◌≡◌, refl}
use mathlib.Core.Bool.{Bool, true, false, cond}
use mathlib.Core.List.{List, []}
use native.Mathlib.Omega.{arith}
use borrow.Author.Tests.{lt-ltb}
use lib.ListN.{length}
use lib.Dec.{eqb}
use Rattle.wire.specs.declared.refusal.Refusal.{Refusal}
use Rattle.wire.specs.declared.refusal.Refusal.TheVariants.{LentWrong, TooShort, TooLong, LengthDiffers, ChecksumDiffers, NotForUs, Unknown, LacksLength, SizeWrong, ValueWrong, NamedOnly, RunsPast}
use Rattle.wire.specs.Refusals.{number_of, place_of}
use Rattle.wire.specs.Buffers.{over}
use Rattle.wire.specs.Numbers.{word_bytes}
use Rattle.opcode.specs.Options.{has_checksum}
use Rattle.packet.specs.Frame.{header_of, opcode_of, data_of}
use Rattle.reply.specs.Reply.{reply_bytes}
use Rattle.front_end.specs.State.{State}
use Rattle.front_end.specs.Commands.{data_back}
use Rattle.front_end.specs.Step.{reads, answers, place_data, status_reply, reply_to}

pub unanswered : (n f : ℕ) (p reply : List ℕ) → answers n p ≡ false → (0 ≡ length (status_reply n f p)) × (reply ≡ over (status_reply n f p) reply)
unfolding status_reply over
unanswered n f p reply e = rw e (refl, refl)

pub answered-status : (n f : ℕ) (p : List ℕ) → answers n p ≡ true → status_reply n f p ≡ reply_bytes (eqb (has_checksum (header_of p)) 1) n (place_data n f)
unfolding status_reply
answered-status n f p e = rw e

-- A place has two bytes.
pub place-few : (n f : ℕ) → length (place_data n f) ≤ 2
place-few n f = go (eqb n 10)
  where
    go : (b : Bool) → length (cond b (word_bytes f) []) ≤ 2
    go true = omega arith
    go false = omega arith

-- No refusal but 10 has one.
pub placeless : (why : Refusal) → ((place : ℕ) → why ≡ ValueWrong place → ⊥) → place_data (number_of why) (place_of why) ≡ []
placeless LentWrong h = refl
placeless TooShort h = refl
placeless TooLong h = refl
placeless LengthDiffers h = refl
placeless ChecksumDiffers h = refl
placeless NotForUs h = refl
placeless Unknown h = refl
placeless LacksLength h = refl
placeless SizeWrong h = refl
placeless (ValueWrong place) h = absurd (h place refl)
placeless NamedOnly h = refl
placeless RunsPast h = refl

-- The reply of an accepted read.
pub read-reply : (p : List ℕ) (s : State) → 0 < length p → reads p ≡ true
    → reply_to 0 p s ≡ reply_bytes (eqb (has_checksum (header_of p)) 1) 0 (data_back (opcode_of p) (data_of p) s)
unfolding reply_to
read-reply p s some r = rw (r, lt-ltb 0 (length p) some)
