-- Rule 3.5 with the numbers themselves: when each refusal of reading a reply applies, whatever
-- the others do, and what is answered. No other answer meets this (proofs/Determined). And what
-- the names of this crate mean that plain promises cite.
use Rattle.std.specs.Prelude.{ℕ, ◌+◌, ◌-◌, ◌/◌, ◌%◌, ◌<◌, ◌≡◌, Bool, true, false, List, [], ◌∷◌, ◌++◌, length, take, Ok, Err}
use Rattle.wire.specs.Numbers.{byte_at, word_at}
use Rattle.wire.specs.Checksum.{weighted, checksum}
use Rattle.wire.specs.Plain.{Least}
use Rattle.reply.specs.declared.ReplyRefusal.{ReplyRefusal}
use Rattle.reply.specs.declared.ReplyRefusal.TheVariants.{TooShort, TooLong, LengthDiffers, ChecksumDiffers, StatusWrong}
use Rattle.reply.specs.Answer.{ReplyAnswer, reply_number, reply_answer}
use Rattle.reply.specs.Reply.{reply_bytes}

pub record Pinned : Type 0 where
  -- Rule 3.1: status, data length in two bytes, data; and, if there is to be one, a checksum over
  -- all these.
  pub without-sum : (status : ℕ) (d : List ℕ) → reply_bytes false status d ≡ status ∷ length d % 256 ∷ length d / 256 ∷ d
  pub with-sum : (status : ℕ) (d : List ℕ)
      → reply_bytes true status d
      ≡ (status ∷ length d % 256 ∷ length d / 256 ∷ d) ++ (weighted (status ∷ length d % 256 ∷ length d / 256 ∷ d) % 256 ∷ [])
  -- The code's answer: a reply has the number 0; of a refusal all but the number is 0.
  pub answer-reply : (status at size : ℕ)
      → reply_answer (Ok (record { status = status; at = at; size = size })) ≡ record { number = 0; status = status; place = at; size = size }
  pub answer-refused : (why : ReplyRefusal)
      → reply_answer (Err why) ≡ record { number = reply_number why; status = 0; place = 0; size = 0 }
  pub number-2 : reply_number TooShort ≡ 2
  pub number-3 : reply_number TooLong ≡ 3
  pub number-4 : reply_number LengthDiffers ≡ 4
  pub number-5 : reply_number ChecksumDiffers ≡ 5
  pub number-10 : reply_number StatusWrong ≡ 10

-- Rule 3.5: 2 below three bytes, or four where a checksum is expected; 3 over 512 bytes; 4 where
-- the length does not count the data there; 5 where the last byte is not the checksum of those
-- before it; 10 for a status over 12.
pub data ReplyRefuses (r : List ℕ) (sum : Bool) : ℕ → Type 0 where
  short : length r < 3 → ReplyRefuses r sum 2
  short-summed : sum ≡ true → length r < 4 → ReplyRefuses r sum 2
  long : 512 < length r → ReplyRefuses r sum 3
  miscounted : sum ≡ false → (3 + word_at r 1 ≡ length r → ⊥) → ReplyRefuses r sum 4
  miscounted-summed : sum ≡ true → (4 + word_at r 1 ≡ length r → ⊥) → ReplyRefuses r sum 4
  wrong-sum : sum ≡ true → (byte_at r (length r - 1) ≡ checksum (take (length r - 1) r) → ⊥) → ReplyRefuses r sum 5
  unknown-status : 12 < byte_at r 0 → ReplyRefuses r sum 10

pub record ReplyPlain (r : List ℕ) (sum : Bool) (a : ReplyAnswer) : Type 0 where
  pub number : Least (ReplyRefuses r sum) a.number
  -- The status, and the data, which stand behind three bytes and in front of the checksum.
  pub status : a.number ≡ 0 → a.status ≡ byte_at r 0
  pub place : a.number ≡ 0 → a.place ≡ 3
  pub size : a.number ≡ 0 → sum ≡ false → 3 + a.size ≡ length r
  pub size-summed : a.number ≡ 0 → sum ≡ true → 4 + a.size ≡ length r
  -- What is no reply has nothing but the number of why.
  pub nothing-else : (a.number ≡ 0 → ⊥) → (a.status ≡ 0) × (a.place ≡ 0) × (a.size ≡ 0)
