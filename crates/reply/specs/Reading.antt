-- Rule 3.5: reading a reply, told whether a checksum is expected. Data is at 3, behind status and length (rule 3.3).
use Rattle.std.specs.Prelude.{ℕ, ◌+◌, ◌-◌, ◌≡◌, Bool, cond, not, ◌&&◌, List, [], ◌∷◌, length, take, eqb, ltb}
use Rattle.wire.specs.Numbers.{byte_at, word_at}
use Rattle.wire.specs.Checksum.{checksum}
use Rattle.wire.specs.First.{first}
use Rattle.reply.specs.Answer.{ReplyAnswer, reply_refused_by}
use Rattle.reply.specs.Plain.{ReplyPlain}

-- The bytes of a checksum that is expected.
abbrev pub checksum_size : Bool → ℕ
checksum_size sum = cond sum 1 0

-- Rule 3.5, 5: a checksum is expected, and the last byte is not that of the bytes before it.
abbrev pub checksum_wrong : List ℕ → Bool → Bool
checksum_wrong r sum = sum && not (eqb (byte_at r (length r - 1)) (checksum (take (length r - 1) r)))

-- Rule 3.5: the refusals, in order.
abbrev pub reply_refusals : List ℕ → Bool → List (ℕ × Bool)
reply_refusals r sum =
    (2, ltb (length r) (3 + checksum_size sum))
    ∷ (3, ltb 512 (length r))
    ∷ (4, not (eqb (word_at r 1) (length r - 3 - checksum_size sum)))
    ∷ (5, checksum_wrong r sum)
    ∷ (10, ltb 12 (byte_at r 0))
    ∷ []

abbrev pub reply_answered : ℕ → List ℕ → Bool → ReplyAnswer
reply_answered n r sum =
    cond (eqb n 0)
    (record { number = 0; status = byte_at r 0; place = 3; size = length r - 3 - checksum_size sum })
    (reply_refused_by n)

-- Rule 3.5: the first refusal that applies, or what the reply says.
unfoldable pub reply_reading : List ℕ → Bool → ReplyAnswer
reply_reading r sum = reply_answered (first (reply_refusals r sum)) r sum

-- Rule 3.5: what reply reading promises of its answer.
pub record ReplyRead (r : List ℕ) (sum : Bool) (a : ReplyAnswer) : Type 0 where
  pub outcome : a ≡ reply_reading r sum
  pub plain : ReplyPlain r sum a
