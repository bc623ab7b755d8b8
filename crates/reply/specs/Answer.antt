-- Rule 3.5: what reading a reply answers, and the code's answer as such a record.
use Rattle.std.specs.Prelude.{ℕ, Result, Ok, Err}
use Rattle.reply.specs.declared.Reply.{Reply}
use Rattle.reply.specs.declared.ReplyRefusal.{ReplyRefusal}
use Rattle.reply.specs.declared.ReplyRefusal.TheVariants.{TooShort, TooLong, LengthDiffers, ChecksumDiffers, StatusWrong}

-- Rule 3.5: the refusal, 0 for none; then the status, the data's place and its size. All 0 but
-- the number if refused.
pub record ReplyAnswer : Type 0 where
  pub number : ℕ
  pub status : ℕ
  pub place : ℕ
  pub size : ℕ

abbrev pub reply_refused_by : ℕ → ReplyAnswer
reply_refused_by n = record { number = n; status = 0; place = 0; size = 0 }

-- The number of each of the code's refusals.
abbrev pub reply_number : ReplyRefusal → ℕ
reply_number TooShort = 2
reply_number TooLong = 3
reply_number LengthDiffers = 4
reply_number ChecksumDiffers = 5
reply_number StatusWrong = 10

-- Number and values of each case of the code's answer.
abbrev pub reply_answer : Result Reply ReplyRefusal → ReplyAnswer
reply_answer (Ok r) = record { number = 0; status = r.status; place = r.at; size = r.size }
reply_answer (Err why) = reply_refused_by (reply_number why)
