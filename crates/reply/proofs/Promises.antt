-- What reply reading promises, from the equation that its code meets.
use Prim.Native.Nat.{ℕ}
use mathlib.Core.Path.{◌≡◌, refl}
use mathlib.Core.Bool.{Bool}
use mathlib.Core.List.{List}
use Rattle.reply.specs.Answer.{ReplyAnswer}
use Rattle.reply.specs.Reading.{reply_reading, ReplyRead}
use Rattle.reply.proofs.Plain.{reply-plain}

pub reply_promised : (r : List ℕ) (sum : Bool) {a : ReplyAnswer} → a ≡ reply_reading r sum → ReplyRead r sum a
reply_promised r sum e = rw e (record { outcome = refl; plain = reply-plain r sum })
