-- Rule 6.4: what the names mean that the planners' contracts cite, case by case and with the
-- numbers themselves; what is planned is said in upload/specs/Plain.
use Rattle.std.specs.Prelude.{◌≡◌, Ok, Err}
use Rattle.batch.specs.declared.Sent.{Sent}
use Rattle.batch.specs.Sending.{packets_of, bytes_of}
use Rattle.planning.specs.declared.refusal.Refusal.{Refusal}
use Rattle.planning.specs.declared.refusal.Refusal.TheVariants.{PointsWrong, LentWrong}
use Rattle.planning.specs.Refusals.{number_of, status_of}

-- Rule 6.4: the code's answer: 10 for a number of points that no map has, 1 for a list of a wrong
-- length; a refusal has its number alone, else there are 0, the packets and the bytes.
pub record Pinned : Type 0 where
  pub numbers : (number_of PointsWrong ≡ 10) × (number_of LentWrong ≡ 1)
  pub taken : (sent : Sent)
      → (status_of (Ok sent) ≡ 0) × (packets_of {E = Refusal} (Ok sent) ≡ sent.packets) × (bytes_of {E = Refusal} (Ok sent) ≡ sent.bytes)
  pub refused : (why : Refusal)
      → (status_of {A = Sent} (Err why) ≡ number_of why) × (packets_of (Err why) ≡ 0) × (bytes_of (Err why) ≡ 0)
