-- What planning leaves is what is promised of it, on numbers and on their bytes.
use Rattle.std.proofs.Common.{ℕ, ◌≡◌, sym, ap, ◌∙◌, arith, List, ◌++◌, length, take, drop, Result, Ok, Err, IfOk, IfErr}
use lib.ListN.{take-append-drop, length-take}
use Rattle.wire.specs.First.{first}
use Rattle.wire.specs.Tables.{words, longs}
use Rattle.wire.proofs.Tables.{length_pairs}
use Rattle.tables.proofs.Bytes.{Below, words-below, bytes-words}
use Rattle.upload.specs.Cost.{differs, rooms}
use Rattle.upload.specs.Plain.{PlanLists, MapsLent}
use Rattle.upload.specs.Planning.{plan_lists, plan_out, plan_refusals, byte_plan_refusals, room_of, Planned, PlannedBytes}
use Rattle.upload.proofs.Rooms.{length-firsts}
use Rattle.upload.proofs.Outcome.{fit, over-part, room-over, refused, refused-bytes, done, done-bytes}
use Rattle.batch.specs.Sending.{packets_of, bytes_of}
use Rattle.batch.specs.declared.Sent.{Sent}
use Rattle.planning.specs.declared.refusal.Refusal.{Refusal}
use Rattle.planning.specs.declared.refusal.Refusal.TheVariants.{PointsWrong, LentWrong}
use Rattle.planning.specs.Refusals.{number_of, status_of}
use Rattle.planning.specs.Rooms.{length-longs}
use Rattle.planning.specs.Made.{Small, Made}
use Rattle.planning.proofs.Fit.{map-of}

-- A refusal's number is none of what is taken.
numbered : (why : Refusal) → number_of why ≡ 0 → ⊥
numbered PointsWrong e = omega (arith, e)
numbered LentWrong e = omega (arith, e)

pub map-err : {A E : Type 0} {P Q : E → Type 0} (r : Result A E) → ((why : E) → P why → Q why) → IfErr r P → IfErr r Q
map-err (Ok a) f p = p
map-err (Err why) f p = f why p

-- Lists that are left, by other names.
pub named : {n : ℕ} {held wanted : List ℕ} {s left : PlanLists} {status packets size : ℕ} {plan room choices batch : List ℕ}
    → plan ≡ left.plan → room ≡ left.room → choices ≡ left.choices → batch ≡ left.batch
    → Planned n held wanted s (plan_out status packets size left)
    → Planned n held wanted s (plan_out status packets size (plan_lists plan room choices batch))
named p r c b t = rw (p, r, c, b) t

planned-one : (n : ℕ) (held wanted : List ℕ) (s left : PlanLists) (r : Result Sent Refusal) → Small held → Small wanted
    → status_of r ≡ first (plan_refusals n held wanted s) → IfErr r (λ why. left ≡ s) → drop 127 left.room ≡ drop 127 s.room
    → IfOk r (λ sent. Made n held wanted s.plan s.choices s.batch left.plan (take 127 left.room) left.choices left.batch sent)
    → Planned n held wanted s (plan_out (status_of r) (packets_of r) (bytes_of r) left)
planned-one n held wanted s left (Err why) h w e kept b m = rw kept (refused n held wanted s e (numbered why))
planned-one n held wanted s left (Ok sent) h w e kept b m =
    let f = fit 2 3968 127 n held wanted s (sym e) in
    let room = sym (take-append-drop 127 left.room) ∙ rw b (over-part 127 (room_of held wanted) s.room (length-firsts 127 _) m.room-is) in
    done n held wanted s (sym e) (map-of f.1.held-long h) (map-of f.1.wanted-long w) room m.choices-is m.written

-- The maps, too, by other names.
pub planned-numbers : (n : ℕ) {held wanted held' wanted' : List ℕ} (s left : PlanLists) (r : Result Sent Refusal)
    → held' ≡ held → wanted' ≡ wanted → Small held → Small wanted
    → status_of r ≡ first (plan_refusals n held' wanted' s) → IfErr r (λ why. left ≡ s) → drop 127 left.room ≡ drop 127 s.room
    → IfOk r (λ sent. Made n held' wanted' s.plan s.choices s.batch left.plan (take 127 left.room) left.choices left.batch sent)
    → Planned n held wanted s (plan_out (status_of r) (packets_of r) (bytes_of r) left)
planned-numbers n {held' = held'} {wanted' = wanted'} s left r p q h w e kept b m =
    rw (← p, ← q) (planned-one n held' wanted' s left r (rw p h) (rw q w) e kept b m)

-- On bytes: the lists by their names, and what is known of them as bytes.
pub record Lent (held wanted : List ℕ) (s left : PlanLists) (plan room choices batch : List ℕ) : Type 0 where
  pub plan-is : plan ≡ left.plan
  pub room-is : room ≡ left.room
  pub choices-is : choices ≡ left.choices
  pub batch-is : batch ≡ left.batch
  pub held-small : Below 256 held
  pub wanted-small : Below 256 wanted
  pub plan₀-small : Below 256 s.plan
  pub plan-small : Below 256 plan
  pub room-small : Below 256 room
  pub plan-kept : length plan ≡ length s.plan

-- The bytes of plan and room are those of their numbers.
pub planned-bytes : (n : ℕ) (held wanted : List ℕ) (s left : PlanLists) (r : Result Sent Refusal) {plan room choices batch : List ℕ}
    → Lent held wanted s left plan room choices batch
    → status_of r ≡ first (byte_plan_refusals n held wanted s) → IfErr r (λ why. left ≡ s) → drop 508 left.room ≡ drop 508 s.room
    → IfOk r (λ sent. Made n (words held) (words wanted) (words s.plan) s.choices s.batch (words left.plan) (longs (take 508 left.room)) left.choices left.batch sent)
    → PlannedBytes n held wanted s (plan_out (status_of r) (packets_of r) (bytes_of r) (plan_lists plan room choices batch))
planned-bytes n held wanted s left (Err why) lent e kept b m =
    rw (lent.plan-is, lent.room-is, lent.choices-is, lent.batch-is, kept) (refused-bytes n held wanted s e (numbered why))
planned-bytes n held wanted s left (Ok sent) {plan = plan} {room = room} lent e kept b m =
    let f = (fit 4 7936 508 n held wanted s (sym e)).1 in
    let cut : List ℕ = take 508 left.room in
    let costs : List ℕ = rooms (differs (words held) (words wanted)) in
    let whole : left.room ≡ cut ++ drop 508 s.room = sym (take-append-drop 508 left.room) ∙ rw b in
    let long : length cut ≡ 508 =
    omega (arith, ap length m.room-is, length-firsts 127 costs, length-longs cut, length-take 508 left.room) in
    let small : Below 256 (cut ++ drop 508 s.room) = rw (lent.room-is ∙ whole) at lent.room-small in
    let filled = whole ∙ room-over cut s.room costs long small m.room-is in
    rw (lent.plan-is, lent.room-is, lent.choices-is, lent.batch-is)
    (done-bytes n held wanted s (sym e)
    (map-of (rw length_pairs (omega (arith, f.held-long))) (words-below held lent.held-small))
    (map-of (rw length_pairs (omega (arith, f.wanted-long))) (words-below wanted lent.wanted-small))
    (rw lent.plan-is at (bytes-words plan (omega (arith, f.plan-long, lent.plan-kept)) lent.plan-small))
    (bytes-words s.plan (omega (arith, f.plan-long)) lent.plan₀-small)
    filled m.choices-is m.written)

-- Of maps, as their bytes.
pub lent-words : {n : ℕ} {held wanted : List ℕ} → MapsLent 4 n held wanted → MapsLent 2 n (words held) (words wanted)
lent-words m =
    record {
      few = m.few;
      held-long = rw length_pairs (omega (arith, m.held-long));
      wanted-long = rw length_pairs (omega (arith, m.wanted-long));
    }
