-- What planning promises, from what its code leaves: which refusal it gives, and that nothing changes then; else demand 3 holds
-- of the byte count answered, the plan is the one that rule 6.2 chooses, and room and choices hold what rule 6.5 says. Once for lists of
-- numbers, and once for their bytes.
use Prim.Native.Nat.{ℕ, zero, suc, ◌+◌, ◌-◌, ◌*◌, ◌/◌, ◌≤◌, ◌<◌}
use mathlib.Core.Path.{◌≡◌, refl, sym, ap, ◌∙◌}
use mathlib.Core.Logic.{◌↔◌}
use mathlib.Core.Bool.{Bool, true, false}
use mathlib.Core.List.{List, [], ◌∷◌, ◌++◌}
use native.Mathlib.Omega.{arith}
use borrow.Author.Tests.{eqb-true, eq-eqb, ne_eqb, le-leb, le-ltb, eqb-false}
use lib.ListN.{length, take, drop, get_or, length-append, length-map, length-take, length-drop}
use lib.Seq.{drop_at, get_or-drop, take-append-le}
use lib.Dec.{eqb}
use Rattle.wire.specs.First.{first}
use Rattle.wire.specs.Buffers.{over}
use Rattle.wire.specs.Tables.{halves, words, bytes, longs, long_bytes}
use Rattle.wire.proofs.Laws.{take-over}
use Rattle.wire.proofs.Tables.{length_pairs, length-halves, pairs-halves, halves-drop, halves-over, pairs-over, bytes-longs}
use Rattle.wire.proofs.Tests.{told, or_left}
use Rattle.upload.specs.Cost.{differs, best, rooms, choices}
use Rattle.upload.specs.Plan.{Part, plan_of, followed, plan_numbers, packet_for, packets_of, joined, batch_of}
use Rattle.upload.specs.Judge.{MapOf}
use Rattle.upload.specs.Parts.{InOrder, none, next}
use Rattle.upload.specs.Plain.{PlanLists, PlanOut, PointsRight, ListsRight, PlanNumbersRight, PlanBytesRight, Nothing, PlanRefusals, Fewest, PlanChosen, PlanDone, MapsLent}
use Rattle.upload.specs.Planning.{plan_lists, lists_in, list_bytes, byte_plan_out, writes, over_all, planned_by, points_wrong, lengths, lengths_wrong, refusals_with, plan_refusals, byte_plan_refusals, plan_out, firsts, room_of, choices_of, planned, planned_bytes, Measured, MeasuredBytes, Followable, PlanWritten, Planned, PlannedBytes}
use Rattle.upload.proofs.Lists.{demand3, plan-in-order, plan-cost, plan-bound, batch-cost, batch-bound, plan-equal}
use Rattle.upload.proofs.Choice.{plan-chosen, chosen-only}
use Rattle.upload.proofs.RoomMeans.{written_at, least-from, room-means, choices-mean}
use Rattle.upload.proofs.Differs.{differs-long}
use Rattle.upload.proofs.Rooms.{length-firsts, firsts_at, firsts-all, length-choices, AllMeasured}
use Rattle.upload.proofs.Walk.{length-numbers, followed-plan}
use Rattle.upload.proofs.PartInLists.{placed}

-- What is taken has no refusal.
not-refused : {n : ℕ} {Right : Type 0} {s : PlanLists} {o : PlanOut} → PointsRight n × Right → o.status ≡ 0 → PlanRefusals n Right s o
not-refused r e =
    record {
      exactly = (λ z. r, λ r. e);
      wrong-points = λ w. absurd (w r.0);
      wrong-length = λ p w. absurd (w r.1);
      refused = λ w. absurd (w e);
    }

-- Nothing answered, nothing changed.
nothing : (number : ℕ) (s : PlanLists) → Nothing s (plan_out number 0 0 s)
nothing number s = record { packets = refl; bytes = refl; plan = refl; room = refl; choices = refl; batch = refl }

-- The tests of points and of lengths say what is right.
pub points-tested : (n : ℕ) → (points_wrong n ≡ false) ↔ PointsRight n
points-tested n = (
  λ e.
      let none : n ≡ 0 → ⊥ = eqb-false n 0 (or_left _ _ e) in
      record { some = omega arith; few = search (told, e) },
  λ r. rw (ne_eqb n 0 (λ e. omega (arith, r.some)), le-ltb 1984 n r.few),
)

-- Whether a test says no, and so whether what it says is right.
tested : {Right : Type 0} (b : Bool) → (b ≡ false) ↔ Right → Dec Right
tested true t = no (λ r. let z : ◌≡◌ {A = ℕ} 0 1 = cc (t.1 r) in omega arith)
tested false t = yes (t.0 refl)

pub points-decided : (n : ℕ) → Dec (PointsRight n)
points-decided n = tested (points_wrong n) (points-tested n)

module _ (each plans places n : ℕ) (held wanted : List ℕ) (s : PlanLists) where
  abbrev asked : List (ℕ × Bool)
  asked = refusals_with each plans places n held wanted s

  abbrev Right : Type 0
  Right = ListsRight each plans places n held wanted s

  abbrev wrong : Bool
  wrong =
      lengths_wrong
      (lengths (length held) (length wanted) (length s.plan) (length s.room) (length s.choices) (length s.batch))
      (lengths (each * n) (each * n) plans places 1984 8032)

  lists-tested : (wrong ≡ false) ↔ Right
  lists-tested = (
    λ e.
        let all : 1984 ≤ length s.choices = search (told, e) in
        let enough : 8032 ≤ length s.batch = search (told, e) in
        record {
          held-long = search (told, e);
          wanted-long = search (told, e);
          plan-long = search (told, e);
          room-long = search (told, e);
          choices-long = omega arith;
          batch-long = omega arith;
        },
    λ r.
        let all : 1984 ≤ length s.choices = omega (arith, r.choices-long) in
        let enough : 8032 ≤ length s.batch = omega (arith, r.batch-long) in
        rw (
          eq-eqb _ _ r.held-long,
          eq-eqb _ _ r.wanted-long,
          eq-eqb _ _ r.plan-long,
          le-leb _ _ r.room-long,
          le-leb _ _ all,
          le-leb _ _ enough,
        ),
  )

  pub lists-decided : Dec Right
  lists-decided = tested wrong lists-tested

  -- The number that the tests give, and nothing changed.
  judged : PlanRefusals n Right s (plan_out (first asked) 0 0 s)
  judged = go (points_wrong n) wrong refl refl
    where
      go : (a b : Bool) → points_wrong n ≡ a → wrong ≡ b → PlanRefusals n Right s (plan_out (first asked) 0 0 s)
      go true b e f =
          let no : PointsRight n → ⊥ = λ r. let z : ◌≡◌ {A = ℕ} 0 1 = cc ((points-tested n).1 r) in omega arith in
          rw e (record { exactly = (λ z. absurd (omega arith), λ r. absurd (no r.0)); wrong-points = λ w. refl; wrong-length = λ r w. absurd (no r); refused = λ z. nothing 10 s })
      go false true e f =
          let no : Right → ⊥ = λ r. let z : ◌≡◌ {A = ℕ} 0 1 = cc (lists-tested.1 r) in omega arith in
          rw (e, f)
          (record {
            exactly = (λ z. absurd (omega arith), λ r. absurd (no r.1));
            wrong-points = λ w. absurd (w ((points-tested n).0 e));
            wrong-length = λ r w. refl;
            refused = λ z. nothing 1 s;
          })
      go false false e f = rw (e, f) (not-refused ((points-tested n).0 e, lists-tested.0 f) refl)

  -- Nothing is refused exactly if all is right.
  pub fit : first asked ≡ 0 → PointsRight n × Right
  fit = judged.exactly.0

  pub taken : PointsRight n × Right → first asked ≡ 0
  taken = judged.exactly.1

-- Right lists have maps of n points.
pub maps-lent : {each plans places n : ℕ} {held wanted : List ℕ} {s : PlanLists} → PointsRight n × ListsRight each plans places n held wanted s
    → MapsLent each n held wanted
maps-lent f = record { few = f.0.few; held-long = f.1.held-long; wanted-long = f.1.wanted-long }

-- The choices of all points are the first of the lent list; they can be followed, and give the plan.
choices-taken : (n : ℕ) (held wanted list : List ℕ) → n ≤ 1984 → MapOf n held → MapOf n wanted
    → take n (over (choices_of held wanted) list) ≡ choices (differs held wanted)
unfolding over
choices-taken n held wanted list few h w =
    let cs : List ℕ = choices (differs held wanted) in
    let all : length cs ≡ n = length-choices (differs held wanted) ∙ differs-long n held wanted h.long w.long in
    take-append-le n (choices_of held wanted) _ (omega (arith, length-firsts 1984 cs)) ∙ rw (← all) (firsts-all 1984 cs (omega arith))

choices-follow : (n : ℕ) (held wanted list : List ℕ) → n ≤ 1984 → MapOf n held → MapOf n wanted
    → followed 0 0 (take n (over (choices_of held wanted) list)) ≡ plan_of held wanted
unfolding plan_of
choices-follow n held wanted list few h w =
    rw (choices-taken n held wanted list few h w) (followed-plan 0 0 (differs held wanted))

bytes-kept : {a b : List ℕ} → bytes (words a) ≡ a → bytes (words b) ≡ b → length (words a) ≡ length (words b) → length a ≡ length b
bytes-kept {a} {b} p q e = ap length (sym p) ∙ length-halves 256 (words a) ∙ ap (λ (k : ℕ). 2 * k) e ∙ sym (length-halves 256 (words b)) ∙ ap length q

-- A part of a list that was filled, in front of what lies behind it.
pub over-part : {cut : List ℕ} (m : ℕ) (new list : List ℕ) → length new ≡ m → cut ≡ new → cut ++ drop m list ≡ over new list
unfolding over
over-part m new list l e = rw (l, e)

-- What writing asks of the first n choices, once they are measured.
pub record Ready (n : ℕ) (list : List ℕ) : Type 0 where
  pub within : n ≤ length list
  pub all : length (take n list) ≡ n
  pub can : Followable (take n list)

pub ready : (n : ℕ) (held wanted : List ℕ) {cut : List ℕ} (list : List ℕ) → n ≤ 1984 → MapOf n held → MapOf n wanted → cut ≡ choices_of held wanted
    → Ready n (cut ++ drop 1984 list)
ready n held wanted list few h w e =
    let ds : List Bool = differs held wanted in
    let size = length-firsts 1984 (choices ds) in
    let taken = choices-taken n held wanted list few h w in
    let all : length (take n (over (choices_of held wanted) list)) ≡ n = rw taken (length-choices ds ∙ differs-long n held wanted h.long w.long) in
    let plan = choices-follow n held wanted list few h w in
    rw (over-part 1984 (choices_of held wanted) list size e)
    (record {
      within = omega (arith, length-take n (over (choices_of held wanted) list));
      all = all;
      can =
          record {
            few = omega arith;
            in_order = rw (all, plan) (plan-in-order n held wanted h.long w.long);
            small = rw plan (omega (arith, plan-bound n held wanted h w));
          };
    })

-- Measured: the least bytes are the batch's.
module _ (n : ℕ) (held wanted : List ℕ) (h : MapOf n held) (w : MapOf n wanted) where
  low-cost : length (batch_of held wanted) ≡ best 0 (rooms (differs held wanted))
  low-cost = batch-cost n held wanted h.long w.long ∙ plan-cost n held wanted h.long w.long

  pub measured : {numbers many least numbers' many' : ℕ} {room list : List ℕ} → numbers' ≡ numbers → many' ≡ many
      → AllMeasured (differs held wanted) numbers many least room list → Measured n held wanted numbers' many' least room list
  measured {numbers} {many} {least} {room = room} {list = list} e₁ e₂ t =
      let ds : List Bool = differs held wanted in
      let e : least ≡ length (batch_of held wanted) = t.low ∙ sym low-cost in
      record {
        bytes-are = e;
        room-is = rw e₁ t.room_whole;
        choices-are = rw e₂ t.choices-whole;
        plain =
            record {
              least = rw e (least-from n held wanted h w 0 (omega arith));
              room-long = omega (arith, ap length t.room_whole, length-firsts numbers (rooms ds));
              room-means = rw (e₁, t.room_whole) (room-means n held wanted h w numbers (firsts numbers (rooms ds)) (firsts_at numbers (rooms ds)));
              choices-long = omega (arith, ap length t.choices-whole, length-firsts many (choices ds));
              choices-mean = rw (e₂, t.choices-whole) (choices-mean n held wanted h w many (firsts many (choices ds)) (firsts_at many (choices ds)));
            };
      }

-- Lists that are equal from a place on, element by element.
behind-at : (m k : ℕ) (a b : List ℕ) → drop m a ≡ drop m b → m ≤ k → get_or a k 0 ≡ get_or b k 0
behind-at m k a b e h =
    let far : m + (k - m) ≡ k = omega arith in
    rw (← far, ← get_or-drop m a (k - m) 0, ← get_or-drop m b (k - m) 0, e)

pub measured-bytes : {n : ℕ} {held wanted room₀ choices₀ : List ℕ} {size : ℕ} {room choices : List ℕ} → length room ≡ length room₀
    → drop (4 * length (longs room₀)) room ≡ drop (4 * length (longs room₀)) room₀
    → Measured n (words held) (words wanted) (length (longs room₀)) (length choices₀) size (longs room) choices
    → MeasuredBytes n held wanted room₀ choices₀ size room choices
measured-bytes {room₀ = room₀} {room = room} e b t =
    let four : length (longs room₀) ≡ length room₀ / 4 = rw (length_pairs, length_pairs) (omega arith) in
    record {
      bytes-are = t.bytes-are;
      room-is = t.room-is;
      room-behind = b;
      choices-are = t.choices-are;
      plain =
          record {
            numbers = t.plain;
            room-kept = e;
            room-behind = λ k h l. behind-at (4 * length (longs room₀)) k room room₀ b (omega arith);
          };
    }

-- Demand 3 of the batch's own length.
pub fewest : (n : ℕ) (held wanted batch : List ℕ) → MapOf n held → MapOf n wanted
    → Fewest n held wanted (length (plan_of held wanted)) (length (batch_of held wanted)) (over (batch_of held wanted) batch)
unfolding packets_of batch_of
fewest n held wanted batch h w =
    let d = demand3 n held wanted h w in
    record {
      packets = packets_of held wanted;
      as_many = length-map (plan_of held wanted) (packet_for wanted);
      back-to-back = sym (take-over (batch_of held wanted) batch);
      accepted = d.accepted;
      turns = d.turns;
      total = sym d.bytes;
      least = d.fewest;
    }

-- The plan is in the lent list, is the one that is chosen, and is what following the choices gives.
pub chosen : (n : ℕ) (held wanted plan list batch : List ℕ) → n ≤ 1984 → MapOf n held → MapOf n wanted
    → PlanChosen n held wanted (length (plan_of held wanted)) (length (batch_of held wanted)) (over (plan_numbers (plan_of held wanted)) plan)
    (over (choices_of held wanted) list) (over (batch_of held wanted) batch)
unfolding packets_of batch_of
chosen n held wanted plan list batch few h w =
    record {
      parts = plan_of held wanted;
      as_many = refl;
      numbers = rw (← length-numbers (plan_of held wanted)) (sym (take-over (plan_numbers (plan_of held wanted)) plan));
      placed = λ k l. placed n wanted plan batch w.long (plan-in-order n held wanted h.long w.long) k l;
      chosen = plan-chosen n held wanted h w;
      only = chosen-only n held wanted h w;
      follows = choices-follow n held wanted list few h w;
      total = sym (batch-cost n held wanted h.long w.long);
      bound = batch-bound n held wanted h w;
      sent = sym (take-over (batch_of held wanted) batch);
    }

-- Equal maps have no packet to send.
equal-none : (n : ℕ) (held wanted : List ℕ) → MapOf n held → held ≡ wanted → (length (plan_of held wanted) ≡ 0) × (length (batch_of held wanted) ≡ 0)
unfolding packets_of batch_of joined
equal-none n held wanted h e = rw (← e, plan-equal n held h) (refl, refl)

-- What lies behind numbers that are written over the start of a list, and so behind their bytes.
behind-over : (s l : List ℕ) → drop (length s) (over s l) ≡ drop (length s) l
unfolding over
behind-over s l = drop_at s _ _ refl

bytes-behind : (k : ℕ) {a b : List ℕ} → bytes (words a) ≡ a → bytes (words b) ≡ b → drop (2 * k) (words a) ≡ drop (2 * k) (words b)
    → drop (4 * k) a ≡ drop (4 * k) b
bytes-behind k {a} {b} p q e =
    let twice : 4 * k ≡ 2 * (2 * k) = omega arith in
    rw twice (ap (drop (2 * (2 * k))) (sym p) ∙ sym (halves-drop 256 (2 * k) (words a)) ∙ ap bytes e ∙ halves-drop 256 (2 * k) (words b)
    ∙ ap (drop (2 * (2 * k))) q)

-- A part has a point or more, so there are no more parts than points.
in-order-few : {n i : ℕ} {ps : List Part} → i ≤ n → InOrder n i ps → i + length ps ≤ n
in-order-few h none = omega arith
in-order-few h (next {ps = ps} l f r) = omega (arith, in-order-few f.within r, f.some)

few-parts : (n : ℕ) (held wanted : List ℕ) → MapOf n held → MapOf n wanted → length (plan_of held wanted) ≤ n
few-parts n held wanted h w = omega (arith, in-order-few (omega arith) (plan-in-order n held wanted h.long w.long))

-- Refused.
pub refused : (n : ℕ) (held wanted : List ℕ) (s : PlanLists) {number : ℕ} → number ≡ first (plan_refusals n held wanted s) → (number ≡ 0 → ⊥)
    → Planned n held wanted s (plan_out number 0 0 s)
unfolding planned
refused n held wanted s {number} e h =
    record {
      outcome = rw (← e, ne_eqb number 0 h);
      plain = record { refusals = rw e (judged 2 3968 127 n held wanted s); done = λ z. absurd (h z) };
    }

pub refused-bytes : (n : ℕ) (held wanted : List ℕ) (s : PlanLists) {number : ℕ} → number ≡ first (byte_plan_refusals n held wanted s) → (number ≡ 0 → ⊥)
    → PlannedBytes n held wanted s (plan_out number 0 0 s)
unfolding planned_bytes
refused-bytes n held wanted s {number} e h =
    record {
      outcome = rw (← e, ne_eqb number 0 h);
      plain =
          record {
            refusals = rw e (judged 4 7936 508 n held wanted s);
            numbers = λ z. absurd (h z);
            plan-behind = refl;
            room-behind = refl;
            plan-kept = refl;
            room-kept = refl;
          };
    }

-- PlanWritten over the start of a list, no longer than the list.
length_over : (s l : List ℕ) → length s ≤ length l → length (over s l) ≡ length l
unfolding over
length_over s l h = simp (length-append, length-drop) (omega arith)

-- What lies behind the first numbers of a list that are written over another's start.
firsts-behind : (m : ℕ) (l list : List ℕ) → drop m (over (firsts m l) list) ≡ drop m list
firsts-behind m l list = rw length-firsts at (behind-over (firsts m l) list)

-- Planned: what it leaves, in plain terms.
left-plain : (n : ℕ) (held wanted : List ℕ) (s : PlanLists) → PointsRight n × PlanNumbersRight n held wanted s → MapOf n held → MapOf n wanted
    → PlanDone n held wanted s (length (plan_of held wanted)) (length (batch_of held wanted)) (over_all (writes held wanted) s)
left-plain n held wanted s f h w =
    let few = f.0.few in
    let ds : List Bool = differs held wanted in
    let plan : List Part = plan_of held wanted in
    let bound = batch-bound n held wanted h w in
    let parts = few-parts n held wanted h w in
    record {
      fewest = fewest n held wanted s.batch h w;
      plan = chosen n held wanted s.plan s.choices s.batch few h w;
      room = room-means n held wanted h w 127 (over (room_of held wanted) s.room) (λ k l. written_at 127 (rooms ds) s.room k (omega arith));
      choices = choices-mean n held wanted h w 1984 (over (choices_of held wanted) s.choices) (λ k l. written_at 1984 (choices ds) s.choices k (omega arith));
      equal = equal-none n held wanted h;
      plan-behind = rw (← length-numbers plan) (behind-over (plan_numbers plan) s.plan);
      room-behind = firsts-behind 127 (rooms ds) s.room;
      choices-behind = firsts-behind 1984 (choices ds) s.choices;
      batch-behind = behind-over (batch_of held wanted) s.batch;
      plan-kept = length_over (plan_numbers plan) s.plan (omega (arith, length-numbers plan, f.1.plan-long));
      room-kept = length_over (room_of held wanted) s.room (omega (arith, length-firsts 127 (rooms ds), f.1.room-long));
      choices-kept = length_over (choices_of held wanted) s.choices (omega (arith, length-firsts 1984 (choices ds), f.1.choices-long));
      batch-kept = length_over (batch_of held wanted) s.batch (omega (arith, f.1.batch-long));
    }

pub done : (n : ℕ) (held wanted : List ℕ) (s : PlanLists) {plan room list batch : List ℕ} {packets size : ℕ} → first (plan_refusals n held wanted s) ≡ 0
    → MapOf n held → MapOf n wanted → room ≡ over (room_of held wanted) s.room → list ≡ over (choices_of held wanted) s.choices
    → PlanWritten wanted (followed 0 0 (take n list)) s.plan s.batch plan batch packets size
    → Planned n held wanted s (plan_out 0 packets size (plan_lists plan room list batch))
unfolding planned packets_of batch_of
done n held wanted s {packets = packets} {size = size} e h w r c written =
    let f = fit 2 3968 127 n held wanted s e in
    let t = rw (c, choices-follow n held wanted s.choices f.0.few h w) at written in
    record {
      outcome = rw (e, t.packets-are, t.bytes-are, t.plan-is, t.batch-is, r, c);
      plain =
          record {
            refusals = not-refused f refl;
            done = λ z. rw (t.packets-are, t.bytes-are, t.plan-is, t.batch-is, r, c) (left-plain n held wanted s f h w);
          };
    }

-- The numbers that bytes of the right lengths hold are of the right lengths.
pub fit_words : {n : ℕ} {held wanted : List ℕ} {s : PlanLists} → PointsRight n × PlanBytesRight n held wanted s
    → PointsRight n × PlanNumbersRight n (words held) (words wanted) (lists_in s)
fit_words (points, f) = (
  points,
  record {
    held-long = rw length_pairs (omega (arith, f.held-long));
    wanted-long = rw length_pairs (omega (arith, f.wanted-long));
    plan-long = rw length_pairs (omega (arith, f.plan-long));
    room-long = rw (length_pairs, length_pairs) (omega (arith, f.room-long));
    choices-long = f.choices-long;
    batch-long = f.batch-long;
  },
)

-- The bytes of the room's numbers.
room-bytes : (l : List ℕ) → length (long_bytes (firsts 127 l)) ≡ 508
room-bytes l =
    omega (arith, length-halves 256 (halves 65536 (firsts 127 l)), length-halves 65536 (firsts 127 l), length-firsts 127 l)

-- On bytes: a list whose numbers are written over the start of others has their bytes written over the start of theirs.
over-bytes : {list list₀ : List ℕ} (new : List ℕ) → bytes (words list) ≡ list → bytes (words list₀) ≡ list₀ → words list ≡ over new (words list₀)
    → list ≡ over (bytes new) list₀
over-bytes {list} {list₀} new p q e = sym p ∙ ap bytes e ∙ halves-over 256 new (words list₀) ∙ rw q

-- A part of a room's bytes that was filled, in front of what lies behind it.
below-front : (a b : List ℕ) → ((k : ℕ) → get_or (a ++ b) k 0 < 256) → (k : ℕ) → get_or a k 0 < 256
below-front [] b h k = omega arith
below-front (x ∷ a) b h zero = h 0
below-front (x ∷ a) b h (suc k) = below-front a b (λ j. h (suc j)) k

pub room-over : (cut room l : List ℕ) → length cut ≡ 508 → ((k : ℕ) → get_or (cut ++ drop 508 room) k 0 < 256) → longs cut ≡ firsts 127 l
    → cut ++ drop 508 room ≡ over (long_bytes (firsts 127 l)) room
room-over cut room l long small e =
    over-part 508 (long_bytes (firsts 127 l)) room (room-bytes l) (sym (bytes-longs cut (omega arith) (below-front cut (drop 508 room) small)) ∙ ap long_bytes e)

-- The numbers that the bytes hold are planned as above, and the bytes are those of the numbers.
pub done-bytes : (n : ℕ) (held wanted : List ℕ) (s : PlanLists) {plan room list batch : List ℕ} {packets size : ℕ}
    → first (byte_plan_refusals n held wanted s) ≡ 0 → MapOf n (words held) → MapOf n (words wanted) → bytes (words plan) ≡ plan
    → bytes (words s.plan) ≡ s.plan → room ≡ over (long_bytes (room_of (words held) (words wanted))) s.room
    → list ≡ over (choices_of (words held) (words wanted)) s.choices
    → PlanWritten (words wanted) (followed 0 0 (take n list)) (words s.plan) s.batch (words plan) batch packets size
    → PlannedBytes n held wanted s (plan_out 0 packets size (plan_lists plan room list batch))
unfolding planned_bytes packets_of batch_of
done-bytes n held wanted s {plan} {room} {list} {batch} {packets} {size} e h w p p₀ r c t =
    let f = fit 4 7936 508 n held wanted s e in
    let numbers : List ℕ = room_of (words held) (words wanted) in
    let longs-room : longs room ≡ over numbers (longs s.room) =
    rw (r, pairs-over 256 (halves 65536 numbers) s.room, pairs-over 65536 numbers (words s.room)) in
    let q =
    done n (words held) (words wanted) (lists_in s) (taken 2 3968 127 n (words held) (words wanted) (lists_in s) (fit_words f)) h w longs-room c t in
    let left = q.plain.done refl in
    let v = rw (c, choices-follow n (words held) (words wanted) s.choices f.0.few h w) at t in
    record {
      outcome = rw (e, v.packets-are, v.bytes-are, over-bytes (plan_numbers (plan_of (words held) (words wanted))) p p₀ v.plan-is, r, c, v.batch-is);
      plain =
          record {
            refusals = not-refused f refl;
            numbers = λ z. left;
            plan-behind = bytes-behind packets p p₀ left.plan-behind;
            room-behind = rw r (rw room-bytes at (behind-over (long_bytes numbers) s.room));
            plan-kept = bytes-kept p p₀ left.plan-kept;
            room-kept = rw r (length_over (long_bytes numbers) s.room (omega (arith, room-bytes (rooms (differs (words held) (words wanted))), f.1.room-long)));
          };
    }

-- Numbers lent as their bytes: planning does there what it does on the numbers.
fit-bytes : {n : ℕ} {held wanted : List ℕ} {s : PlanLists} → PointsRight n × PlanNumbersRight n held wanted s
    → PointsRight n × PlanBytesRight n (bytes held) (bytes wanted) (list_bytes s)
fit-bytes (points, f) = (
  points,
  record {
    held-long = rw length-halves (omega (arith, f.held-long));
    wanted-long = rw length-halves (omega (arith, f.wanted-long));
    plan-long = rw length-halves (omega (arith, f.plan-long));
    room-long = rw (length-halves, length-halves) (omega (arith, f.room-long));
    choices-long = f.choices-long;
    batch-long = f.batch-long;
  },
)

status-by : (plan : List Part) (new s : PlanLists) (number : ℕ) (b : Bool) → eqb number 0 ≡ b → (planned_by number plan new s).status ≡ number
status-by plan new s number true e = rw e (sym (eqb-true number 0 e))
status-by plan new s number false e = rw e

pub plan-bytes : (n : ℕ) (held wanted : List ℕ) (s : PlanLists) → (planned n held wanted s).status ≡ 0
    → planned_bytes n (bytes held) (bytes wanted) (list_bytes s) ≡ byte_plan_out (planned n held wanted s)
unfolding planned planned_bytes
plan-bytes n held wanted s e =
    let number : ℕ = first (plan_refusals n held wanted s) in
    let silent : number ≡ 0 = sym (status-by (plan_of held wanted) (writes held wanted) s number (eqb number 0) refl) ∙ e in
    let none = taken 4 7936 508 n (bytes held) (bytes wanted) (list_bytes s) (fit-bytes (fit 2 3968 127 n held wanted s silent)) in
    rw (
      silent,
      none,
      pairs-halves 256 held,
      pairs-halves 256 wanted,
      halves-over 256 (plan_numbers (plan_of held wanted)) s.plan,
      halves-over 65536 (room_of held wanted) s.room,
      halves-over 256 (halves 65536 (room_of held wanted)) (halves 65536 s.room),
    )
