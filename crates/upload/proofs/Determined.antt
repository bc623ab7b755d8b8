-- The plain promises alone determine every answer: two outcomes that both meet them are equal.
use Prim.Native.Nat.{ℕ, ◌+◌, ◌*◌, ◌/◌, ◌%◌, ◌≤◌, ◌<◌}
use mathlib.Core.Path.{◌≡◌, refl, sym, ap, ◌∙◌}
use mathlib.Core.Bool.{Bool, true, false}
use mathlib.Core.List.{List, map}
use native.Mathlib.Decide.{ℕ_discrete}
use native.Mathlib.Omega.{arith}
use borrow.Author.Tests.{ltb-true, ltb-false}
use lib.Dec.{ltb}
use lib.ListN.{length, take, drop, get_or, take-append-drop}
use lib.Seq.{ext_get_or, length-take-le, get_or-take}
use Rattle.wire.specs.Plain.{Bytes}
use Rattle.wire.specs.Tables.{words, bytes, longs, long_bytes}
use Rattle.wire.proofs.Tables.{halves_pairs, bytes-longs, pairs-take}
use Rattle.upload.specs.Plan.{Part, plan_numbers, packet_for, joined, cost}
use Rattle.upload.specs.Plain.{PlanLists, PlanOut, ListsRight, PlanNumbersRight, Nothing, PlanRefusals, LeastFrom, RoomMeans, SamePoint, SmallestCount, ChoicesMean, PlanDone, PlanPlain, PlanBytesPlain, MeasuredPlain, MeasuredBytesPlain}
use Rattle.upload.proofs.Bytes.{below-take}
use Rattle.upload.proofs.Outcome.{points-decided, lists-decided, fit_words}

-- Rule 6.5: of two numbers that are least each undercuts the other.
least-one : {n : ℕ} {held wanted : List ℕ} {i a b : ℕ} → LeastFrom n held wanted i a → LeastFrom n held wanted i b → a ≡ b
least-one p q = omega (arith, p.least q.packets q.turns, q.least p.packets p.turns, p.total, q.total)

-- So the room's numbers are the only ones.
room-one : {n : ℕ} {held wanted : List ℕ} {numbers : ℕ} {a b : List ℕ} → RoomMeans n held wanted numbers a → RoomMeans n held wanted numbers b
    → (k : ℕ) → k < numbers → get_or a k 0 ≡ get_or b k 0
room-one {n} {a = a} {b = b} p q k l = go (ltb k n) refl
  where
    go : (t : Bool) → ltb k n ≡ t → get_or a k 0 ≡ get_or b k 0
    go true e = least-one (p.below k (ltb-true _ _ e) l) (q.below k (ltb-true _ _ e) l)
    go false e = p.beyond k (ltb-false _ _ e) l ∙ sym (q.beyond k (ltb-false _ _ e) l)

-- Of two counts that are smallest the lesser attains what the greater says that it does not.
count-one : {n : ℕ} (from from' : ℕ → ℕ) {i a b : ℕ} → ((k : ℕ) → k ≤ n → from k ≡ from' k) → i ≤ n → SmallestCount n from i a → SmallestCount n from' i b
    → a ≡ b
count-one from from' {i} {a} {b} same l p q =
    let low : a < b → ⊥ = λ h. omega (arith, q.smallest a p.some h, p.attained, same i l, same (i + a) p.within) in
    let high : b < a → ⊥ = λ h. omega (arith, p.smallest b q.some h, q.attained, same i l, same (i + b) q.within) in
    omega arith

choices-one : {n : ℕ} {held wanted : List ℕ} {many : ℕ} {a b : List ℕ} → ChoicesMean n held wanted many a → ChoicesMean n held wanted many b
    → (i : ℕ) → i < many → get_or a i 0 ≡ get_or b i 0
choices-one {n} {held} {wanted} {a = a} {b = b} p q i l = go (ltb i n) refl
  where
    same : (k : ℕ) → k ≤ n → p.from k ≡ q.from k
    same k h = least-one (p.least k h) (q.least k h)

    other : i < n → (SamePoint held wanted i → ⊥) → get_or a i 0 ≡ get_or b i 0
    other h d = count-one p.from q.from same (omega arith) (p.differing i h l d) (q.differing i h l d)

    go : (t : Bool) → ltb i n ≡ t → get_or a i 0 ≡ get_or b i 0
    go false e = p.beyond i (ltb-false _ _ e) l ∙ sym (q.beyond i (ltb-false _ _ e) l)
    go true e =
        let h : i < n = ltb-true _ _ e in
        elim (ℕ_discrete (get_or held (2 * i) 0) (get_or wanted (2 * i) 0)) [
          | no d ↦ other h (λ s. d s.0)
          | yes x ↦
              elim (ℕ_discrete (get_or held (2 * i + 1) 0) (get_or wanted (2 * i + 1) 0)) [
                | no d ↦ other h (λ s. d s.1)
                | yes y ↦ p.same i h l (x, y) ∙ sym (q.same i h l (x, y))
              ]
        ]

-- Lists that are equal up to a place and behind it; and up to a place, element by element.
both-parts : (m : ℕ) (a b : List ℕ) → take m a ≡ take m b → drop m a ≡ drop m b → a ≡ b
both-parts m a b e f = sym (take-append-drop m a) ∙ rw (e, f) (take-append-drop m b)

front : (m : ℕ) (a b : List ℕ) → m ≤ length a → m ≤ length b → ((k : ℕ) → k < m → get_or a k 0 ≡ get_or b k 0) → take m a ≡ take m b
front m a b h g e =
    let long = length-take-le m a h in
    ext_get_or 0 (take m a) (take m b) (long ∙ sym (length-take-le m b g))
    (λ k l. let l' : k < m = omega arith in get_or-take m a k 0 l' ∙ e k l' ∙ sym (get_or-take m b k 0 l'))

-- Lists that are equal up to a place, and behind it element by element.
each-behind : (m : ℕ) (a b : List ℕ) → length a ≡ length b → take m a ≡ take m b
    → ((k : ℕ) → m ≤ k → k < length a → get_or a k 0 ≡ get_or b k 0) → a ≡ b
each-behind m a b long e f = ext_get_or 0 a b long (λ k l. go k l (ltb k m) refl)
  where
    go : (k : ℕ) → k < length a → (t : Bool) → ltb k m ≡ t → get_or a k 0 ≡ get_or b k 0
    go k l true h =
        let before : k < m = ltb-true _ _ h in
        sym (get_or-take m a k 0 before) ∙ ap (λ (s : List ℕ). get_or s k 0) e ∙ get_or-take m b k 0 before
    go k l false h = f k (ltb-false _ _ h) l

-- Rules 6.2 to 6.5, on numbers: the plan is the only one that is chosen; the rest follows from it.
module _ {n : ℕ} {held wanted : List ℕ} {before : PlanLists} (right : PlanNumbersRight n held wanted before) {packets size packets' size' : ℕ} {a b : PlanLists}
    (p : PlanDone n held wanted before packets size a) (q : PlanDone n held wanted before packets' size' b) where
  parts-one : p.plan.parts ≡ q.plan.parts
  parts-one = q.plan.only p.plan.parts p.plan.chosen

  packets-one : packets ≡ packets'
  packets-one = sym p.plan.as_many ∙ ap length parts-one ∙ q.plan.as_many

  bytes_one : size ≡ size'
  bytes_one = sym p.plan.total ∙ ap cost parts-one ∙ q.plan.total

  plan-one : a.plan ≡ b.plan
  plan-one =
      both-parts (2 * packets) a.plan b.plan
      (sym p.plan.numbers ∙ ap plan_numbers parts-one ∙ q.plan.numbers ∙ rw packets-one)
      (p.plan-behind ∙ rw packets-one (sym q.plan-behind))

  batch-one : a.batch ≡ b.batch
  batch-one =
      both-parts size a.batch b.batch
      (sym p.plan.sent ∙ ap (λ (ps : List Part). joined (map (packet_for wanted) ps)) parts-one ∙ q.plan.sent ∙ rw bytes_one)
      (p.batch-behind ∙ rw bytes_one (sym q.batch-behind))

  rooms-one : a.room ≡ b.room
  rooms-one =
      both-parts 127 a.room b.room
      (front 127 a.room b.room (omega (arith, right.room-long, p.room-kept)) (omega (arith, right.room-long, q.room-kept)) (λ k l. room-one p.room q.room k (omega arith)))
      (p.room-behind ∙ sym q.room-behind)

  choices-lists-one : a.choices ≡ b.choices
  choices-lists-one =
      both-parts 1984 a.choices b.choices
      (front 1984 a.choices b.choices (omega (arith, right.choices-long, p.choices-kept)) (omega (arith, right.choices-long, q.choices-kept))
      (λ k l. choices-one p.choices q.choices k (omega arith)))
      (p.choices-behind ∙ sym q.choices-behind)

-- Rule 6.4: the status.
status-one : {n each plans places : ℕ} {held wanted : List ℕ} {before : PlanLists} {a b : PlanOut}
    → PlanRefusals n (ListsRight each plans places n held wanted before) before a
    → PlanRefusals n (ListsRight each plans places n held wanted before) before b → a.status ≡ b.status
status-one {n} {each} {plans} {places} {held} {wanted} {before} {a} {b} p q =
    elim (points-decided n) [
      | no w ↦ p.wrong-points w ∙ sym (q.wrong-points w)
      | yes r ↦
          elim (lists-decided each plans places n held wanted before) [
            | no w ↦ p.wrong-length r w ∙ sym (q.wrong-length r w)
            | yes s ↦ p.exactly.1 (r, s) ∙ sym (q.exactly.1 (r, s))
          ]
    ]

out_one : {a b : PlanOut} → a.status ≡ b.status → a.packets ≡ b.packets → a.bytes ≡ b.bytes → a.left.plan ≡ b.left.plan
    → a.left.room ≡ b.left.room → a.left.choices ≡ b.left.choices → a.left.batch ≡ b.left.batch → a ≡ b
out_one e₁ e₂ e₃ e₄ e₅ e₆ e₇ =
    λ j. record {
      status = e₁ j;
      packets = e₂ j;
      bytes = e₃ j;
      left = record { plan = e₄ j; room = e₅ j; choices = e₆ j; batch = e₇ j };
    }

refused-one : {before : PlanLists} {a b : PlanOut} → a.status ≡ b.status → Nothing before a → Nothing before b → a ≡ b
refused-one e p q =
    out_one e (p.packets ∙ sym q.packets) (p.bytes ∙ sym q.bytes) (p.plan ∙ sym q.plan) (p.room ∙ sym q.room)
    (p.choices ∙ sym q.choices) (p.batch ∙ sym q.batch)

pub plan-determined : (n : ℕ) (held wanted : List ℕ) (before : PlanLists) (a b : PlanOut) → PlanPlain n held wanted before a
    → PlanPlain n held wanted before b → a ≡ b
plan-determined n held wanted before a b p q =
    let e : a.status ≡ b.status = status-one p.refusals q.refusals in
    elim (ℕ_discrete a.status 0) [
      | no w ↦ refused-one e (p.refusals.refused w) (q.refusals.refused (λ z. w (e ∙ z)))
      | yes z ↦
          let right = (p.refusals.exactly.0 z).1 in
          let s = p.done z in
          let t = q.done (sym e ∙ z) in
          out_one e (packets-one right s t) (bytes_one right s t) (plan-one right s t) (rooms-one right s t) (choices-lists-one right s t) (batch-one right s t)
    ]

-- Rule 1.3: bytes are those of the numbers that they hold.
plan-bytes-one : (a b : List ℕ) → length a % 2 ≡ 0 → length b % 2 ≡ 0 → Bytes a → Bytes b → words a ≡ words b → a ≡ b
plan-bytes-one a b h g small small' e = sym (halves_pairs 256 a h small) ∙ ap bytes e ∙ halves_pairs 256 b g small'

room-bytes-one : (a b : List ℕ) → length a % 4 ≡ 0 → length b % 4 ≡ 0 → Bytes a → Bytes b → longs a ≡ longs b → a ≡ b
room-bytes-one a b h g small small' e = sym (bytes-longs a h small) ∙ ap long_bytes e ∙ bytes-longs b g small'

-- The first numbers of a room, four bytes each.
longs-front : (q : ℕ) (a : List ℕ) → longs (take (4 * q) a) ≡ take q (longs a)
longs-front q a =
    let four : 4 * q ≡ 2 * (2 * q) = omega arith in
    rw (four, pairs-take 256 (2 * q) a, pairs-take 65536 q (words a))

bytes-front : (m : ℕ) (l : List ℕ) → Bytes l → Bytes (take m l)
bytes-front m l small k = below-take m l (omega arith) small k

room-front-one : (q : ℕ) (a b : List ℕ) → 4 * q ≤ length a → 4 * q ≤ length b → Bytes a → Bytes b → longs a ≡ longs b → take (4 * q) a ≡ take (4 * q) b
room-front-one q a b h g small small' e =
    let long = length-take-le (4 * q) a h in
    let long' = length-take-le (4 * q) b g in
    room-bytes-one (take (4 * q) a) (take (4 * q) b) (omega arith) (omega arith) (bytes-front (4 * q) a small) (bytes-front (4 * q) b small')
    (longs-front q a ∙ ap (take q) e ∙ sym (longs-front q b))

pub plan-determined-bytes : (n : ℕ) (held wanted : List ℕ) (before : PlanLists) (a b : PlanOut) → Bytes a.left.plan → Bytes a.left.room
    → Bytes b.left.plan → Bytes b.left.room → PlanBytesPlain n held wanted before a → PlanBytesPlain n held wanted before b → a ≡ b
plan-determined-bytes n held wanted before a b plan room plan' room' p q =
    let e : a.status ≡ b.status = status-one p.refusals q.refusals in
    elim (ℕ_discrete a.status 0) [
      | no w ↦ refused-one e (p.refusals.refused w) (q.refusals.refused (λ z. w (e ∙ z)))
      | yes z ↦
          let asked = p.refusals.exactly.0 z in
          let right = (fit_words asked).1 in
          let s = p.numbers z in
          let t = q.numbers (sym e ∙ z) in
          out_one e (packets-one right s t) (bytes_one right s t)
          (plan-bytes-one a.left.plan b.left.plan (omega (arith, p.plan-kept, asked.1.plan-long)) (omega (arith, q.plan-kept, asked.1.plan-long)) plan plan'
          (plan-one right s t))
          (both-parts 508 a.left.room b.left.room
          (room-front-one 127 a.left.room b.left.room (omega (arith, p.room-kept, asked.1.room-long)) (omega (arith, q.room-kept, asked.1.room-long)) room room'
          (rooms-one right s t))
          (p.room-behind ∙ sym q.room-behind))
          (choices-lists-one right s t) (batch-one right s t)
    ]

-- What measuring answers and leaves.
pub record SameMeasure (size : ℕ) (room choices : List ℕ) (size' : ℕ) (room' choices' : List ℕ) : Type 0 where
  pub sizes : size ≡ size'
  pub rooms : room ≡ room'
  pub choices-lists : choices ≡ choices'

pub measure-determined : (n : ℕ) (held wanted : List ℕ) (numbers many size : ℕ) (room choices : List ℕ) (size' : ℕ) (room' choices' : List ℕ)
    → MeasuredPlain n held wanted numbers many size room choices → MeasuredPlain n held wanted numbers many size' room' choices'
    → SameMeasure size room choices size' room' choices'
measure-determined n held wanted numbers many size room choices size' room' choices' p q =
    record {
      sizes = least-one p.least q.least;
      rooms = ext_get_or 0 room room' (omega (arith, p.room-long, q.room-long)) (λ k l. room-one p.room-means q.room-means k (omega (arith, p.room-long)));
      choices-lists =
          ext_get_or 0 choices choices' (omega (arith, p.choices-long, q.choices-long))
          (λ k l. choices-one p.choices-mean q.choices-mean k (omega (arith, p.choices-long)));
    }

-- On bytes: the room's numbers, and behind them what was there.
pub measure-determined-bytes : (n : ℕ) (held wanted room₀ choices₀ : List ℕ) (size : ℕ) (room choices : List ℕ) (size' : ℕ) (room' choices' : List ℕ)
    → Bytes room → Bytes room' → MeasuredBytesPlain n held wanted room₀ choices₀ size room choices
    → MeasuredBytesPlain n held wanted room₀ choices₀ size' room' choices' → SameMeasure size room choices size' room' choices'
measure-determined-bytes n held wanted room₀ choices₀ size room choices size' room' choices' small small' p q =
    let whole : ℕ = length room₀ / 4 in
    let same =
    measure-determined n (words held) (words wanted) (length (longs room₀)) (length choices₀) size (longs room) choices size' (longs room') choices' p.numbers q.numbers in
    let within : 4 * whole ≤ length room = omega (arith, p.room-kept) in
    let within' : 4 * whole ≤ length room' = omega (arith, q.room-kept) in
    let numbers = room-front-one whole room room' within within' small small' same.rooms in
    record {
      sizes = same.sizes;
      rooms =
          each-behind (4 * whole) room room' (omega (arith, p.room-kept, q.room-kept)) numbers
          (λ k h l. let in_room : k < length room₀ = omega (arith, p.room-kept) in
          p.room-behind k (omega arith) in_room ∙ sym (q.room-behind k (omega arith) in_room));
      choices-lists = same.choices-lists;
    }
