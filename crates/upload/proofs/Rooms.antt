-- Room and choices as code fills them, from the back: what they shall hold at each place, and the loop with the numbers that it carries.
use Prim.Native.Nat.{ℕ, zero, suc, ◌+◌, ◌≤◌, ◌<◌}
use mathlib.Core.Path.{◌≡◌, refl, sym, ap, ◌∙◌}
use mathlib.Core.Bool.{Bool, true, false, cond}
use mathlib.Core.List.{List, [], ◌∷◌}
use native.Mathlib.Decide.{ℕ_discrete}
use native.Mathlib.Numerals.{add-one}
use native.Mathlib.Omega.{arith}
use borrow.Author.Tests.{ltb-true, ltb-false}
use lib.Dec.{ltb}
use lib.ListN.{length, take, drop, get_or, set, replicate, length-set, length-drop, length-replicate, drop_of_length-le, get_or-eq_default}
use lib.Seq.{drop-cons, get_or-set_same, get_or-set_other, ext_get_or}
use Rattle.upload.specs.Cost.{best, rooms, choice, choices}
use Rattle.upload.specs.Planning.{firsts}
use Rattle.upload.specs.Internal.{CostBehind, at_end, Bounded, PointChosen}
use Rattle.upload.proofs.Least.{room-at}
use Rattle.upload.proofs.CostBehind.{carried_from, carried-least, carried-choice, carried-small}

-- The first numbers of a list, 0 where it has no more.
pub length-firsts : (m : ℕ) (l : List ℕ) → length (firsts m l) ≡ m
unfolding firsts
length-firsts zero l = refl
length-firsts (suc m) [] = ap suc (length-firsts m [])
length-firsts (suc m) (x ∷ l) = ap suc (length-firsts m l)

pub firsts_at : (m : ℕ) (l : List ℕ) (k : ℕ) → k < m → get_or (firsts m l) k 0 ≡ get_or l k 0
unfolding firsts
firsts_at zero l k h = absurd (omega arith)
firsts_at (suc m) [] zero h = refl
firsts_at (suc m) [] (suc k) h = firsts_at m [] k (omega arith)
firsts_at (suc m) (x ∷ l) zero h = refl
firsts_at (suc m) (x ∷ l) (suc k) h = firsts_at m l k (omega arith)

pub firsts-none : (m : ℕ) (l : List ℕ) (k : ℕ) → get_or l k 0 ≡ 0 → ◌≡◌ {A = ℕ} (get_or (firsts m l) k 0) 0
unfolding firsts
firsts-none zero l k h = refl
firsts-none (suc m) [] zero h = refl
firsts-none (suc m) [] (suc k) h = firsts-none m [] k refl
firsts-none (suc m) (x ∷ l) zero h = h
firsts-none (suc m) (x ∷ l) (suc k) h = firsts-none m l k h

pub firsts-all : (m : ℕ) (l : List ℕ) → length l ≤ m → take (length l) (firsts m l) ≡ l
unfolding firsts
firsts-all m [] h = refl
firsts-all zero (x ∷ l) h = absurd (omega arith)
firsts-all (suc m) (x ∷ l) h = ap (λ (r : List ℕ). x ∷ r) (firsts-all m l (omega arith))

-- What stands in rooms and choices.
pub room-end : (ds : List Bool) (i : ℕ) → length ds ≤ i → ◌≡◌ {A = ℕ} (get_or (rooms ds) i 0) 0
unfolding rooms
room-end [] zero h = refl
room-end [] (suc i) h = refl
room-end (d ∷ ds) zero h = absurd (omega arith)
room-end (d ∷ ds) (suc i) h = room-end ds i (omega arith)

pub length-choices : (ds : List Bool) → length (choices ds) ≡ length ds
unfolding choices
length-choices [] = refl
length-choices (d ∷ ds) = ap suc (length-choices ds)

pub choice-at : (ds : List Bool) (i : ℕ) → i < length ds → get_or (choices ds) i 0 ≡ choice (get_or ds i false) (rooms (drop (suc i) ds))
unfolding choices
choice-at [] i h = absurd (omega arith)
choice-at (d ∷ ds) zero h = refl
choice-at (d ∷ ds) (suc i) h = choice-at ds i (omega arith)

pub choice-end : (ds : List Bool) (i : ℕ) → length ds ≤ i → get_or (choices ds) i 0 ≡ 0
choice-end ds i h = get_or-eq_default (choices ds) 0 {n = i} (omega (arith, length-choices ds))

-- A list that is filled from the back: from place i on it is as it shall be.
record FilledFrom (i : ℕ) (list wanted : List ℕ) : Type 0 where
  long : length list ≡ length wanted
  alike : (k : ℕ) → i ≤ k → get_or list k 0 ≡ get_or wanted k 0

zeros : (m k : ℕ) → ◌≡◌ {A = ℕ} (get_or (replicate m 0) k 0) 0
zeros zero k = refl
zeros (suc m) zero = refl
zeros (suc m) (suc k) = zeros m k

fill_start : {list : List ℕ} (m : ℕ) (l : List ℕ) (i : ℕ) → list ≡ replicate m 0 → ((k : ℕ) → i ≤ k → get_or l k 0 ≡ 0) → FilledFrom i list (firsts m l)
fill_start m l i e h =
    let none : ℕ = 0 in
    rw e
    (record {
      long = length-replicate m none ∙ sym (length-firsts m l);
      alike = λ k f. zeros m k ∙ sym (firsts-none m l k (h k f));
    })

-- A store fills one place more, or falls behind the list's end, where there is none.
fill-turn : (list wanted : List ℕ) (i v : ℕ) → (i < length list → v ≡ get_or wanted i 0) → FilledFrom (i + 1) list wanted
    → FilledFrom i (set list i v) wanted
fill-turn list wanted i v e f = record { long = length-set list i v ∙ f.long; alike = alike }
  where
    here : (b : Bool) → ltb i (length list) ≡ b → get_or (set list i v) i 0 ≡ get_or wanted i 0
    here true h = get_or-set_same list i v 0 (ltb-true _ _ h) ∙ e (ltb-true _ _ h)
    here false h =
        get_or-eq_default (set list i v) 0 {n = i} (omega (arith, ltb-false, length-set list i v))
        ∙ sym (get_or-eq_default wanted 0 {n = i} (omega (arith, ltb-false, f.long)))

    alike : (k : ℕ) → i ≤ k → get_or (set list i v) k 0 ≡ get_or wanted k 0
    alike k h =
        elim (ℕ_discrete k i) [
          | yes same ↦ rw same (here (ltb i (length list)) refl)
          | no other ↦ get_or-set_other list i k v 0 other ∙ f.alike k (omega arith)
        ]

fill_done : {list wanted : List ℕ} → FilledFrom 0 list wanted → list ≡ wanted
fill_done {list} {wanted} f = ext_get_or 0 list wanted f.long (λ k h. f.alike k (omega arith))

-- The loop, at point i of those that ds says the difference of, with so many numbers in the room and so many choices.
pub record Measuring (ds : List Bool) (numbers many : ℕ) (p : CostBehind) (room choices-list : List ℕ) (i : ℕ) : Type 0 where
  pub within : i ≤ length ds
  pub carried : p ≡ carried_from (drop i ds)
  room-from : FilledFrom i room (firsts numbers (rooms ds))
  choices-from : FilledFrom i choices-list (firsts many (choices ds))

pub measure-start : (ds : List Bool) (i : ℕ) {p : CostBehind} {room choices-list : List ℕ} (numbers many : ℕ) → length ds ≡ i → p ≡ at_end
    → room ≡ replicate numbers 0 → choices-list ≡ replicate many 0 → Measuring ds (length room) (length choices-list) p room choices-list i
unfolding carried_from
measure-start ds i {room = room} {choices-list = choices-list} numbers many all e r c =
    record {
      within = omega arith;
      carried = e ∙ rw (drop_of_length-le ds {i = i} (omega arith));
      room-from = fill_start (length room) (rooms ds) i (own numbers r) (λ k h. room-end ds k (omega arith));
      choices-from = fill_start (length choices-list) (choices ds) i (own many c) (λ k h. choice-end ds k (omega arith));
    }
  where
    own : {l : List ℕ} (m : ℕ) → l ≡ replicate m 0 → l ≡ replicate (length l) 0
    own {l} m e =
        let none : ℕ = 0 in
        let long : length l ≡ m = ap length e ∙ length-replicate m none in
        rw long e

pub measure-small : {ds : List Bool} {numbers many : ℕ} {p : CostBehind} {room choices-list : List ℕ} {i : ℕ} → length ds ≤ 1984
    → Measuring ds numbers many p room choices-list i → Bounded p
measure-small {ds} {i = i} few t = rw t.carried (carried-small (drop i ds) (rw length-drop (omega arith)))

pub measure-long : {ds : List Bool} {numbers many : ℕ} {p : CostBehind} {room choices-list : List ℕ} {i : ℕ}
    → Measuring ds numbers many p room choices-list i → length room ≡ numbers
measure-long {ds} {numbers} t = t.room-from.long ∙ length-firsts numbers (rooms ds)

pub measure-turn : {ds : List Bool} {numbers many : ℕ} {p q : CostBehind} {room choices-list room' choices-list' : List ℕ} {d : Bool} {j : ℕ} (i : ℕ) → j ≡ i + 1
    → d ≡ get_or ds i false → PointChosen d p i choices-list q choices-list' → room' ≡ set room i q.least
    → Measuring ds numbers many p room choices-list j → Measuring ds numbers many q room' choices-list' i
unfolding carried_from
measure-turn {ds} {numbers} {many} {p} {q} {room} {choices-list} {d = d} i e same step r t =
    let inside : i < length ds = omega (arith, t.within) in
    let rest : List Bool = drop (suc i) ds in
    let here : drop i ds ≡ d ∷ rest = drop-cons ds i false inside ∙ ap (λ (d : Bool). d ∷ rest) (sym same) in
    let costs : q ≡ carried_from (d ∷ rest) = step.carried ∙ rw (t.carried, e, add-one i) in
    record {
      within = omega arith;
      carried = costs ∙ ap carried_from (sym here);
      room-from =
          rw r
          (fill-turn room (firsts numbers (rooms ds)) i q.least
          (λ h. ap (λ (p : CostBehind). p.least) costs ∙ carried-least (d ∷ rest) ∙ ap (λ (l : List Bool). best 0 (rooms l)) (sym here) ∙ sym (room-at ds i (omega arith))
          ∙ sym (firsts_at numbers (rooms ds) i (omega (arith, t.room-from.long, length-firsts numbers (rooms ds)))))
          (rw (← e) t.room-from));
      choices-from =
          rw step.chosen
          (fill-turn choices-list (firsts many (choices ds)) i (cond d q.six 0)
          (λ h. ap (λ (p : CostBehind). cond d p.six 0) costs ∙ carried-choice d rest ∙ ap (λ (d : Bool). choice d (rooms rest)) same ∙ sym (choice-at ds i inside)
          ∙ sym (firsts_at many (choices ds) i (omega (arith, t.choices-from.long, length-firsts many (choices ds)))))
          (rw (← e) t.choices-from));
    }

-- At the first point.
pub record AllMeasured (ds : List Bool) (numbers many least : ℕ) (room choices-list : List ℕ) : Type 0 where
  pub low : least ≡ best 0 (rooms ds)
  pub room_whole : room ≡ firsts numbers (rooms ds)
  pub choices-whole : choices-list ≡ firsts many (choices ds)

pub measure-done : {ds : List Bool} {numbers many : ℕ} {p : CostBehind} {room choices-list : List ℕ} {i : ℕ} → i ≤ 0
    → Measuring ds numbers many p room choices-list i → AllMeasured ds numbers many p.least room choices-list
measure-done {ds} {i = i} h t =
    let e : i ≡ 0 = omega arith in
    record {
      low = ap (λ (p : CostBehind). p.least) (rw e at t.carried) ∙ carried-least ds;
      room_whole = fill_done (rw e at t.room-from);
      choices-whole = fill_done (rw e at t.choices-from);
    }
