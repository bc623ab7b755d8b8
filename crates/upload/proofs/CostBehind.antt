-- The four numbers that are carried from the last point back give the least bytes at each point, and at one that differs its choice.
use Prim.Native.Nat.{ℕ, zero, suc, ◌+◌, ◌*◌, ◌≤◌, ◌<◌, min}
use mathlib.Core.Path.{◌≡◌, refl, sym}
use mathlib.Core.Bool.{Bool, true, false, cond}
use mathlib.Core.List.{List, [], ◌∷◌}
use native.Mathlib.Numerals.{add-one}
use native.Mathlib.Omega.{arith}
use borrow.Author.Tests.{leb-true, leb-false, ltb-true, ltb-false}
use lib.ListN.{length}
use lib.Dec.{leb, ltb}
use Rattle.upload.specs.Cost.{best, rooms, more, choice}
use Rattle.upload.specs.Internal.{CostBehind, costs, at_end, passed, opened, at_point, Bounded}
use Rattle.upload.proofs.Best.{best-end, best-bound}

-- What the open packet takes more costs as little as k points could, and nothing smaller does.
more-best : (k : ℕ) (r : List ℕ) → best (more k r) r ≡ best k r
unfolding best more
more-best zero r = refl
more-best (suc k) [] = refl
more-best (suc k) (x ∷ r) = go (leb x (4 + best k r)) refl (more-best k r)
  where
    go : (b : Bool) → leb x (4 + best k r) ≡ b → best (more k r) r ≡ best k r → best (more (suc k) (x ∷ r)) (x ∷ r) ≡ best (suc k) (x ∷ r)
    go true e h = rw e (omega (arith, leb-true))
    go false e h = rw e (omega arith)

more-first : (k j : ℕ) (r : List ℕ) → best j r ≡ best k r → more k r ≤ j
unfolding best more
more-first zero j r h = omega arith
more-first (suc k) j [] h = omega arith
more-first (suc k) j (x ∷ r) h = go (leb x (4 + best k r)) refl j h (λ i. more-first k i r)
  where
    go : (b : Bool) → leb x (4 + best k r) ≡ b → (j : ℕ) → best j (x ∷ r) ≡ best (suc k) (x ∷ r)
        → ((i : ℕ) → best i r ≡ best k r → more k r ≤ i) → more (suc k) (x ∷ r) ≤ j
    go true e j h f = rw e (omega arith)
    go false e zero h f = absurd (omega (arith, leb-false))
    go false e (suc j) h f = rw e (omega (arith, f j (omega (arith, leb-false))))

-- 1 exactly if a ≤ k. It goes by recursion, so that it computes where both are one more.
past : ℕ → ℕ → ℕ
past zero k = 1
past (suc a) zero = 0
past (suc a) (suc k) = past a k

past-le : (a k : ℕ) → a ≤ k → past a k ≡ 1
unfolding past
past-le zero k h = refl
past-le (suc a) zero h = absurd (omega arith)
past-le (suc a) (suc k) h = past-le a k (omega arith)

past-lt : (a k : ℕ) → k < a → past a k ≡ 0
unfolding past
past-lt zero k h = absurd (omega arith)
past-lt (suc a) zero h = refl
past-lt (suc a) (suc k) h = past-lt a k (omega arith)

past_is : (a k : ℕ) → past a k ≡ 1 → a ≤ k
unfolding past
past_is zero k h = omega arith
past_is (suc a) zero h = absurd (omega arith)
past_is (suc a) (suc k) h = omega (arith, past_is a k h)

past-falls : (a b k : ℕ) → a ≤ b → (past b k ≤ past a k) × (past a k ≤ 1)
unfolding past
past-falls zero zero k h = (omega arith, omega arith)
past-falls zero (suc b) zero h = (omega arith, omega arith)
past-falls zero (suc b) (suc k) h = past-falls zero b k (omega arith)
past-falls (suc a) zero k h = absurd (omega arith)
past-falls (suc a) (suc b) zero h = (omega arith, omega arith)
past-falls (suc a) (suc b) (suc k) h = past-falls a b k (omega arith)

-- What the numbers at a point say of the points ds from there on: with k points more to take the least bytes are 2 fewer for each of
-- the three that k reaches.
record Tells (ds : List Bool) (p : CostBehind) : Type 0 where
  some : 1 ≤ p.two
  first : p.two ≤ p.four
  second : p.four ≤ p.six
  few : p.six ≤ 126
  level : (k : ℕ) → k ≤ 125 → best k (rooms ds) + 2 * (past p.two k + past p.four k + past p.six k) ≡ p.least

-- With none to take.
tells-least : {ds : List Bool} {p : CostBehind} → Tells ds p → best 0 (rooms ds) ≡ p.least
tells-least {p = p} t =
    omega (
      arith,
      t.level 0 (omega arith),
      past-lt p.two 0 t.some,
      past-lt p.four 0 (omega (arith, t.some, t.first)),
      past-lt p.six 0 (omega (arith, t.some, t.first, t.second)),
    )

tells-end : Tells [] (costs 0 126 126 126)
tells-end =
    record {
      some = omega arith;
      first = omega arith;
      second = omega arith;
      few = omega arith;
      level = λ k h. omega (arith, best-end k, past-lt 126 k (omega arith));
    }

past_next : (a k : ℕ) → past (a + 1) (suc k) ≡ past a k
unfolding past
past_next a k = rw add-one

module _ {ds : List Bool} {p : CostBehind} (t : Tells ds p) where
  abbrev a : ℕ
  a = p.two

  abbrev b : ℕ
  b = p.four

  abbrev c : ℕ
  c = p.six

  -- A point that does not differ.
  next-six : (k : ℕ) → k < 125 → past (min 126 (c + 1)) (suc k) ≡ past c k
  unfolding past
  next-six k h = go (ltb c 126) refl
    where
      go : (x : Bool) → ltb c 126 ≡ x → past (min 126 (c + 1)) (suc k) ≡ past c k
      go true e = let m : min 126 (c + 1) ≡ suc c = omega (arith, ltb-true) in rw m
      go false e =
          let m : min 126 (c + 1) ≡ 126 = omega (arith, ltb-false) in
          let f : c ≡ 126 = omega (arith, ltb-false, t.few) in
          rw (m, f, past-lt 126 k (omega arith), past-lt 126 (suc k) (omega arith))

  tells-pass : Tells (false ∷ ds) (passed p)
  unfolding best rooms
  tells-pass =
      record {
        some = omega arith;
        first = omega arith;
        second = omega arith;
        few = omega arith;
        level = level;
      }
    where
      level : (k : ℕ) → k ≤ 125 → best k (rooms (false ∷ ds)) + 2 * (past (min 126 (c + 1)) k + past 126 k + past 126 k) ≡ p.least
      level zero h = omega (arith, tells-least t, past-lt (min 126 (c + 1)) 0 (omega arith), past-lt 126 0 (omega arith))
      level (suc k) h =
          omega (
            arith,
            tells-least t,
            t.level k (omega arith),
            past-falls a b k t.first,
            past-falls b c k t.second,
            next-six k (omega arith),
            past-lt 126 (suc k) (omega arith),
          )

  -- A point that differs. Of the three numbers k points reach so many, and those of a whole packet s.
  abbrev reached : ℕ → ℕ
  reached k = past a k + past b k + past c k

  ordered : (k : ℕ) → (past c k ≤ past b k) × (past b k ≤ past a k) × (past a k ≤ 1)
  ordered k = ((past-falls b c k t.second).0, (past-falls a b k t.first).0, (past-falls a b k t.first).1)

  -- The packet opens at 10 bytes and saves 2 × s of them. So for the new numbers q the s that were reached are one further on, and the
  -- others are reached by the point itself; and the packet takes the m points more that s asks for.
  opens : (s : ℕ) (q : CostBehind) → reached 125 ≡ s → q.least + 2 * s ≡ p.least + 10 → 1 ≤ q.two → q.two ≤ q.four → q.four ≤ q.six → q.six ≤ 126
      → ((k : ℕ) → k ≤ 125 → past q.two (suc k) + past q.four (suc k) + past q.six (suc k) + s ≡ 3 + reached k)
      → (m : ℕ) → m ≤ 125 → q.six ≡ m + 1 → reached m ≡ s → ((k : ℕ) → k ≤ 125 → reached k ≡ s → m ≤ k)
      → Tells (true ∷ ds) q × (suc (more 125 (rooms ds)) ≡ q.six)
  unfolding best rooms
  opens s q all least some first second few sums m inside six enough smallest = (
    record { some = some; first = first; second = second; few = few; level = level },
    omega (
      arith,
      more-first 125 m (rooms ds) (omega (arith, t.level m inside, t.level 125 (omega arith))),
      smallest (more 125 (rooms ds)) most (omega (arith, more-best 125 (rooms ds), t.level 125 (omega arith), t.level (more 125 (rooms ds)) most)),
    ),
  )
    where
      most : more 125 (rooms ds) ≤ 125
      most = more-first 125 125 (rooms ds) refl

      level : (k : ℕ) → k ≤ 125 → best k (rooms (true ∷ ds)) + 2 * (past q.two k + past q.four k + past q.six k) ≡ q.least
      level zero h = omega (arith, t.level 125 (omega arith), past-lt q.two 0 some, past-lt q.four 0 (omega arith), past-lt q.six 0 (omega arith))
      level (suc k) h = omega (arith, t.level 125 (omega arith), t.level k (omega arith), sums k (omega arith), ordered 125)

  -- All three, two, one or none of them are reached.
  tells-open : Tells (true ∷ ds) (opened p) × (suc (more 125 (rooms ds)) ≡ (opened p).six)
  tells-open = go (ltb c 126) (ltb b 126) (ltb a 126) refl refl refl
    where
      go : (x y z : Bool) → ltb c 126 ≡ x → ltb b 126 ≡ y → ltb a 126 ≡ z → Tells (true ∷ ds) (opened p) × (suc (more 125 (rooms ds)) ≡ (opened p).six)
      go true y z e f g =
          let h : c < 126 = ltb-true c 126 e in
          rw e
          (opens 3 (costs (p.least + 4) (a + 1) (b + 1) (c + 1)) (omega (arith, ordered 125, past-le c 125 (omega arith))) (omega arith) (omega arith) (omega (arith, t.first)) (omega (arith, t.second)) (omega arith)
          (λ k l. omega (arith, past_next a k, past_next b k, past_next c k)) c (omega arith) refl (omega (arith, ordered c, past-le c c (omega arith)))
          (λ k l r. past_is c k (omega (arith, ordered k))))
      go false true z e f g =
          let far : 126 ≤ c = ltb-false c 126 e in
          let h : b < 126 = ltb-true b 126 f in
          rw (e, f)
          (opens 2 (costs (p.least + 6) 1 (a + 1) (b + 1)) (omega (arith, ordered 125, past-le b 125 (omega arith), past-lt c 125 (omega arith))) (omega arith) (omega arith) (omega arith) (omega (arith, t.first)) (omega arith)
          (λ k l. omega (arith, past-le 1 (suc k) (omega arith), past_next a k, past_next b k, past-lt c k (omega arith))) b (omega arith) refl
          (omega (arith, ordered b, past-le b b (omega arith), past-lt c b (omega arith)))
          (λ k l r. past_is b k (omega (arith, ordered k, past-lt c k (omega arith)))))
      go false false true e f g =
          let far : 126 ≤ b = ltb-false b 126 f in
          let h : a < 126 = ltb-true a 126 g in
          rw (e, f, g)
          (opens 1 (costs (p.least + 8) 1 1 (a + 1)) (omega (arith, ordered 125, past-le a 125 (omega arith), past-lt b 125 (omega arith))) (omega arith) (omega arith) (omega arith) (omega arith) (omega arith)
          (λ k l. omega (arith, ordered k, past-le 1 (suc k) (omega arith), past_next a k, past-lt b k (omega arith))) a (omega arith) refl
          (omega (arith, ordered a, past-le a a (omega arith), past-lt b a (omega arith)))
          (λ k l r. past_is a k (omega (arith, ordered k, past-lt b k (omega arith)))))
      go false false false e f g =
          let far : 126 ≤ a = ltb-false a 126 g in
          rw (e, f, g)
          (opens 0 (costs (p.least + 10) 1 1 1) (omega (arith, ordered 125, past-lt a 125 (omega arith))) (omega arith) (omega arith) (omega arith) (omega arith) (omega arith)
          (λ k l. omega (arith, ordered k, past-le 1 (suc k) (omega arith), past-lt a k (omega arith))) 0 (omega arith) refl (omega (arith, ordered 0, past-lt a 0 (omega arith)))
          (λ k l r. omega arith))

-- What is carried at the first of the points.
unfoldable pub carried_from : List Bool → CostBehind
carried_from [] = at_end
carried_from (d ∷ ds) = at_point d (carried_from ds)

tells : (ds : List Bool) → Tells ds (carried_from ds)
unfolding carried_from
tells [] = tells-end
tells (false ∷ ds) = tells-pass (tells ds)
tells (true ∷ ds) = (tells-open (tells ds)).0

pub same-carried : {l l' a a' b b' c c' : ℕ} → l ≡ l' → a ≡ a' → b ≡ b' → c ≡ c' → costs l a b c ≡ costs l' a' b' c'
same-carried e f g h = cc (e, f, g, h)

-- What the code's loop asks of the numbers at a point: the least bytes from there on, the choice at one that differs, and that all of
-- them are small.
pub carried-least : (ds : List Bool) → (carried_from ds).least ≡ best 0 (rooms ds)
carried-least ds = sym (tells-least (tells ds))

pub carried-choice : (d : Bool) (ds : List Bool) → cond d (carried_from (d ∷ ds)).six 0 ≡ choice d (rooms ds)
unfolding carried_from
carried-choice false ds = refl
carried-choice true ds = sym (tells-open (tells ds)).1

pub carried-small : (ds : List Bool) → length ds ≤ 1984 → Bounded (carried_from ds)
carried-small ds h =
    let t = tells ds in
    record {
      least = omega (arith, carried-least ds, best-bound 0 (length ds) ds (omega arith));
      two = omega (arith, t.first, t.second, t.few);
      four = omega (arith, t.second, t.few);
      six = t.few;
    }
