-- The plan is the list that rule 6.2 fixes: of the lists of parts in order that turn held into wanted by the judge of rule 7.1 it
-- costs least, of the cheapest it has the lexicographically least counts, and no other list has both.
use Prim.Native.Nat.{ℕ, zero, suc, ◌+◌, ◌-◌, ◌*◌, ◌≤◌, ◌<◌}
use mathlib.Core.Path.{◌≡◌, refl, sym, ap, ◌∙◌}
use mathlib.Core.Bool.{Bool, false}
use mathlib.Core.Logic.{◌⊎◌, inl, inr}
use mathlib.Core.List.{List, [], ◌∷◌, ◌++◌, append_assoc, map}
use native.Mathlib.Decide.{ℕ_discrete}
use native.Mathlib.Nat.{add-zero}
use native.Mathlib.Omega.{arith}
use lib.ListN.{length, take, drop, get_or, replicate, length-append, length-take, length-replicate, get_or-replicate, get_or-append}
use lib.Seq.{drop-drop, drop_at, get_or-take, get_or-drop}
use Rattle.packet.specs.Points.{map_after}
use Rattle.upload.specs.Cost.{differs}
use Rattle.upload.specs.Plan.{Part, plan_of, cost, packet_for, packets_of}
use Rattle.upload.specs.Judge.{maps_after, Turns, MapOf}
use Rattle.upload.specs.Parts.{part, InOrder, none, next, counts, Less, here, later, Uploads, Chosen}
use Rattle.upload.proofs.Covers.{Covers, done, inside, skip, begin, First, first, in-order-from, covers-least}
use Rattle.upload.proofs.Differs.{differs-long, differs-self}
use Rattle.upload.proofs.Lists.{part-after, demand3, plan-in-order, plan-cost}

-- Points before all parts stay as they are.
untouched : (n : ℕ) (w : List ℕ) → length w ≡ 2 * n → {i : ℕ} {ps : List Part} → InOrder n i ps → (m : List ℕ) → length m ≡ 2 * n → (j : ℕ) → j < i
    → get_or (differs (maps_after n (map (packet_for w) ps) m) w) j false ≡ get_or (differs m w) j false
unfolding maps_after
untouched n w wide none m long j h = refl
untouched n w wide (next {p = p} {ps = ps} l f r) m long j h =
    let a = part-after n w m p wide long f in
    let all = differs-long n m w long wide in
    let before : j < length (take p.start (differs m w)) = rw length-take (omega (arith, f.within, f.some)) in
    untouched n w wide r (map_after n (packet_for w p) m) a.long j (omega arith)
    ∙ ap (λ (l : List Bool). get_or l j false) a.differ
    ∙ get_or-append (take p.start (differs m w)) (replicate p.count false ++ drop (p.start + p.count) (differs m w)) false j before
    ∙ get_or-take p.start (differs m w) j false (omega arith)

-- What stands behind a place, c further on; and behind a part that was written.
behind : (i c j : ℕ) {ds : List Bool} (all : List Bool) → drop i all ≡ ds → j ≡ i + c → drop j all ≡ drop c ds
behind i c j all h e = rw e (sym (drop-drop c i all) ∙ ap (drop c) h)

behind-part : (s c : ℕ) (all : List Bool) → s + c ≤ length all
    → drop (s + c) (take s all ++ (replicate c false ++ drop (s + c) all)) ≡ drop (s + c) all
behind-part s c all h =
    rw (← append_assoc (take s all) (replicate c false) (drop (s + c) all))
    (drop_at (take s all ++ replicate c false) (drop (s + c) all) (s + c) (simp (length-append, length-take, length-replicate) (omega arith)))

-- A list in order that turns a map into wanted covers all that differs. Behind the point and the open packet the map is still as it was.
module _ (n : ℕ) (w : List ℕ) (wide : length w ≡ 2 * n) where
  -- A point before all parts does not differ.
  same_point : (i : ℕ) {d : Bool} {ds : List Bool} {ps : List Part} (m : List ℕ) → length m ≡ 2 * n → i < n → InOrder n (suc i) ps
      → drop i (differs m w) ≡ d ∷ ds → Turns n m w (map (packet_for w) ps) → d ≡ false
  same_point i {d} {ds} {ps} m long l r h t =
      sym (ap (λ (l : List Bool). get_or l 0 false) h)
      ∙ get_or-drop i (differs m w) 0 false
      ∙ ap (λ (j : ℕ). get_or (differs m w) j false) (add-zero i)
      ∙ sym (untouched n w wide r m long i (omega arith))
      ∙ ap (λ (m : List ℕ). get_or (differs m w) i false) t
      ∙ ap (λ (l : List Bool). get_or l i false) (differs-self n w wide)
      ∙ get_or-replicate n i false false l

  turns-cover : (ds : List Bool) (i k : ℕ) (ps : List Part) (m : List ℕ) → length m ≡ 2 * n → i + length ds ≡ n → i + k ≤ n
      → InOrder n (i + k) ps → drop (i + k) (differs m w) ≡ drop k ds → Turns n m w (map (packet_for w) ps) → Covers i k ds ps
  unfolding maps_after
  turns-cover [] i zero [] m long e l none h t = done
  turns-cover [] i zero (p ∷ ps) m long e l (next b f r) h t = absurd (omega arith)
  turns-cover [] i (suc k) ps m long e l r h t = absurd (omega arith)
  turns-cover (d ∷ ds) i (suc k) ps m long e l r h t =
      inside (turns-cover ds (suc i) k ps m long (omega arith) (omega arith) (in-order-from (suc i + k) (omega arith) r) (behind (i + suc k) 0 (suc i + k) (differs m w) h (omega arith)) t)
  turns-cover (d ∷ ds) i zero [] m long e l none h t =
      let here : drop i (differs m w) ≡ d ∷ ds = behind (i + 0) 0 i (differs m w) h (omega arith) in
      rw (same_point i {ps = []} m long (omega arith) none here t)
      (skip (turns-cover ds (suc i) 0 [] m long (omega arith) (omega arith) none (behind (i + 0) 1 (suc i + 0) (differs m w) h (omega arith)) t))
  turns-cover (d ∷ ds) i zero (p ∷ ps) m long e l (next b f r) h t =
      let here : drop i (differs m w) ≡ d ∷ ds = behind (i + 0) 0 i (differs m w) h (omega arith) in
      elim (ℕ_discrete p.start i) [
        | yes s ↦
            let c : ℕ = p.count - 1 in
            let m' : List ℕ = map_after n (packet_for w p) m in
            let after = part-after n w m p wide long f in
            let all = differs-long n m w long wide in
            let count : p.count ≡ suc c = omega (arith, f.some) in
            let same : p ≡ part i (suc c) = λ j. record { start = s j; count = count j } in
            let place : suc i + c ≡ p.start + p.count = omega arith in
            let rest : drop (suc i + c) (differs m' w) ≡ drop c ds =
            ap (λ (j : ℕ). drop j (differs m' w)) place
            ∙ ap (drop (p.start + p.count)) after.differ
            ∙ behind-part p.start p.count (differs m w) (omega (arith, f.within))
            ∙ behind i (suc c) (p.start + p.count) (differs m w) here (omega arith) in
            rw same
            (begin {c = c} (omega (arith, f.few))
            (turns-cover ds (suc i) c ps m' after.long (omega arith) (omega (arith, f.within)) (in-order-from (suc i + c) (omega arith) r) rest t))
        | no s ↦
            let r' : InOrder n (suc i + 0) (p ∷ ps) = next {i = suc i + 0} {p = p} (omega arith) f r in
            rw (same_point i {ps = p ∷ ps} m long (omega arith) (in-order-from (suc i) (omega arith) r') here t)
            (skip (turns-cover ds (suc i) 0 (p ∷ ps) m long (omega arith) (omega arith) r' (behind (i + 0) 1 (suc i + 0) (differs m w) h (omega arith)) t))
      ]

-- The order is one way only.
no-less : {a : List ℕ} → Less a [] → ⊥
no-less h = elim h [ ]

less-heads : {x y : ℕ} {a b : List ℕ} → Less (x ∷ a) (y ∷ b) → (x < y) ⊎ ((x ≡ y) × Less a b)
less-heads (here h) = inl h
less-heads (later h) = inr (refl, h)

less-asym : (a b : List ℕ) → Less a b → Less b a → ⊥
less-asym [] b h g = no-less g
less-asym (x ∷ a) [] h g = no-less h
less-asym (x ∷ a) (y ∷ b) h g =
    elim (less-heads h) [
      | inl l ↦ elim (less-heads g) [ inl m ↦ omega arith | inr m ↦ omega (arith, m.0) ]
      | inr l ↦ elim (less-heads g) [ inl m ↦ omega (arith, l.0) | inr m ↦ less-asym a b l.1 m.1 ]
    ]

module _ (n : ℕ) (held wanted : List ℕ) (h : MapOf n held) (w : MapOf n wanted) where
  pub uploads-cover : {ps : List Part} → Uploads n held wanted ps → Covers 0 0 (differs held wanted) ps
  uploads-cover {ps} u =
      turns-cover n wanted w.long (differs held wanted) 0 0 ps held h.long (omega (arith, differs-long n held wanted h.long w.long)) (omega arith)
      u.in_order refl u.turns

  -- A list that costs no more than the plan is the plan, or has greater counts.
  pub plan-first : (ps : List Part) → Uploads n held wanted ps → cost ps ≤ cost (plan_of held wanted) → First (plan_of held wanted) ps
  unfolding plan_of
  plan-first ps u h = first (uploads-cover u) h

  pub plan-chosen : Chosen n held wanted (plan_of held wanted)
  unfolding packets_of
  plan-chosen =
      record {
        uploads = record { in_order = plan-in-order n held wanted h.long w.long; turns = (demand3 n held wanted h w).turns };
        cheapest = λ qs u. omega (arith, plan-cost n held wanted h.long w.long, covers-least (omega arith) (uploads-cover u));
        earliest = λ qs u e. weaker qs (plan-first qs u (omega arith));
      }
    where
      weaker : (qs : List Part) → First (plan_of held wanted) qs → (counts (plan_of held wanted) ≡ counts qs) ⊎ Less (counts (plan_of held wanted)) (counts qs)
      weaker qs (inl e) = inl (ap counts e)
      weaker qs (inr l) = inr l

  -- No other that is cheapest has the same counts, so no other list is chosen.
  pub counts-only : (ps : List Part) → Uploads n held wanted ps → cost ps ≤ cost (plan_of held wanted) → counts ps ≡ counts (plan_of held wanted)
      → ps ≡ plan_of held wanted
  counts-only ps u e f = go (plan-first ps u e)
    where
      go : First (plan_of held wanted) ps → ps ≡ plan_of held wanted
      go (inl g) = sym g
      go (inr l) = let l' = rw f at l in absurd (less-asym _ _ l' l')

  pub chosen-only : (ps : List Part) → Chosen n held wanted ps → ps ≡ plan_of held wanted
  chosen-only ps c = go (plan-first ps c.uploads low) (c.earliest (plan_of held wanted) plan-chosen.uploads same)
    where
      low : cost ps ≤ cost (plan_of held wanted)
      low = c.cheapest (plan_of held wanted) plan-chosen.uploads

      same : cost (plan_of held wanted) ≡ cost ps
      same = omega (arith, low, plan-chosen.cheapest ps c.uploads)

      go : First (plan_of held wanted) ps → (counts ps ≡ counts (plan_of held wanted)) ⊎ Less (counts ps) (counts (plan_of held wanted))
          → ps ≡ plan_of held wanted
      go (inl e) g = sym e
      go (inr l) (inl f) = counts-only ps c.uploads low f
      go (inr l) (inr g) = absurd (less-asym _ _ l g)
