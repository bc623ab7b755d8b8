-- Where maps differ: parts of maps, and a map into which points are written. Each law goes two numbers, a point, at a time.
use Prim.Native.Nat.{ℕ, zero, suc, ◌+◌, ◌*◌, ◌/◌, ◌%◌, ◌≤◌, ◌<◌, min}
use mathlib.Core.Path.{◌≡◌, refl, sym, ap, ◌∙◌}
use mathlib.Core.Bool.{false, not, ◌&&◌}
use mathlib.Core.List.{List, [], ◌∷◌, ◌++◌, append_assoc}
use native.Mathlib.Omega.{arith}
use borrow.Author.Tests.{eq-eqb}
use lib.ListN.{length, take, drop, get_or, replicate, length-take, length-drop, take-append-drop}
use lib.Seq.{take-nil, drop-nil, take-length, drop-drop, paste}
use lib.Dec.{eqb}
use Rattle.wire.proofs.Tests.{told}
use Rattle.upload.specs.Cost.{differs}
use Rattle.upload.specs.Plain.{MapsLent}

double : (n : ℕ) → 2 * suc n ≡ suc (suc (2 * n))
double n = omega arith

differs-nil : (h : List ℕ) → differs h [] ≡ []
unfolding differs
differs-nil [] = refl
differs-nil (x ∷ []) = refl
differs-nil (x ∷ y ∷ h) = refl

pub length-differs : (h w : List ℕ) → length (differs h w) ≡ min (length h / 2) (length w / 2)
unfolding differs
length-differs [] w = omega arith
length-differs (x ∷ []) w = omega arith
length-differs (x ∷ y ∷ h) [] = omega arith
length-differs (x ∷ y ∷ h) (a ∷ []) = omega arith
length-differs (x ∷ y ∷ h) (a ∷ b ∷ w) = omega (arith, length-differs h w)

pub differs-long : (n : ℕ) (m w : List ℕ) → length m ≡ 2 * n → length w ≡ 2 * n → length (differs m w) ≡ n
differs-long n m w e f = omega (arith, length-differs m w)

pub lent-long : {n : ℕ} {held wanted : List ℕ} → MapsLent 2 n held wanted → length (differs held wanted) ≡ n
lent-long {n} {held} {wanted} m = differs-long n held wanted m.held-long m.wanted-long

pub differs-take : (n : ℕ) (h w : List ℕ) → differs (take (2 * n) h) (take (2 * n) w) ≡ take n (differs h w)
unfolding differs
differs-take zero h w = refl
differs-take (suc n) [] w = rw (double n)
differs-take (suc n) (x ∷ []) w = rw (double n, take-nil)
differs-take (suc n) (x ∷ y ∷ h) [] = rw (double n)
differs-take (suc n) (x ∷ y ∷ h) (a ∷ []) = rw (double n, take-nil)
differs-take (suc n) (x ∷ y ∷ h) (a ∷ b ∷ w) = rw (double n, differs-take n h w)

pub differs-drop : (n : ℕ) (h w : List ℕ) → differs (drop (2 * n) h) (drop (2 * n) w) ≡ drop n (differs h w)
unfolding differs
differs-drop zero h w = refl
differs-drop (suc n) [] w = rw (double n)
differs-drop (suc n) (x ∷ []) w = rw (double n, drop-nil)
differs-drop (suc n) (x ∷ y ∷ h) [] = rw (double n) (differs-nil (drop (2 * n) h))
differs-drop (suc n) (x ∷ y ∷ h) (a ∷ []) = rw (double n, drop-nil) (differs-nil (drop (2 * n) h))
differs-drop (suc n) (x ∷ y ∷ h) (a ∷ b ∷ w) = rw (double n, differs-drop n h w)

differs-append : (h w s t : List ℕ) → length h ≡ length w → length h % 2 ≡ 0 → differs (h ++ s) (w ++ t) ≡ differs h w ++ differs s t
unfolding differs
differs-append [] [] s t e p = refl
differs-append [] (a ∷ w) s t e p = absurd (omega arith)
differs-append (x ∷ []) w s t e p = absurd (omega arith)
differs-append (x ∷ y ∷ h) [] s t e p = absurd (omega arith)
differs-append (x ∷ y ∷ h) (a ∷ []) s t e p = absurd (omega arith)
differs-append (x ∷ y ∷ h) (a ∷ b ∷ w) s t e p = rw (differs-append h w s t (omega arith) (omega arith))

-- A map does not differ from itself; and one that differs nowhere is the same.
pub differs-self : (n : ℕ) (l : List ℕ) → length l ≡ 2 * n → differs l l ≡ replicate n false
unfolding differs
differs-self zero [] e = refl
differs-self zero (x ∷ l) e = absurd (omega arith)
differs-self (suc n) [] e = absurd (omega arith)
differs-self (suc n) (x ∷ []) e = absurd (omega arith)
differs-self (suc n) (x ∷ y ∷ l) e = rw (eq-eqb x x refl, eq-eqb y y refl, differs-self n l (omega arith))

pub differs_none : (n : ℕ) (h w : List ℕ) → length h ≡ 2 * n → length w ≡ 2 * n → differs h w ≡ replicate n false → h ≡ w
unfolding differs
differs_none zero [] [] e f g = refl
differs_none zero [] (a ∷ w) e f g = absurd (omega arith)
differs_none zero (x ∷ h) w e f g = absurd (omega arith)
differs_none (suc n) [] w e f g = absurd (omega arith)
differs_none (suc n) (x ∷ []) w e f g = absurd (omega arith)
differs_none (suc n) (x ∷ y ∷ h) [] e f g = absurd (omega arith)
differs_none (suc n) (x ∷ y ∷ h) (a ∷ []) e f g = absurd (omega arith)
differs_none (suc n) (x ∷ y ∷ h) (a ∷ b ∷ w) e f g =
    let head : not (eqb x a && eqb y b) ≡ false = cc in
    let rest : differs h w ≡ replicate n false = cc in
    let first : x ≡ a = search (told, head) in
    let second : y ≡ b = search (told, head) in
    rw (first, second, differs_none n h w (omega arith) (omega arith) rest)

-- A list cut in three.
pub cut {ℓ} : {A : Type ℓ} (s c : ℕ) (l : List A) → l ≡ take s l ++ (take c (drop s l) ++ drop (s + c) l)
cut s c l = sym (rw (← drop-drop c s l, take-append-drop c (drop s l)) (take-append-drop s l))

-- Of points written into a map only those change.
pub differs-write : (m w pts : List ℕ) (s c : ℕ) → length m ≡ length w → length pts ≡ 2 * c → 2 * s + 2 * c ≤ length m
    → differs (paste m (2 * s) pts (length pts)) w
    ≡ take s (differs m w) ++ (differs pts (take (2 * c) (drop (2 * s) w)) ++ drop (s + c) (differs m w))
differs-write m w pts s c e f h =
    let twice : 2 * s + 2 * c ≡ 2 * (s + c) = omega arith in
    let wide : length (take (2 * s) m) ≡ length (take (2 * s) w) = simp length-take (omega arith) in
    let even : length (take (2 * s) m) % 2 ≡ 0 = simp length-take (omega arith) in
    let same : length pts ≡ length (take (2 * c) (drop (2 * s) w)) = simp (length-take, length-drop) (omega arith) in
    rw (take-length pts, f, append_assoc, twice)
    (ap (differs (take (2 * s) m ++ (pts ++ drop (2 * (s + c)) m))) (cut (2 * s) (2 * c) w)
    ∙ rw (differs-append _ _ _ _ wide even, differs-append pts _ _ _ same (omega arith), twice, differs-take, differs-drop))

-- A point differs if one of its two numbers does.
pub differs_at : (h w : List ℕ) (i : ℕ) → 2 * i + 1 < length h → 2 * i + 1 < length w
    → get_or (differs h w) i false ≡ not (eqb (get_or h (2 * i) 0) (get_or w (2 * i) 0) && eqb (get_or h (2 * i + 1) 0) (get_or w (2 * i + 1) 0))
unfolding differs
differs_at [] w i l k = absurd (omega arith)
differs_at (x ∷ []) w i l k = absurd (omega arith)
differs_at (x ∷ y ∷ h) [] i l k = absurd (omega arith)
differs_at (x ∷ y ∷ h) (a ∷ []) i l k = absurd (omega arith)
differs_at (x ∷ y ∷ h) (a ∷ b ∷ w) zero l k = refl
differs_at (x ∷ y ∷ h) (a ∷ b ∷ w) (suc i) l k =
    let high : 2 * suc i + 1 ≡ suc (suc (2 * i + 1)) = omega arith in
    let low : 2 * suc i ≡ suc (suc (2 * i)) = omega arith in
    rw (high, low) (differs_at h w i (omega arith) (omega arith))
