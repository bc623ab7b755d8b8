-- What stores, fills and tests say of the numbers that bytes hold.
use Prim.Native.Nat.{ℕ, suc, ◌+◌, ◌*◌, ◌/◌, ◌%◌, ◌≤◌, ◌<◌}
use mathlib.Core.Path.{◌≡◌, refl, sym, ap, ◌∙◌}
use mathlib.Core.Bool.{Bool, true, false, not, ◌&&◌}
use mathlib.Core.List.{List, [], ◌∷◌}
use native.Mathlib.Omega.{arith}
use borrow.Author.Tests.{eqb-true, eqb-false, eq-eqb, ne_eqb}
use lib.Dec.{eqb}
use lib.ListN.{length, drop, get_or, set, replicate, length-replicate}
use lib.Seq.{ext_get_or, sets, length-sets}
use Rattle.wire.specs.Numbers.{word_bytes}
use Rattle.std.proofs.lemmas.List.{get_or-replicate}
use Rattle.wire.specs.Tables.{words, longs}
use Rattle.wire.proofs.Tables.{pairs_set, long-at}
use Rattle.wire.proofs.Copies.{sets-paste, behind-paste}
use Rattle.planning.specs.Rooms.{length-longs}

-- Two 16-bit numbers, and a 32-bit one.
pub put-words : (s : List ℕ) (p a b : ℕ) {s₁ s₂ : List ℕ} → s₁ ≡ sets s (4 * p) (word_bytes a) → s₂ ≡ sets s₁ (4 * p + 2) (word_bytes b)
    → words s₂ ≡ sets (words s) (2 * p) (a ∷ b ∷ [])
put-words s p a b {s₁} e f =
    let low : 4 * p ≡ 2 * (2 * p) = omega arith in
    let high : 4 * p + 2 ≡ 2 * suc (2 * p) = omega arith in
    rw (f, high, pairs_set 256 s₁ (suc (2 * p)) b, e, low, pairs_set 256 s (2 * p) a)

pub put-longs : (s : List ℕ) (i v : ℕ) {s₁ s₂ : List ℕ} → s₁ ≡ sets s (4 * i) (word_bytes (v % 65536)) → s₂ ≡ sets s₁ (4 * i + 2) (word_bytes (v / 65536))
    → longs s₂ ≡ set (longs s) i v
put-longs s i v e f = rw (put-words s i (v % 65536) (v / 65536) e f) (pairs_set 65536 (words s) i v)

-- A store of a word changes nothing behind it.
pub behind-put : (s : List ℕ) (m at v : ℕ) {s₁ : List ℕ} → s₁ ≡ sets s at (word_bytes v) → at + 2 ≤ m → m ≤ length s
    → (drop m s₁ ≡ drop m s) × (length s₁ ≡ length s)
behind-put s m at v e h within = (
  ap (drop m) (e ∙ sets-paste s at (word_bytes v) (omega arith)) ∙ behind-paste s (word_bytes v) at 2 (omega arith) (omega arith) m h,
  ap length e ∙ length-sets s at (word_bytes v),
)

-- Zeros in all whole numbers.
pub zero-longs : (s zeros : List ℕ) → length zeros ≡ length s → ((k : ℕ) → k < 4 * (length s / 4) → get_or zeros k 0 ≡ 0)
    → longs zeros ≡ replicate (length (longs s)) 0
zero-longs s zeros long e =
    let none : ℕ = 0 in
    ext_get_or 0 (longs zeros) (replicate (length (longs s)) none)
    (omega (arith, length-longs zeros, length-longs s, length-replicate (length (longs s)) none))
    (λ i l.
    let inside : i < length s / 4 = omega (arith, length-longs zeros) in
    let many : i < length (longs s) = omega (arith, length-longs s) in
    let number = long-at zeros i (omega arith) in
    let zero_there : get_or (longs zeros) i 0 ≡ 0 =
    omega (arith, number, e (4 * i) (omega arith), e (4 * i + 1) (omega arith), e (4 * i + 2) (omega arith), e (4 * i + 2 + 1) (omega arith)) in
    zero_there ∙ sym (get_or-replicate (length (longs s)) i 0 0 many))

-- A point's two numbers as one.
pub one-differs : (a b c d : ℕ) → a < 65536 → c < 65536 → not (eqb (a + 65536 * b) (c + 65536 * d)) ≡ not (eqb a c && eqb b d)
one-differs a b c d h g = go (eqb a c) (eqb b d) refl refl
  where
    go : (x y : Bool) → eqb a c ≡ x → eqb b d ≡ y → not (eqb (a + 65536 * b) (c + 65536 * d)) ≡ not (eqb a c && eqb b d)
    go true true e f =
        let same : a + 65536 * b ≡ c + 65536 * d = omega (arith, eqb-true a c e, eqb-true b d f) in
        rw (e, f, eq-eqb (a + 65536 * b) (c + 65536 * d) same)
    go true false e f =
        let other : b ≡ d → ⊥ = eqb-false b d f in
        rw (e, f, ne_eqb (a + 65536 * b) (c + 65536 * d) (λ z. other (omega arith)))
    go false y e f =
        let other : a ≡ c → ⊥ = eqb-false a c e in
        rw (e, ne_eqb (a + 65536 * b) (c + 65536 * d) (λ z. other (omega arith)))
