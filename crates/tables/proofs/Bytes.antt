-- What is done to a table's bytes, said of its numbers. tb is a table as its bytes: an even count, each below 256. Numbers and bytes turn into
-- each other without loss, and n numbers from a place on are 2 * n bytes from twice that place on.
use Prim.Native.Nat.{ℕ, zero, suc, ◌+◌, ◌*◌, ◌/◌, ◌%◌, ◌≤◌, ◌<◌}
use mathlib.Core.Path.{◌≡◌, refl, sym, ap, ◌∙◌}
use mathlib.Core.List.{List, [], ◌∷◌, ◌++◌}
use native.Mathlib.Omega.{arith}
use lib.ListN.{length, take, drop, get_or, replicate}
use lib.Seq.{paste, length_paste_head, length-take-le, take_all}
use Rattle.wire.specs.Tables.{words, bytes}
use Rattle.wire.proofs.Tables.{pairs-halves, halves_pairs, length_pairs, halves-take, halves-drop, pairs_below, pairs-append, pairs-take, pairs-drop}

-- Every element is below a bound.
abbrev pub Below : ℕ → List ℕ → Type 0
Below b l = (k : ℕ) → get_or l k 0 < b

take_below : (b n : ℕ) (l : List ℕ) → Below b l → Below b (take n l)
take_below b zero l h k = omega (arith, h 0)
take_below b (suc n) [] h k = h k
take_below b (suc n) (x ∷ l) h zero = h 0
take_below b (suc n) (x ∷ l) h (suc k) = take_below b n l (λ j. h (suc j)) k

-- Numbers, their bytes and back: numbers of any size.
pub words-bytes : (l : List ℕ) → words (bytes l) ≡ l
words-bytes l = pairs-halves 256 l

-- Two bytes a number, which is below 65536.
pub length-words : (tb : List ℕ) → length (words tb) ≡ length tb / 2
length-words tb = length_pairs 256 tb

pub length-words-of : (tb : List ℕ) (n : ℕ) → length tb ≡ 2 * n → length (words tb) ≡ n
length-words-of tb n e = omega (arith, length-words tb)

pub words-below : (tb : List ℕ) → Below 256 tb → Below 65536 (words tb)
words-below tb small = pairs_below 256 tb small

-- Bytes, their numbers and back.
pub bytes-words : (tb : List ℕ) → length tb % 2 ≡ 0 → Below 256 tb → bytes (words tb) ≡ tb
bytes-words tb even small = halves_pairs 256 tb even small

-- A part.
pub bytes-part : (tb : List ℕ) → length tb % 2 ≡ 0 → Below 256 tb → (from n : ℕ)
    → bytes (take n (drop from (words tb))) ≡ take (2 * n) (drop (2 * from) tb)
bytes-part tb even small from n = rw (halves-take, halves-drop, bytes-words tb even small)

-- Zeros, as numbers and as bytes.
halves-zeros : (m : ℕ) → bytes (replicate m 0) ≡ replicate (2 * m) 0
halves-zeros zero = refl
halves-zeros (suc m) = let e : 2 * suc m ≡ suc (suc (2 * m)) = omega arith in rw (e, halves-zeros m)

pub zero-bytes : (tb : List ℕ) → length tb % 2 ≡ 0 → bytes (replicate (length tb / 2) 0) ≡ replicate (length tb) 0
zero-bytes tb even =
    let e : 2 * (length tb / 2) ≡ length tb = omega arith in
    halves-zeros (length tb / 2) ∙ ap (λ (m : ℕ). replicate m 0) e

-- A number that is there has both its bytes there.
pub both-bytes : (tb : List ℕ) (i : ℕ) → i < length (words tb) → 2 * i + 1 < length tb
both-bytes tb i h = omega (arith, length-words tb)

-- Numbers copied as their bytes.
pub words-paste : (d : List ℕ) (at : ℕ) (s : List ℕ) (n : ℕ) → 2 * at + 2 * n ≤ length d → 2 * n ≤ length s
    → words (paste d (2 * at) s (2 * n)) ≡ paste (words d) at (words s) n
words-paste d at s n hd hs =
    let head = take (2 * at) d in
    let front = length_paste_head d (2 * at) s (2 * n) (omega arith) hs in
    let long = length-take-le (2 * at) d (omega arith) in
    let behind : 2 * at + 2 * n ≡ 2 * (at + n) = omega arith in
    pairs-append 256 (head ++ take (2 * n) s) (drop (2 * at + 2 * n) d) (omega arith)
    ∙ ap (λ l. l ++ words (drop (2 * at + 2 * n) d)) (pairs-append 256 head (take (2 * n) s) (omega arith))
    ∙ rw (pairs-take, pairs-take, behind, pairs-drop) refl

-- Whatever bytes there are, those of their numbers are the first of them.
pub bytes-words-first : (tb : List ℕ) → Below 256 tb → bytes (words tb) ≡ take (2 * length (words tb)) tb
bytes-words-first tb small =
    let n = length (words tb) in
    let first = take (2 * n) tb in
    let long : length first ≡ 2 * n = length-take-le (2 * n) tb (omega (arith, length-words tb)) in
    let same : words first ≡ words tb = pairs-take 256 n tb ∙ take_all n (words tb) (omega arith) in
    ap bytes (sym same) ∙ bytes-words first (omega arith) (take_below 256 (2 * n) tb small)
