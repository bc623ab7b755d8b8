-- What stands behind the numbers that bytes hold, a last byte alone, stays whatever is written
-- among them. So of bytes the numbers, and the same behind them, say each byte.
use Prim.Native.Nat.{ℕ, zero, suc, ◌+◌, ◌*◌, ◌%◌, ◌≤◌}
use mathlib.Core.Path.{◌≡◌, refl, sym, ap, ◌∙◌}
use mathlib.Core.List.{List, [], ◌∷◌, ◌++◌}
use native.Mathlib.Omega.{arith}
use lib.ListN.{length, take, drop, set}
use lib.Seq.{paste, sets, length-sets}
use Rattle.std.proofs.lemmas.List.{take-append-drop}
use Rattle.std.proofs.lemmas.List.Edits.{length-paste}
use Rattle.wire.specs.Tables.{words, bytes}
use Rattle.wire.proofs.Copies.{sets-paste, paste-front, behind-paste}
use Rattle.wire.proofs.Tables.{length-halves, halves-paste}
use Rattle.tables.specs.Behind.{SameBehind}
use Rattle.tables.proofs.Bytes.{Below, length-words, bytes-words-first}

-- Bytes copied over those of numbers, and a run of them stored there.
pub copied-behind : (d : List ℕ) (at : ℕ) (s : List ℕ) (n : ℕ)
    → at + n ≤ 2 * length (words d) → n ≤ length s → SameBehind 2 words (paste d at s n) d
copied-behind d at s n h long =
    let room : at + n ≤ length d = omega (arith, length-words d) in
    let whole = length-paste d at s n room long in
    let same : length (words (paste d at s n)) ≡ length (words d) =
    omega (arith, whole, length-words d, length-words (paste d at s n)) in
    rw same (behind-paste d s at n room long (2 * length (words d)) h)

pub stored-behind : (d : List ℕ) (at : ℕ) (s : List ℕ)
    → at + length s ≤ 2 * length (words d) → SameBehind 2 words (sets d at s) d
stored-behind d at s h =
    rw (sets-paste d at s (omega (arith, length-words d)))
    (copied-behind d at s (length s) h (omega arith))

-- The numbers alone say nothing of it: whatever a last byte alone is, they are the same.
pub last_alone : (s : List ℕ) (k v : ℕ)
    → length s % 2 ≡ 1 → length s ≤ k + 1 → words (set s k v) ≡ words s
last_alone [] k v odd h = refl
last_alone (x ∷ []) zero v odd h = refl
last_alone (x ∷ []) (suc k) v odd h = refl
last_alone (x ∷ y ∷ s) zero v odd h = absurd (omega arith)
last_alone (x ∷ y ∷ s) (suc zero) v odd h = absurd (omega arith)
last_alone (x ∷ y ∷ s) (suc (suc k)) v odd h =
    ap (λ l. (x + 256 * y) ∷ l) (last_alone s k v (omega arith) (omega arith))

-- What both clauses of `put`, `words_in`, `fill` and `runs_in` say of bytes: each one, a last one
-- alone too.
pub each-byte : (old new : List ℕ) (at : ℕ) (ns : List ℕ)
    → Below 256 old → Below 256 new → at + length ns ≤ length (words old)
    → words new ≡ sets (words old) at ns → SameBehind 2 words new old
    → new ≡ sets old (2 * at) (bytes ns)
each-byte old new at ns small small-new h e behind =
    let n = length (words old) in
    let first = bytes (words old) in
    let last : List ℕ = drop (2 * n) old in
    let written = bytes ns in
    let size = 2 * length ns in
    let many : length (words new) ≡ n = ap length e ∙ length-sets (words old) at ns in
    let long : length written ≡ size = length-halves 256 ns in
    let room : 2 * at + size ≤ length first = omega (arith, length-halves 256 (words old)) in
    let front : take (2 * n) new ≡ bytes (sets (words old) at ns) =
    rw many at (sym (bytes-words-first new small-new)) ∙ ap bytes e in
    let pasted : bytes (sets (words old) at ns) ≡ paste first (2 * at) written size =
    ap bytes (sets-paste (words old) at ns h) ∙ halves-paste 256 (words old) at ns (length ns) in
    let parts : first ++ last ≡ old =
    rw (bytes-words-first old small) (take-append-drop (2 * n) old) in
    let whole : sets old (2 * at) written ≡ paste old (2 * at) written size =
    rw long at (sets-paste old (2 * at) written (omega (arith, length-words old))) in
    sym (take-append-drop (2 * n) new)
    ∙ ap (λ l. l ++ drop (2 * n) new) (front ∙ pasted)
    ∙ ap (λ l. paste first (2 * at) written size ++ l) (rw many at behind)
    ∙ sym (paste-front first last (2 * at) written size room)
    ∙ ap (λ l. paste l (2 * at) written size) parts
    ∙ sym whole
