-- Loops that write a list over the start of a buffer, an element or a number's two bytes a turn. Each is a copy to the place 0, of which
-- wire's law speaks; at the end the list stands over the start, and where it is as long as the buffer it is all that stands there.
use Prim.Native.Nat.{ℕ, zero, suc, ◌+◌, ◌*◌, ◌/◌, ◌%◌, ◌≤◌, ◌<◌}
use mathlib.Core.Path.{◌≡◌, refl, ◌∙◌}
use mathlib.Core.List.{List, [], ◌∷◌, append-nil}
use native.Mathlib.Nat.{zero-add}
use native.Mathlib.Omega.{arith}
use lib.ListN.{length, take, drop, get_or, set, length-take, length-drop, drop_of_length-le}
use lib.Seq.{sets, take-length}
use Rattle.wire.specs.Buffers.{over}
use Rattle.wire.specs.Numbers.{word_bytes}
use Rattle.wire.specs.Tables.{bytes}
use Rattle.wire.proofs.Laws as laws
use Rattle.wire.proofs.Laws.{Copying}
use Rattle.wire.proofs.Tables.{length-halves}

-- The first i elements of s stand over the start of d₀.
abbrev pub Begun : List ℕ → List ℕ → List ℕ → ℕ → Type 0
Begun s d₀ d i = Copying d₀ 0 s (length s) d i

pub start : (s d : List ℕ) → Begun s d d 0
start s d = laws.start d 0 s (length s)

pub turn : {s d₀ d : List ℕ} {i v : ℕ} → length s ≤ length d₀ → i < length s → v ≡ get_or s i 0 → Begun s d₀ d i → Begun s d₀ (set d i v) (i + 1)
turn {s} {d₀} {d} {i} {v} hd h e r = rw zero-add at (laws.turn (omega arith) (omega arith) h e r)

pub done : {s d₀ d : List ℕ} {i : ℕ} → length s ≤ i → Begun s d₀ d i → d ≡ over s d₀
unfolding over
done {s} {d₀} {d} {i} h r = laws.done h r ∙ rw (take-length, zero-add)

pub whole : {s d₀ d : List ℕ} {i : ℕ} → length s ≡ length d₀ → length s ≤ i → Begun s d₀ d i → d ≡ s
unfolding over
whole {s} {d₀} {d} {i} e h r = done h r ∙ rw (drop_of_length-le d₀ {i = length s} (omega arith), append-nil)

-- The two bytes of the number at i.
digits : (l : List ℕ) (i : ℕ) → (get_or l i 0 % 256 ≡ get_or (bytes l) (2 * i) 0) × (get_or l i 0 / 256 ≡ get_or (bytes l) (2 * i + 1) 0)
digits [] i = (refl, refl)
digits (n ∷ l) zero = (refl, refl)
digits (n ∷ l) (suc i) =
    let high : 2 * suc i + 1 ≡ suc (suc (2 * i + 1)) = omega arith in
    let low : 2 * suc i ≡ suc (suc (2 * i)) = omega arith in
    rw (high, low) (digits l i)

pub turn-word : (l : List ℕ) {d₀ d : List ℕ} {at i v : ℕ} → at + 2 * length l ≤ length d₀ → i < length l → v ≡ get_or l i 0
    → Copying d₀ at (bytes l) (2 * length l) d (2 * i)
    → Copying d₀ at (bytes l) (2 * length l) (sets d (at + 2 * i) (word_bytes v)) (2 * (i + 1))
turn-word l {d₀} {d} {at} {i} {v} hd h e r =
    let long = length-halves 256 l in
    let next : 2 * (i + 1) ≡ 2 * i + 1 + 1 = omega arith in
    let high : suc (at + 2 * i) ≡ at + (2 * i + 1) = omega arith in
    let two = digits l i in
    let low = laws.turn {v = get_or l i 0 % 256} hd (omega arith) (omega arith) two.0 r in
    rw (next, e, high) (laws.turn {v = get_or l i 0 / 256} hd (omega arith) (omega arith) two.1 low)

-- A part that is there is as long as it says.
pub part-long : (l : List ℕ) (from n : ℕ) → from + n ≤ length l → length (take n (drop from l)) ≡ n
part-long l from n h = simp (length-take, length-drop) (omega arith)
