-- Parts of lists that are equal, element by element; and copies: what a copy writes stands there, and what lies apart from it stays. So whoever
-- looks at a part of a list needs to know only where copies go.
use Prim.Native.Nat.{ℕ, ◌+◌, ◌-◌, ◌≤◌, ◌<◌, min}
use mathlib.Core.Path.{◌≡◌, sym, ap, ◌∙◌}
use mathlib.Core.List.{List, [], ◌∷◌, ◌++◌, append_assoc}
use native.Mathlib.Decide.{dec_lt}
use native.Mathlib.Nat.{zero-add}
use native.Mathlib.Numerals.{one-add}
use native.Mathlib.Omega.{arith}
use lib.ListN.{length, take, drop, get_or, set, length-take, length-drop, get_or-append}
use lib.Seq.{length-take-le, get_or-take, get_or-drop, get_or-append-add, paste, length_paste_head, drop-paste, drop-drop, ext_get_or}
use lib.Seq.{sets, sets-eq, take_all, take-append-le, drop-append-le}
use Rattle.wire.specs.Buffers.{over}

-- n elements of a list, from a place on, are those of another, from a place on.
pub record Same (a : List ℕ) (i : ℕ) (b : List ℕ) (j n : ℕ) : Type 0 where
  pub each : (k : ℕ) → k < n → get_or a (i + k) 0 ≡ get_or b (j + k) 0

pub front : {a b : List ℕ} {i j n : ℕ} → Same a i b j n → (m : ℕ) → m ≤ n → Same a i b j m
front h m l = record { each = λ k lt. h.each k (omega arith) }

pub part : {a b : List ℕ} {i j n : ℕ} → Same a i b j n → (k m : ℕ) → k + m ≤ n → Same a (i + k) b (j + k) m
part {a} {b} {i} {j} h k m l =
    record {
      each =
          λ x lt.
          let e : i + k + x ≡ i + (k + x) = omega arith in
          let f : j + k + x ≡ j + (k + x) = omega arith in
          rw (e, f) (h.each (k + x) (omega arith));
    }

-- Equal elements make equal parts.
pub same-part : {a b : List ℕ} {i j n : ℕ} → Same a i b j n → i + n ≤ length a → j + n ≤ length b → take n (drop i a) ≡ take n (drop j b)
same-part {a} {b} {i} {j} {n} h la lb =
    let long : length (take n (drop i a)) ≡ n = simp (length-take, length-drop) (omega arith) in
    let same-long : length (take n (drop i a)) ≡ length (take n (drop j b)) = simp (length-take, length-drop) (omega arith) in
    ext_get_or 0 (take n (drop i a)) (take n (drop j b)) same-long
    (λ k lt.
    let inside : k < n = omega arith in
    get_or-take n (drop i a) k 0 inside ∙ get_or-drop i a k 0 ∙ h.each k inside ∙ sym (get_or-drop j b k 0)
    ∙ sym (get_or-take n (drop j b) k 0 inside))

-- A copy: the bytes that it writes are its source's, and the others stay.
module _ (d s : List ℕ) (place n : ℕ) (room : place + n ≤ length d) (long : n ≤ length s) where
  written : length (take place d ++ take n s) ≡ place + n
  written = length_paste_head d place s n (omega arith) long

  pub paste-there : Same (paste d place s n) place s 0 n
  paste-there =
      record {
        each =
            λ k lt.
            let head : length (take place d) ≡ place = length-take-le place d (omega arith) in
            let e : 0 + k ≡ k = omega arith in
            get_or-append (take place d ++ take n s) (drop (place + n) d) 0 (place + k) (rw written (omega arith))
            ∙ (rw head at (get_or-append-add (take place d) (take n s) k 0))
            ∙ rw e (get_or-take n s k 0 lt);
      }

  pub before-paste : (k : ℕ) → k < place → get_or (paste d place s n) k 0 ≡ get_or d k 0
  before-paste k lt =
      get_or-append (take place d ++ take n s) (drop (place + n) d) 0 k (rw written (omega arith))
      ∙ get_or-append (take place d) (take n s) 0 k (rw (length-take-le place d (omega arith)) lt)
      ∙ get_or-take place d k 0 lt

  behind : (k : ℕ) → place + n ≤ k → get_or (paste d place s n) k 0 ≡ get_or d k 0
  behind k le =
      let e : place + n + (k - (place + n)) ≡ k = omega arith in
      rw e at
      ((rw written at (get_or-append-add (take place d ++ take n s) (drop (place + n) d) (k - (place + n)) 0))
      ∙ get_or-drop (place + n) d (k - (place + n)) 0)

  -- m bytes that lie before those written or behind them.
  pub paste-apart : (at m : ℕ) → min (at + m - place) (place + n - at) ≡ 0 → Same (paste d place s n) at d at m
  paste-apart at m apart =
      record {
        each =
            λ k lt.
            elim (dec_lt (at + k) place) [ yes l ↦ before-paste (at + k) l | no l ↦ behind (at + k) (omega arith) ];
      }

  -- What lies behind.
  pub behind-paste : (i : ℕ) → place + n ≤ i → drop i (paste d place s n) ≡ drop i d
  behind-paste i h =
      let here : place + n + (i - (place + n)) ≡ i = omega arith in
      let there : drop (place + n) (paste d place s n) ≡ drop (place + n) d = drop-paste d place s n (omega arith) long in
      let more : ℕ = i - (place + n) in
      rw here at
      (sym (drop-drop more (place + n) (paste d place s n)) ∙ ap (drop more) there ∙ drop-drop more (place + n) d)

-- A copy that ends within the first of two lists.
pub paste-front : (a b : List ℕ) (at : ℕ) (s : List ℕ) (n : ℕ) → at + n ≤ length a → paste (a ++ b) at s n ≡ paste a at s n ++ b
paste-front a b at s n h =
    rw (take-append-le at a b (omega arith), drop-append-le (at + n) a b h) (sym (append_assoc (take at a ++ take n s) (drop (at + n) a) b))

-- A run of stores is a copy of all that it stores.
pub sets-paste : (d : List ℕ) (at : ℕ) (s : List ℕ) → at + length s ≤ length d → sets d at s ≡ paste d at s (length s)
sets-paste d at s h = sets-eq s d at h ∙ rw (take_all (length s) s (omega arith))

-- A copy to a buffer's start is written over it; so is a byte with a copy behind it.
pub paste-over : (out s : List ℕ) (n : ℕ) → n ≤ length s → (n ≡ length (take n s)) × (paste out 0 s n ≡ over (take n s) out)
unfolding over
paste-over out s n h = let long = length-take-le n s h in (sym long, rw (long, zero-add n))

pub byte-over : (out s : List ℕ) (v n : ℕ) → 1 ≤ length out → n ≤ length s
    → (1 + n ≡ length (v ∷ take n s)) × (paste (set out 0 v) 1 s n ≡ over (v ∷ take n s) out)
unfolding over
byte-over [] s v n room h = absurd (omega arith)
byte-over (x ∷ out) s v n room h = let long = length-take-le n s h in (omega arith, rw (long, one-add n))
