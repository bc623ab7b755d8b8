-- A number past the end; runs of stores; and the loop that copies.
use Prim.Native.Nat.{ℕ, suc, ◌+◌, ◌≤◌, ◌<◌}
use mathlib.Core.Path.{◌≡◌, refl, ◌∙◌}
use mathlib.Core.List.{List, [], ◌∷◌, ◌++◌}
use native.Mathlib.Nat.{add-zero}
use native.Mathlib.Numerals.{add-one}
use native.Mathlib.Omega.{arith}
use lib.ListN.{length, take, drop, get_or, set, length-set, get_or-eq_default}
use lib.Seq.{take-append_seam, sets, paste, paste-zero, paste-suc}
use Rattle.wire.specs.Numbers.{byte_at, word_at}
use Rattle.wire.specs.Buffers.{over}

-- Past the end stands 0.
pub byte_past : (s : List ℕ) (i : ℕ) → length s ≤ i → byte_at s i ≡ 0
byte_past s i h = get_or-eq_default s 0 h

pub word-past : (s : List ℕ) (i : ℕ) → length s ≤ i → word_at s i ≡ 0
word-past s i h = omega (arith, byte_past s i h, byte_past s (i + 1) (omega arith))

-- A run of stores behind another is one run.
pub sets-append : (l : List ℕ) (i : ℕ) (s t : List ℕ) → sets (sets l i s) (i + length s) t ≡ sets l i (s ++ t)
sets-append l i [] t = rw (add-zero i)
sets-append l i (x ∷ s) t = let e : i + suc (length s) ≡ suc i + length s = omega arith in rw e (sets-append (set l i x) (suc i) s t)

-- Bytes written over a buffer's start are its first ones.
pub take-over : (s buffer : List ℕ) → take (length s) (over s buffer) ≡ s
unfolding over
take-over s buffer = take-append_seam s (drop (length s) buffer)

-- The first i of n elements of src stand in dst from a place on: what a loop that copies them one by one keeps.
pub record Copying (dst₀ : List ℕ) (at : ℕ) (src : List ℕ) (n : ℕ) (dst : List ℕ) (i : ℕ) : Type 0 where
  pub within : i ≤ n
  pub copied : dst ≡ paste dst₀ at src i
  pub long : length dst ≡ length dst₀

pub start : (dst : List ℕ) (at : ℕ) (src : List ℕ) (n : ℕ) → Copying dst at src n dst 0
start dst at src n = record { within = omega arith; copied = paste-zero dst at src; long = refl }

pub turn : {dst₀ : List ℕ} {at : ℕ} {src : List ℕ} {n : ℕ} {dst : List ℕ} {i v : ℕ} → at + n ≤ length dst₀ → n ≤ length src → i < n
    → v ≡ get_or src i 0 → Copying dst₀ at src n dst i → Copying dst₀ at src n (set dst (at + i) v) (i + 1)
turn {dst₀} {at} {src} {n} {dst} {i} {v} hd hs h e r =
    record {
      within = omega arith;
      copied = rw (r.copied, e, add-one) (paste-suc dst₀ at src i 0 (omega arith) (omega arith));
      long = length-set dst (at + i) v ∙ r.long;
    }

pub done : {dst₀ : List ℕ} {at : ℕ} {src : List ℕ} {n : ℕ} {dst : List ℕ} {i : ℕ} → n ≤ i → Copying dst₀ at src n dst i → dst ≡ paste dst₀ at src n
done {dst₀} {at} {src} {n} {dst} {i} h r = let e : i ≡ n = omega arith in rw e at r.copied
