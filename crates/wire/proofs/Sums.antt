-- The two sums of the checksum and the weighted sum give one byte; and the loop that weighs. Whoever cites a checksum needs only that it is below 256.
use Prim.Native.Nat.{ℕ, suc, ◌+◌, ◌*◌, ◌-◌, ◌/◌, ◌%◌, ◌≤◌, ◌<◌}
use mathlib.Core.Path.{◌≡◌, refl, ap, sym, ◌∙◌}
use mathlib.Core.List.{List, [], ◌∷◌}
use native.Mathlib.Nat.{add-zero, mul-le-mul, div-add-mod, mod-eq_of_lt}
use native.Mathlib.Numerals.{add-one}
use native.Mathlib.Omega.{arith}
use lib.ListN.{length, take, drop, get_or, length-drop, drop_of_length-le}
use lib.Seq.{length-take-le, drop-cons, get_or-take}
use Rattle.wire.specs.Checksum.{second_sum, sum_width, checksum, weighted, ChecksumAgrees}

-- What a width must be for the low byte: a multiple of 256.
abbrev LowKept : ℕ → Type 0
LowKept width = (y : ℕ) → y % width % 256 ≡ y % 256

-- Of a factor only the low byte counts.
low-times : (n u : ℕ) → (n * u) % 256 ≡ (n * (u % 256)) % 256
low-times n u =
    let split : (q c : ℕ) → (n * (256 * q + c)) % 256 ≡ (n * c) % 256 = λ q c. omega arith in
    ap (λ k. (n * k) % 256) (sym (div-add-mod u 256)) ∙ split (u / 256) (u % 256)

low-add : (u v p q : ℕ) → u % 256 ≡ v % 256 → p % 256 ≡ q % 256 → (u + p) % 256 ≡ (v + q) % 256
low-add u v p q e f = omega arith

-- A turn of the two sums with n bytes behind it, told by low bytes.
low_turn : (first second x n rest sum next : ℕ) → sum % 256 ≡ (first + x) % 256 → next % 256 ≡ (second + sum) % 256
    → (next + n * sum + rest) % 256 ≡ (second + suc n * first + (suc n * x + rest)) % 256
low_turn first second x n rest sum next here there =
    let each : (n * sum) % 256 ≡ (n * (first + x)) % 256 =
    low-times n sum ∙ ap (λ k. (n * k) % 256) here ∙ sym (low-times n (first + x)) in
    let whole : second + (first + x) + n * (first + x) + rest ≡ second + suc n * first + (suc n * x + rest) = omega arith in
    low-add _ _ rest _ (low-add _ _ _ _ (there ∙ low-add second _ _ _ refl here) each) refl ∙ ap (λ k. k % 256) whole

-- The low byte of the second sum, from any sums on: the first is added once for each byte to come.
low : (width : ℕ) → LowKept width → (first second : ℕ) (s : List ℕ)
    → second_sum width first second s % 256 ≡ (second + length s * first + weighted s) % 256
low width kept first second [] = omega arith
low width kept first second (x ∷ r) =
    low width kept ((first + x) % width) ((second + (first + x) % width) % width) r ∙ low_turn first second x (length r) (weighted r) _ _ (kept (first + x)) (kept (second + (first + x) % width))

-- Sums kept below 256 are low bytes.
below : (first second : ℕ) (s : List ℕ) → second < 256 → second_sum 256 first second s < 256
below first second [] h = h
below first second (x ∷ r) h = below ((first + x) % 256) ((second + (first + x) % 256) % 256) r (omega arith)

pub checksum-agrees : (s : List ℕ) → ChecksumAgrees s
unfolding checksum
checksum-agrees s =
    let wide : second_sum sum_width 0 0 s % 256 ≡ weighted s % 256 = low sum_width (λ y. omega arith) 0 0 s ∙ omega arith in
    let narrow : second_sum 256 0 0 s % 256 ≡ weighted s % 256 = low 256 (λ y. omega arith) 0 0 s ∙ omega arith in
    record { narrow = wide ∙ sym narrow ∙ mod-eq_of_lt (below 0 0 s (omega arith)); weighs = wide }

-- ---- The loop that weighs.

-- Bytes before i are weighed; their sum and what is to come have the low byte that is sought.
pub record Weighing (s : List ℕ) (n weight sum i : ℕ) : Type 0 where
  pub within : i ≤ n
  pub small : sum < 256
  pub weight-left : weight ≡ (n - i) % 256
  pub low_byte : (sum + weighted (drop i (take n s))) % 256 ≡ checksum (take n s)

pub weighing-start : (s : List ℕ) (n weight : ℕ) → weight ≡ n % 256 → Weighing s n weight 0 0
weighing-start s n weight e =
    record {
      within = omega arith;
      small = omega arith;
      weight-left = omega arith;
      low_byte = omega (arith, (checksum-agrees (take n s)).weighs);
    }

-- A weight times a byte fits 16 bits.
pub weighed-small : {s : List ℕ} {n weight sum i : ℕ} → Weighing s n weight sum i → get_or s i 0 < 256 → weight * get_or s i 0 < 65536
weighed-small {s} {n} {weight} {sum} {i} r h =
    let most : weight * get_or s i 0 ≤ 255 * 255 = mul-le-mul {n₂ = 255} {m₂ = 255} (omega (arith, r.weight-left)) (omega arith) in
    omega arith

-- A product goes into the sum; only its low byte counts.
low-weighed : (sum product all rest : ℕ) → product % 256 ≡ all % 256 → ((sum + product) % 256 + rest) % 256 ≡ (sum + (all + rest)) % 256
low-weighed sum product all rest e = omega arith

pub weighing-turn : {s : List ℕ} {n weight sum i : ℕ} → n ≤ length s → i < n → Weighing s n weight sum i
    → Weighing s n ((weight + 255) % 256) ((sum + weight * get_or s i 0) % 256) (i + 1)
weighing-turn {s} {n} {weight} {sum} {i} fits h r =
    let t : List ℕ = take n s in
    let long : length t ≡ n = length-take-le n s fits in
    let x : ℕ = get_or s i 0 in
    let behind : suc (length (drop (suc i) t)) ≡ n - i = omega (arith, length-drop (suc i) t) in
    let rest : weighted (drop i t) ≡ (n - i) * x + weighted (drop (i + 1) t) =
    rw (drop-cons t i 0 (omega arith), behind, get_or-take n s i 0 h, add-one i) refl in
    let same : (weight * x) % 256 ≡ ((n - i) * x) % 256 = rw r.weight-left (omega (arith, low-times x (n - i))) in
    record {
      within = omega arith;
      small = omega arith;
      weight-left = omega (arith, r.weight-left);
      low_byte = low-weighed sum (weight * x) ((n - i) * x) _ same ∙ rw rest at r.low_byte;
    }

pub weighing-done : {s : List ℕ} {n weight sum i : ℕ} → n ≤ length s → n ≤ i → Weighing s n weight sum i → sum ≡ checksum (take n s)
weighing-done {s} {n} {weight} {sum} {i} fits h r =
    let past : length (take n s) ≤ i = omega (arith, length-take-le n s fits) in
    rw (drop_of_length-le (take n s) past, add-zero sum, mod-eq_of_lt r.small) at r.low_byte
