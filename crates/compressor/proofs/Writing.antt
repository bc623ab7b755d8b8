-- What the loops keep. A run is passed a gain at a time; pairs are written a run at a time, and what is left makes the goal. Once for rooms of
-- numbers and of bytes: words are put as elements, so many a pair.
use Prim.Native.Nat.{ℕ, suc, ◌+◌, ◌*◌, ◌/◌, ◌≤◌, ◌<◌, max}
use mathlib.Core.Path.{◌≡◌, refl, sym, ap, ◌∙◌}
use mathlib.Core.Bool.{Bool, true, false, cond}
use mathlib.Core.List.{List, [], ◌∷◌, ◌++◌}
use native.Mathlib.Nat.{zero-add, mul-zero, mul-add, mul-le-mul_left}
use native.Mathlib.Numerals.{add-one}
use native.Mathlib.Decide.{dec_le, dec_lt}
use native.Mathlib.Omega.{arith}
use borrow.Author.Tests.{eqb-true, eq-eqb, ne_eqb, ltb-true, ltb-false, lt-ltb, le-ltb, le-leb, lt-leb}
use lib.ListN.{length, get_or, drop, length-drop, drop_of_length-le}
use lib.Seq.{drop-cons, drop-drop, sets, sets-eq, length-sets}
use lib.Dec.{eqb, ltb}
use Rattle.wire.specs.Buffers.{over}
use Rattle.wire.specs.Tables.{words, bytes}
use Rattle.wire.proofs.Laws.{sets-append}
use Rattle.wire.proofs.Tables.{halves-append, length-halves, pairs-halves}
use Rattle.compressor.specs.Compress.{push, compressed}
use Rattle.gain_words.specs.Gains.{most_gain, first_large}
use Rattle.compressor.specs.Compressing.{some_large}
use Rattle.compressor.specs.Internal.{lead, highest, PairsWritten}
use Rattle.compressor.proofs.Fewest.{compressed-two, compressed-length}

-- The pairs of gains begin with the first run; those of the gains behind it follow.
pub lead-pairs : (gain : ℕ) (gains : List ℕ)
    → compressed (gain ∷ gains) ≡ suc (lead gain gains) ∷ gain ∷ compressed (drop (lead gain gains) gains)
unfolding compressed push lead
lead-pairs gain [] = refl
lead-pairs gain (next ∷ rest) = go (eqb gain next) refl (lead-pairs next rest)
  where
    go : (b : Bool) → eqb gain next ≡ b
        → compressed (next ∷ rest) ≡ suc (lead next rest) ∷ next ∷ compressed (drop (lead next rest) rest)
        → push gain (compressed (next ∷ rest))
        ≡ suc (lead gain (next ∷ rest)) ∷ gain ∷ compressed (drop (lead gain (next ∷ rest)) (next ∷ rest))
    go true e behind =
        rw (behind, e)
        (ap (λ g. suc (suc (lead g rest)) ∷ g ∷ compressed (drop (lead g rest) rest)) (sym (eqb-true gain next e)))
    go false e behind = rw (behind, e) (rw behind)

pub lead-within : (gain : ℕ) (gains : List ℕ) → lead gain gains ≤ length gains
unfolding lead
lead-within gain [] = omega arith
lead-within gain (next ∷ rest) = go (eqb gain next) (lead-within gain rest)
  where
    go : (b : Bool) → lead gain rest ≤ length rest → cond b (suc (lead gain rest)) 0 ≤ suc (length rest)
    go true h = omega arith
    go false h = omega arith

-- Along the gains: the highest of those passed and of those left is the highest of all.
module _ (gains : List ℕ) (i : ℕ) where
  pub high-turn : i < length gains → highest (drop i gains) ≡ max (get_or gains i 0) (highest (drop (i + 1) gains))
  unfolding highest
  high-turn h = rw (drop-cons gains i 0 h, add-one i)

  pub high-done : length gains ≤ i → highest (drop i gains) ≡ 0
  unfolding highest
  high-done h = rw (drop_of_length-le gains {i = i} h)

-- It is over 8,191 exactly if some gain is.
pub high-large : (gains : List ℕ) → ltb most_gain (highest gains) ≡ some_large gains
unfolding highest first_large
high-large [] = refl
high-large (gain ∷ gains) =
    let behind = high-large gains in
    let high = highest gains in
    let first = first_large gains in
    elim (dec_le gain most_gain) [
      | no l ↦ rw (lt-leb gain most_gain (omega arith)) (lt-ltb most_gain (max gain high) (omega arith) ∙ sym (lt-ltb 0 (suc (length gains)) (omega arith)))
      | yes l ↦
          rw (le-leb gain most_gain l)
          (elim (dec_lt most_gain high) [
            | yes h ↦
                let inside = ltb-true first (length gains) (sym behind ∙ lt-ltb most_gain high h) in
                lt-ltb most_gain (max gain high) (omega arith) ∙ sym (lt-ltb (suc first) (suc (length gains)) (omega arith))
            | no h ↦
                let past = ltb-false first (length gains) (sym behind ∙ le-ltb most_gain high (omega arith)) in
                le-ltb most_gain (max gain high) (omega arith) ∙ sym (le-ltb (suc first) (suc (length gains)) (omega arith))
          ])
    ]

-- Along a run.
module _ (gains : List ℕ) (i gain : ℕ) where
  pub run-turn : i < length gains → get_or gains i 0 ≡ gain → lead gain (drop i gains) ≡ suc (lead gain (drop (i + 1) gains))
  unfolding lead
  run-turn h e = rw (drop-cons gains i 0 h, eq-eqb gain (get_or gains i 0) (sym e), add-one i)

  pub run-stop : i < length gains → (get_or gains i 0 ≡ gain → ⊥) → lead gain (drop i gains) ≡ 0
  unfolding lead
  run-stop h e = rw (drop-cons gains i 0 h, ne_eqb gain (get_or gains i 0) (λ s. e (sym s)))

  pub run-done : length gains ≤ i → lead gain (drop i gains) ≡ 0
  unfolding lead
  run-done h = rw (drop_of_length-le gains {i = i} h)

-- From run to run: the one that begins at a place, as the code finds it.
pub record Run (gains : List ℕ) (i gain run : ℕ) : Type 0 where
  pub some : 0 < run
  pub within : i + run ≤ length gains
  pub pairs : compressed (drop i gains) ≡ run ∷ gain ∷ compressed (drop (i + run) gains)

pub found : (gains : List ℕ) (i : ℕ) {gain run : ℕ} → i < length gains → gain ≡ get_or gains i 0 → run ≡ lead gain (drop i gains) → Run gains i gain run
found gains i {gain} {run} h g r =
    let rest = drop (i + 1) gains in
    let one : run ≡ suc (lead gain rest) = r ∙ run-turn gains i gain h (sym g) in
    let next : i + suc (lead gain rest) ≡ i + 1 + lead gain rest = omega arith in
    record {
      some = omega arith;
      within = omega (arith, lead-within gain (drop i gains), length-drop i gains);
      pairs =
          rw (one, next, ← drop-drop (lead gain rest) (i + 1) gains, drop-cons gains i 0 h, ← g, ← add-one i) (lead-pairs gain rest);
    }

-- How words lie in a room: so many elements a pair, one behind the other; `read` gives the words back.
pub record Way (each : ℕ) (put read : List ℕ → List ℕ) : Type 0 where
  pub none : put [] ≡ []
  pub join : (ws vs : List ℕ) → put (ws ++ vs) ≡ put ws ++ put vs
  pub long : (ws : List ℕ) (n : ℕ) → length ws ≡ 2 * n → length (put ws) ≡ each * n
  pub back : (ws : List ℕ) → read (put ws) ≡ ws

pub as-numbers : Way 2 (λ ws. ws) (λ ws. ws)
as-numbers = record { none = refl; join = λ ws vs. refl; long = λ ws n e. e; back = λ ws. refl }

pub as_bytes : Way 4 bytes words
as_bytes =
    record {
      none = refl;
      join = halves-append 256;
      long = λ ws n e. omega (arith, length-halves 256 ws);
      back = pairs-halves 256;
    }

-- After k pairs, those of the first i gains: what is left of the pairs, written behind, makes the goal.
pub record Writing (each : ℕ) (put : List ℕ → List ℕ) (gains room₀ room : List ℕ) (i k : ℕ) : Type 0 where
  pub within : i ≤ length gains
  pub few : k ≤ i
  pub long : length room ≡ length room₀
  pub count : 2 * k + length (compressed (drop i gains)) ≡ length (compressed gains)
  pub rest : sets room (each * k) (put (compressed (drop i gains))) ≡ sets room₀ 0 (put (compressed gains))

module _ {each : ℕ} {put read : List ℕ → List ℕ} (way : Way each put read) (gains : List ℕ) where
  pub start : (room : List ℕ) → Writing each put gains room room 0 0
  start room = record { within = omega arith; few = omega arith; long = refl; count = omega arith; rest = rw (mul-zero each) }

  pub turn : {room₀ room next : List ℕ} {i k run gain : ℕ} → Run gains i gain run → next ≡ sets room (each * k) (put (run ∷ gain ∷ []))
      → Writing each put gains room₀ room i k → Writing each put gains room₀ next (i + run) (k + 1)
  turn {room₀} {room} {next} {i} {k} {run} {gain} r e w =
      let new = run ∷ gain ∷ [] in
      let left = compressed (drop (i + run) gains) in
      let behind : each * (k + 1) ≡ each * k + length (put new) = rw (way.long new 1 refl) (mul-add each k 1) in
      record {
        within = r.within;
        few = omega (arith, w.few, r.some);
        long = ap length e ∙ length-sets room (each * k) (put new) ∙ w.long;
        count = omega (arith, w.count, ap length r.pairs);
        rest = rw (e, behind, sets-append room (each * k) (put new) (put left), ← way.join new left, ← r.pairs) w.rest;
      }

  pub done : {room₀ room : List ℕ} {i k : ℕ} → each * length gains ≤ length room₀ → length gains ≤ i
      → Writing each put gains room₀ room i k → PairsWritten put gains room₀ k room
  unfolding over compressed
  done {room₀} {room} {i} {k} h l w =
      let none : drop i gains ≡ [] = drop_of_length-le gains {i = i} l in
      let ws = compressed gains in
      let size : length (put ws) ≡ each * (length ws / 2) = way.long ws (length ws / 2) (compressed-two gains) in
      let fits : each * (length ws / 2) ≤ each * length gains = mul-le-mul_left each (omega (arith, compressed-length gains)) in
      record {
        many = omega (arith, w.count, ap length (ap compressed none));
        room-is = rw (none, way.none) at w.rest ∙ sets-eq (put ws) room₀ 0 (omega arith) ∙ rw zero-add;
      }
