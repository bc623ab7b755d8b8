-- Rule 9.2: bytes in hex, one more for each turn of a loop.
use Prim.Native.Nat.{ℕ, ◌+◌, ◌*◌, ◌/◌, ◌%◌, ◌≤◌, ◌<◌}
use mathlib.Core.Path.{◌≡◌, refl, sym, ap, ◌∙◌}
use mathlib.Core.List.{List, [], ◌∷◌, ◌++◌}
use native.Mathlib.Numerals.{add-one}
use native.Mathlib.Omega.{arith}
use lib.ListN.{length, take, get_or}
use borrow.Rule.Slice.PartMut.{put_mid}
use Rattle.std.proofs.lemmas.Slice.{put_mid-paste}
use lib.Seq.{sets, sets-eq, length-sets, length-take-le, take_all, take-suc}
use Rattle.wire.proofs.Laws.{sets-append}
use Rattle.text.specs.Text.{blank, digit, hex}

pub length-hex : (bs : List ℕ) → length (hex bs) ≡ 3 * length bs
unfolding hex
length-hex [] = refl
length-hex (b ∷ bs) = omega (arith, length-hex bs)

hex-append : (s t : List ℕ) → hex (s ++ t) ≡ hex s ++ hex t
unfolding hex
hex-append [] t = refl
hex-append (a ∷ s) t = ap (λ (r : List ℕ). blank ∷ digit (a / 16) ∷ digit (a % 16) ∷ r) (hex-append s t)

-- The text of a byte.
abbrev pub in_hex : ℕ → List ℕ
in_hex b = blank ∷ digit (b / 16) ∷ digit (b % 16) ∷ []

hex-turn : (bs : List ℕ) (i : ℕ) → i < length bs → hex (take (i + 1) bs) ≡ hex (take i bs) ++ in_hex (get_or bs i 0)
unfolding hex
hex-turn bs i h = rw (add-one, take-suc bs i 0, hex-append)

-- The text of the first i bytes stands in the buffer.
pub record Writing (out₀ : List ℕ) (at : ℕ) (bytes : List ℕ) (out : List ℕ) (end i : ℕ) : Type 0 where
  pub within : i ≤ length bytes
  pub ends : end ≡ at + 3 * i
  pub written : out ≡ sets out₀ at (hex (take i bytes))

pub write-start : (out : List ℕ) (at : ℕ) (bytes : List ℕ) → Writing out at bytes out at 0
unfolding hex
write-start out at bytes = record { within = omega arith; ends = omega arith; written = refl }

module _ {out₀ : List ℕ} {at : ℕ} {bytes : List ℕ} {out : List ℕ} {end i : ℕ} (r : Writing out₀ at bytes out end i) where
  -- The buffer keeps its length.
  pub write-long : length out ≡ length out₀
  write-long = rw r.written (length-sets out₀ at (hex (take i bytes)))

  long : length (hex (take i bytes)) ≡ 3 * i
  long = length-hex (take i bytes) ∙ ap (◌*◌ 3) (length-take-le i bytes r.within)

  pub write-turn : i < length bytes → Writing out₀ at bytes (sets out end (in_hex (get_or bytes i 0))) (end + 3) (i + 1)
  write-turn h =
      let e : at + length (hex (take i bytes)) ≡ end = omega (arith, long, r.ends) in
      record {
        within = omega arith;
        ends = omega (arith, r.ends);
        written =
            rw (r.written, hex-turn bytes i h) (rw e at (sets-append out₀ at (hex (take i bytes)) (in_hex (get_or bytes i 0))));
      }

  pub write_done : length bytes ≤ i → (end ≡ at + length (hex bytes)) × (out ≡ sets out₀ at (hex bytes)) × (end ≡ at + 3 * length bytes)
  write_done all =
      let e : take i bytes ≡ bytes = take_all i bytes all in
      let ends : end ≡ at + length (hex (take i bytes)) = omega (arith, long, r.ends) in
      (rw e at ends, rw e at r.written, omega (arith, r.ends, r.within))

-- Words copied over a part of a buffer.
pub copied : (out words part : List ℕ) (at k : ℕ) → part ≡ words → length words ≡ k → at + length words ≤ length out
    → put_mid at k out part ≡ sets out at words
copied out words part at k e same room =
    put_mid-paste at k out part words (length words) e same refl
    ∙ rw (take_all (length words) words (omega arith)) (sym (sets-eq words out at room))
