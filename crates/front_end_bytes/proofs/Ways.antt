-- Lent bytes: their lengths, and the numbers that they hold, which turn into bytes and back without
-- loss; and the entries on them, from those on tables of any elements.
use Prim.Native.Nat.{ℕ}
use mathlib.Core.Path.{◌≡◌, refl, ap, ◌∙◌}
use mathlib.Core.Bool.{Bool, true, false}
use mathlib.Core.List.{List}
use native.Mathlib.Omega.{arith}
use borrow.Author.Tests.{eq-eqb}
use Rattle.wire.proofs.Tests.{told}
use Rattle.wire.specs.Tables.{words}
use Rattle.settings.specs.Reset.{map_size, gains_size}
use Rattle.tables.proofs.Bytes.{Below, bytes-words, length-words-of}
use Rattle.front_end.specs.State.{lengths_right}
use Rattle.front_end_tables.specs.Lent.{Lent as Tables, lent, Handled, Reset}
use Rattle.front_end_bytes.specs.Bytes.{Lent, state_in, lent_of, byte_lengths_right, lent_out, out_bytes, step_bytes, lent_reset, reset_bytes}
use Rattle.front_end_bytes.specs.Plain.{BytesLent}

-- The same lists, as the front end on tables of any elements has them.
abbrev pub any : Lent → Tables ℕ
any l = lent l.block l.staged l.live l.gains

abbrev back : Tables ℕ → Lent
back t = record { block = t.block; staged = t.staged; live = t.live; gains = t.gains }

-- Lent tables are bytes.
pub record Small (l : Lent) : Type 0 where
  pub staged : Below 256 l.staged
  pub live : Below 256 l.live
  pub gains : Below 256 l.gains

module _ (l : Lent) where
  pub sized : byte_lengths_right l ≡ true → BytesLent l
  sized e = record { block = search told; staged = search told; live = search told; gains = search told }

  pub right-sized : BytesLent l → byte_lengths_right l ≡ true
  right-sized z = rw (eq-eqb _ _ z.block, eq-eqb _ _ z.staged, eq-eqb _ _ z.live, eq-eqb _ _ z.gains)

  -- Their numbers are as many as they must be.
  pub wide-lengths : BytesLent l → lengths_right (state_in l) ≡ true
  wide-lengths z =
      rw (z.block, length-words-of l.staged map_size z.staged, length-words-of l.live map_size z.live, length-words-of l.gains gains_size z.gains)

  -- Numbers that nothing changed are the bytes that were lent.
  pub unchanged : byte_lengths_right l ≡ true → Small l → l ≡ lent_of (state_in l)
  unchanged right s =
      let z = sized right in
      rw (
        bytes-words l.staged (omega (arith, z.staged)) s.staged,
        bytes-words l.live (omega (arith, z.live)) s.live,
        bytes-words l.gains (omega (arith, z.gains)) s.gains,
      )

-- What is promised of tables of any elements is, of bytes, what the rules say.
pub stepped : {p : List ℕ} {l l₂ : Lent} {reply reply₂ : List ℕ} {status fault size : ℕ} → Small l₂
    → (byte_lengths_right l ≡ true → byte_lengths_right l₂ ≡ true)
    → Handled 2 words p (any l) reply status fault size (any l₂) reply₂
    → lent_out status fault size l₂ reply₂ ≡ step_bytes p l reply
unfolding step_bytes
stepped {p} {l} {l₂} {reply} {reply₂} {status} {fault} {size} small long h = go (byte_lengths_right l) refl
  where
    go : (b : Bool) → byte_lengths_right l ≡ b → lent_out status fault size l₂ reply₂ ≡ step_bytes p l reply
    go true e = rw e (ap (λ k. lent_out status fault size k reply₂) (unchanged l₂ (long e) small) ∙ ap out_bytes (h.right e))
    go false e =
        let w = h.wrong e in
        rw (e, w.0, w.1, w.2, ap back w.3, w.4) refl

pub put-back : {l l₂ : Lent} {status : ℕ} → Small l₂ → (byte_lengths_right l ≡ true → byte_lengths_right l₂ ≡ true)
    → Reset 2 words (any l) status (any l₂) → lent_reset status l₂ ≡ reset_bytes l
unfolding reset_bytes
put-back {l} {l₂} {status} small long h = go (byte_lengths_right l) refl
  where
    go : (b : Bool) → byte_lengths_right l ≡ b → lent_reset status l₂ ≡ reset_bytes l
    go true e = let r = h.right e in rw (e, r.0) (ap (lent_reset 0) (unchanged l₂ (long e) small ∙ ap lent_of r.1))
    go false e = let w = h.wrong e in rw (e, w.0, ap back w.1) refl
