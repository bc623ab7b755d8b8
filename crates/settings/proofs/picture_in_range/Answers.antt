-- Bytes from 0 on, but for the look and the splash, which any bytes are, and for the colour, which leaves 1 out.
use Prim.Native.Nat.{ℕ, zero, suc, ◌<◌}
use mathlib.Core.Path.{◌≡◌, refl, sym}
use mathlib.Core.Bool.{true, not, ◌&&◌, and-true, and-false, and_assoc}
use mathlib.Core.List.{List}
use native.Mathlib.Omega.{arith}
use borrow.Author.Tests.{le-leb, le-ltb, ne_eqb}
use lib.Dec.{eqb, leb, ltb}
use lib.ListN.{get_or}
use Rattle.wire.specs.Numbers.{byte_at, word_at}
use Rattle.opcode.specs.Fields.{from_to_but, takes}
use Rattle.opcode.specs.Commands.{command_of, any_word}
use Rattle.settings.specs.Ranges.{right, picture_fields}
use Rattle.settings.proofs.Laws.{takes-byte}
use Rattle.settings.proofs.picture_in_range.Goals as goal

-- Rule 5.1, 1Ah: curtain colour 0, 2-8.
gap : (v : ℕ) → (leb 1 v && ltb v 2) ≡ eqb v 1
gap zero = refl
gap (suc zero) = refl
gap (suc (suc v)) = rw (le-ltb (suc (suc v)) 2 (omega arith), ne_eqb (suc (suc v)) 1 (λ e. omega arith), and-false)

takes-colour : (v : ℕ) → takes (from_to_but 1 0 8 1 2) v ≡ (leb v 8 && not (eqb v 1))
takes-colour v = rw (le-leb 0 v (omega arith), gap v)

takes-look : (v : ℕ) → v < 65536 → takes any_word v ≡ true
takes-look v h = rw (le-leb 0 v (omega arith), le-leb v 65535 (omega arith), le-ltb v 0 (omega arith))

parts : (d : List ℕ) → ((k : ℕ) → get_or d k 0 < 256)
    → right picture_fields d 0
    ≡ (leb (byte_at d 0) 4 && leb (byte_at d 1) 1 && leb (byte_at d 4) 8 && not (eqb (byte_at d 4) 1) && leb (byte_at d 6) 3 && leb (byte_at d 7) 1)
unfolding right picture_fields command_of
parts d b =
    rw (
      takes-byte 4 (byte_at d 0),
      takes-byte 1 (byte_at d 1),
      takes-look (word_at d 2) (omega (arith, b 2, b 3)),
      takes-colour (byte_at d 4),
      takes-byte 255 (byte_at d 5),
      le-leb (byte_at d 5) 255 (omega (arith, b 5)),
      takes-byte 3 (byte_at d 6),
      takes-byte 1 (byte_at d 7),
    )
    (simp (and_assoc, and-true))

pub returns : goal.returns
returns c = sym (parts c.args.block.now (λ k. (c.type_inv.block k).fits))
