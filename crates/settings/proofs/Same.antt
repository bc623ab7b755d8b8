-- What a test of the block looks at: a run of fields its own bytes, a shape its 193. So a copy into the block changes only the tests of
-- the bytes that it writes.
use Prim.Native.Nat.{ℕ, zero, suc, ◌+◌, ◌*◌, ◌-◌, ◌≤◌}
use mathlib.Core.Path.{◌≡◌, refl, sym}
use mathlib.Core.Bool.{Bool, true, ◌&&◌, ◌||◌, and_assoc}
use mathlib.Core.List.{List, [], ◌∷◌, ◌++◌}
use native.Mathlib.Decide.{ℕ_discrete}
use native.Mathlib.Omega.{arith}
use borrow.Author.Tests.{eqb-true, ne_eqb}
use lib.Dec.{eqb}
use Rattle.wire.specs.Numbers.{byte_at, word_at, long_at}
use Rattle.opcode.specs.declared.Field.{Field}
use Rattle.opcode.specs.Fields.{number, words_at}
use Rattle.opcode.specs.Commands.{command_of}
use Rattle.wire.proofs.Tests.{and_left, and_right}
use Rattle.wire.proofs.Copies.{Same, front, part}
use Rattle.opcode.specs.Fields.{span}
use Rattle.settings.specs.Ranges.{right, fields_of, shape_right, picture_fields, device_fields, settings_right}
use Rattle.settings.specs.Layout.{shape_size, staged_shape, enable, live_shape, smooth_table, update_place, settings_end}

-- Numbers.
byte-same : {a b : List ℕ} {i j n : ℕ} → Same a i b j n → 1 ≤ n → byte_at a i ≡ byte_at b j
byte-same {a} {b} {i} {j} h l =
    let e : i + 0 ≡ i = omega arith in
    let f : j + 0 ≡ j = omega arith in
    rw (e, f) at (h.each 0 l)

word_same : {a b : List ℕ} {i j n : ℕ} → Same a i b j n → 2 ≤ n → word_at a i ≡ word_at b j
word_same h l = rw (byte-same h (omega arith), h.each 1 (omega arith))

long_same : {a b : List ℕ} {i j n : ℕ} → Same a i b j n → 4 ≤ n → long_at a i ≡ long_at b j
long_same h l = rw (word_same h (omega arith), word_same (part h 2 2 (omega arith)) (omega arith))

pub words_same : {a b : List ℕ} {i j : ℕ} (n : ℕ) → Same a i b j (2 * n) → words_at a i n ≡ words_at b j n
unfolding words_at
words_same zero h = refl
words_same {i = i} {j = j} (suc n) h =
    rw (word_same h (omega arith), words_same {i = i + 2} {j = j + 2} n (part h 2 (2 * n) (omega arith)))

-- A field of one, two or four bytes reads no others.
abbrev pub wide : ℕ → Bool
wide n = eqb n 1 || (eqb n 2 || eqb n 4)

unfoldable pub widths : List Field → Bool
widths [] = true
widths (f ∷ fs) = wide f.size && widths fs

pub widths-append : (fs gs : List Field) → widths (fs ++ gs) ≡ (widths fs && widths gs)
unfolding widths
widths-append [] gs = refl
widths-append (f ∷ fs) gs = rw (widths-append fs gs) (sym (and_assoc (wide f.size) (widths fs) (widths gs)))

number_same : {a b : List ℕ} {i j : ℕ} (n : ℕ) → wide n ≡ true → Same a i b j n → number n a i ≡ number n b j
number_same n t h =
    elim (ℕ_discrete n 1) [
      | yes e ↦ rw e (byte-same h (omega arith))
      | no one ↦
          elim (ℕ_discrete n 2) [
            | yes e ↦ rw e (word_same h (omega arith))
            | no two ↦
                let e : n ≡ 4 = eqb-true n 4 (rw (ne_eqb n 1 one, ne_eqb n 2 two) at t) in
                rw e (long_same h (omega arith))
          ]
    ]

-- Tests.
pub right-same : {a b : List ℕ} {i j : ℕ} (fs : List Field) → widths fs ≡ true → Same a i b j (span fs) → right fs a i ≡ right fs b j
unfolding widths right
right-same [] t h = refl
right-same {i = i} {j = j} (f ∷ fs) t h =
    rw (
      number_same f.size (and_left (wide f.size) (widths fs) t) (front h f.size (omega arith)),
      right-same {i = i + f.size} {j = j + f.size} fs (and_right (wide f.size) (widths fs) t) (part h f.size (span fs) (omega arith)),
    )

pub shape_same : {a b : List ℕ} {i j : ℕ} → Same a i b j shape_size → shape_right a i ≡ shape_right b j
unfolding shape_right widths command_of
shape_same h =
    rw (
      right-same (fields_of 0x35) refl (front h 5 (omega arith)),
      byte-same h (omega arith),
      word_same (part h 1 2 (omega arith)) (omega arith),
      word_same (part h 3 2 (omega arith)) (omega arith),
      words_same 62 (part h 5 124 (omega arith)),
      words_same 32 (part h 129 64 (omega arith)),
    )

-- Blocks whose settings are equal are in range together.
pub settings-same : {a b : List ℕ} → Same a 0 b 0 settings_end → settings_right a ≡ settings_right b
unfolding settings_right widths command_of picture_fields device_fields
settings-same h =
    rw (
      right-same picture_fields refl (front h (span picture_fields) (omega arith)),
      shape_same (part h staged_shape shape_size (omega arith)),
      right-same (fields_of 0x36) refl (part h enable 1 (omega arith)),
      shape_same (part h live_shape shape_size (omega arith)),
      right-same (fields_of 0x38) refl (part h smooth_table 2 (omega arith)),
      right-same device_fields refl (part h update_place (settings_end - update_place) (omega arith)),
    )
