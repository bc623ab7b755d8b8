-- The rows that a write touches are those from the first to the last, by division.
use Prim.Native.Nat.{ℕ, ◌+◌, ◌-◌, ◌*◌, ◌/◌, ◌≤◌, ◌<◌}
use mathlib.Core.Path.{◌≡◌}
use mathlib.Core.Logic.{◌⊎◌, inl, inr}
use mathlib.Core.Bool.{Bool, false}
use mathlib.Core.List.{List}
use native.Mathlib.Decide.{dec_le}
use native.Mathlib.Nat.{div-lt_iff_lt-mul, le-div_iff_mul-le}
use native.Mathlib.Omega.{arith}
use lib.ListN.{length, get_or}
use Rattle.row_mark.specs.Rows.{refreshed}
use Rattle.row_mark.specs.Right.{Touches}
use Rattle.row_mark.proofs.Rows.{refreshed-before, refreshed-in, refreshed-behind}

module _ (columns start count r : ℕ) (some : 1 ≤ columns) (points : 1 ≤ count) where
  turned : columns * r ≡ r * columns
  turned = omega arith

  -- From the first row on, and up to the last.
  pub touched-first : Touches columns start count r → start / columns ≤ r
  touched-first t = let below : start / columns < r + 1 = (div-lt_iff_lt-mul some).1 (omega (arith, turned, t)) in omega arith

  pub touched-last : Touches columns start count r → r ≤ (start + count - 1) / columns
  touched-last t = (le-div_iff_mul-le some).1 (omega (arith, turned, t))

  -- A row between them has the write's first point, or its own.
  pub between : start / columns ≤ r → r ≤ (start + count - 1) / columns → Touches columns start count r
  between from to =
      let first : start < (r + 1) * columns = (div-lt_iff_lt-mul some).0 (omega arith) in
      let last : r * columns ≤ start + count - 1 = (le-div_iff_mul-le some).0 to in
      elim (dec_le start (columns * r)) [
        | yes l ↦ record { point = columns * r; after-start = l; before-end = omega (arith, turned); row_first = omega arith; row_last = omega arith }
        | no l ↦ record { point = start; after-start = omega arith; before-end = omega arith; row_first = omega arith; row_last = omega (arith, turned) }
      ]

  -- A row that is not touched lies before the write or behind it.
  pub apart : (Touches columns start count r → ⊥) → (columns * r + columns ≤ start) ⊎ (start + count ≤ columns * r)
  apart none =
      elim (dec_le (columns * r + columns) start) [
        | yes l ↦ inl l
        | no l ↦
            elim (dec_le (start + count) (columns * r)) [
              | yes k ↦ inr k
              | no k ↦
                  absurd
                  (none
                  (elim (dec_le start (columns * r)) [
                    | yes f ↦ record { point = columns * r; after-start = f; before-end = omega arith; row_first = omega arith; row_last = omega arith }
                    | no f ↦ record { point = start; after-start = omega arith; before-end = omega arith; row_first = omega arith; row_last = omega arith }
                  ]))
            ]
      ]

  -- Its bit is worked out exactly if it is touched.
  module _ (f : ℕ → Bool) (mark : List Bool) where
    pub touched-bit : r < length mark → Touches columns start count r
        → get_or (refreshed f (start / columns) ((start + count - 1) / columns + 1 - start / columns) mark) r false ≡ f r
    touched-bit inside t =
        let from = touched-first t in
        let to = touched-last t in
        refreshed-in f (start / columns) ((start + count - 1) / columns + 1 - start / columns) mark r from (omega arith) inside

    pub untouched-bit : (Touches columns start count r → ⊥)
        → get_or (refreshed f (start / columns) ((start + count - 1) / columns + 1 - start / columns) mark) r false ≡ get_or mark r false
    untouched-bit none =
        elim (dec_le (start / columns) r) [
          | no l ↦ refreshed-before f (start / columns) ((start + count - 1) / columns + 1 - start / columns) mark r (omega arith)
          | yes l ↦
              elim (dec_le r ((start + count - 1) / columns)) [
                | yes k ↦ absurd (none (between l k))
                | no k ↦ refreshed-behind f (start / columns) ((start + count - 1) / columns + 1 - start / columns) mark r (omega arith)
              ]
        ]
