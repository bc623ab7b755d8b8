-- The kinds of commands, by what they reach: gains, points, the staged shape, apply, the smooth table, and all others, whose settings lie at a
-- place of their own. What the front end does by nested tests of the opcode is taken apart here once.
use Prim.Native.Nat.{ℕ}
use mathlib.Core.Path.{◌≡◌}
use mathlib.Core.List.{List}
use native.Mathlib.Decide.{ℕ_discrete}
use borrow.Author.Tests.{ne_eqb}
use Rattle.settings.specs.Layout.{stored, returned}
use Rattle.front_end.specs.State.{State}
use Rattle.front_end.specs.Commands.{block_after, block_back, data_back}

pub record Other (op : ℕ) : Type 0 where
  pub not-gains : op ≡ 0x2B → ⊥
  pub not-points : op ≡ 0x34 → ⊥
  pub not-shape : op ≡ 0x35 → ⊥
  pub not-apply : op ≡ 0x36 → ⊥
  pub not-smooth : op ≡ 0x38 → ⊥

pub data Kind (op : ℕ) : Type 0 where
  gains : op ≡ 0x2B → Kind op
  points : op ≡ 0x34 → Kind op
  shape : op ≡ 0x35 → Kind op
  apply : op ≡ 0x36 → Kind op
  smooth : op ≡ 0x38 → Kind op
  other : Other op → Kind op

pub kind_of : (op : ℕ) → Kind op
kind_of op =
    elim (ℕ_discrete op 0x2B) [
      | yes e ↦ Kind.gains e
      | no g ↦
          elim (ℕ_discrete op 0x34) [
            | yes e ↦ Kind.points e
            | no p ↦
                elim (ℕ_discrete op 0x35) [
                  | yes e ↦ Kind.shape e
                  | no s ↦
                      elim (ℕ_discrete op 0x36) [
                        | yes e ↦ Kind.apply e
                        | no a ↦
                            elim (ℕ_discrete op 0x38) [
                              | yes e ↦ Kind.smooth e
                              | no m ↦ Kind.other (record { not-gains = g; not-points = p; not-shape = s; not-apply = a; not-smooth = m })
                            ]
                      ]
                ]
          ]
    ]

-- The others store at their place, and return what stands there.
pub other_after : (op : ℕ) (d block : List ℕ) → Other op → block_after op d block ≡ stored op d block
unfolding block_after
other_after op d block k =
    rw (
      ne_eqb op 0x2B k.not-gains,
      ne_eqb op 0x34 k.not-points,
      ne_eqb op 0x35 k.not-shape,
      ne_eqb op 0x36 k.not-apply,
      ne_eqb op 0x38 k.not-smooth,
    )

pub other-back : (op : ℕ) (d : List ℕ) (s : State) → Other op → data_back op d s ≡ returned op d s.block
unfolding data_back block_back
other-back op d s k =
    rw (
      ne_eqb op 0x2B k.not-gains,
      ne_eqb op 0x34 k.not-points,
      ne_eqb op 0x35 k.not-shape,
      ne_eqb op 0x38 k.not-smooth,
    )
