-- Sizes and places of what an accepted command stores in the block or returns from it: from what its data may be, and from the list of
-- commands, walked once for each law.
use Prim.Native.Nat.{ℕ, ◌+◌, ◌-◌, ◌≤◌, ◌<◌, min}
use mathlib.Core.Path.{◌≡◌, refl}
use mathlib.Core.Bool.{Bool, true, false, cond, ◌||◌}
use mathlib.Core.List.{List}
use native.Mathlib.Decide.{ℕ_discrete}
use native.Mathlib.Nat.{mul-le-mul}
use native.Mathlib.Omega.{arith}
use borrow.Author.Tests.{eqb-true, eqb-false, ne_eqb}
use lib.ListN.{length, get_or, length-append}
use lib.Dec.{eqb}
use Rattle.wire.specs.First.{first}
use Rattle.wire.specs.Numbers.{byte_at}
use Rattle.opcode.specs.Commands.{command_of, not_carried, fixed}
use Rattle.opcode.specs.Judgement.{judgement, unknown}
use Rattle.opcode.specs.Options.{is_read}
use Rattle.opcode.specs.Allowed.{WriteData}
use Rattle.opcode.proofs.Accepts.{accepts}
use Rattle.wire.proofs.Tests.{first-silent}
use Rattle.opcode.proofs.Accepts.Commands.{◌&◌, of-carried, of-all}
use Rattle.settings.specs.Layout.{settings_end, lists_size, shape_head}
use Rattle.settings.specs.Layout.{place_of, place_in, places}
use Rattle.settings.proofs.Fits.{place-fits, write-long}

pub shape_size : {d : List ℕ} → WriteData 0x35 d → length d ≡ cond (eqb (byte_at d 0) 1) (1 + lists_size) shape_head
shape_size (WriteData.shape h i j k) = refl
shape_size (WriteData.lists xs ys ex ey rx ry) = rw length-append (omega arith)

pub smooth-size : {d : List ℕ} → WriteData 0x38 d → length d ≤ 102
smooth-size (WriteData.smooth h i j k e) = omega (arith, mul-le-mul i k)

pub back-small : (op : ℕ) → (command_of op).back ≤ 10
back-small = of-all (λ c. c.back ≤ 10) (omega arith) (omega arith)

-- Two tests, computed for every command: all but 2Bh, 34h, 35h and 38h are of a fixed size; and these four have no place among the
-- settings of the others and no size that a read returns.
abbrev Fixed : ℕ → Type 0
Fixed op = (eqb op 0x2B || eqb op 0x34 || eqb op 0x35 || eqb op 0x38 || eqb (command_of op).kind fixed) ≡ true

abbrev Nowhere : ℕ → Type 0
Nowhere op = min ((command_of op).kind - fixed) ((place_in op places).first + (place_in op places).step + (command_of op).back) ≡ 0

module _ (op o : ℕ) (d : List ℕ) (e : first (judgement op o d) ≡ 0) where
  pub known : unknown op ≡ false
  unfolding judgement
  known = (first-silent (judgement op o d) (omega arith) e).0

  listed : Fixed op
  unfolding command_of
  listed =
      let r = refl {A = Bool} {a = true} in
      of-carried Fixed (r & r & r & r & r & r & r & r & r & r & r & r & r & r & r & r & r & r & tt) op known

  nowhere : Nowhere op
  unfolding command_of
  nowhere = of-carried Nowhere (omega arith) op known

  pub fixed-rest : (op ≡ 0x2B → ⊥) → (op ≡ 0x34 → ⊥) → (op ≡ 0x35 → ⊥) → (op ≡ 0x38 → ⊥) → (command_of op).kind ≡ fixed
  fixed-rest g p c s =
      eqb-true (command_of op).kind fixed
      (rw (ne_eqb op 0x2B g, ne_eqb op 0x34 p, ne_eqb op 0x35 c, ne_eqb op 0x38 s) at listed)

module _ (op o : ℕ) (d : List ℕ) (b : (k : ℕ) → get_or d k 0 < 256) (e : first (judgement op o d) ≡ 0) where
  -- What a command's place and size name lies among the settings.
  pub place-within : place_of op d + (command_of op).back ≤ settings_end
  unfolding place_of
  place-within =
      elim (ℕ_discrete (command_of op).kind fixed) [
        | yes m ↦ place-fits ((accepts op o d b).0 e) m
        | no m ↦
            let carried = eqb-false (command_of op).kind not_carried (known op o d e) in
            let none : (place_in op places).first + (place_in op places).step + (command_of op).back ≡ 0 = omega (arith, nowhere op o d e) in
            let step : (place_in op places).step ≡ 0 = omega arith in
            rw step (omega arith)
      ]

  -- A fixed write has its pin or port byte and then what is stored.
  pub write-whole : is_read o ≡ 0 → (command_of op).kind ≡ fixed → (command_of op).read + (command_of op).back ≡ length d
  write-whole h m = write-long ((accepts op o d b).0 e) h m
