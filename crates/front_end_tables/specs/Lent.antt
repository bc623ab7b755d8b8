-- Rule 1.3: block and tables as they are lent, the tables as lists of whatever elements stand for
-- 16-bit numbers, so many for each; and what the entries promise of them.
use Rattle.std.specs.Prelude.{ℕ, ◌*◌, ◌≡◌, Bool, true, false, ◌&&◌, List, length, eqb}
use Rattle.settings.specs.Layout.{block_size}
use Rattle.settings.specs.Reset.{map_size, gains_size}
use Rattle.front_end.specs.State.{State, state, reset_state}
use Rattle.front_end.specs.Step.{out, step}

pub record Lent (T : Type 0) : Type 0 where
  pub block : List ℕ
  pub staged : List T
  pub live : List T
  pub gains : List T

abbrev pub lent : {T : Type 0} → List ℕ → List T → List T → List T → Lent T
lent block staged live gains = record { block = block; staged = staged; live = live; gains = gains }

-- The state that they hold.
abbrev pub held : {T : Type 0} → (List T → List ℕ) → Lent T → State
held numbers l = state l.block (numbers l.staged) (numbers l.live) (numbers l.gains)

-- Rule 1.3: their lengths, exactly.
abbrev pub lengths_right : {T : Type 0} → ℕ → Lent T → Bool
lengths_right width l =
    eqb (length l.block) block_size
    && eqb (length l.staged) (width * map_size)
    && eqb (length l.live) (width * map_size)
    && eqb (length l.gains) (width * gains_size)

-- One packet. With a wrong length it is refused with 1, without a reply, and all is as it was; else
-- it does what it does on the state that is held.
pub record Handled {T : Type 0} (width : ℕ) (numbers : List T → List ℕ) (p : List ℕ) (l : Lent T) (reply : List ℕ)
    (status fault size : ℕ) (l₂ : Lent T) (reply₂ : List ℕ) : Type 0 where
  pub wrong : lengths_right width l ≡ false → (status ≡ 1) × (fault ≡ 0) × (size ≡ 0) × (l₂ ≡ l) × (reply₂ ≡ reply)
  pub right : lengths_right width l ≡ true → out status fault size (held numbers l₂) reply₂ ≡ step p (held numbers l) reply

-- Rule 5.10: reset, likewise.
pub record Reset {T : Type 0} (width : ℕ) (numbers : List T → List ℕ) (l : Lent T) (status : ℕ) (l₂ : Lent T) : Type 0 where
  pub wrong : lengths_right width l ≡ false → (status ≡ 1) × (l₂ ≡ l)
  pub right : lengths_right width l ≡ true → (status ≡ 0) × (held numbers l₂ ≡ reset_state)
