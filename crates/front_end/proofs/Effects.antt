-- The front end's definitions leave and return what the rules' rows say.
use Prim.Native.Nat.{ℕ, zero, suc, ◌+◌, ◌*◌, ◌≤◌}
use mathlib.Core.Logic.{◌⊎◌, inl, inr, ⊎_elim}
use mathlib.Core.Path.{◌≡◌, refl}
use mathlib.Core.List.{List, [], ◌∷◌}
use native.Mathlib.Omega.{arith}
use Rattle.wire.specs.Numbers.{byte_at, word_at}
use Rattle.opcode.specs.Options.{is_read}
use Rattle.opcode.specs.Commands.{command_of}
use Rattle.opcode.specs.Allowed.{SendsNothing, ReadData, WriteData, Allowed}
use Rattle.settings.specs.Allowed.{ShapeCounts, SettingsAllowed}
use Rattle.settings.specs.Layout.{lock_place, update_place}
use Rattle.settings.specs.Layout.{place_of}
use Rattle.settings.proofs.Fits.{own-slot}
use Rattle.front_end.specs.State.{State}
use Rattle.front_end.specs.Commands.{colour_into, read_gains, read_points, shape_bytes, write_shape, read_shape, apply_block, apply_live}
use Rattle.front_end.specs.Commands.{write_smooth, read_smooth, block_after, written, block_back, data_back}
use Rattle.front_end.specs.Effects.{StandFor, Leaves, Returns}

pub leaves : {s : State} {op : ℕ} {d : List ℕ} {t : State} → Leaves s op d t → written op d s ≡ t
unfolding written block_after write_shape shape_bytes apply_block apply_live write_smooth colour_into command_of place_of
leaves {d = d} Leaves.display = let here : 0 + 0 * byte_at d 0 ≡ 0 = omega arith in rw here
leaves {d = d} Leaves.latency = let here : 1 + 0 * byte_at d 0 ≡ 1 = omega arith in rw here
leaves {d = d} Leaves.look = let here : 2 + 0 * byte_at d 0 ≡ 2 = omega arith in rw here
leaves {d = d} Leaves.curtain = let here : 4 + 0 * byte_at d 0 ≡ 4 = omega arith in rw here
leaves {d = d} Leaves.splash = let here : 5 + 0 * byte_at d 0 ≡ 5 = omega arith in rw here
leaves {d = d} Leaves.flip = let here : 6 + 0 * byte_at d 0 ≡ 6 = omega arith in rw here
leaves {d = d} Leaves.freeze = let here : 7 + 0 * byte_at d 0 ≡ 7 = omega arith in rw here
leaves {d = d} Leaves.update = let here : update_place + 0 * byte_at d 0 ≡ update_place = omega arith in rw here
leaves {d = d} Leaves.lock = let here : lock_place + 0 * byte_at d 0 ≡ lock_place = omega arith in rw here
leaves Leaves.pin = refl
leaves Leaves.level = refl
leaves {d = d} (Leaves.pwm h) = rw (own-slot d h)
leaves Leaves.pwm-13 = refl
leaves Leaves.uart = refl
leaves Leaves.points = refl
leaves Leaves.shape = refl
leaves Leaves.lists = refl
leaves Leaves.apply = refl
leaves Leaves.clear = refl
leaves Leaves.smooth = refl
leaves {d = d} (Leaves.red StandFor.plain) = let here : 0 + word_at d 4 ≡ word_at d 4 = omega arith in rw here
leaves {d = d} (Leaves.red StandFor.pairs) = let here : 0 + word_at d 4 ≡ word_at d 4 = omega arith in rw here
leaves (Leaves.green StandFor.plain) = refl
leaves (Leaves.green StandFor.pairs) = refl
leaves (Leaves.blue StandFor.plain) = refl
leaves (Leaves.blue StandFor.pairs) = refl
leaves (Leaves.all StandFor.plain) = refl
leaves (Leaves.all StandFor.pairs) = refl

pub returns : {s : State} {op : ℕ} {d back : List ℕ} → Returns s op d back → data_back op d s ≡ back
unfolding data_back block_back read_shape read_smooth read_gains read_points command_of place_of
returns Returns.display = refl
returns Returns.latency = refl
returns Returns.look = refl
returns Returns.curtain = refl
returns Returns.splash = refl
returns Returns.flip = refl
returns Returns.freeze = refl
returns Returns.update = refl
returns Returns.lock = refl
returns Returns.pin = refl
returns Returns.level = refl
returns {d = d} (Returns.pwm h) = rw (own-slot d h)
returns Returns.pwm-13 = refl
returns Returns.uart = refl
returns Returns.points = refl
returns (Returns.shape e) = rw e
returns (Returns.lists e) = rw e
returns Returns.enable = refl
returns Returns.smooth = refl
returns {d = d} Returns.red = let here : 0 + word_at d 1 ≡ word_at d 1 = omega arith in rw here
returns Returns.green = refl
returns Returns.blue = refl

-- ---- Every write and every read that is allowed has its row.

pub record SomeLeft (s : State) (op : ℕ) (d : List ℕ) : Type 0 where
  pub after : State
  pub by : Leaves s op d after

colour-left : {flag colour n₀ n₁ s₀ s₁ : ℕ} {ws new : List ℕ} (s : State) → colour ≤ 3 → StandFor flag ws new
    → SomeLeft s 0x2B (flag ∷ colour ∷ n₀ ∷ n₁ ∷ s₀ ∷ s₁ ∷ ws)
colour-left {colour = zero} s h f = record { after = _; by = Leaves.all f }
colour-left {colour = suc zero} s h f = record { after = _; by = Leaves.red f }
colour-left {colour = suc (suc zero)} s h f = record { after = _; by = Leaves.green f }
colour-left {colour = suc (suc (suc zero))} s h f = record { after = _; by = Leaves.blue f }
colour-left {colour = suc (suc (suc (suc c)))} s h f = absurd (omega arith)

pub some_left : {op : ℕ} {d : List ℕ} (s : State) → WriteData op d → SomeLeft s op d
some_left s (WriteData.display h) = record { after = _; by = Leaves.display }
some_left s (WriteData.latency h) = record { after = _; by = Leaves.latency }
some_left s (WriteData.freeze h) = record { after = _; by = Leaves.freeze }
some_left s (WriteData.lock h) = record { after = _; by = Leaves.lock }
some_left s WriteData.look = record { after = _; by = Leaves.look }
some_left s WriteData.black = record { after = _; by = Leaves.curtain }
some_left s (WriteData.colour h k) = record { after = _; by = Leaves.curtain }
some_left s (WriteData.splash h) = record { after = _; by = Leaves.splash }
some_left s (WriteData.flip h) = record { after = _; by = Leaves.flip }
some_left s (WriteData.pin h i j k) = record { after = _; by = Leaves.pin }
some_left s (WriteData.level h k) = record { after = _; by = Leaves.level }
some_left s (WriteData.pwm h i j k l) = record { after = _; by = Leaves.pwm h }
some_left s (WriteData.pwm-13 i j k l) = record { after = _; by = Leaves.pwm-13 }
some_left s (WriteData.uart h₁ h₂ h₃ h₄ h₅ h₆ h₇ h₈ h₉ h₁₀ h₁₁) = record { after = _; by = Leaves.uart }
some_left s WriteData.update = record { after = _; by = Leaves.update }
some_left s (WriteData.points h e) = record { after = _; by = Leaves.points }
some_left s (WriteData.shape h i j k) = record { after = _; by = Leaves.shape }
some_left s (WriteData.lists xs ys ex ey rx ry) = record { after = _; by = Leaves.lists }
some_left s (WriteData.apply {v = zero} h) = record { after = _; by = Leaves.clear }
some_left s (WriteData.apply {v = suc zero} h) = record { after = _; by = Leaves.apply }
some_left s (WriteData.apply {v = suc (suc v)} h) = absurd (omega arith)
some_left s (WriteData.smooth h i j k e) = record { after = _; by = Leaves.smooth }
some_left s (WriteData.gains h i e w) = colour-left s h StandFor.plain
some_left s (WriteData.runs h i e w) = colour-left s h StandFor.pairs

pub record SomeReturned (s : State) (op : ℕ) (d : List ℕ) : Type 0 where
  pub back : List ℕ
  pub by : Returns s op d back

mode_of : {m c r : ℕ} → ShapeCounts m c r → (m ≡ 0) ⊎ (m ≡ 1)
mode_of (ShapeCounts.counted h i j k) = inl refl
mode_of ShapeCounts.listed = inr refl

nothing-sent : {op : ℕ} (s : State) → SettingsAllowed s.block → SendsNothing op → SomeReturned s op []
nothing-sent s a SendsNothing.read-11 = record { back = _; by = Returns.display }
nothing-sent s a SendsNothing.read-12 = record { back = _; by = Returns.latency }
nothing-sent s a SendsNothing.read-13 = record { back = _; by = Returns.look }
nothing-sent s a SendsNothing.read-1A = record { back = _; by = Returns.curtain }
nothing-sent s a SendsNothing.read-1B = record { back = _; by = Returns.splash }
nothing-sent s a SendsNothing.read-1C = record { back = _; by = Returns.flip }
nothing-sent s a SendsNothing.read-1D = record { back = _; by = Returns.freeze }
nothing-sent s a SendsNothing.read-35 =
    ⊎_elim (λ e. record { back = _; by = Returns.shape e }) (λ e. record { back = _; by = Returns.lists e }) (mode_of a.staged.counts)
nothing-sent s a SendsNothing.read-36 = record { back = _; by = Returns.enable }
nothing-sent s a SendsNothing.read-38 = record { back = _; by = Returns.smooth }
nothing-sent s a SendsNothing.read-39 = record { back = _; by = Returns.update }
nothing-sent s a SendsNothing.read-6C = record { back = _; by = Returns.lock }

pub some-returned : {op : ℕ} {d : List ℕ} (s : State) → SettingsAllowed s.block → ReadData op d → SomeReturned s op d
some-returned s a (ReadData.nothing n) = nothing-sent s a n
some-returned s a (ReadData.pin h) = record { back = _; by = Returns.pin }
some-returned s a (ReadData.level h) = record { back = _; by = Returns.level }
some-returned s a (ReadData.pwm h) = record { back = _; by = Returns.pwm h }
some-returned s a ReadData.pwm-13 = record { back = _; by = Returns.pwm-13 }
some-returned s a (ReadData.uart h) = record { back = _; by = Returns.uart }
some-returned s a (ReadData.points h k) = record { back = _; by = Returns.points }
some-returned s a (ReadData.gains {colour = zero} h i j k) = absurd (omega arith)
some-returned s a (ReadData.gains {colour = suc zero} h i j k) = record { back = _; by = Returns.red }
some-returned s a (ReadData.gains {colour = suc (suc zero)} h i j k) = record { back = _; by = Returns.green }
some-returned s a (ReadData.gains {colour = suc (suc (suc zero))} h i j k) = record { back = _; by = Returns.blue }
some-returned s a (ReadData.gains {colour = suc (suc (suc (suc c)))} h i j k) = absurd (omega arith)

-- What options allow is a write's data or a read's.
pub written-data : {op o : ℕ} {d : List ℕ} → Allowed op o d → is_read o ≡ 0 → WriteData op d
written-data (Allowed.asks h r) e = absurd (omega arith)
written-data (Allowed.sets h w l) e = w

pub read-data : {op o : ℕ} {d : List ℕ} → Allowed op o d → is_read o ≡ 1 → ReadData op d
read-data (Allowed.asks h r) e = r
read-data (Allowed.sets h w l) e = absurd (omega arith)
