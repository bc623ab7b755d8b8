-- The test of the block holds exactly if every setting is as it may be: a list, a shape at a place, a run of equal parts, and then all of
-- the table's rows.
use Prim.Native.Nat.{ℕ, zero, suc, ◌+◌, ◌*◌, ◌≤◌, ◌<◌}
use mathlib.Core.Path.{◌≡◌, refl, sym, ◌∙◌}
use mathlib.Core.Logic.{◌↔◌}
use mathlib.Core.Bool.{Bool, true, ◌&&◌, ◌||◌}
use mathlib.Core.List.{List, [], ◌∷◌}
use native.Mathlib.Decide.{ℕ_discrete}
use native.Mathlib.Nat.{add_assoc, mul-suc}
use native.Mathlib.Omega.{arith}
use borrow.Author.Tests.{eq-eqb, ne_eqb, eqb-true}
use lib.Dec.{eqb}
use lib.ListN.{length, take, drop, get_or}
use Rattle.wire.specs.Tables.{words}
use Rattle.opcode.specs.declared.Field.{Field}
use Rattle.opcode.specs.Fields.{from_to_but, words_at, rise}
use Rattle.opcode.specs.Commands.{command_of}
use Rattle.opcode.specs.Allowed.{Rising}
use Rattle.wire.proofs.Tests.{told, and_right}
use Rattle.opcode.proofs.Accepts.Fields.{Within, All, span, least}
use Rattle.opcode.proofs.Accepts.Lists.{words-part, length-words_at, rising-rise, rise-rising}
use Rattle.settings.specs.Layout.{block_size, enable, live_shape, lock_place, pin_count, pin_place, pwm_count, pwm_place, shape_size, smooth_table, staged_shape, uart_count, uart_place, update_place}
use Rattle.settings.specs.Layout.{mode_at, columns_at, rows_at}
use Rattle.settings.specs.Allowed.{CurtainColour, ShapeCounts, ShapeAllowed, PinAllowed, PwmAllowed, UartAllowed, SettingsAllowed}
use Rattle.settings.specs.Ranges.{right, fields_of, behind_port, for_each, update_mode, picture_fields, rising, lists_rise, shape_right, settings_right, InRange}
use Rattle.settings.specs.Reset.{reset_shape, reset_block}
use Rattle.settings.proofs.Laws.{right-append, device-runs}
use Rattle.settings.proofs.Stays.{Parts, parts, whole, all_right, right-all, reset-right}

-- A list of n numbers at a place.
list-exactly : (n : ℕ) (b : List ℕ) (at : ℕ) → at + 2 * n ≤ length b → (rising b at n ≡ true) ↔ Rising (words (take (2 * n) (drop at b)))
list-exactly n b at room =
    let long = length-words_at n b at in
    let same = words-part n b at room in (
      λ t. rw same at (rise-rising (words_at b at n) (omega (arith, eqb-true (rise (words_at b at n)) n t))),
      λ r. eq-eqb (rise (words_at b at n)) n (omega (arith, rising-rise (rw (← same) at r))),
    )

-- The counts of a shape: what `omega` reads of them, and the test of the mode.
abbrev Bounds : ℕ → ℕ → ℕ → Type 0
Bounds mode columns rows = (mode ≤ 1) × (2 ≤ columns) × (columns ≤ 62) × (2 ≤ rows) × (rows ≤ 32)

abbrev Full : ℕ → ℕ → ℕ → Type 0
Full mode columns rows = (eqb mode 0 || (eqb columns 62 && eqb rows 32)) ≡ true

counts-allowed : (mode columns rows : ℕ) → Bounds mode columns rows → Full mode columns rows → ShapeCounts mode columns rows
counts-allowed mode columns rows h full =
    elim (ℕ_discrete mode 0) [
      | yes e ↦ rw e (ShapeCounts.counted h.1 h.2 h.3 h.4)
      | no e ↦
          let one : mode ≡ 1 = omega arith in
          let exact : (eqb columns 62 && eqb rows 32) ≡ true = rw (ne_eqb mode 0 e) at full in
          let across : columns ≡ 62 = search told in
          let down : rows ≡ 32 = search told in
          rw (one, across, down) ShapeCounts.listed
    ]

allowed-counts : {mode columns rows : ℕ} → ShapeCounts mode columns rows → Bounds mode columns rows × Full mode columns rows
allowed-counts (ShapeCounts.counted h i j k) = (omega arith, refl)
allowed-counts ShapeCounts.listed = (omega arith, refl)

-- A shape at a place.
shape-exactly : (b : List ℕ) (at : ℕ) → at + shape_size ≤ length b → (shape_right b at ≡ true) ↔ ShapeAllowed b at
unfolding shape_right command_of
shape-exactly b at room =
    let columns-exactly = list-exactly 62 b (at + 5) (omega arith) in
    let rows-exactly = list-exactly 32 b (at + 129) (omega arith) in (
      λ t.
          let head = simp add_assoc at (right-all (fields_of 0x35) (omega arith) b at (search told)) in
          let full : Full (mode_at b at) (columns_at b at) (rows_at b at) = search told in
          record {
            counts = counts-allowed _ _ _ (omega arith) (simp add_assoc at full);
            columns-rise = columns-exactly.0 (search told);
            rows-rise = rows-exactly.0 (search told);
          },
      λ s.
          let counts = allowed-counts s.counts in
          let full : Full (mode_at b at) (columns_at b at) (rows_at b at) = simp add_assoc counts.1 in
          rw (
            all_right (fields_of 0x35) (omega arith) b at (simp add_assoc (omega arith)),
            full,
            columns-exactly.1 s.columns-rise,
            rows-exactly.1 s.rows-rise,
          ),
    )

-- The places of equal parts.
first-place : (at step : ℕ) → at + step * 0 ≡ at
first-place at step = omega arith

next_place : (at step k : ℕ) → at + step * suc k ≡ at + step + step * k
next_place at step k = omega (arith, mul-suc step k)

-- n equal parts, one behind the other, by what a part may be.
module _ (fs : List Field) (some : 0 < least fs) (P : List ℕ → ℕ → Type 0) (one : (b : List ℕ) (at : ℕ) → All fs b at ↔ P b at) (b : List ℕ) where
  each-allowed : (n at : ℕ) → right (for_each n fs) b at ≡ true → (k : ℕ) → k < n → P b (at + span fs * k)
  each-allowed zero at t k h = absurd (omega arith)
  each-allowed (suc n) at t zero h =
      let joined = rw right-append at t in
      rw first-place ((one b at).0 (right-all fs some b at (search told)))
  each-allowed (suc n) at t (suc k) h =
      let joined = rw right-append at t in
      rw next_place (each-allowed n (at + span fs) (search told) k (omega arith))

  allowed-each : (n at : ℕ) → ((k : ℕ) → k < n → P b (at + span fs * k)) → right (for_each n fs) b at ≡ true
  unfolding right
  allowed-each zero at p = refl
  allowed-each (suc n) at p =
      rw (
        right-append fs (for_each n fs) b at,
        all_right fs some b at ((one b at).1 (rw first-place at (p 0 (omega arith)))),
        allowed-each n (at + span fs) (λ k h. rw next_place at (p (suc k) (omega arith))),
      )

-- One part: `add_assoc` brings the test's places into the form of those allowed.
pin-exactly : (b : List ℕ) (at : ℕ) → All (behind_port 0x60) b at ↔ PinAllowed b at
unfolding command_of
pin-exactly b at = (λ a. let h = simp add_assoc at a in omega arith, λ p. simp add_assoc (omega arith))

pwm-exactly : (b : List ℕ) (at : ℕ) → All (behind_port 0x65) b at ↔ PwmAllowed b at
unfolding command_of
pwm-exactly b at = (λ a. let h = simp add_assoc at a in omega arith, λ p. simp add_assoc (omega arith))

uart-exactly : (b : List ℕ) (at : ℕ) → All (behind_port 0x6D) b at ↔ UartAllowed b at
unfolding command_of
uart-exactly b at = (λ a. let h = simp add_assoc at a in omega arith, λ p. simp add_assoc (omega arith))

-- The curtain's colour.
colour-allowed : (v : ℕ) → v ≤ 8 → (v ≡ 1 → ⊥) → CurtainColour v
colour-allowed v h n =
    elim (ℕ_discrete v 0) [ yes e ↦ rw e CurtainColour.black | no e ↦ CurtainColour.colour {v = v} (omega arith) (omega arith) ]

allowed-colour : {v : ℕ} → CurtainColour v → Within (from_to_but 1 0 8 1 2) v
allowed-colour CurtainColour.black = omega arith
allowed-colour (CurtainColour.colour h k) = omega arith

all-five : (v w x y z : Bool) → (v && w && x && y && z) ≡ true → (v ≡ true) × (w ≡ true) × (x ≡ true) × (y ≡ true) × (z ≡ true)
all-five v w x y z t = (search told, search told, search told, search told, search told)

parts-allowed : (b : List ℕ) → length b ≡ block_size → Parts b → SettingsAllowed b
unfolding picture_fields command_of
parts-allowed b e p =
    let picture = right-all picture_fields (omega arith) b 0 p.picture in
    let enabled = right-all (fields_of 0x36) (omega arith) b enable p.enabled in
    let smooth = right-all (fields_of 0x38) (omega arith) b smooth_table p.smooth in
    let device = all-five _ _ _ _ _ (rw (device-runs b) at p.device) in
    let update = right-all (update_mode ∷ []) (omega arith) b update_place device.0 in
    let lock = right-all (fields_of 0x6C) (omega arith) b lock_place device.3 in
    record {
      display = omega arith;
      latency = omega arith;
      look = omega arith;
      curtain = colour-allowed (get_or b 4 0) (omega arith) (λ h. omega arith);
      splash = omega arith;
      flip = omega arith;
      freeze = omega arith;
      staged = (shape-exactly b staged_shape (omega arith)).0 p.staged;
      enable = omega arith;
      live = (shape-exactly b live_shape (omega arith)).0 p.live;
      smooth-columns = omega arith;
      smooth-rows = omega arith;
      update = omega arith;
      pins = λ k h. each-allowed (behind_port 0x60) (omega arith) PinAllowed pin-exactly b pin_count pin_place device.1 k (omega arith);
      pwm = λ k h. each-allowed (behind_port 0x65) (omega arith) PwmAllowed pwm-exactly b pwm_count pwm_place device.2 k (omega arith);
      lock = omega arith;
      uart = λ k h. each-allowed (behind_port 0x6D) (omega arith) UartAllowed uart-exactly b uart_count uart_place device.4 k (omega arith);
    }

allowed-parts : (b : List ℕ) → length b ≡ block_size → SettingsAllowed b → Parts b
unfolding picture_fields command_of
allowed-parts b e s =
    let curtain = allowed-colour s.curtain in
    record {
      picture = all_right picture_fields (omega arith) b 0 (omega arith);
      staged = (shape-exactly b staged_shape (omega arith)).1 s.staged;
      enabled = all_right (fields_of 0x36) (omega arith) b enable (omega arith);
      live = (shape-exactly b live_shape (omega arith)).1 s.live;
      smooth = all_right (fields_of 0x38) (omega arith) b smooth_table (omega arith);
      device =
          rw (
            device-runs b,
            all_right (update_mode ∷ []) (omega arith) b update_place (omega arith),
            allowed-each (behind_port 0x60) (omega arith) PinAllowed pin-exactly b pin_count pin_place (λ k h. s.pins k (omega arith)),
            allowed-each (behind_port 0x65) (omega arith) PwmAllowed pwm-exactly b pwm_count pwm_place (λ k h. s.pwm k (omega arith)),
            all_right (fields_of 0x6C) (omega arith) b lock_place (omega arith),
            allowed-each (behind_port 0x6D) (omega arith) UartAllowed uart-exactly b uart_count uart_place (λ k h. s.uart k (omega arith)),
          );
    }

-- The theorem.
pub settings-exactly : (b : List ℕ) → length b ≡ block_size → (settings_right b ≡ true) ↔ SettingsAllowed b
settings-exactly b e = (λ t. parts-allowed b e (parts b t), λ s. whole b (allowed-parts b e s))

-- A shape's test has that of its lists behind the others.
lists_of : (b : List ℕ) (at : ℕ) → shape_right b at ≡ true → lists_rise b at ≡ true
unfolding shape_right
lists_of b at t =
    and_right (right (fields_of 0x35) b at && (eqb (mode_at b at) 0 || (eqb (columns_at b at) 62 && eqb (rows_at b at) 32))) (lists_rise b at) t

-- What the test's answer promises.
pub in-range : (b : List ℕ) → length b ≡ block_size → (r : Bool) → r ≡ settings_right b → InRange b r
in-range b e r t =
    record {
      test = t;
      exactly = rw t (settings-exactly b e);
      lists = λ h. let p = parts b (sym t ∙ h) in (lists_of b staged_shape p.staged, lists_of b live_shape p.live);
    }

pub reset-allowed : SettingsAllowed reset_block
unfolding reset_block reset_shape
reset-allowed = (settings-exactly reset_block refl).0 reset-right
