-- Stored settings stay in range, and are in range after reset: a fixed write that is allowed changes one run of fields, to bytes that the
-- same fields take, and no test of the others looks at what it writes.
use Prim.Native.Nat.{ℕ, zero, suc, ◌+◌, ◌*◌, ◌-◌, ◌≤◌, ◌<◌, min}
use mathlib.Core.Path.{◌≡◌, refl, sym, ◌∙◌}
use mathlib.Core.Logic.{◌⊎◌, inl, inr, ⊎_elim}
use mathlib.Core.Bool.{true}
use mathlib.Core.List.{List, [], ◌∷◌, ◌++◌, append_assoc}
use native.Mathlib.Nat.{suc-mul}
use native.Mathlib.Omega.{arith}
use borrow.Author.Tests.{eq-eqb, eqb-true}
use lib.ListN.{length, take, drop, get_or, length-drop}
use lib.Seq.{paste}
use Rattle.opcode.specs.declared.Field.{Field}
use Rattle.opcode.specs.Fields.{fault, words_at, rise_from, rise}
use Rattle.opcode.specs.Options.{is_read}
use Rattle.opcode.specs.Commands.{command_of, fixed, flag}
use Rattle.opcode.specs.Allowed.{WriteData, Allowed}
use Rattle.wire.proofs.Tests.{told}
use Rattle.wire.proofs.Copies.{front, paste-there, paste-apart}
use Rattle.opcode.proofs.Accepts.Fields.{All, all-fault, fault-all, span, least}
use Rattle.settings.specs.Layout.{settings_end, block_size, enable, live_shape, pin_count, pwm_count, shape_size, smooth_table, staged_shape, uart_count, update_place}
use Rattle.settings.specs.Layout.{place_of, stored}
use Rattle.settings.specs.Ranges.{right, fields_of, behind_port, for_each, update_mode, picture_fields, device_fields, shape_right, settings_right}
use Rattle.settings.specs.Reset.{reset_shape, reset_block}
use Rattle.settings.proofs.Laws.{span-append, right-append, fault-right}
use Rattle.settings.proofs.Fits.{own-slot, place-fits, write-long}
use Rattle.settings.proofs.Same.{widths, widths-append, right-same, shape_same}

-- The parts of the rule.
pub record Parts (d : List ℕ) : Type 0 where
  pub picture : right picture_fields d 0 ≡ true
  pub staged : shape_right d staged_shape ≡ true
  pub enabled : right (fields_of 0x36) d enable ≡ true
  pub live : shape_right d live_shape ≡ true
  pub smooth : right (fields_of 0x38) d smooth_table ≡ true
  pub device : right device_fields d update_place ≡ true

pub parts : (d : List ℕ) → settings_right d ≡ true → Parts d
unfolding settings_right
parts d e =
    record {
      picture = search told;
      staged = search told;
      enabled = search told;
      live = search told;
      smooth = search told;
      device = search told;
    }

pub whole : (d : List ℕ) → Parts d → settings_right d ≡ true
unfolding settings_right
whole d p = rw (p.picture, p.staged, p.enabled, p.live, p.smooth, p.device)

-- A run among equal ones, k of them before it.
each-split : (fs : List Field) (m k : ℕ) → k < m → for_each m fs ≡ for_each k fs ++ (fs ++ for_each (m - suc k) fs)
each-split fs zero k h = absurd (omega arith)
each-split fs (suc m) zero h = let e : suc m - 1 ≡ m = omega arith in rw e
each-split fs (suc m) (suc k) h =
    let e : suc m - suc (suc k) ≡ m - suc k = omega arith in
    rw (each-split fs m k (omega arith), e) (sym (append_assoc fs (for_each k fs) (fs ++ for_each (m - suc k) fs)))

each-span : (fs : List Field) (k : ℕ) → span (for_each k fs) ≡ k * span fs
each-span fs zero = omega arith
each-span fs (suc k) = omega (arith, span-append fs (for_each k fs), each-span fs k, suc-mul k (span fs))

-- A run's test holds exactly if each field takes its number.
pub all_right : (fs : List Field) → 0 < least fs → (d : List ℕ) (at : ℕ) → All fs d at → right fs d at ≡ true
all_right fs h d at a = sym (fault-right fs h d at) ∙ eq-eqb (fault fs d at) (at + span fs) (all-fault fs d at a)

pub right-all : (fs : List Field) → 0 < least fs → (d : List ℕ) (at : ℕ) → right fs d at ≡ true → All fs d at
right-all fs h d at e =
    fault-all fs h d at (omega (arith, eqb-true (fault fs d at) (at + span fs) (fault-right fs h d at ∙ e)))

-- m bytes from a place on lie before the n that are written, or behind them.
abbrev pub Apart : ℕ → ℕ → ℕ → ℕ → Type 0
Apart place n at m = min (at + m - place) (place + n - at) ≡ 0

-- Part by part of the rule: a copy lies apart from it, or its test holds of the block that the copy leaves.
pub record Framed (place n : ℕ) (after : List ℕ) : Type 0 where
  pub picture : Apart place n 0 staged_shape ⊎ (right picture_fields after 0 ≡ true)
  pub staged : Apart place n staged_shape shape_size ⊎ (shape_right after staged_shape ≡ true)
  pub enabled : Apart place n enable 1 ⊎ (right (fields_of 0x36) after enable ≡ true)
  pub live : Apart place n live_shape shape_size ⊎ (shape_right after live_shape ≡ true)
  pub smooth : Apart place n smooth_table 2 ⊎ (right (fields_of 0x38) after smooth_table ≡ true)
  pub device : Apart place n update_place (settings_end - update_place) ⊎ (right device_fields after update_place ≡ true)

-- A copy into the block.
module _ (block s : List ℕ) (place n : ℕ) (room : place + n ≤ length block) (long : n ≤ length s) where
  kept : (fs : List Field) (at : ℕ) → widths fs ≡ true → Apart place n at (span fs)
      → right fs block at ≡ true → right fs (paste block place s n) at ≡ true
  kept fs at w h e = right-same fs w (paste-apart block s place n room long at (span fs) h) ∙ e

  kept-shape : (shape : ℕ) → Apart place n shape shape_size → shape_right block shape ≡ true → shape_right (paste block place s n) shape ≡ true
  kept-shape shape h e = shape_same (paste-apart block s place n room long shape shape_size h) ∙ e

  -- Between a and b it writes what the fields between them take.
  replaced : (a fs b : List Field) (at : ℕ) → widths (a ++ (fs ++ b)) ≡ true → at + span a ≡ place → span fs ≡ n
      → right fs s 0 ≡ true → right (a ++ (fs ++ b)) block at ≡ true → right (a ++ (fs ++ b)) (paste block place s n) at ≡ true
  replaced a fs b at w here size new old =
      let widths-parts = rw (widths-append a (fs ++ b), widths-append fs b) at w in
      let wa : widths a ≡ true = search told in
      let wf : widths fs ≡ true = search told in
      let wb : widths b ≡ true = search told in
      let old-parts = rw (right-append a (fs ++ b) block at, right-append fs b block (at + span a)) at old in
      let old-a : right a block at ≡ true = search told in
      let old-b : right b block (at + span a + span fs) ≡ true = search told in
      rw (
        right-append a (fs ++ b) (paste block place s n) at,
        right-append fs b (paste block place s n) (at + span a),
        kept a at wa (omega arith) old-a,
        kept b (at + span a + span fs) wb (omega arith) old-b,
        here,
        right-same fs wf (front (paste-there block s place n room long) (span fs) (omega arith)),
        new,
      )

  pub frame : Parts block → Framed place n (paste block place s n) → Parts (paste block place s n)
  unfolding widths command_of picture_fields device_fields
  frame p f =
      record {
        picture = ⊎_elim (λ h. kept picture_fields 0 refl h p.picture) (λ e. e) f.picture;
        staged = ⊎_elim (λ h. kept-shape staged_shape h p.staged) (λ e. e) f.staged;
        enabled = ⊎_elim (λ h. kept (fields_of 0x36) enable refl h p.enabled) (λ e. e) f.enabled;
        live = ⊎_elim (λ h. kept-shape live_shape h p.live) (λ e. e) f.live;
        smooth = ⊎_elim (λ h. kept (fields_of 0x38) smooth_table refl h p.smooth) (λ e. e) f.smooth;
        device = ⊎_elim (λ h. kept device_fields update_place refl h p.device) (λ e. e) f.device;
      }

-- What the data of a fixed write stores: the k-th of m equal runs that stand behind others, from a place on.
record Put (op : ℕ) (d : List ℕ) (at : ℕ) (l fs : List Field) (m k : ℕ) : Type 0 where
  among : k < m
  here : at + (span l + k * span fs) ≡ place_of op d
  size : span fs ≡ (command_of op).back
  some : 0 < least fs
  taken : All fs (drop (command_of op).read d) 0

-- A fixed write, by the list of fields that it writes in.
module _ (op : ℕ) (d block : List ℕ)
    (room : place_of op d + (command_of op).back ≤ length block) (long : (command_of op).back ≤ length (drop (command_of op).read d))
    (p : Parts block) where
  put : (fields l fs r : List Field) (m k at : ℕ) → fields ≡ l ++ for_each m fs ++ r → widths fields ≡ true → Put op d at l fs m k
      → right fields block at ≡ true → right fields (stored op d block) at ≡ true
  put fields l fs r m k at e w u =
      let split : fields ≡ (l ++ for_each k fs) ++ (fs ++ (for_each (m - suc k) fs ++ r)) = e ∙ rw (each-split fs m k u.among) (simp append_assoc) in
      rw split
      (replaced block (drop (command_of op).read d) (place_of op d) (command_of op).back room long (l ++ for_each k fs) fs (for_each (m - suc k) fs ++ r) at
      (rw split at w) (omega (arith, span-append l (for_each k fs), each-span fs k, u.here)) u.size
      (all_right fs u.some (drop (command_of op).read d) 0 u.taken))

  framed : Framed (place_of op d) (command_of op).back (stored op d block) → Parts (stored op d block)
  framed = frame block (drop (command_of op).read d) (place_of op d) (command_of op).back room long p

  picture-stays : (l fs r : List Field) → picture_fields ≡ l ++ for_each 1 fs ++ r → place_of op d + (command_of op).back ≤ staged_shape → Put op d 0 l fs 1 0
      → Parts (stored op d block)
  unfolding widths command_of picture_fields
  picture-stays l fs r e h u =
      framed
      (record {
        picture = inr (put picture_fields l fs r 1 0 0 e refl u p.picture);
        staged = inl (omega arith);
        enabled = inl (omega arith);
        live = inl (omega arith);
        smooth = inl (omega arith);
        device = inl (omega arith);
      })

  enable-stays : Put op d enable [] (fields_of 0x36) 1 0 → Parts (stored op d block)
  unfolding widths command_of
  enable-stays u =
      framed
      (record {
        picture = inl (omega arith);
        staged = inl (omega arith);
        enabled = inr (put (fields_of 0x36) [] (fields_of 0x36) [] 1 0 enable refl refl u p.enabled);
        live = inl (omega arith);
        smooth = inl (omega arith);
        device = inl (omega arith);
      })

  device-stays : (l fs r : List Field) (m k : ℕ) → device_fields ≡ l ++ for_each m fs ++ r → update_place ≤ place_of op d → Put op d update_place l fs m k
      → Parts (stored op d block)
  unfolding widths command_of device_fields
  device-stays l fs r m k e h u =
      framed
      (record {
        picture = inl (omega arith);
        staged = inl (omega arith);
        enabled = inl (omega arith);
        live = inl (omega arith);
        smooth = inl (omega arith);
        device = inr (put device_fields l fs r m k update_place e refl u p.device);
      })

-- The fields from 39h's place on, in front of and behind those of a command.
abbrev before_pwm : List Field
before_pwm = (update_mode ∷ []) ++ for_each pin_count (behind_port 0x60)

abbrev before_lock : List Field
before_lock = before_pwm ++ for_each pwm_count (behind_port 0x65)

abbrev behind_pwm : List Field
behind_pwm = fields_of 0x6C ++ for_each uart_count (behind_port 0x6D)

abbrev behind_pins : List Field
behind_pins = for_each pwm_count (behind_port 0x65) ++ behind_pwm

write-stays : {op : ℕ} {d : List ℕ} → ((k : ℕ) → get_or d k 0 < 256) → WriteData op d → (command_of op).kind ≡ fixed
    → (block : List ℕ) → place_of op d + (command_of op).back ≤ length block → (command_of op).back ≤ length (drop (command_of op).read d)
    → Parts block → Parts (stored op d block)
unfolding command_of place_of picture_fields device_fields
write-stays {op} {d} bytes (WriteData.display h) m block room long q =
    picture-stays op d block room long q [] (fields_of 0x11) (drop 1 picture_fields) refl (omega arith) (omega arith)
write-stays {op} {d} bytes (WriteData.latency h) m block room long q =
    picture-stays op d block room long q (take 1 picture_fields) (fields_of 0x12) (drop 2 picture_fields) refl (omega arith) (omega arith)
write-stays {op} {d} bytes WriteData.look m block room long q =
    picture-stays op d block room long q (take 2 picture_fields) (fields_of 0x13) (drop 3 picture_fields) refl (omega arith)
    (omega (arith, bytes 0, bytes 1))
write-stays {op} {d} bytes WriteData.black m block room long q =
    picture-stays op d block room long q (take 3 picture_fields) (fields_of 0x1A) (drop 4 picture_fields) refl (omega arith) (omega arith)
write-stays {op} {d} bytes (WriteData.colour h k) m block room long q =
    picture-stays op d block room long q (take 3 picture_fields) (fields_of 0x1A) (drop 4 picture_fields) refl (omega arith) (omega arith)
write-stays {op} {d} bytes (WriteData.splash h) m block room long q =
    picture-stays op d block room long q (take 4 picture_fields) (fields_of 0x1B) (drop 5 picture_fields) refl (omega arith) (omega arith)
write-stays {op} {d} bytes (WriteData.flip h) m block room long q =
    picture-stays op d block room long q (take 5 picture_fields) (fields_of 0x1C) (drop 6 picture_fields) refl (omega arith) (omega arith)
write-stays {op} {d} bytes (WriteData.freeze h) m block room long q =
    picture-stays op d block room long q (take 6 picture_fields) (fields_of 0x1D) [] refl (omega arith) (omega arith)
write-stays {op} {d} bytes (WriteData.apply h) m block room long q = enable-stays op d block room long q (omega arith)
write-stays {op} {d} bytes WriteData.update m block room long q =
    device-stays op d block room long q [] (update_mode ∷ []) (drop 1 device_fields) 1 0 refl (omega arith) (omega arith)
write-stays {op} {d} bytes (WriteData.pin {p} h i j k) m block room long q =
    device-stays op d block room long q (update_mode ∷ []) (behind_port 0x60) behind_pins pin_count p refl (omega arith) (omega arith)
write-stays {op} {d} bytes (WriteData.level {p} h k) m block room long q =
    device-stays op d block room long q (update_mode ∷ []) (flag ∷ []) behind_pins 264 (3 * p + 1) refl (omega arith) (omega arith)
write-stays {op} {d} bytes (WriteData.pwm {port} h i j k l) m block room long q =
    let own = own-slot d h in
    device-stays op d block room long q before_pwm (behind_port 0x65) behind_pwm pwm_count port refl (omega arith) (omega arith)
write-stays {op} {d} bytes (WriteData.pwm-13 i j k l) m block room long q =
    device-stays op d block room long q before_pwm (behind_port 0x65) behind_pwm pwm_count 11 refl (omega arith) (omega arith)
write-stays {op} {d} bytes (WriteData.lock h) m block room long q =
    device-stays op d block room long q before_lock (fields_of 0x6C) (for_each uart_count (behind_port 0x6D)) 1 0 refl (omega arith) (omega arith)
write-stays {op} {d} bytes (WriteData.uart {port} h₁ h₂ h₃ h₄ h₅ h₆ h₇ h₈ h₉ h₁₀ h₁₁) m block room long q =
    device-stays op d block room long q (before_lock ++ fields_of 0x6C) (behind_port 0x6D) [] uart_count port refl (omega arith) (omega arith)
write-stays bytes (WriteData.points h e) m block room long q = absurd (omega arith)
write-stays bytes (WriteData.shape h i j k) m block room long q = absurd (omega arith)
write-stays bytes (WriteData.lists xs ys ex ey rx ry) m block room long q = absurd (omega arith)
write-stays bytes (WriteData.smooth h i j k e) m block room long q = absurd (omega arith)
write-stays bytes (WriteData.gains h i e s) m block room long q = absurd (omega arith)
write-stays bytes (WriteData.runs h i e s) m block room long q = absurd (omega arith)

-- The theorem. Elements of the data are bytes.
pub stays : {op o : ℕ} {d : List ℕ} (block : List ℕ) → ((k : ℕ) → get_or d k 0 < 256) → Allowed op o d → is_read o ≡ 0
    → (command_of op).kind ≡ fixed → length block ≡ block_size → settings_right block ≡ true → settings_right (stored op d block) ≡ true
stays block b (Allowed.asks h r) write m e right = absurd (omega arith)
stays {op} {o} {d} block b (Allowed.sets h w l) write m e right =
    let room : place_of op d + (command_of op).back ≤ length block = omega (arith, place-fits (Allowed.sets h w l) m) in
    let long : (command_of op).back ≤ length (drop (command_of op).read d) = rw length-drop (omega (arith, write-long (Allowed.sets h w l) h m)) in
    whole (stored op d block) (write-stays b w m block room long (parts block right))

pub reset-right : settings_right reset_block ≡ true
unfolding settings_right shape_right right picture_fields device_fields command_of reset_block reset_shape words_at rise rise_from
reset-right = refl
