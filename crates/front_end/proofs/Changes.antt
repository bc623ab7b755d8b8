-- What a packet changes: nothing, unless it is an accepted write. Such a write copies into the block at most once, inside the bytes that its
-- command owns; one that applies copies twice.
use Prim.Native.Nat.{ℕ, ◌+◌, ◌*◌, ◌-◌, ◌≤◌, ◌<◌, min}
use mathlib.Core.Path.{◌≡◌, refl, ◌∙◌}
use mathlib.Core.Bool.{Bool, true, false, cond, and-false}
use mathlib.Core.List.{List, [], ◌∷◌, ◌++◌}
use native.Mathlib.Decide.{ℕ_discrete}
use native.Mathlib.Omega.{arith}
use borrow.Author.Tests.{eq-eqb, ne_eqb}
use lib.ListN.{length, drop, length-append, length-drop}
use lib.Seq.{paste, length-paste}
use lib.Dec.{eqb}
use Rattle.wire.specs.First.{first}
use Rattle.wire.specs.Numbers.{byte_at}
use Rattle.opcode.specs.Options.{options_in, is_read}
use Rattle.opcode.specs.Commands.{command_of}
use Rattle.opcode.specs.Judgement.{judgement}
use Rattle.opcode.specs.Allowed.{WriteData, Allowed}
use Rattle.wire.proofs.Tests.{first-silent}
use Rattle.opcode.proofs.Accepts.Commands.{of-carried}
use Rattle.opcode.proofs.Accepts.Writes.{silent-write, silent-length}
use Rattle.packet.specs.Frame.{header_of, opcode_of, place, data_size, data_of}
use Rattle.settings.specs.Layout.{block_size, enable, live_shape, settings_end, shape_size, smooth_table, staged_shape, lists_size, update_place}
use Rattle.settings.specs.Layout.{place_of, place_in, places, slot}
use Rattle.settings.proofs.Fits.{place-fits, write-long}
use Rattle.front_end.specs.State.{State, stopped}
use Rattle.front_end.specs.Commands.{shape_bytes, write_shape, apply_block, write_smooth, block_after}
use Rattle.front_end.specs.Mark.{written_marked}
use Rattle.front_end.specs.Step.{read_and_placed, decision, number_of, step}
use Rattle.front_end.proofs.Bounds.{Commanded, commanded, write-data}
use Rattle.front_end.proofs.Reach.{Other, Kind, kind_of, other_after}
use Rattle.front_end.proofs.Sizes.{smooth-size, fixed-rest}
use Rattle.front_end.proofs.Demands.{Running, lent}

-- A packet whose number is 0: what is lent is right, and it is a command.
pub record Passed (p : List ℕ) (s : State) (reply : List ℕ) : Type 0 where
  pub lent : Running s reply
  pub command : Commanded p s.block (opcode_of p) (options_in (header_of p)) (place (header_of p)) (data_size p)

pub passed : (p : List ℕ) (s : State) (reply : List ℕ) → number_of p s reply ≡ 0 → Passed p s reply
unfolding number_of decision
passed p s reply e = go (stopped s reply) refl e
  where
    go : (b : Bool) → stopped s reply ≡ b → cond b 1 (first (read_and_placed p s.block)) ≡ 0 → Passed p s reply
    go true t h = absurd (omega arith)
    go false t h =
        record {
          lent = lent s reply t;
          command = commanded p s.block (opcode_of p) (options_in (header_of p)) (place (header_of p)) (data_size p) (rw h);
        }

-- One packet: the state stays, or it is what an accepted write leaves.
pub data Way (p : List ℕ) (s : State) (reply : List ℕ) : Type 0 where
  same : (step p s reply).state ≡ s → Way p s reply
  wrote : (step p s reply).status ≡ 0 → is_read (header_of p) ≡ 0 → Passed p s reply → (step p s reply).state ≡ written_marked (opcode_of p) (data_of p) s
      → Way p s reply

pub way : (p : List ℕ) (s : State) (reply : List ℕ) → Way p s reply
unfolding step
way p s reply =
    elim (ℕ_discrete (number_of p s reply) 0) [
      | no e ↦ Way.same (rw (ne_eqb (number_of p s reply) 0 e))
      | yes e ↦
          elim (ℕ_discrete (is_read (header_of p)) 1) [
            | yes r ↦ Way.same (rw (eq-eqb (is_read (header_of p)) 1 r, and-false))
            | no r ↦ Way.wrote e (omega arith) (passed p s reply e) (rw (e, ne_eqb (is_read (header_of p)) 1 r))
          ]
    ]

-- ---- The block.

-- The bytes of the block that a command owns, from its opcode and data alone: no packet of another command writes there, but that 61h has the
-- middle byte of 60h's three.
abbrev pub own_first : ℕ → List ℕ → ℕ
own_first op d = cond (eqb op 0x35) staged_shape (cond (eqb op 0x36) enable (cond (eqb op 0x38) smooth_table (place_of op d)))

abbrev pub own_end : ℕ → List ℕ → ℕ
own_end op d = cond (eqb op 0x35) enable (cond (eqb op 0x36) smooth_table (cond (eqb op 0x38) update_place (place_of op d + (command_of op).back)))

-- A copy of n elements into the block: inside the bytes that the command owns, and so it ends where the settings end; and beside the live shape.
pub record Copy (op : ℕ) (d from : List ℕ) (to n : ℕ) : Type 0 where
  pub owned-from : own_first op d ≤ to
  pub owned-to : to + n ≤ own_end op d
  pub ends : to + n ≤ settings_end
  pub beside : min (smooth_table - to) (to + n - live_shape) ≡ 0
  pub off-staged : (op ≡ 0x35 → ⊥) → min (enable - to) (to + n - staged_shape) ≡ 0
  pub long : n ≤ length from

-- An accepted 36h write of 1 copies twice: enable, and then the staged shape to the live one's place.
abbrev pub enabled : List ℕ → List ℕ
enabled block = paste block enable (1 ∷ []) 1

pub enabled-long : (block : List ℕ) → length block ≡ block_size → length (enabled block) ≡ block_size
enabled-long block l = length-paste block enable (1 ∷ []) 1 (omega arith) (omega arith) ∙ l

pub applied-long : (block : List ℕ) → length block ≡ block_size → length (paste (enabled block) live_shape (drop staged_shape block) shape_size) ≡ block_size
applied-long block l =
    let long = enabled-long block l in
    length-paste (enabled block) live_shape (drop staged_shape block) shape_size (omega arith) (rw length-drop (omega arith)) ∙ long

-- What a write does to the block, whatever the block: nothing, one copy at a place that depends on opcode and data alone, or apply's two.
pub data Change (op : ℕ) (d : List ℕ) : Type 0 where
  none : ((block : List ℕ) → block_after op d block ≡ block) → Change op d
  copied : (from : List ℕ) (to n : ℕ) → Copy op d from to n → ((block : List ℕ) → block_after op d block ≡ paste block to from n) → Change op d
  applied : op ≡ 0x36 → byte_at d 0 ≡ 1 → ((block : List ℕ) → block_after op d block ≡ paste (enabled block) live_shape (drop staged_shape block) shape_size)
      → Change op d

-- Computed for every command: its place lies behind a shape, which stands from low to high; or it has one place alone, before it.
abbrev Aside : ℕ → ℕ → ℕ → Type 0
Aside low high op = min (high - (place_in op places).first) ((place_in op places).first + 1000 * (place_in op places).step + (command_of op).back - low) ≡ 0

-- A command with several places has all of them behind the shape.
far : (low high at by back : ℕ) → low < 1000 → min (high - at) (at + 1000 * by + back - low) ≡ 0 → 1 ≤ by → high ≤ at
far low high at by back l h some = omega arith

beside-far : (low high at n : ℕ) → high ≤ at → min (high - at) (at + n - low) ≡ 0
beside-far low high at n h = omega arith

aside-place : (low high at by times back : ℕ) → low < 1000 → min (high - at) (at + 1000 * by + back - low) ≡ 0
    → min (high - (at + by * times)) (at + by * times + back - low) ≡ 0
aside-place low high at by times back l h =
    elim (ℕ_discrete by 0) [
      | yes e ↦
          let here : at + by * times ≡ at = rw e (omega arith) in
          let once : at + 1000 * by + back ≡ at + back = omega arith in
          rw here (rw once at h)
      | no e ↦ beside-far low high (at + by * times) back (omega (arith, far low high at by back l h (omega arith)))
    ]

module _ (op o : ℕ) (d : List ℕ) (h : is_read o ≡ 0) (e : first (judgement op o d) ≡ 0) where
  pub write_allowed : Allowed op o d
  unfolding judgement
  write_allowed =
      let silent = first-silent (judgement op o d) (omega arith) e in
      Allowed.sets h (silent-write op o d h silent) (silent-length op o d h silent)

  aside : Aside live_shape smooth_table op
  unfolding judgement command_of
  aside = of-carried (Aside live_shape smooth_table) (omega arith) op (first-silent (judgement op o d) (omega arith) e).0

  aside-staged : Aside staged_shape enable op
  unfolding judgement command_of
  aside-staged = of-carried (Aside staged_shape enable) (omega arith) op (first-silent (judgement op o d) (omega arith) e).0

  other-copy : Other op → Copy op d (drop (command_of op).read d) (place_of op d) (command_of op).back
  unfolding place_of
  other-copy k =
      let m = fixed-rest op o d e k.not-gains k.not-points k.not-shape k.not-smooth in
      let own_place : own_first op d ≡ place_of op d = rw (ne_eqb op 0x35 k.not-shape, ne_eqb op 0x36 k.not-apply, ne_eqb op 0x38 k.not-smooth) in
      let own-end : own_end op d ≡ place_of op d + (command_of op).back =
      rw (ne_eqb op 0x35 k.not-shape, ne_eqb op 0x36 k.not-apply, ne_eqb op 0x38 k.not-smooth) in
      record {
        owned-from = omega arith;
        owned-to = omega arith;
        ends = place-fits write_allowed m;
        beside = aside-place live_shape smooth_table (place_in op places).first (place_in op places).step (slot op (byte_at d 0)) (command_of op).back (omega arith) aside;
        off-staged = λ z. aside-place staged_shape enable (place_in op places).first (place_in op places).step (slot op (byte_at d 0)) (command_of op).back (omega arith) aside-staged;
        long = rw length-drop (omega (arith, write-long write_allowed h m));
      }

shape-copy : {d : List ℕ} → WriteData 0x35 d → Copy 0x35 d (shape_bytes d) staged_shape (length (shape_bytes d))
unfolding shape_bytes
shape-copy (WriteData.shape h i j k) = omega arith
shape-copy (WriteData.lists xs ys ex ey rx ry) =
    let long : length (xs ++ ys) ≡ lists_size = rw length-append (omega arith) in omega arith

smooth-copy : {d : List ℕ} → WriteData 0x38 d → Copy 0x38 d d smooth_table (length d)
smooth-copy w = let long = smooth-size w in omega arith

-- A write that is accepted.
pub changed : (op o : ℕ) (d : List ℕ) → is_read o ≡ 0 → first (judgement op o d) ≡ 0 → Change op d
unfolding block_after write_shape apply_block write_smooth
changed op o d h e = go (kind_of op)
  where
    go : Kind op → Change op d
    go (Kind.gains k) = Change.none (λ block. rw k)
    go (Kind.points k) = Change.none (λ block. rw k)
    go (Kind.shape k) =
        rw k (Change.copied (shape_bytes d) staged_shape (length (shape_bytes d)) (shape-copy (write-data 0x35 o d h (rw k at e))) (λ block. refl))
    go (Kind.apply k) =
        elim (ℕ_discrete (byte_at d 0) 1) [
          | yes v ↦ Change.applied k v (λ block. rw (k, v))
          | no v ↦ rw k (Change.copied (0 ∷ []) enable 1 (omega arith) (λ block. rw (ne_eqb (byte_at d 0) 1 v)))
        ]
    go (Kind.smooth k) = rw k (Change.copied d smooth_table (length d) (smooth-copy (write-data 0x38 o d h (rw k at e))) (λ block. refl))
    go (Kind.other k) =
        Change.copied (drop (command_of op).read d) (place_of op d) (command_of op).back (other-copy op o d h e k) (λ block. other_after op d block k)

pub changed-long : {op : ℕ} {d : List ℕ} → Change op d → (block : List ℕ) → length block ≡ block_size → length (block_after op d block) ≡ block_size
changed-long (Change.none e) block l = rw (e block) l
changed-long (Change.copied from to n c e) block l = rw (e block, length-paste block to from n (omega arith) c.long) l
changed-long (Change.applied a v e) block l = rw (e block) (applied-long block l)
