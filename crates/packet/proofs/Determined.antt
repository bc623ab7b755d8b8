-- The plain promises of reading, of making and of what a packet announces each hold of one outcome
-- at most; and what names mean.
use Prim.Native.Nat.{ℕ, zero, suc, ◌+◌, ◌*◌, ◌/◌, ◌%◌, ◌<◌}
use mathlib.Core.Path.{◌≡◌, refl, sym, ap, ◌∙◌}
use mathlib.Core.Bool.{Bool, true, false, ◌&&◌}
use mathlib.Core.List.{List, [], ◌∷◌, ◌++◌, append_assoc}
use native.Mathlib.Omega.{arith}
use native.Mathlib.Decide.{ℕ_discrete}
use borrow.Author.Tests.{eqb-true, eq-eqb, leb-true, le-leb}
use lib.ListN.{length, take, replicate}
use lib.Dec.{eqb, leb}
use Rattle.wire.specs.Checksum.{checksum, sealed}
use Rattle.wire.proofs.Plain.{least-one}
use Rattle.wire.proofs.Tests.{and_left, and_right}
use Rattle.opcode.specs.Options.{has_length, has_checksum, is_read}
use Rattle.opcode.specs.Faults.{FirstFault}
use Rattle.opcode.proofs.Faults.{only_one}
use Rattle.packet.specs.Frame.{header_of, opcode_of, options_of, data_of}
use Rattle.packet.specs.Reading.{Answer, reading}
use Rattle.packet.specs.Making.{Made, present, head_bytes, packet_of}
use Rattle.packet.specs.Points.{start_of, count_of, writes_points, accepted_at, map_after}
use Rattle.packet.specs.Plain.{ReadPlain, MakePlain, AnnouncedPlain, WritesAt, Pinned, unsealed}
use Rattle.packet.proofs.Frames.{reading-number, accepted}
use Rattle.packet.proofs.Promises.{read-promised}

-- Two places of a refusal, of which 10 alone has one.
pub same-fault : {op o : ℕ} {d : List ℕ} (n : ℕ) {j k : ℕ} → (n ≡ 10 → FirstFault op o d j) → ((n ≡ 10 → ⊥) → j ≡ 0)
    → (n ≡ 10 → FirstFault op o d k) → ((n ≡ 10 → ⊥) → k ≡ 0) → j ≡ k
same-fault n f z g y = elim (ℕ_discrete n 10) [ yes e ↦ only_one (f e) (g e) | no e ↦ z e ∙ sym (y e) ]

pub read-determined : (p : List ℕ) (a b : Answer) → ReadPlain p a → ReadPlain p b → a ≡ b
read-determined p a b f g =
    let number : a.number ≡ b.number = least-one a.number b.number f.number g.number in
    let fault : a.fault-place ≡ b.fault-place =
    same-fault a.number f.fault-place f.no-fault (λ e. g.fault-place (sym number ∙ e)) (λ e. g.no-fault (λ h. e (number ∙ h))) in
    elim (ℕ_discrete a.number 0) [
      | yes e ↦
          let z : b.number ≡ 0 = sym number ∙ e in
          let opcode : a.opcode ≡ b.opcode = f.opcode e ∙ sym (g.opcode z) in
          let options : a.options ≡ b.options = f.options e ∙ sym (g.options z) in
          let place : a.place ≡ b.place = f.at e ∙ sym (g.at z) in
          let size : a.size ≡ b.size = f.size e ∙ sym (g.size z) in
          same number fault opcode options place size
      | no e ↦
          let x = f.nothing-else e in
          let y = g.nothing-else (λ h. e (number ∙ h)) in
          same number fault (x.0 ∙ sym y.0) (x.1 ∙ sym y.1) (x.2 ∙ sym y.2) (x.3 ∙ sym y.3)
    ]
  where
    same : {n n' f f' op op' o o' at at' size size' : ℕ} → n ≡ n' → f ≡ f' → op ≡ op' → o ≡ o' → at ≡ at' → size ≡ size'
        → ◌≡◌ {A = Answer} (record { number = n; fault-place = f; opcode = op; options = o; place = at; size = size })
        (record { number = n'; fault-place = f'; opcode = op'; options = o'; place = at'; size = size' })
    same n f op o p s = cc

pub make-determined : (op options : ℕ) (d buffer : List ℕ) (m k : Made) → MakePlain op options d buffer m → MakePlain op options d buffer k
    → m ≡ k
make-determined op options d buffer m k f g =
    let number : m.status ≡ k.status = least-one m.status k.status f.number g.number in
    let fault : m.fault-place ≡ k.fault-place =
    same-fault m.status f.fault-place f.no-fault (λ e. g.fault-place (sym number ∙ e)) (λ e. g.no-fault (λ h. e (number ∙ h))) in
    elim (ℕ_discrete m.status 0) [
      | yes e ↦
          let z : k.status ≡ 0 = sym number ∙ e in
          same number fault (f.size e ∙ sym (g.size z)) (f.written e ∙ sym (g.written z))
      | no e ↦
          let x = f.refused e in
          let y = g.refused (λ h. e (number ∙ h)) in
          same number fault (x.0 ∙ sym y.0) (x.1 ∙ sym y.1)
    ]
  where
    same : {n n' f f' size size' : ℕ} {b b' : List ℕ} → n ≡ n' → f ≡ f' → size ≡ size' → b ≡ b'
        → ◌≡◌ {A = Made} (record { status = n; fault-place = f; size = size; buffer = b }) (record { status = n'; fault-place = f'; size = size'; buffer = b' })
    same n f s b = cc

-- A length field is there, or not.
pub announced-determined : (p : List ℕ) (m n : ℕ) → AnnouncedPlain p m → AnnouncedPlain p n → m ≡ n
announced-determined p m n f g =
    elim (ℕ_discrete (has_length (header_of p)) 1) [
      | yes e ↦ f.with-length e ∙ sym (g.with-length e)
      | no e ↦ f.without (omega arith) ∙ sym (g.without (omega arith))
    ]

-- ---- What names mean.

-- Bytes that are there if an option is set.
one_byte : (b x : ℕ) → b < 2 → present b (x ∷ []) ≡ take b (x ∷ [])
one_byte zero x h = refl
one_byte (suc zero) x h = refl
one_byte (suc (suc b)) x h = absurd (omega arith)

two_bytes : (b x y : ℕ) → b < 2 → present b (x ∷ y ∷ []) ≡ take (2 * b) (x ∷ y ∷ [])
two_bytes zero x y h = refl
two_bytes (suc zero) x y h = refl
two_bytes (suc (suc b)) x y h = absurd (omega arith)

zero-byte : (b : ℕ) → b < 2 → present b (0 ∷ []) ≡ replicate b 0
zero-byte zero h = refl
zero-byte (suc zero) h = refl
zero-byte (suc (suc b)) h = absurd (omega arith)

body_is : (op o : ℕ) (d : List ℕ) → head_bytes op o (length d) ++ d ≡ unsealed op o d
body_is op o d =
    let head = zero-byte (o / 8 % 2) (omega arith) in
    let counted = two_bytes (o / 16 % 2) (length d % 256) (length d / 256) (omega arith) in
    ap (λ (l : List ℕ). (4 + o) ∷ op ∷ l)
    (rw (head, counted) (append_assoc (replicate (o / 8 % 2) 0) (take (2 * (o / 16 % 2)) (length d % 256 ∷ length d / 256 ∷ [])) d))

packet-is : (op o : ℕ) (d : List ℕ) → packet_of op o d ≡ unsealed op o d ++ take (o / 32 % 2) (checksum (unsealed op o d) ∷ [])
unfolding packet_of
packet-is op o d =
    ap (λ (body : List ℕ). sealed (eqb (has_checksum o) 1) body) (body_is op o d)
    ∙ ap (λ (l : List ℕ). unsealed op o d ++ l) (one_byte (o / 32 % 2) (checksum (unsealed op o d)) (omega arith))

-- Reading's command is that of the packet.
read_as : (p : List ℕ) → (reading p).number ≡ 0 → ((reading p).opcode ≡ opcode_of p) × (is_read (reading p).options ≡ is_read (header_of p))
read_as p z =
    let whole = accepted p (sym (reading-number p) ∙ z) in
    let options : (reading p).options ≡ options_of p = ap (λ (a : Answer). a.options) whole in
    (ap (λ (a : Answer). a.opcode) whole, rw options (omega arith))

writes_at : (n : ℕ) (p : List ℕ) → accepted_at n p ≡ true → WritesAt n p
writes_at n p h =
    let writes : writes_points p ≡ true = and_left (writes_points p) (leb (start_of (data_of p) + count_of (data_of p)) n) h in
    let one = eqb (reading p).number 0 in
    let two = eqb (reading p).opcode 0x34 in
    let three = eqb (is_read (reading p).options) 0 in
    let front = and_left (one && two) three writes in
    let taken : (reading p).number ≡ 0 = eqb-true _ _ (and_left one two front) in
    let as_read = read_as p taken in
    record {
      taken = taken;
      points = sym as_read.0 ∙ eqb-true _ _ (and_right one two front);
      write = sym as_read.1 ∙ eqb-true _ _ (and_right (one && two) three writes);
      within = leb-true _ _ (and_right (writes_points p) _ h);
    }

at-writes : (n : ℕ) (p : List ℕ) → WritesAt n p → accepted_at n p ≡ true
at-writes n p w =
    let as_read = read_as p w.taken in
    rw (eq-eqb _ _ w.taken, eq-eqb _ _ (as_read.0 ∙ w.points), eq-eqb _ _ (as_read.1 ∙ w.write), le-leb _ _ w.within)

kept-else : (n : ℕ) (p map : List ℕ) (b : Bool) → accepted_at n p ≡ b → (WritesAt n p → ⊥) → map_after n p map ≡ map
unfolding map_after
kept-else n p map true e h = absurd (h (writes_at n p e))
kept-else n p map false e h = rw e

pub pinned : Pinned
unfolding map_after
pinned =
    record {
      header = λ p. refl;
      opcode = λ p. refl;
      options = λ p. refl;
      length_at = λ h. refl;
      data-at = λ h. refl;
      besides-data = λ h. refl;
      content = λ p. refl;
      command-case = λ op o at size. refl;
      refused-case = λ why. refl;
      made-case = λ size buffer. refl;
      unmade-case = λ why buffer. refl;
      read = λ p bytes. (read-promised p bytes refl).plain;
      packet = packet-is;
      accepted-at = λ n p. (writes_at n p, at-writes n p);
      map-written = λ n p map w. rw (at-writes n p w);
      map-kept = λ n p map h. kept-else n p map (accepted_at n p) refl h;
    }
