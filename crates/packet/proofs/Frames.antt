-- Frames and what stands in them. The refusals of a command, which follow those of its frame, may be any list.
use Prim.Native.Nat.{ℕ, ◌+◌, ◌-◌, ◌≤◌}
use mathlib.Core.Path.{◌≡◌, refl, sym, ap, ◌∙◌}
use mathlib.Core.Bool.{Bool, true, false, cond}
use mathlib.Core.List.{List, [], ◌∷◌, ◌++◌}
use native.Mathlib.Omega.{arith}
use borrow.Author.Tests.{ltb-false, eqb-true, eqb-false}
use lib.ListN.{length, take, drop}
use lib.Dec.{eqb}
use Rattle.wire.specs.First.{first}
use Rattle.wire.specs.declared.refusal.Refusal.{Refusal}
use Rattle.wire.specs.declared.refusal.Refusal.TheVariants.{LentWrong, TooShort, TooLong, LengthDiffers, ChecksumDiffers, NotForUs, Unknown, LacksLength, SizeWrong, ValueWrong, NamedOnly, RunsPast}
use Rattle.wire.specs.Refusals.{number_of}
use Rattle.wire.proofs.Tests.{first-silent, first-left, first-right, none_both}
use Rattle.opcode.specs.Judgement.{judgement, fault_place}
use Rattle.packet.specs.Frame.{header_of, opcode_of, options_of, place, fields, data_size, data_of}
use Rattle.packet.specs.Reading.{Answer, too_short, too_long, length_differs, checksum_differs, elsewhere, frame_refusals, refusals, fault_of, command_at, refused_by, answered, reading}
use Rattle.packet.specs.Internal.{framed}

-- What stands in a packet.
abbrev pub standing : List ℕ → Answer
standing p = command_at (opcode_of p) (options_of p) (place (header_of p)) (data_size p)

-- The five tests of a frame.
abbrev pub rows : Bool → Bool → Bool → Bool → Bool → List (ℕ × Bool)
rows a b c d e = (2, a) ∷ (3, b) ∷ (4, c) ∷ (5, d) ∷ (6, e) ∷ []

-- No number means that no test held, and none of what follows.
pub record Passed (a b c d e : Bool) : Type 0 where
  pub no-2 : a ≡ false
  pub no-3 : b ≡ false
  pub no-4 : c ≡ false
  pub no-5 : d ≡ false
  pub no-6 : e ≡ false

pub none_of : (a b c d e : Bool) (ts : List (ℕ × Bool)) → first (rows a b c d e ++ ts) ≡ 0 → Passed a b c d e × (first ts ≡ 0)
none_of a b c d e ts h =
    let both = (none_both (rows a b c d e) ts (omega arith)).0 h in
    let silent = first-silent (rows a b c d e) (omega arith) both.0 in
    (record { no-2 = silent.0; no-3 = silent.1.0; no-4 = silent.1.1.0; no-5 = silent.1.1.1.0; no-6 = silent.1.1.1.1.0 }, both.1)

-- What stands in a packet, part by part.
pub standing-as : (p : List ℕ) {op o at size : ℕ} → op ≡ opcode_of p → o ≡ options_of p → at ≡ place (header_of p) → size ≡ data_size p
    → command_at op o at size ≡ standing p
standing-as p h i j k = rw (h, i, j, k)

-- An answer is sound exactly if its number is 0: a refusal has no data, and data is never at place 0.
sound-zero : (b : Bool) (n f : ℕ) (p : List ℕ) {op o at size : ℕ} → eqb n 0 ≡ b
    → command_at op o at size ≡ cond b (standing p) (refused_by n f) → n ≡ 0
sound-zero true n f p e h = eqb-true n 0 e
sound-zero false n f p e h = sym (ap (λ (a : Answer). a.number) h)

broken-some : (b : Bool) (n f m g : ℕ) (p : List ℕ) → refused_by m g ≡ cond b (standing p) (refused_by n f) → b ≡ false
broken-some true n f m g p h = let z = ap (λ (a : Answer). a.place) h in absurd (omega arith)
broken-some false n f m g p h = refl

-- The number answered is the number found.
number_by : (b : Bool) (n f : ℕ) (p : List ℕ) → eqb n 0 ≡ b → (cond b (standing p) (refused_by n f)).number ≡ n
number_by true n f p e = sym (eqb-true n 0 e)
number_by false n f p e = refl

pub reading-number : (p : List ℕ) → (reading p).number ≡ first (refusals p)
unfolding reading
reading-number p = number_by (eqb (first (refusals p)) 0) (first (refusals p)) _ p refl

-- And the place is that of the number: 0 has none.
fault-by : (b : Bool) (n : ℕ) (p : List ℕ) → eqb n 0 ≡ b → (cond b (standing p) (refused_by n (fault_of n p))).fault-place ≡ fault_of n p
fault-by true n p e = rw (eqb-true n 0 e)
fault-by false n p e = refl

pub reading-fault : (p : List ℕ) → (reading p).fault-place ≡ fault_of (first (refusals p)) p
unfolding reading
reading-fault p = fault-by (eqb (first (refusals p)) 0) (first (refusals p)) p refl

-- A packet that nothing is refused of.
pub accepted : (p : List ℕ) → first (refusals p) ≡ 0 → reading p ≡ standing p
unfolding reading
accepted p e = ap (λ (n : ℕ). answered n p) e

-- A refusal's number is not 0.
pub refused-some : (p : List ℕ) (n f : ℕ) → refused_by n f ≡ reading p → n ≡ 0 → ⊥
refused-some p n f h z =
    let none = sym (reading-number p) ∙ sym (ap (λ (a : Answer). a.number) h) ∙ z in
    omega (arith, ap (λ (a : Answer). a.place) (h ∙ accepted p none))

-- A broken frame's refusal is that of the packet.
pub broken-read : (p : List ℕ) (n f : ℕ) → refused_by n f ≡ framed p → refused_by n f ≡ reading p
unfolding framed reading
broken-read p n f h =
    let some = broken-some (eqb (first (frame_refusals p)) 0) (first (frame_refusals p)) _ n f p h in
    h ∙ ap (λ (n : ℕ). answered n p) (sym (first-left (frame_refusals p) (judgement (opcode_of p) (options_of p) (data_of p)) (eqb-false (first (frame_refusals p)) 0 some)))

-- What a sound frame holds.
pub record FrameHolds (p : List ℕ) (op o at size : ℕ) : Type 0 where
  pub none : first (frame_refusals p) ≡ 0
  pub same-opcode : op ≡ opcode_of p
  pub same-options : o ≡ options_of p
  pub same_place : at ≡ place (header_of p)
  pub same_size : size ≡ data_size p
  pub whole : fields (header_of p) ≤ length p
  pub short : length p ≤ 512

pub stands : (p : List ℕ) (op o at size : ℕ) → command_at op o at size ≡ framed p
    → FrameHolds p op o at size
unfolding framed
stands p op o at size h =
    let zero_number = sound-zero (eqb (first (frame_refusals p)) 0) (first (frame_refusals p)) _ p refl h in
    let same : command_at op o at size ≡ standing p =
    h ∙ ap (λ (n : ℕ). answered n p) zero_number in
    let tests = (none_of (too_short p) (too_long p) (length_differs p) (checksum_differs p) (elsewhere p) [] zero_number).0 in
    record {
      none = zero_number;
      same-opcode = ap (λ (a : Answer). a.opcode) same;
      same-options = ap (λ (a : Answer). a.options) same;
      same_place = ap (λ (a : Answer). a.place) same;
      same_size = ap (λ (a : Answer). a.size) same;
      whole = ltb-false (length p) (fields (header_of p)) tests.no-2;
      short = ltb-false 512 (length p) tests.no-3;
    }

-- A sound frame's command is judged, and answered with what stands in the frame.
pub alike : (J : ℕ → ℕ → List ℕ → ℕ) {op op' o o' : ℕ} {d d' : List ℕ} → op ≡ op' → o ≡ o' → d ≡ d' → J op o d ≡ J op' o' d'
alike J e f g = rw (e, f, g)

pub judged-read : (p : List ℕ) (op o at size n f : ℕ) → command_at op o at size ≡ framed p
    → (n ≡ first (judgement op o (take (at + size - at) (drop at p))))
    × (f ≡ fault_place (first (judgement op o (take (at + size - at) (drop at p)))) op o (take (at + size - at) (drop at p)))
    → cond (eqb n 0) (command_at op o at size) (refused_by n f) ≡ reading p
unfolding framed reading
judged-read p op o at size n f h e =
    let s = stands p op o at size h in
    let long : at + size - at ≡ data_size p = omega (arith, s.same_size) in
    let there : take (at + size - at) (drop at p) ≡ data_of p = rw (long, s.same_place) in
    let number : n ≡ first (refusals p) =
    e.0 ∙ alike (λ (op o : ℕ) (d : List ℕ). first (judgement op o d)) s.same-opcode s.same-options there
    ∙ sym (first-right (frame_refusals p) (judgement (opcode_of p) (options_of p) (data_of p)) (first-silent (frame_refusals p) (omega arith) s.none)) in
    let found : f ≡ fault_of n p =
    e.1 ∙ ap (λ (n : ℕ). fault_place n op o (take (at + size - at) (drop at p))) (sym e.0) ∙ alike (fault_place n) s.same-opcode s.same-options there in
    ap (λ (f : ℕ). cond (eqb n 0) (command_at op o at size) (refused_by n f)) found
    ∙ ap (λ (a : Answer). cond (eqb n 0) a (refused_by n (fault_of n p))) (h ∙ ap (λ (n : ℕ). answered n p) s.none) ∙ ap (λ (n : ℕ). answered n p) number

-- No refusal has the number 0.
pub refusal-some : (why : Refusal) → eqb (number_of why) 0 ≡ false
refusal-some LentWrong = refl
refusal-some TooShort = refl
refusal-some TooLong = refl
refusal-some LengthDiffers = refl
refusal-some ChecksumDiffers = refl
refusal-some NotForUs = refl
refusal-some Unknown = refl
refusal-some LacksLength = refl
refusal-some SizeWrong = refl
refusal-some (ValueWrong place) = refl
refusal-some NamedOnly = refl
refusal-some RunsPast = refl

-- Nor one above 12.
pub refusal-few : (why : Refusal) → number_of why ≤ 12
refusal-few LentWrong = omega arith
refusal-few TooShort = omega arith
refusal-few TooLong = omega arith
refusal-few LengthDiffers = omega arith
refusal-few ChecksumDiffers = omega arith
refusal-few NotForUs = omega arith
refusal-few Unknown = omega arith
refusal-few LacksLength = omega arith
refusal-few SizeWrong = omega arith
refusal-few (ValueWrong place) = omega arith
refusal-few NamedOnly = omega arith
refusal-few RunsPast = omega arith
