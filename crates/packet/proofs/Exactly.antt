-- Demand 2 for reading: it takes exactly the packets with a sound frame, destination 4 and allowed data. Each test of the list of refusals is
-- false, and that of the judgement is what `Allowed` says.
use Prim.Native.Nat.{ℕ, zero, suc, ◌<◌}
use mathlib.Core.Path.{◌≡◌, refl, ◌∙◌, sym}
use mathlib.Core.Logic.{◌↔◌}
use mathlib.Core.Bool.{Bool}
use mathlib.Core.List.{List, [], ◌∷◌}
use native.Mathlib.Omega.{arith}
use borrow.Author.Tests.{ltb-false, eqb-true, not-false, le-ltb, eq-eqb}
use lib.ListN.{take, drop, get_or}
use lib.Seq.{get_or-drop}
use lib.Dec.{lit<}
use Rattle.wire.specs.First.{first}
use Rattle.opcode.specs.Judgement.{judgement}
use Rattle.opcode.specs.Allowed.{Allowed}
use Rattle.opcode.proofs.Accepts.{accepts}
use Rattle.wire.proofs.Tests.{silent-first, first-silent, option-true, option-false}
use Rattle.packet.specs.Frame.{header_of, opcode_of, options_of, data_of, data_size, place}
use Rattle.packet.specs.Reading.{refusals, reading}
use Rattle.packet.specs.Sound.{Taken}
use Rattle.packet.proofs.Frames.{reading-number}

-- Bytes of a part are bytes.
below-take : (n : ℕ) (l : List ℕ) → ((k : ℕ) → get_or l k 0 < 256) → (k : ℕ) → get_or (take n l) k 0 < 256
below-take zero l h k = lit< tt
below-take (suc n) [] h k = lit< tt
below-take (suc n) (x ∷ l) h zero = h 0
below-take (suc n) (x ∷ l) h (suc k) = below-take n l (λ i. h (suc i)) k

pub bytes-of-data : (p : List ℕ) → ((k : ℕ) → get_or p k 0 < 256) → (k : ℕ) → get_or (data_of p) k 0 < 256
bytes-of-data p h k = below-take (data_size p) (drop (place (header_of p)) p) (λ i. rw get_or-drop (h _)) k

pub exactly : (p : List ℕ) → ((k : ℕ) → get_or p k 0 < 256) → ((reading p).number ≡ 0) ↔ Taken p
unfolding judgement
exactly p h = (λ n. to (sym (reading-number p) ∙ n), λ t. reading-number p ∙ from t)
  where
    rest : List (ℕ × Bool)
    rest = judgement (opcode_of p) (options_of p) (data_of p)

    allows : (first rest ≡ 0)
        ↔ Allowed (opcode_of p) (options_of p) (data_of p)
    allows = accepts (opcode_of p) (options_of p) (data_of p) (bytes-of-data p h)

    to : first (refusals p) ≡ 0 → Taken p
    to n =
        let s = first-silent (refusals p) (omega arith) n in
        record {
          frame =
              record {
                whole = ltb-false _ _ s.0;
                short = ltb-false _ _ s.1.0;
                counted = λ e. eqb-true _ _ (option-true _ _ s.1.1.0 (eq-eqb _ _ e));
                summed = λ e. eqb-true _ _ (option-true _ _ s.1.1.1.0 (eq-eqb _ _ e));
              };
          here = eqb-true _ _ (not-false _ s.1.1.1.1.0);
          allowed = allows.0 (silent-first rest s.1.1.1.1.1);
        }

    from : Taken p → first (refusals p) ≡ 0
    from t =
        silent-first (refusals p) (
          le-ltb _ _ t.frame.whole,
          (
            le-ltb _ _ t.frame.short,
            (
              option-false _ _ (λ e. eq-eqb _ _ (t.frame.counted (eqb-true _ _ e))),
              (
                option-false _ _ (λ e. eq-eqb _ _ (t.frame.summed (eqb-true _ _ e))),
                (
                  rw (eq-eqb _ _ t.here) refl,
                  first-silent rest (omega arith) (allows.1 t.allowed),
                ),
              ),
            ),
          ),
        )
