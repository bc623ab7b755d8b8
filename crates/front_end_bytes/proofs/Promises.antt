-- What the entries on bytes promise, from the equations that their code meets: where the lengths in bytes are right, what the entries on numbers
-- promise of the numbers that the bytes hold, which turn into bytes and back without loss; else 1, and all as it was.
use Prim.Native.Nat.{ℕ, ◌<◌}
use mathlib.Core.Path.{◌≡◌, refl, sym, ap, subst, ◌∙◌}
use mathlib.Core.Bool.{Bool, true, false, true≢false}
use mathlib.Core.List.{List}
use native.Mathlib.Omega.{arith}
use lib.ListN.{get_or}
use Rattle.wire.proofs.Tables.{length-halves}
use Rattle.tables.proofs.Bytes.{words-bytes}
use Rattle.front_end.specs.State.{State, reset_state, reset_out, reset}
use Rattle.front_end.specs.Step.{step}
use Rattle.front_end.specs.Plain.{StateLent}
use Rattle.front_end.specs.Demands.{Handled, Resets}
use Rattle.front_end.proofs.Handled.{handled}
use Rattle.front_end.proofs.Plain.{lengths-kept}
use Rattle.front_end.proofs.Demands.{state-lent, resets}
use Rattle.front_end_bytes.specs.Bytes.{Lent, state_in, lent_of, byte_lengths_right, LentOut, out_bytes, step_bytes, LentReset, reset_bytes}
use Rattle.front_end_bytes.specs.Plain.{BytesLent}
use Rattle.front_end_bytes.specs.Promises.{HandledBytes, ResetsBytes}
use Rattle.front_end_bytes.proofs.Ways.{Small, sized, right-sized, wide-lengths, unchanged}

-- Numbers as bytes, read as numbers again.
again : (s : State) → state_in (lent_of s) ≡ s
again s = rw (words-bytes s.staged, words-bytes s.live, words-bytes s.gains)

-- A state lent as its bytes: the lengths are right, and the packet does there what it does on the numbers.
pub lent-bytes : (s : State) → StateLent s → BytesLent (lent_of s)
lent-bytes s z =
    record {
      block = z.block;
      staged = length-halves 256 s.staged ∙ omega (arith, z.staged);
      live = length-halves 256 s.live ∙ omega (arith, z.live);
      gains = length-halves 256 s.gains ∙ omega (arith, z.gains);
    }

pub step-bytes : (p : List ℕ) (s : State) (reply : List ℕ) → StateLent s → step_bytes p (lent_of s) reply ≡ out_bytes (step p s reply)
unfolding step_bytes
step-bytes p s reply z = rw (right-sized (lent_of s) (lent-bytes s z), again s)

-- Lent lengths that are right are right in numbers.
pub wide-lent : (l : Lent) → BytesLent l → StateLent (state_in l)
wide-lent l z = (state-lent (state_in l)).0 (wide-lengths l z)

-- Lengths that the test refuses are not right.
pub wrong : (l : Lent) → byte_lengths_right l ≡ false → BytesLent l → ⊥
wrong l e z = true≢false (sym (right-sized l z) ∙ e)

pub handled-bytes : (p : List ℕ) → ((k : ℕ) → get_or p k 0 < 256) → (l : Lent) → Small l → (reply : List ℕ) {o : LentOut} → o ≡ step_bytes p l reply
    → HandledBytes p l reply o
unfolding step_bytes
handled-bytes p bytes l small reply {o} same = go (byte_lengths_right l) refl
  where
    wide : Handled p (state_in l) reply (step p (state_in l) reply)
    wide = handled p bytes (state_in l) reply refl

    go : (b : Bool) → byte_lengths_right l ≡ b → HandledBytes p l reply o
    go true e =
        rw (same, e)
        (record {
          outcome = rw e;
          plain =
              record {
                wrong-length = λ none. absurd (none (sized l e));
                long = λ z. lent-bytes _ (lengths-kept p bytes (state_in l) reply (wide-lent l (sized l e)));
                numbers = λ z. rw (again (step p (state_in l) reply).state) wide.plain;
              };
          unchanged = λ h. ap lent_of (wide.plain.unchanged (λ z. absurd (h z))) ∙ sym (unchanged l e small);
          behind = wide.behind;
          exactly = (λ z. (sized l e, wide.exactly.0 z), λ a. wide.exactly.1 a.1);
          numbers = λ z. rw (again (step p (state_in l) reply).state) wide;
        })
    go false e =
        rw (same, e)
        (record {
          outcome = rw e;
          plain =
              record {
                wrong-length = λ none. (refl, refl, refl, refl, refl);
                long = λ z. absurd (wrong l e z);
                numbers = λ z. absurd (wrong l e z);
              };
          unchanged = λ h. refl;
          behind = refl;
          exactly = (λ z. absurd (omega arith), λ a. absurd (wrong l e a.0));
          numbers = λ z. absurd (wrong l e z);
        })

pub resets-bytes : (l : Lent) {o : LentReset} → o ≡ reset_bytes l → ResetsBytes l o
unfolding reset_bytes reset
resets-bytes l {o} same = go (byte_lengths_right l) refl
  where
    wide : BytesLent l → Resets (state_in l) (reset_out 0 (state_in (lent_of reset_state)))
    wide z = resets (state_in l) (rw (wide-lengths l z) (ap (reset_out 0) (again reset_state)))

    go : (b : Bool) → byte_lengths_right l ≡ b → ResetsBytes l o
    go true e =
        rw (same, e)
        (record {
          outcome = rw e;
          plain =
              record {
                wrong-length = λ none. absurd (none (sized l e));
                long = λ z. lent-bytes reset_state (subst StateLent (again reset_state) ((wide z).plain.long (wide-lent l z)));
                numbers = λ z. (wide z).plain;
              };
          exactly = (λ z. sized l e, λ z. refl);
          numbers = wide;
        })
    go false e =
        rw (same, e)
        (record {
          outcome = rw e;
          plain =
              record { wrong-length = λ none. (refl, refl); long = λ z. absurd (wrong l e z); numbers = λ z. absurd (wrong l e z) };
          exactly = (λ z. absurd (omega arith), λ z. absurd (wrong l e z));
          numbers = λ z. absurd (wrong l e z);
        })
