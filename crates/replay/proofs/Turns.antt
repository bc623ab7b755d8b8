-- The loop over a window: it ends, and carries what it took of it.
use Prim.Native.Nat.{ℕ, ◌+◌, ◌-◌, ◌≤◌, ◌<◌}
use mathlib.Core.Path.{◌≡◌, sym, ap, subst, ◌∙◌}
use mathlib.Core.List.{List, ◌++◌}
use native.Mathlib.Omega.{arith}
use lib.ListN.{length, take, drop, length-take, length-drop}
use lib.Seq.{take-add, take-take, take_all}
use Rattle.front_end.specs.State.{State}
use Rattle.playback.specs.declared.Progress.{Progress}
use Rattle.playback.specs.Windows.{Carries}
use Rattle.playback.proofs.Turns.{carry-none, carry-on, carry-as}
use Rattle.replay.specs.Played.{PlayedSome, Played}

-- What was taken so far is carried.
pub record Playing (window : List ℕ) (from : Progress) (kept : List ℕ) (s : State) (at : ℕ) (p : Progress) (kept' : List ℕ) (s' : State) : Type 0 where
  pub inside : at ≤ length window
  pub carried : Carries (take at window) from kept s p kept' s'

pub play-start : (window : List ℕ) (from : Progress) (kept : List ℕ) (s : State) → Playing window from kept s 0 from kept s
play-start window from kept s = record { inside = omega arith; carried = carry-none from kept s }

rest_of : (window : List ℕ) (at n : ℕ) → n ≤ length (take (length window - at) (drop at window))
    → take at window ++ take n (take (length window - at) (drop at window)) ≡ take (at + n) window
rest_of window at n most =
    let long = length-take (length window - at) (drop at window) in
    ap (λ (l : List ℕ). take at window ++ l) (take-take n (length window - at) (drop at window) (omega arith)) ∙ sym (take-add at n window)

pub play-on : {window : List ℕ} {from : Progress} {kept : List ℕ} {s : State} {at : ℕ} {p : Progress} {kept' : List ℕ} {s' : State}
    {q : Progress} {kept'' : List ℕ} {s'' : State} → Playing window from kept s at p kept' s'
    → PlayedSome (take (length window - at) (drop at window)) p kept' s' q kept'' s'' → (q.at ≡ 0 → ⊥)
    → Playing window from kept s (at + q.at) q kept'' s''
play-on {window} {from} {kept} {s} {at} {p} {kept'} {s'} {q} {kept''} {s''} x y some =
    let fits = length-take (length window - at) (drop at window) in
    let long = length-drop at window in
    record {
      inside = omega (arith, x.inside, y.inside);
      carried =
          subst (λ (l : List ℕ). Carries l from kept s q kept'' s'') (rest_of window at q.at y.inside) (carry-on x.carried (y.carried some));
    }

-- All of the window was taken.
pub play-all : {window : List ℕ} {from : Progress} {kept : List ℕ} {s : State} {at : ℕ} {p : Progress} {kept' : List ℕ} {s' : State} {q : Progress}
    → Playing window from kept s at p kept' s' → q.at ≡ at → q.matched ≡ p.matched → q.number ≡ p.number → q.have ≡ p.have
    → Played window from kept s q kept' s'
play-all {window} {from} {kept} {s} {at} {p} {kept'} {s'} {q} x a m n h =
    record {
      inside = omega (arith, x.inside, a);
      carried =
          λ all.
          carry-as m n h (subst (λ (l : List ℕ). Carries l from kept s p kept' s') (take_all at window (omega (arith, a, all))) x.carried);
    }

-- A write failed before its end.
pub play-part : {window : List ℕ} {from : Progress} {kept : List ℕ} {s : State} {q : Progress} {kept' : List ℕ} {s' : State}
    → q.at < length window → Played window from kept s q kept' s'
play-part less = record { inside = omega arith; carried = λ all. absurd (omega arith) }
