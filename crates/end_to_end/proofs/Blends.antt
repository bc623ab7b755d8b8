-- The splitter's packets sent to the front end: each is accepted and puts its gains behind those of the one before.
use Prim.Native.Nat.{ℕ, suc, ◌+◌, ◌-◌, ◌*◌, ◌≤◌}
use mathlib.Core.Path.{◌≡◌, refl, sym, ap, ◌∙◌}
use mathlib.Core.List.{List, [], ◌∷◌, ◌++◌, append_assoc}
use native.Mathlib.Decide.{ℕ_discrete}
use native.Mathlib.Omega.{arith}
use borrow.Author.Tests.{ne_eqb}
use lib.ListN.{length, take, drop, length-take, length-drop, length-append, take-append-drop}
use lib.Seq.{sets, length-paste, drop_at, drop-drop}
use Rattle.wire.proofs.Laws.{sets-append}
use Rattle.wire.proofs.Copies.{sets-paste, paste-front}
use Rattle.front_end.specs.Commands.{third, gains_into, colour_into}

-- ---- Gains behind gains.

into-sets : (g : List ℕ) (at : ℕ) (new : List ℕ) → at + length new ≤ length g → gains_into g at new ≡ sets g at new
into-sets g at new h = sym (sets-paste g at new h)

into-long : (g : List ℕ) (at : ℕ) (new : List ℕ) → at + length new ≤ length g → length (gains_into g at new) ≡ length g
into-long g at new h = length-paste g at new (length new) h (omega arith)

into-behind : (g : List ℕ) (at : ℕ) (a b : List ℕ) → at + length a + length b ≤ length g
    → gains_into (gains_into g at a) (at + length a) b ≡ gains_into g at (a ++ b)
into-behind g at a b h =
    let one = into-sets g at a (omega arith) in
    let long = into-long g at a (omega arith) in
    into-sets (gains_into g at a) (at + length a) b (omega arith)
    ∙ ap (λ (l : List ℕ). sets l (at + length a) b) one
    ∙ sets-append g at a b
    ∙ sym (into-sets g at (a ++ b) (rw length-append (omega arith)))

-- ---- Three thirds, one behind the other.

into-front : (a b : List ℕ) (at : ℕ) (new : List ℕ) → at + length new ≤ length a → gains_into (a ++ b) at new ≡ gains_into a at new ++ b
into-front a b at new h = paste-front a b at new (length new) h

-- A place behind a front.
take_behind : (a b : List ℕ) (k : ℕ) → take (length a + k) (a ++ b) ≡ a ++ take k b
take_behind [] b k = let e : 0 + k ≡ k = omega arith in rw e
take_behind (x ∷ a) b k = let e : suc (length a) + k ≡ suc (length a + k) = omega arith in rw (e, take_behind a b k)

into-past : (a b : List ℕ) (n at : ℕ) (new : List ℕ) → length a ≡ n → gains_into (a ++ b) (n + at) new ≡ a ++ gains_into b at new
into-past a b n at new e =
    let here : n + at ≡ length a + at = omega arith in
    let behind : length a + at + length new ≡ length a + (at + length new) = omega arith in
    rw (here, take_behind a b at, behind, ← drop-drop (at + length new) (length a) (a ++ b), drop_at a b (length a) refl, append_assoc a (take at b) (take (length new) new), append_assoc a (take at b ++ take (length new) new) (drop (at + length new) b))

module _ (red green blue new : List ℕ) (start : ℕ) (r : length red ≡ third) (g : length green ≡ third) (b : length blue ≡ third)
    (h : start + length new ≤ third) where
  all-thirds : colour_into 0 start new (red ++ (green ++ blue))
      ≡ gains_into red start new ++ (gains_into green start new ++ gains_into blue start new)
  unfolding colour_into
  all-thirds =
      let place : 2 * third + start ≡ third + (third + start) = omega arith in
      let red' = gains_into red start new in
      let green' = gains_into green start new in
      let long : length red' ≡ third = into-long red start new (omega arith) ∙ r in
      let wide : length green' ≡ third = into-long green start new (omega arith) ∙ g in
      let one = into-front red (green ++ blue) start new (omega arith) in
      let two = into-past red' (green ++ blue) third start new long ∙ ap (λ (l : List ℕ). red' ++ l) (into-front green blue start new (omega arith)) in
      let three = into-past red' (green' ++ blue) third (third + start) new long ∙ ap (λ (l : List ℕ). red' ++ l) (into-past green' blue third start new wide) in
      rw place
      (ap (λ (l : List ℕ). gains_into (gains_into l (third + start) new) (third + (third + start)) new) one
      ∙ ap (λ (l : List ℕ). gains_into l (third + (third + start)) new) two
      ∙ three)

-- A table of gains is its three thirds.
record Thirds (gains : List ℕ) : Type 0 where
  red : List ℕ
  green : List ℕ
  blue : List ℕ
  red-long : length red ≡ third
  green-long : length green ≡ third
  blue-long : length blue ≡ third
  whole : gains ≡ red ++ (green ++ blue)

thirds : (gains : List ℕ) → length gains ≡ 6048 → Thirds gains
thirds gains l =
    let rest = drop third gains in
    record {
      red = take third gains;
      green = take third rest;
      blue = drop third rest;
      red-long = rw length-take (omega arith);
      green-long = rw (length-take, length-drop) (omega arith);
      blue-long = rw (length-drop, length-drop) (omega arith);
      whole = sym (take-append-drop third gains) ∙ ap (λ (l : List ℕ). take third gains ++ l) (sym (take-append-drop third rest));
    }

-- Gains for a colour, and more behind them.
all-behind : (start : ℕ) (a b gains : List ℕ) → length gains ≡ 6048 → start + length a + length b ≤ third
    → colour_into 0 (start + length a) b (colour_into 0 start a gains) ≡ colour_into 0 start (a ++ b) gains
all-behind start a b gains l h =
    let t = thirds gains l in
    let fits : start + length (a ++ b) ≤ third = rw length-append (omega arith) in
    let red = into-long t.red start a (omega (arith, t.red-long)) ∙ t.red-long in
    let green = into-long t.green start a (omega (arith, t.green-long)) ∙ t.green-long in
    let blue = into-long t.blue start a (omega (arith, t.blue-long)) ∙ t.blue-long in
    ap (λ (l : List ℕ). colour_into 0 (start + length a) b (colour_into 0 start a l)) t.whole
    ∙ ap (colour_into 0 (start + length a) b) (all-thirds t.red t.green t.blue a start t.red-long t.green-long t.blue-long (omega arith))
    ∙ all-thirds (gains_into t.red start a) (gains_into t.green start a) (gains_into t.blue start a) b (start + length a) red green blue h
    ∙ rw (
      into-behind t.red start a b (omega (arith, t.red-long)),
      into-behind t.green start a b (omega (arith, t.green-long)),
      into-behind t.blue start a b (omega (arith, t.blue-long)),
    )
    (sym (all-thirds t.red t.green t.blue (a ++ b) start t.red-long t.green-long t.blue-long fits))
    ∙ ap (colour_into 0 start (a ++ b)) (sym t.whole)

pub colour-behind : (colour start : ℕ) (a b gains : List ℕ) → length gains ≡ 6048 → colour ≤ 3 → start + length a + length b ≤ third
    → colour_into colour (start + length a) b (colour_into colour start a gains) ≡ colour_into colour start (a ++ b) gains
unfolding colour_into
colour-behind colour start a b gains l c h =
    elim (ℕ_discrete colour 0) [
      | yes z ↦ rw z (all-behind start a b gains l h)
      | no z ↦
          let place : third * (colour - 1) + (start + length a) ≡ third * (colour - 1) + start + length a = omega arith in
          rw (ne_eqb colour 0 z, place) (into-behind gains (third * (colour - 1) + start) a b (omega arith))
    ]
