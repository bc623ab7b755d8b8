-- The promise of a window leaves one outcome; and, rules 9.2 to 9.4, the plain promise one text and
-- one end state for a file.
use Prim.Native.Nat.{ℕ}
use mathlib.Core.Path.{◌≡◌, refl, sym, ap, subst, ◌∙◌}
use mathlib.Core.List.{List, [], ◌∷◌, ◌++◌}
use mathlib.Core.Bool.{Bool, true, false}
use mathlib.Core.Logic.{inl, inr}
use native.Mathlib.Omega.{arith}
use lib.ListN.{length}
use lib.Seq.{ext_get_or}
use Rattle.text.proofs.Determined.{decimal-determined, hex-determined}
use Rattle.front_end.specs.State.{State, reset_state}
use Rattle.session_file.proofs.File.{file-read}
use Rattle.playback.specs.declared.Progress.{Progress}
use Rattle.playback.specs.Windows.{begun, rooms_right, Going, going, WindowTurns, stops, goes, Refused, WindowReplayed}
use Rattle.playback.proofs.Turns.{roomy, not-roomy}
use Rattle.playback.specs.Plain.{Fresh, Says, Recounts, Closes, Printed}

-- ---- A window.

turns-one : {window : List ℕ} {g a b : Going} → WindowTurns window g a → WindowTurns window g b → a ≡ b
turns-one (stops x) (stops y) = refl
turns-one (stops (inl x)) (goes l r n y) = absurd (omega arith)
turns-one (stops (inr (inl x))) (goes l r n y) = absurd (omega arith)
turns-one (stops (inr (inr x))) (goes l r n y) = absurd (omega arith)
turns-one (goes l r n x) (stops (inl y)) = absurd (omega arith)
turns-one (goes l r n x) (stops (inr (inl y))) = absurd (omega arith)
turns-one (goes l r n x) (stops (inr (inr y))) = absurd (omega arith)
turns-one (goes l r n x) (goes l' r' n' y) = turns-one x y

refused-is : {from p : Progress} {kept kept' reply reply' out out' : List ℕ} {s s' : State} → Refused from kept s reply out p kept' s' reply' out'
    → going p kept' s' reply' out' ≡ going (begun from) kept s reply out
refused-is {from} {p} {kept} {kept'} {reply} {reply'} {out} {out'} {s} {s'} r =
    ap (λ (x : Progress). going x kept' s' reply' out') r.progress-same
    ∙ ap (λ (x : List ℕ). going (begun from) x s' reply' out') r.kept_same
    ∙ ap (λ (x : State). going (begun from) kept x reply' out') r.state-same
    ∙ ap (λ (x : List ℕ). going (begun from) kept s x out') r.reply-same
    ∙ ap (λ (x : List ℕ). going (begun from) kept s reply x) r.out-same

pub window-determined : {window kept reply out : List ℕ} {from p q : Progress} {s t u : State} {kept' kept'' reply' reply'' out' out'' : List ℕ}
    → WindowReplayed window from kept s reply out p kept' t reply' out' → WindowReplayed window from kept s reply out q kept'' u reply'' out''
    → going p kept' t reply' out' ≡ going q kept'' u reply'' out''
window-determined {kept = kept} {reply = reply} {from = from} {p = p} {q = q} {t = t} {u = u} {kept' = k} {kept'' = l} {reply' = r} {reply'' = v} {out' = o} {out'' = w} x y = go (rooms_right kept reply from.have) refl
  where
    go : (b : Bool) → rooms_right kept reply from.have ≡ b → going p k t r o ≡ going q l u v w
    go true e = let rooms = roomy kept reply from.have e in turns-one (x.turns rooms) (y.turns rooms)
    go false e =
        let short = not-roomy kept reply from.have e in
        refused-is (x.refused short) ∙ sym (refused-is (y.refused short))

-- ---- A file.

fresh-one : {a b : List ℕ} → Fresh a → Fresh b → a ≡ b
fresh-one {a} {b} x y = ext_get_or 0 a b (x.long ∙ sym y.long) (λ k lt. x.zeros k ∙ sym (y.zeros k))

line-one : {number status : ℕ} {reply a b : List ℕ} → Says number status reply a → Says number status reply b → a ≡ b
line-one x y =
    let n = decimal-determined x.number-there y.number-there in
    let s = decimal-determined x.status-there y.status-there in
    let r = hex-determined x.reply-there y.reply-there in
    x.all
    ∙ ap (λ (t : List ℕ). t ++ (32 ∷ []) ++ x.status-text ++ x.reply-text ++ (10 ∷ [])) n
    ∙ ap (λ (t : List ℕ). y.number-text ++ (32 ∷ []) ++ t ++ x.reply-text ++ (10 ∷ [])) s
    ∙ ap (λ (t : List ℕ). y.number-text ++ (32 ∷ []) ++ y.status-text ++ t ++ (10 ∷ [])) r
    ∙ sym y.all

lines-one : {buffer : List ℕ} {n : ℕ} {ps : List (List ℕ)} {s t u : State} {a b : List ℕ} → Recounts buffer n ps s a t → Recounts buffer n ps s b u
    → (a ≡ b) × (t ≡ u)
lines-one Recounts.none Recounts.none = (refl, refl)
lines-one (Recounts.next {a = a} {rest = r} x xs) (Recounts.next {a = b} {rest = q} y ys) =
    let rest = lines-one xs ys in
    (ap (λ (l : List ℕ). l ++ r) (line-one x y) ∙ ap (λ (l : List ℕ). b ++ l) rest.0, rest.1)

close-one : {number have : ℕ} {a b : List ℕ} → Closes number have a → Closes number have b → a ≡ b
close-one (Closes.whole e x) (Closes.whole f y) =
    ap (λ (l : List ℕ). (101 ∷ 110 ∷ 100 ∷ 32 ∷ []) ++ l ++ (10 ∷ [])) (decimal-determined x y)
close-one (Closes.whole e x) (Closes.cut f y z) = absurd (omega arith)
close-one (Closes.cut e x y) (Closes.whole f z) = absurd (omega arith)
close-one (Closes.cut {a = a} {b = b} e x y) (Closes.cut {a = c} {b = d} f z w) =
    ap (λ (l : List ℕ). l ++ (32 ∷ 99 ∷ 117 ∷ 116 ∷ 10 ∷ []) ++ ((101 ∷ 110 ∷ 100 ∷ 32 ∷ []) ++ a ++ (10 ∷ []))) (decimal-determined x z)
    ∙ ap (λ (l : List ℕ). d ++ (32 ∷ 99 ∷ 117 ∷ 116 ∷ 10 ∷ []) ++ ((101 ∷ 110 ∷ 100 ∷ 32 ∷ []) ++ l ++ (10 ∷ []))) (decimal-determined y w)

-- The records that the bytes split into are the only ones.
pub determined : {file a b : List ℕ} {s t : State} → Printed file a s → Printed file b t → (a ≡ b) × (s ≡ t)
determined (Printed.other x) (Printed.other y) = (refl, refl)
determined (Printed.other x) (Printed.session m split f r c) = absurd (x m)
determined (Printed.session m split f r c) (Printed.other x) = absurd (x m)
determined {file} {s = s} {t = t} (Printed.session {packets} {rest} {buffer} {a} {b} m split f r c) (Printed.session {packets = packets'} {rest = rest'} {buffer = buffer'} {a = a'} {b = b'} m' split' f' r' c') =
    let read = file-read file in
    let mine = read.only m packets rest split in
    let yours = read.only m packets' rest' split' in
    let same : packets' ≡ packets = sym yours.0 ∙ mine.0 in
    let left : rest' ≡ rest = sym yours.1 ∙ mine.1 in
    let lines = lines-one r (subst (λ (l : List ℕ). Recounts l 0 packets reset_state a' t) (fresh-one f' f)
    (subst (λ (ps : List (List ℕ)). Recounts buffer' 0 ps reset_state a' t) same r')) in
    let close = close-one c (subst (λ (l : List ℕ). Closes (length packets) (length l) b') left
    (subst (λ (ps : List (List ℕ)). Closes (length ps) (length rest') b') same c')) in
    (ap (λ (l : List ℕ). l ++ b) lines.0 ∙ ap (λ (l : List ℕ). a' ++ l) close, lines.1)
