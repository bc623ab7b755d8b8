-- What is promised of the splitter with the numbers themselves leaves it one outcome: words can
-- be cut up in one way only, and one number applies.
use Prim.Native.Nat.{ℕ, ◌+◌, ◌%◌, ◌≤◌}
use mathlib.Core.Path.{◌≡◌, refl, sym, ap, ◌∙◌}
use mathlib.Core.List.{List, ◌++◌}
use native.Mathlib.Decide.{ℕ_discrete, dec_lt}
use native.Mathlib.Omega.{arith}
use lib.ListN.{length, take, drop, length-append, take-append-drop}
use lib.Seq.{take_at, drop_at}
use Rattle.gain_words.specs.Pairs.{sum_runs}
use Rattle.upload.specs.Plan.{joined}
use Rattle.splitter.specs.Splitting.{split_out}
use Rattle.splitter.specs.Plain.{SplitOut, CutUp, last, more, PairsRight, Splittable, SplitPlain, SplitPlainNumbers, SplitPlainBytes}

-- Rule 10.3: words are cut up in one way: into all of them, or into the first 250 and the rest.
cut-one : {colour s t : ℕ} {ws vs : List ℕ} {ps qs : List (List ℕ)} → CutUp colour s ws ps → CutUp colour t vs qs → s ≡ t → ws ≡ vs → ps ≡ qs
cut-one (last h k) (last i l) e f = rw (e, f)
cut-one (last h k) (more vs behind i l d) e f = absurd (omega (arith, ap length f, length-append vs behind))
cut-one (more ws rest h k c) (last i l) e f = absurd (omega (arith, ap length f, length-append ws rest))
cut-one {colour} {s} {t} (more ws rest h k c) (more vs behind i l d) e f =
    let front : ws ≡ vs = sym (take_at ws rest 250 h) ∙ ap (take 250) f ∙ take_at vs behind 250 i in
    let left : rest ≡ behind = sym (drop_at ws rest 250 h) ∙ ap (drop 250) f ∙ drop_at vs behind 250 i in
    let on : s + sum_runs ws ≡ t + sum_runs vs = rw (e, front) in
    let others = cut-one c d on left in
    rw (e, front, others)

-- Two numbers that are equal if a statement holds, and if it does not, are equal.
settled : {S : Type 0} {m n : ℕ} → (S → m ≡ n) → ((S → ⊥) → m ≡ n) → m ≡ n
settled {m = m} {n = n} f g = elim (ℕ_discrete m n) [ yes e ↦ e | no h ↦ absurd (h (g (λ s. h (f s)))) ]

-- An outcome is its four fields; a list its two parts.
same-fields : {s t m n i j : ℕ} {k l : List ℕ} → s ≡ t → m ≡ n → i ≡ j → k ≡ l → split_out s m i k ≡ split_out t n j l
same-fields e f g h = cc

appended : {a b c d : List ℕ} → a ≡ b → c ≡ d → a ++ c ≡ b ++ d
appended e f = cc

module _ {each colour start : ℕ} {lent ws batch : List ℕ} {o p : SplitOut} (a : SplitPlain each colour start lent ws batch o)
    (b : SplitPlain each colour start lent ws batch p) where
  -- Rule 10.4: one number.
  same-status : o.status ≡ p.status
  same-status =
      settled {S = length lent % each ≡ 0}
      (λ whole.
      settled {S = PairsRight colour ws}
      (λ right.
      elim (dec_lt 2016 (start + sum_runs ws)) [
        | yes past ↦ a.twelve whole right past ∙ sym (b.twelve whole right past)
        | no past ↦
            let can : Splittable colour start ws = record { right = right; within = omega arith } in
            elim (dec_lt (length batch) 8234) [
              | yes short ↦ a.one whole can short ∙ sym (b.one whole can short)
              | no short ↦
                  let room : 8234 ≤ length batch = omega arith in
                  a.exactly.1 (whole, can, room) ∙ sym (b.exactly.1 (whole, can, room))
            ]
      ])
      (λ wrong. (a.ten whole).1 wrong ∙ sym ((b.ten whole).1 wrong)))
      (λ no_pairs. a.nine.1 no_pairs ∙ sym (b.nine.1 no_pairs))

  -- Rule 10.4: one outcome. The packets are the same, and behind them lies what lay there.
  determined : o ≡ p
  determined =
      elim (ℕ_discrete o.status 0) [
        | yes z ↦
            let first = a.found z in
            let second = b.found (sym same-status ∙ z) in
            let one = cut-one first.cut second.cut refl refl in
            let size : o.bytes ≡ p.bytes = first.size ∙ ap (λ (ps : List (List ℕ)). length (joined ps)) one ∙ sym second.size in
            let part : take o.bytes o.batch ≡ take p.bytes p.batch = first.written ∙ ap joined one ∙ sym second.written in
            let behind : drop o.bytes o.batch ≡ drop p.bytes p.batch =
            a.behind ∙ ap (λ (n : ℕ). drop n batch) size ∙ sym b.behind in
            let left : o.batch ≡ p.batch =
            sym (take-append-drop o.bytes o.batch) ∙ appended part behind ∙ take-append-drop p.bytes p.batch in
            same-fields same-status (first.counted ∙ ap length one ∙ sym second.counted) size left
        | no h ↦
            let first = a.refused h in
            let second = b.refused (λ z. h (same-status ∙ z)) in
            same-fields same-status (first.0 ∙ sym second.0) (first.1 ∙ sym second.1) (first.2 ∙ sym second.2)
      ]

-- On 16-bit numbers, and on bytes.
pub determined-numbers : {colour start : ℕ} {pairs batch : List ℕ} {o p : SplitOut} → SplitPlainNumbers colour start pairs batch o
    → SplitPlainNumbers colour start pairs batch p → o ≡ p
determined-numbers a b = determined a b

pub determined-bytes : {colour start : ℕ} {pairs batch : List ℕ} {o p : SplitOut} → SplitPlainBytes colour start pairs batch o
    → SplitPlainBytes colour start pairs batch p → o ≡ p
determined-bytes a b = determined a b
