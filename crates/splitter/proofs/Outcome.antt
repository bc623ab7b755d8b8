-- What the splitter promises, from the equation of its answer: which refusal it gives, and that nothing changes then; else packets that are cut as the
-- rule says, in the batch. For pairs that are lent as so many elements a pair, and are the words ws.
use Prim.Native.Nat.{ℕ, ◌+◌, ◌*◌, ◌/◌, ◌%◌, ◌≤◌, ◌<◌}
use mathlib.Core.Path.{◌≡◌, refl, sym, ap, subst, ◌∙◌}
use mathlib.Core.Logic.{◌↔◌}
use mathlib.Core.Bool.{Bool, true, false, not, ◌||◌}
use mathlib.Core.List.{List}
use native.Mathlib.Decide.{ℕ_discrete}
use native.Mathlib.Omega.{arith}
use borrow.Author.Tests.{eqb-true, eqb-false, eq-eqb, ne_eqb, ltb-true, ltb-false, le-ltb, not-false}
use lib.ListN.{length, length-append, length-drop}
use lib.Seq.{drop_at}
use lib.Dec.{eqb, ltb}
use Rattle.wire.specs.First.{first}
use Rattle.wire.specs.Buffers.{over}
use Rattle.wire.specs.Tables.{words}
use Rattle.wire.proofs.Tables.{length_pairs}
use Rattle.wire.proofs.Laws.{take-over}
use Rattle.wire.proofs.Tests.{told, or_left}
use Rattle.gain_words.specs.Pairs.{sum_runs, pair_fault, runs_beyond}
use Rattle.gain_words.proofs.Right.{fault-pairs, pairs-fault, pairs-even}
use Rattle.splitter.specs.Split.{split_packets, split_batch}
use Rattle.splitter.specs.Plain.{SplitOut, PairsRight, Splittable}
use Rattle.splitter.specs.Splitting.{batch_room, split_out, values_wrong, split_refusals, splitting, SplitRight, SplitBytes}
use Rattle.splitter.specs.Internal.{split_done}
use Rattle.splitter.specs.declared.Refusal.{Refusal}
use Rattle.splitter.specs.declared.Refusal.TheVariants.{WordOver, ValueWrong, RunsPast, LentWrong}
use Rattle.splitter.specs.Refusals.{number_of as code}
use Rattle.splitter.proofs.Cutting.{cut_up, cut-announced, split-small}

-- A test that holds does not fail.
both : {b : Bool} {A : Type 0} → b ≡ true → (A → b ≡ false) → A → ⊥
both t f a = let z : ◌≡◌ {A = ℕ} 0 1 = cc (t, f a) in omega arith

-- A refusal's number is none of what is taken.
coded : (why : Refusal) → code why ≡ 0 → ⊥
coded WordOver e = omega (arith, e)
coded ValueWrong e = omega (arith, e)
coded RunsPast e = omega (arith, e)
coded LentWrong e = omega (arith, e)

-- The tests say what is right.
module _ (each : ℕ) (lent : List ℕ) where
  abbrev odd : Bool
  odd = not (eqb (length lent % each) 0)

  odd-tested : (odd ≡ false) ↔ (length lent % each ≡ 0)
  odd-tested = (λ e. eqb-true _ 0 (not-false _ e), λ h. rw (eq-eqb _ 0 h))

values-tested : (colour : ℕ) (ws : List ℕ) → (values_wrong colour ws ≡ false) ↔ PairsRight colour ws
values-tested colour ws = (
  λ e.
      let front : (eqb (length ws) 0 || ltb 3 colour) ≡ false = or_left _ (ltb (pair_fault ws) (length ws)) e in
      let none : length ws ≡ 0 → ⊥ = eqb-false (length ws) 0 (or_left _ (ltb 3 colour) front) in
      record { some = omega arith; pairs = fault-pairs ws (search (told, e)); colour-right = search (told, front) },
  λ r.
      rw (
        ne_eqb (length ws) 0 (λ e. omega (arith, r.some)),
        le-ltb 3 colour r.colour-right,
        le-ltb (pair_fault ws) (length ws) (omega (arith, pairs-fault r.pairs)),
      ),
)

module _ (each colour start : ℕ) (lent ws batch : List ℕ) where
  abbrev answer : SplitOut
  answer = splitting each colour start lent ws batch

  abbrev Whole : Type 0
  Whole = length lent % each ≡ 0

  abbrev Right : SplitOut → Type 0
  Right o = SplitRight each colour start lent ws batch o

  -- Refused by a number.
  turned_down : (number : ℕ) → (number ≡ 0 → ⊥) → answer ≡ split_out number 0 0 batch → (Whole × Splittable colour start ws × (8234 ≤ length batch) → ⊥)
      → (number ≡ 9) ↔ (Whole → ⊥) → (Whole → (number ≡ 10) ↔ (PairsRight colour ws → ⊥))
      → (Whole → PairsRight colour ws → 2016 < start + sum_runs ws → number ≡ 12)
      → (Whole → Splittable colour start ws → length batch < 8234 → number ≡ 1) → Right (split_out number 0 0 batch)
  turned_down number some e wrong nine ten twelve one =
      record {
        outcome = sym e;
        plain =
            record {
              exactly = (λ z. absurd (some z), λ r. absurd (wrong r));
              nine = nine;
              ten = ten;
              twelve = twelve;
              one = one;
              found = λ z. absurd (some z);
              refused = λ z. (refl, refl, refl);
              behind = refl;
              long = refl;
            };
        few = omega arith;
        walked = λ z. absurd (some z);
      }

  taken : answer ≡ split_done colour start ws batch → Whole → Splittable colour start ws → 8234 ≤ length batch → Right (split_done colour start ws batch)
  unfolding split_batch over
  taken e whole can room =
      let c = cut_up colour start ws (pairs-even can.right.pairs) can.right.some in
      record {
        outcome = sym e;
        plain =
            record {
              exactly = (λ z. (whole, can, room), λ r. refl);
              nine = (λ z. absurd (omega arith), λ h. absurd (h whole));
              ten = λ h. (λ z. absurd (omega arith), λ n. absurd (n can.right));
              twelve = λ h p l. absurd (omega (arith, can.within));
              one = λ h s l. absurd (omega arith);
              found = λ z.
                  record {
                    sent = split_packets colour start ws;
                    cut = c;
                    counted = refl;
                    size = refl;
                    written = take-over (split_batch colour start ws) batch;
                  };
              refused = λ n. absurd (n refl);
              behind = drop_at (split_batch colour start ws) _ _ refl;
              long =
                  let size = (split-small colour start ws can).1 in
                  rw length-append (omega (arith, length-drop (length (split_batch colour start ws)) batch));
            };
        few = split-small colour start ws can;
        walked = λ z. cut-announced c _;
      }

  -- The definition's answer keeps the promise.
  kept : Right answer
  unfolding splitting
  kept = go (odd each lent) (values_wrong colour ws) (runs_beyond start ws) (ltb (length batch) batch_room) refl refl refl refl
    where
      go : (a b c d : Bool) → odd each lent ≡ a → values_wrong colour ws ≡ b → runs_beyond start ws ≡ c → ltb (length batch) batch_room ≡ d → Right answer
      go true b c d p q r s =
          let no : Whole → ⊥ = both p (odd-tested each lent).1 in
          let e : answer ≡ split_out 9 0 0 batch = rw p in
          subst Right (sym e)
          (turned_down 9 (λ z. omega arith) e (λ w. no w.0) (λ z. no, λ h. refl) (λ h. absurd (no h)) (λ h. absurd (no h)) (λ h. absurd (no h)))
      go false true c d p q r s =
          let whole : Whole = (odd-tested each lent).0 p in
          let no : PairsRight colour ws → ⊥ = both q (values-tested colour ws).1 in
          let e : answer ≡ split_out 10 0 0 batch = rw (p, q) in
          subst Right (sym e)
          (turned_down 10 (λ z. omega arith) e (λ w. no w.1.right) (λ z. absurd (omega arith), λ h. absurd (h whole)) (λ h. (λ z. no, λ n. refl)) (λ h w. absurd (no w)) (λ h w. absurd (no w.right)))
      go false false true d p q r s =
          let whole : Whole = (odd-tested each lent).0 p in
          let right : PairsRight colour ws = (values-tested colour ws).0 q in
          let past : 2016 < start + sum_runs ws = ltb-true _ _ r in
          let e : answer ≡ split_out 12 0 0 batch = rw (p, q, r) in
          subst Right (sym e)
          (turned_down 12 (λ z. omega arith) e (λ w. omega (arith, w.1.within)) (λ z. absurd (omega arith), λ h. absurd (h whole)) (λ h. (λ z. absurd (omega arith), λ n. absurd (n right))) (λ h w l. refl) (λ h w l. absurd (omega (arith, w.within))))
      go false false false true p q r s =
          let whole : Whole = (odd-tested each lent).0 p in
          let can : Splittable colour start ws = record { right = (values-tested colour ws).0 q; within = ltb-false _ _ r } in
          let short : length batch < 8234 = omega (arith, ltb-true (length batch) batch_room s) in
          let e : answer ≡ split_out 1 0 0 batch = rw (p, q, r, s) in
          subst Right (sym e)
          (turned_down 1 (λ z. omega arith) e (λ w. omega (arith, w.2)) (λ z. absurd (omega arith), λ h. absurd (h whole)) (λ h. (λ z. absurd (omega arith), λ n. absurd (n can.right))) (λ h w l. absurd (omega (arith, can.within))) (λ h w l. refl))
      go false false false false p q r s =
          let can : Splittable colour start ws = record { right = (values-tested colour ws).0 q; within = ltb-false _ _ r } in
          let e : answer ≡ split_done colour start ws batch = rw (p, q, r, s) in
          subst Right (sym e) (taken e ((odd-tested each lent).0 p) can (omega (arith, ltb-false (length batch) batch_room s)))

  pub promised : {o : SplitOut} → o ≡ answer → Right o
  promised e = subst Right (sym e) kept

  -- Refused by the first number that applies, or split where none does, which means that all is right.
  abbrev pub number : ℕ
  number = first (split_refusals colour start (odd each lent) ws batch)

  pub refuses : (why : Refusal) → code why ≡ number → Right (split_out (code why) 0 0 batch)
  unfolding splitting
  refuses why e = promised (rw (← e, ne_eqb (code why) 0 (coded why)))

  pub splits : {o : SplitOut} → number ≡ 0 → o ≡ split_done colour start ws batch → Right o
  unfolding splitting
  splits e f = promised (f ∙ rw e)

  pub fit : number ≡ 0 → Whole × Splittable colour start ws × (8234 ≤ length batch)
  unfolding splitting
  fit e = (splits e refl).plain.exactly.0 refl

-- On bytes: of an even number of them the tests of their number are those of the words'.
module _ (colour start : ℕ) (pairs batch : List ℕ) where
  same-odd : length pairs % 2 ≡ 0 → odd 4 pairs ≡ odd 2 (words pairs)
  same-odd even =
      let n = length (words pairs) in
      let twice : length pairs ≡ 2 * n = omega (arith, length_pairs 256 pairs) in
      elim (ℕ_discrete (length pairs % 4) 0) [
        | yes h ↦ rw (h, eq-eqb (n % 2) 0 (halved n (sym (ap (λ (k : ℕ). k % 4) twice) ∙ h)))
        | no h ↦ rw (ne_eqb _ 0 h, ne_eqb (n % 2) 0 (λ z. h (ap (λ (k : ℕ). k % 4) twice ∙ doubled n z)))
      ]
    where
      even-of : (n k : ℕ) → n ≡ 2 * k → n % 2 ≡ 0
      even-of n k e = omega arith

      four-of : (n k : ℕ) → n ≡ 4 * k → n % 4 ≡ 0
      four-of n k e = omega arith

      halved : (n : ℕ) → 2 * n % 4 ≡ 0 → n % 2 ≡ 0
      halved n e = even-of n (2 * n / 4) (omega arith)

      doubled : (n : ℕ) → n % 2 ≡ 0 → 2 * n % 4 ≡ 0
      doubled n e = four-of (2 * n) (n / 2) (omega arith)

  same_answer : length pairs % 2 ≡ 0 → splitting 4 colour start pairs (words pairs) batch ≡ splitting 2 colour start (words pairs) (words pairs) batch
  unfolding splitting
  same_answer even = rw (same-odd even)

  pub on-bytes : {o : SplitOut} → SplitRight 4 colour start pairs (words pairs) batch o → SplitBytes colour start pairs batch o
  on-bytes r = record { right = r; numbers = λ even. promised 2 colour start (words pairs) (words pairs) batch (r.outcome ∙ same_answer even) }
