-- What is promised of the compressor with the numbers themselves leaves it one outcome. The
-- fewest pairs are unique: a list of pairs that is no longer than the pairs of its gains is those
-- pairs, since a run in front of gains takes a pair of its own only where it is the whole run.
use Prim.Native.Nat.{ℕ, zero, suc, ◌+◌, ◌*◌, ◌≤◌}
use mathlib.Core.Path.{◌≡◌, refl, sym, ap, ◌∙◌}
use mathlib.Core.List.{List, ◌∷◌, ◌++◌}
use native.Mathlib.Decide.{ℕ_discrete, dec_lt}
use native.Mathlib.Omega.{arith}
use borrow.Author.Tests.{eq-eqb}
use lib.ListN.{length, take, drop, replicate, length-take, take-append-drop, get_or-eq_default}
use lib.Seq.{get_or-take}
use Rattle.wire.specs.Tables.{words, bytes}
use Rattle.wire.specs.Plain.{Bytes}
use Rattle.wire.proofs.Tables.{length_pairs, halves_pairs}
use Rattle.gain_words.specs.Pairs.{expand}
use Rattle.gain_words.specs.Plain.{Pairs, none, pair}
use Rattle.compressor.specs.Compress.{push, compressed}
use Rattle.compressor.specs.Compressing.{compress_out}
use Rattle.compressor.specs.Plain.{CompressOut, FewestPairs, CompressPlain, CompressPlainNumbers, CompressPlainBytes}
use Rattle.compressor.proofs.Fewest.{Pushed, opens, alone, longer, pushed, pushed-again, run-in-front, fewest-words, expand-compressed}

-- A gain in front that takes a pair more opens a run.
opened : {gain : ℕ} {ws vs : List ℕ} → Pushed gain ws vs → length vs ≡ 2 + length ws → vs ≡ 1 ∷ gain ∷ ws
opened opens e = refl
opened alone e = absurd (omega arith)
opened longer e = absurd (omega arith)

-- A run in front that takes a pair more is a pair of its own.
run-of-its-own : (n gain : ℕ) (gains : List ℕ) → length (compressed (replicate (suc n) gain ++ gains)) ≡ 2 + length (compressed gains)
    → compressed (replicate (suc n) gain ++ gains) ≡ suc n ∷ gain ∷ compressed gains
unfolding compressed push
run-of-its-own zero gain gains e = opened (pushed gain (compressed gains)) e
run-of-its-own (suc n) gain gains e =
    let again = pushed-again (pushed gain (compressed (replicate n gain ++ gains))) in
    let before = run-of-its-own n gain gains (sym again ∙ e) in
    rw (before, eq-eqb gain gain refl)

-- Pairs that are no more than the pairs of their gains are those.
few-compressed : {ws : List ℕ} → Pairs ws → length ws ≤ length (compressed (expand ws)) → ws ≡ compressed (expand ws)
unfolding compressed expand
few-compressed none h = refl
few-compressed (pair {run = suc n} {gain = gain} {rest = rest} some most small behind) h =
    let took = run-in-front (suc n) gain (expand rest) in
    let fewer = fewest-words rest in
    let kept = few-compressed behind (omega arith) in
    let own = run-of-its-own n gain (expand rest) (omega arith) in
    ap (λ (ws : List ℕ). suc n ∷ gain ∷ ws) kept ∙ sym own
few-compressed (pair {run = zero} some most small behind) h = absurd (omega arith)

-- Rule 10.1: the fewest pairs of gains are unique.
fewest-compressed : {gains : List ℕ} {n : ℕ} {ws : List ℕ} → FewestPairs gains n ws → ws ≡ compressed gains
fewest-compressed {gains} {n} {ws} f =
    let no-fewer : length ws ≤ length (compressed gains) = omega (arith, f.fewest (compressed gains) (expand-compressed gains)) in
    few-compressed f.sent (rw f.expands no-fewer) ∙ ap compressed f.expands

pub fewest-one : {gains : List ℕ} {m n : ℕ} {ws vs : List ℕ} → FewestPairs gains m ws → FewestPairs gains n vs → (m ≡ n) × (ws ≡ vs)
fewest-one {ws = ws} {vs = vs} a b =
    let same : ws ≡ vs = fewest-compressed a ∙ sym (fewest-compressed b) in
    (omega (arith, a.many, b.many, ap length same), same)

-- Two numbers that are equal if a statement holds, and if it does not, are equal.
settled : {S : Type 0} {m n : ℕ} → (S → m ≡ n) → ((S → ⊥) → m ≡ n) → m ≡ n
settled {m = m} {n = n} f g = elim (ℕ_discrete m n) [ yes e ↦ e | no h ↦ absurd (h (g (λ s. h (f s)))) ]

-- An outcome is its three fields; a list its two parts.
same-fields : {s t m n : ℕ} {k l : List ℕ} → s ≡ t → m ≡ n → k ≡ l → compress_out s m k ≡ compress_out t n l
same-fields e f g = cc

joined : {a b c d : List ℕ} → a ≡ b → c ≡ d → a ++ c ≡ b ++ d
joined e f = cc

-- The elements from the start on that hold the words of n pairs are what these words make.
abbrev Held : ℕ → (List ℕ → List ℕ) → (List ℕ → List ℕ) → List ℕ → Type 0
Held each put read l = (n : ℕ) → length (read (take (each * n) l)) ≡ 2 * n → put (read (take (each * n) l)) ≡ take (each * n) l

-- A part of some bytes is bytes.
below-take : (n : ℕ) (l : List ℕ) → Bytes l → Bytes (take n l)
below-take n l small k =
    elim (dec_lt k n) [
      | yes h ↦ rw (get_or-take n l k 0 h) (small k)
      | no h ↦ rw (get_or-eq_default (take n l) 0 {n = k} (rw length-take (omega arith))) (omega arith)
    ]

module _ {each : ℕ} {read : List ℕ → List ℕ} {right : Type 0} {gains room : List ℕ} {o p : CompressOut}
    (a : CompressPlain each read right gains room o) (b : CompressPlain each read right gains room p) where
  -- Rule 10.2: one number.
  same-status : o.status ≡ p.status
  same-status =
      settled {S = right}
      (λ r. elim (dec_lt (length room) (each * 2016)) [
        | yes l ↦ a.one r l ∙ sym (b.one r l)
        | no l ↦ a.exactly.1 (r, omega arith) ∙ sym (b.exactly.1 (r, omega arith))
      ])
      (λ w. a.ten.1 w ∙ sym (b.ten.1 w))

  -- One outcome: what was written is what its words make, and behind it lies what lay there.
  same_outcome : (put : List ℕ → List ℕ) → Held each put read o.room → Held each put read p.room → o ≡ p
  same_outcome put mine yours =
      elim (ℕ_discrete o.status 0) [
        | yes z ↦
            let first = a.found z in
            let second = b.found (sym same-status ∙ z) in
            let one = fewest-one first second in
            let n = each * o.pairs in
            let m = each * p.pairs in
            let part : take n o.room ≡ take m p.room =
            sym (mine o.pairs first.many) ∙ ap put one.1 ∙ yours p.pairs second.many in
            let behind : drop n o.room ≡ drop m p.room =
            a.behind ∙ ap (λ (k : ℕ). drop (each * k) room) one.0 ∙ sym b.behind in
            let left : o.room ≡ p.room =
            sym (take-append-drop n o.room) ∙ joined part behind ∙ take-append-drop m p.room in
            same-fields same-status one.0 left
        | no h ↦
            let first = a.refused h in
            let second = b.refused (λ z. h (same-status ∙ z)) in
            same-fields same-status (first.0 ∙ sym second.0) (first.1 ∙ sym second.1)
      ]

-- Rule 10.2: on 16-bit numbers there is one outcome.
pub determined-numbers : {gains room : List ℕ} {o p : CompressOut} → CompressPlainNumbers gains room o → CompressPlainNumbers gains room p → o ≡ p
determined-numbers a b = same_outcome a b (λ ws. ws) (λ n e. refl) (λ n e. refl)

-- Bytes are those of the numbers that they hold.
bytes-held : (l : List ℕ) → Bytes l → Held 4 bytes words l
bytes-held l small n e =
    let part = take (4 * n) l in
    halves_pairs 256 part (omega (arith, length_pairs 256 part, length-take (4 * n) l)) (below-take (4 * n) l small)

-- Rules 1.3 and 10.2: on bytes, too.
pub determined-bytes : {gains room : List ℕ} {o p : CompressOut} → Bytes o.room → Bytes p.room → CompressPlainBytes gains room o
    → CompressPlainBytes gains room p → o ≡ p
determined-bytes {o = o} {p = p} mine yours a b = same_outcome a b bytes (bytes-held o.room mine) (bytes-held p.room yours)
