-- What is written over the start of a list: the bytes of a part that a read returns, and a whole
-- table after reset.
use Rattle.std.proofs.Common.{ℕ, ◌≡◌, ◌+◌, ◌*◌, ◌≤◌, ◌++◌, ◌∙◌, ap, arith, List, length, take, drop, length-drop}
use native.Mathlib.Nat.{zero-add}
use mathlib.Core.List.{append-nil}
use lib.ListN.{drop_of_length-le, replicate, length-replicate}
use lib.Seq.{sets, sets-eq, length-take-le}
use Rattle.wire.specs.Buffers.{over, Overwrites}
use Rattle.wire.specs.Tables.{bytes}
use Rattle.wire.proofs.Tables.{length-halves}

over-start : (l s : List ℕ) → length s ≤ length l → sets l 0 s ≡ s ++ drop (length s) l
over-start l s h = sets-eq s l 0 (rw (zero-add (length s)) h) ∙ ap (λ (n : ℕ). s ++ drop n l) (zero-add (length s))

pub filled : (l : List ℕ) (n v : ℕ) → length l ≡ n → sets l 0 (replicate n v) ≡ replicate n v
filled l n v e =
    let long = length-replicate n v in
    over-start l (replicate n v) (omega arith)
    ∙ rw (drop_of_length-le l {i = length (replicate n v)} (omega arith)) (append-nil (replicate n v))

-- n numbers of a table make 2n bytes.
part-long : (t : List ℕ) (from n : ℕ) → from + n ≤ length t → length (take n (drop from t)) ≡ n
part-long t from n h = length-take-le n (drop from t) (rw length-drop (omega arith))

pub part-out : (t : List ℕ) (from n size : ℕ) (out : List ℕ) {left part : List ℕ} → from + n ≤ length t → size ≡ 2 * n → 2 * n ≤ length out
    → part ≡ take n (drop from t) → left ≡ sets out 0 (bytes part) → Overwrites size (bytes (take n (drop from t))) out left
unfolding over
part-out t from n size out {left} {part} h e room p l =
    let sent = take n (drop from t) in
    let long = length-halves 256 sent in
    let many = part-long t from n h in
    (omega arith, l ∙ ap (λ (s : List ℕ). sets out 0 (bytes s)) p ∙ over-start out (bytes sent) (omega arith))
