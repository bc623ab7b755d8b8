-- A reply's length, and the buffer that a reply is written into, store by store.
use Prim.Native.Nat.{ℕ, ◌+◌, ◌≤◌, ◌<◌}
use mathlib.Core.Path.{◌≡◌, refl}
use mathlib.Core.Bool.{Bool, true, false}
use mathlib.Core.List.{List, [], ◌∷◌, ◌++◌, append-nil, append_assoc}
use native.Mathlib.Nat.{add_comm}
use native.Mathlib.Numerals.{add-one, add-three}
use native.Mathlib.Omega.{arith}
use lib.ListN.{length, take, drop, set, length-append, length-drop, take-append-drop}
use lib.Seq.{sets, drop-drop, drop-append-le, length-take-le, take-append_seam, drop-append_seam, set-append_seam, drop-cons, append_snoc}
use borrow.Rule.Slice.PartMut.{mid_of, put_mid}
use Rattle.wire.specs.Numbers.{word_bytes}
use Rattle.wire.specs.Checksum.{checksum}
use Rattle.wire.specs.Buffers.{over}
use Rattle.wire.proofs.Laws.{take-over}
use Rattle.reply.specs.Reply.{reply_bytes}
use Rattle.reply.specs.Reading.{checksum_size}

pub length-reply : (sum : Bool) (status : ℕ) (d : List ℕ) → length (reply_bytes sum status d) ≡ length d + 3 + checksum_size sum
unfolding reply_bytes
length-reply true status d = rw length-append (omega arith)
length-reply false status d = rw (append-nil d) (omega arith)

-- One byte more goes behind those written over a buffer's start.
pub over-more : (s buffer : List ℕ) (v : ℕ) → length s < length buffer → set (over s buffer) (length s) v ≡ over (s ++ (v ∷ [])) buffer
unfolding over
over-more s buffer v h =
    rw (drop-cons buffer (length s) 0, set-append_seam, length-append, append_snoc, ← add-one (length s))

-- A reply up to its checksum.
abbrev pub front : ℕ → List ℕ → List ℕ
front status d = status ∷ (word_bytes (length d) ++ d)

-- The head's stores put it over n bytes of data that stand behind their place.
pub headed : (status n : ℕ) (buffer : List ℕ) → n + 3 ≤ length buffer
    → sets (sets buffer 0 (status ∷ [])) 1 (word_bytes n) ≡ over (front status (take n (drop 3 buffer))) buffer
unfolding over
headed status n [] h = absurd (omega arith)
headed status n (x ∷ []) h = absurd (omega arith)
headed status n (x ∷ y ∷ []) h = absurd (omega arith)
headed status n (x ∷ y ∷ z ∷ r) h = rw (length-take-le n r (omega arith), take-append-drop n r)

module _ (status n : ℕ) (buffer : List ℕ) (room : n + 4 ≤ length buffer) where
  data-length : length (take n (drop 3 buffer)) ≡ n
  data-length = length-take-le n (drop 3 buffer) (rw length-drop (omega arith))

  pub sealed-length : (sum : Bool) → n + 3 + checksum_size sum ≡ length (reply_bytes sum status (take n (drop 3 buffer)))
  sealed-length sum = rw (length-reply sum status, data-length)

  pub sealed-plain : sets (sets buffer 0 (status ∷ [])) 1 (word_bytes n) ≡ over (reply_bytes false status (take n (drop 3 buffer))) buffer
  unfolding reply_bytes
  sealed-plain = rw (append-nil (take n (drop 3 buffer))) (headed status n buffer (omega arith))

  pub sealed-summed : (w : List ℕ) → w ≡ sets (sets buffer 0 (status ∷ [])) 1 (word_bytes n)
      → set w (n + 3) (checksum (take (n + 3) w)) ≡ over (reply_bytes true status (take n (drop 3 buffer))) buffer
  unfolding reply_bytes
  sealed-summed w e =
      let s : List ℕ = front status (take n (drop 3 buffer)) in
      let long : n + 3 ≡ length s = omega (arith, data-length) in
      rw (e, headed status n buffer (omega arith), long, take-over s buffer)
      (over-more s buffer (checksum s) (omega arith))

-- Behind a reply only what lies behind its data counts.
pub over-behind : (sum : Bool) (status : ℕ) (d b buffer : List ℕ) → drop (3 + length d) b ≡ drop (3 + length d) buffer
    → over (reply_bytes sum status d) b ≡ over (reply_bytes sum status d) buffer
unfolding over
over-behind sum status d b buffer e =
    let long : length (reply_bytes sum status d) ≡ 3 + length d + checksum_size sum = omega (arith, length-reply sum status d) in
    rw (long, ← drop-drop (checksum_size sum) (3 + length d) b, e, drop-drop (checksum_size sum) (3 + length d) buffer)

-- The part behind the head was lent on and has come back with data d written over its start: d stands there, and what lies behind it is
-- as it was. `put_mid 3 k buffer part` is the whole buffer then.
in_place : (d r : List ℕ) (k : ℕ) → take (length d) (over d (take k r) ++ drop k r) ≡ d
unfolding over
in_place d r k = rw append_assoc (take-append_seam d (drop (length d) (take k r) ++ drop k r))

behind : (d r : List ℕ) (k : ℕ) → length d ≤ k → k ≤ length r → drop (length d) (over d (take k r) ++ drop k r) ≡ drop (length d) r
unfolding over
behind d r k g h =
    rw (append_assoc, drop-append_seam)
    (rw (← drop-append-le (length d) (take k r) (drop k r) (rw (length-take-le k r h) g), take-append-drop))

pub lent-on : (d buffer part : List ℕ) (k : ℕ) → length d ≤ k → k + 3 ≤ length buffer → part ≡ over d (mid_of 3 k buffer) → (sum : Bool) (status : ℕ)
    → (length (reply_bytes sum status (take (length d) (drop 3 (put_mid 3 k buffer part)))) ≡ length (reply_bytes sum status d))
    × (over (reply_bytes sum status (take (length d) (drop 3 (put_mid 3 k buffer part)))) (put_mid 3 k buffer part)
    ≡ over (reply_bytes sum status d) buffer)
lent-on d [] part k g h e sum status = absurd (omega arith)
lent-on d (x ∷ []) part k g h e sum status = absurd (omega arith)
lent-on d (x ∷ y ∷ []) part k g h e sum status = absurd (omega arith)
lent-on d (x ∷ y ∷ z ∷ r) part k g h e sum status =
    let same : take (length d) (part ++ drop k r) ≡ d = rw e (in_place d r k) in
    let rest : drop (3 + length d) (x ∷ y ∷ z ∷ (part ++ drop k r)) ≡ drop (3 + length d) (x ∷ y ∷ z ∷ r) =
    rw (add_comm 3 (length d), add-three) (rw e (behind d r k g (omega arith))) in
    rw same (refl, over-behind sum status d (x ∷ y ∷ z ∷ (part ++ drop k r)) (x ∷ y ∷ z ∷ r) rest)
