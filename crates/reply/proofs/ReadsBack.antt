-- A reply that is written reads back: its status and the size of its data, and the data at place 3. Each of the five tests passes
-- the bytes of a reply of at most 512 bytes whose status is at most 12.
use Prim.Native.Nat.{ℕ, ◌+◌, ◌-◌, ◌≤◌}
use mathlib.Core.Path.{◌≡◌, refl}
use mathlib.Core.Bool.{Bool, true, false}
use mathlib.Core.List.{List, [], ◌∷◌, ◌++◌}
use native.Mathlib.Omega.{arith}
use borrow.Author.Tests.{le-ltb, eq-eqb}
use lib.ListN.{length, take, drop, length-append}
use lib.Seq.{take-append_seam, get_or-append_seam}
use Rattle.wire.specs.Numbers.{byte_at, word_at}
use Rattle.wire.specs.Checksum.{checksum, sealed}
use Rattle.reply.specs.Reply.{reply_bytes}
use Rattle.reply.specs.Reading.{reply_reading, checksum_size, checksum_wrong}
use Rattle.reply.proofs.Laws.{length-reply, front}

pub record ReadsBack (sum : Bool) (status : ℕ) (d : List ℕ) : Type 0 where
  pub reading : reply_reading (reply_bytes sum status d) sum ≡ record { number = 0; status = status; place = 3; size = length d }
  pub content : take (length d) (drop 3 (reply_bytes sum status d)) ≡ d

-- Bytes that pass every test.
passed : (r : List ℕ) (sum : Bool) (status size : ℕ) → length r ≡ size + 3 + checksum_size sum → length r ≤ 512 → word_at r 1 ≡ size
    → checksum_wrong r sum ≡ false → byte_at r 0 ≡ status → status ≤ 12 → reply_reading r sum ≡ record { number = 0; status = status; place = 3; size = size }
unfolding reply_reading
passed r sum status size long fits size-right sum-right status-there status-right =
    let behind : length r - 3 - checksum_size sum ≡ size = omega arith in
    simp (le-ltb (length r) (3 + checksum_size sum) (omega arith), le-ltb 512 (length r) fits, behind, eq-eqb (word_at r 1) size size-right, sum-right, status-there, le-ltb 12 status status-right)

-- What is sealed has the right checksum, if it has one.
seal-right : (sum : Bool) (s : List ℕ) → checksum_wrong (sealed sum s) sum ≡ false
seal-right false s = refl
seal-right true s =
    let last : length (s ++ (checksum s ∷ [])) - 1 ≡ length s = rw length-append (omega arith) in
    rw (last, get_or-append_seam, take-append_seam, eq-eqb (checksum s) (checksum s) refl)

pub reads-back : (sum : Bool) (status : ℕ) (d : List ℕ) → status ≤ 12 → length (reply_bytes sum status d) ≤ 512 → ReadsBack sum status d
unfolding reply_bytes
reads-back sum status d known fits =
    record {
      reading = passed (reply_bytes sum status d) sum status (length d) (length-reply sum status d) fits (omega arith) (seal-right sum (front status d)) refl known;
      content = take-append_seam d _;
    }
