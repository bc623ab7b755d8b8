-- The packets of pairs: they begin with one and go on behind its words; each but the last has 250 words; how many they are, how many bytes they
-- have, and that each announces its own.
use Prim.Native.Nat.{ℕ, zero, suc, ◌+◌, ◌-◌, ◌*◌, ◌%◌, ◌≤◌, ◌<◌, min}
use mathlib.Core.Path.{◌≡◌, subst}
use mathlib.Core.List.{List, [], ◌∷◌, ◌++◌}
use native.Mathlib.Nat.{add-zero, add_assoc}
use native.Mathlib.Decide.{dec_le}
use native.Mathlib.Omega.{arith}
use lib.ListN.{length, take, drop, length-take, length-drop, length-append, take-append-drop, drop_of_length-le}
use lib.Seq.{take_all}
use Rattle.wire.proofs.Tables.{length-halves}
use Rattle.packet.specs.Frame.{announced}
use Rattle.gain_words.specs.Pairs.{sum_runs}
use Rattle.gain_words.specs.Plain.{Pairs, none, pair}
use Rattle.gain_words.proofs.Right.{pairs-even}
use Rattle.upload.specs.Plan.{joined, EachAnnounced}
use Rattle.batch.specs.Pairs.{pairs_packet}
use Rattle.batch.proofs.Writing.{pairs-form}
use Rattle.splitter.specs.Split.{packet_words, more_pairs, split_from, split_packets, split_batch}
use Rattle.splitter.specs.Plain.{CutUp, last, more, Splittable}

double : (k : ℕ) → 2 * suc k ≡ suc (suc (2 * k))
double k = omega arith

-- With k pairs more in the packet last begun, the next begins behind them, and their runs move the start.
pub split-skip : (colour start k : ℕ) (ws : List ℕ)
    → split_from colour start k ws ≡ split_from colour (start + sum_runs (take (2 * k) ws)) 0 (drop (2 * k) ws)
unfolding split_from sum_runs
split-skip colour start zero ws = rw (add-zero start)
split-skip colour start (suc k) [] = rw (double k)
split-skip colour start (suc k) (run ∷ []) = rw (double k)
split-skip colour start (suc k) (run ∷ gain ∷ rest) =
    rw (double k, ← add_assoc start run (sum_runs (take (2 * k) rest))) (split-skip colour (start + run) k rest)

-- The first packet, and those behind it.
pub split-turn : (colour start : ℕ) (ws : List ℕ) → 1 < length ws
    → split_packets colour start ws
    ≡ pairs_packet colour start (take packet_words ws)
    ∷ split_packets colour (start + sum_runs (take packet_words ws)) (drop packet_words ws)
unfolding split_from sum_runs
split-turn colour start [] h = absurd (omega arith)
split-turn colour start (run ∷ []) h = absurd (omega arith)
split-turn colour start (run ∷ gain ∷ rest) h =
    rw (split-skip colour (start + run) more_pairs rest, add_assoc start run (sum_runs (take (2 * more_pairs) rest)))

-- The words of a packet, where fewer than a packet's are left too.
take-fewer : (ws : List ℕ) (n : ℕ) → n ≡ min packet_words (length ws) → take packet_words ws ≡ take n ws
take-fewer ws n e =
    elim (dec_le (length ws) packet_words) [
      | yes l ↦ let few : n ≡ length ws = omega arith in rw (few, take_all packet_words ws l, take_all (length ws) ws (omega arith))
      | no l ↦ let full : n ≡ packet_words = omega arith in rw full
    ]

drop-fewer : (ws : List ℕ) (n : ℕ) → n ≡ min packet_words (length ws) → drop packet_words ws ≡ drop n ws
drop-fewer ws n e =
    elim (dec_le (length ws) packet_words) [
      | yes l ↦
          let few : n ≡ length ws = omega arith in
          rw (few, drop_of_length-le ws {i = packet_words} l, drop_of_length-le ws {i = length ws} (omega arith))
      | no l ↦ let full : n ≡ packet_words = omega arith in rw full
    ]

pub split-next : (colour start : ℕ) (ws : List ℕ) (n : ℕ) → 1 < length ws → n ≡ min packet_words (length ws)
    → split_packets colour start ws ≡ pairs_packet colour start (take n ws) ∷ split_packets colour (start + sum_runs (take n ws)) (drop n ws)
split-next colour start ws n h e = rw (← take-fewer ws n e, ← drop-fewer ws n e) (split-turn colour start ws h)

-- The packets are cut as the rule says.
cut : (m colour start : ℕ) (ws : List ℕ) → length ws ≤ m → length ws % 2 ≡ 0 → 1 ≤ length ws → CutUp colour start ws (split_packets colour start ws)
unfolding split_from
cut zero colour start ws few even some = absurd (omega arith)
cut (suc m) colour start ws few even some =
    elim (dec_le (length ws) 250) [
      | yes l ↦
          rw (split-turn colour start ws (omega arith), take_all packet_words ws (omega arith), drop_of_length-le ws {i = packet_words} (omega arith))
          (last some l)
      | no l ↦
          let front : List ℕ = take packet_words ws in
          let rest : List ℕ = drop packet_words ws in
          let long : length front ≡ 250 = rw length-take (omega arith) in
          let left : length rest ≡ length ws - 250 = length-drop packet_words ws in
          rw (split-turn colour start ws (omega arith))
          (subst (λ (l : List ℕ). CutUp colour start l (pairs_packet colour start front ∷ split_packets colour (start + sum_runs front) rest))
          (take-append-drop packet_words ws)
          (more front rest long (omega arith) (cut m colour (start + sum_runs front) rest (omega arith) (omega arith) (omega arith))))
    ]

pub cut_up : (colour start : ℕ) (ws : List ℕ) → length ws % 2 ≡ 0 → 1 ≤ length ws → CutUp colour start ws (split_packets colour start ws)
cut_up colour start ws even some = cut (length ws) colour start ws (omega arith) even some

-- A packet's bytes, and that it announces them, whatever stands behind it.
pub pairs-long : (colour start : ℕ) (ws : List ℕ) → length (pairs_packet colour start ws) ≡ 10 + 2 * length ws
pairs-long colour start ws = rw (pairs-form colour start ws) (omega (arith, length-halves 256 ws))

pub pairs-announced : (colour start : ℕ) (ws rest : List ℕ) → announced (pairs_packet colour start ws ++ rest) ≡ length (pairs_packet colour start ws)
pairs-announced colour start ws rest = rw (pairs-long colour start ws, pairs-form colour start ws) (omega arith)

module _ {colour : ℕ} where
  pub cut-announced : {start : ℕ} {ws : List ℕ} {ps : List (List ℕ)} → CutUp colour start ws ps → (rest : List ℕ) → EachAnnounced rest ps
  cut-announced (last {start = start} {ws = ws} h k) rest = EachAnnounced.next (pairs-announced colour start ws _) EachAnnounced.none
  cut-announced (more {start = start} ws behind l s c) rest = EachAnnounced.next (pairs-announced colour start ws _) (cut-announced c rest)

  pub cut-count : {start : ℕ} {ws : List ℕ} {ps : List (List ℕ)} → CutUp colour start ws ps → 250 * length ps < length ws + 250
  cut-count (last h k) = omega arith
  cut-count (more ws behind l s c) = rw length-append (omega (arith, cut-count c))

  pub cut-bytes : {start : ℕ} {ws : List ℕ} {ps : List (List ℕ)} → CutUp colour start ws ps → length (joined ps) ≡ 10 * length ps + 2 * length ws
  unfolding joined
  cut-bytes (last {start = start} {ws = ws} h k) = rw (length-append, pairs-long colour start ws) (omega arith)
  cut-bytes (more {start = start} ws behind {ps = ps} l s c) =
      rw (length-append (pairs_packet colour start ws) (joined ps), length-append ws behind, pairs-long colour start ws) (omega (arith, cut-bytes c))

-- Each run is 1 or more.
pub pairs-few : {ws : List ℕ} → Pairs ws → length ws ≤ 2 * sum_runs ws
unfolding sum_runs
pairs-few none = omega arith
pairs-few (pair h k l r) = omega (arith, pairs-few r)

-- What can be split has at most 17 packets and 8,234 bytes.
pub split-small : (colour start : ℕ) (ws : List ℕ) → Splittable colour start ws → (length (split_packets colour start ws) ≤ 17) × (length (split_batch colour start ws) ≤ 8234)
unfolding split_batch
split-small colour start ws s =
    let c = cut_up colour start ws (pairs-even s.right.pairs) s.right.some in
    omega (arith, cut-count c, cut-bytes c, pairs-few s.right.pairs, s.within)
