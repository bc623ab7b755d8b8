-- What the loop that writes keeps: what is left makes the goal. ws are all words, i is how many of them are in packets.
use Prim.Native.Nat.{ℕ, ◌+◌, ◌-◌, ◌*◌, ◌%◌, ◌≤◌, ◌<◌, min}
use mathlib.Core.Path.{◌≡◌, refl, sym, ap, ◌∙◌}
use mathlib.Core.List.{List, [], ◌∷◌, ◌++◌}
use native.Mathlib.Omega.{arith}
use lib.ListN.{length, take, drop, length-take, length-drop, length-append, take-append-drop, drop_of_length-le}
use lib.Seq.{drop-drop, sets, length-sets}
use Rattle.wire.proofs.Laws.{sets-append}
use Rattle.packet.proofs.Stores.{sets_over}
use Rattle.gain_words.specs.Pairs.{sum_runs}
use Rattle.gain_words.proofs.Right.{pairs-even}
use Rattle.gain_words.proofs.Expand.{sum-append}
use Rattle.upload.specs.Plan.{joined}
use Rattle.batch.specs.Pairs.{pairs_packet}
use Rattle.splitter.specs.Split.{packet_words, split_from, split_packets, split_batch}
use Rattle.splitter.specs.Plain.{Splittable}
use Rattle.splitter.specs.Splitting.{split_out}
use Rattle.splitter.specs.Internal.{split_done}
use Rattle.splitter.proofs.Cutting.{split-next, split-small, pairs-long}

-- A part that is there is as long as it says.
pub part-long : (l : List ℕ) (from n : ℕ) → from + n ≤ length l → length (take n (drop from l)) ≡ n
part-long l from n h = simp (length-take, length-drop) (omega arith)

module _ (colour start : ℕ) (ws batch₀ : List ℕ) where
  -- The packets that words from a start on give.
  abbrev rest : ℕ → List ℕ → List (List ℕ)
  rest at l = split_packets colour at l

  pub record Cutting (at packets bytes i : ℕ) (batch : List ℕ) : Type 0 where
    pub within : i ≤ length ws
    pub even : length (drop i ws) % 2 ≡ 0
    pub runs-left : at + sum_runs (drop i ws) ≡ start + sum_runs ws
    pub packets-left : packets + length (rest at (drop i ws)) ≡ length (rest start ws)
    pub bytes_left : bytes + length (joined (rest at (drop i ws))) ≡ length (joined (rest start ws))
    pub batch-left : sets batch bytes (joined (rest at (drop i ws))) ≡ sets batch₀ 0 (joined (rest start ws))
    pub long : length batch ≡ length batch₀

  -- What writing the next packet asks, of n words.
  pub record NextFits (at packets bytes i n : ℕ) (batch : List ℕ) : Type 0 where
    pub room-left : bytes + (10 + 2 * n) ≤ length batch
    pub size_fits : 6 + 2 * n < 65536
    pub colour-fits : colour < 256
    pub start_fits : at < 65536
    pub within : i + n ≤ length ws
    pub runs_fit : at + sum_runs (take n (drop i ws)) ≤ 2016
    pub few : packets ≤ 17

  module _ (can : Splittable colour start ws) (room : 8234 ≤ length batch₀) where
    pub begun : Cutting start 0 0 0 batch₀
    begun =
        record {
          within = omega arith;
          even = pairs-even can.right.pairs;
          runs-left = refl;
          packets-left = omega arith;
          bytes_left = omega arith;
          batch-left = refl;
          long = refl;
        }

    module _ {at packets bytes i : ℕ} {batch : List ℕ} (c : Cutting at packets bytes i batch) where
      pub ended : length ws ≤ i → split_out 0 packets bytes batch ≡ split_done colour start ws batch₀
      unfolding split_from joined split_batch
      ended h =
          let none : drop i ws ≡ [] = drop_of_length-le ws {i = i} h in
          let all : packets ≡ length (rest start ws) = omega (arith, rw none at c.packets-left) in
          let size : bytes ≡ length (joined (rest start ws)) = omega (arith, rw none at c.bytes_left) in
          let left : batch ≡ sets batch₀ 0 (joined (rest start ws)) = rw none at c.batch-left in
          rw (all, size, left, sets_over (joined (rest start ws)) batch₀ (omega (arith, (split-small colour start ws can).1)))

      -- The next packet, of n words.
      module _ {n count : ℕ} (whole : count ≡ length ws) (inside : i < count) (e : n ≡ min packet_words (count - i)) where
        abbrev l : List ℕ
        l = drop i ws

        left-long : length l ≡ length ws - i
        left-long = length-drop i ws

        some : 1 < length l
        some = omega (arith, c.even, left-long)

        part-size : length (take n l) ≡ n
        part-size = rw length-take (omega (arith, left-long))

        -- Its runs, and those left behind it.
        pub sums : sum_runs l ≡ sum_runs (take n l) + sum_runs (drop n l)
        sums =
            rw take-append-drop at (sum-append (take n l) (drop n l) (omega (arith, part-size, c.even, left-long)))

        step : rest at l ≡ pairs_packet colour at (take n l) ∷ rest (at + sum_runs (take n l)) (drop n l)
        step = split-next colour at l n some (omega (arith, left-long))

        size : length (joined (rest at l)) ≡ 10 + 2 * n + length (joined (rest (at + sum_runs (take n l)) (drop n l)))
        unfolding joined
        size =
            rw (step, length-append (pairs_packet colour at (take n l)), pairs-long colour at (take n l), part-size)

        -- It lies in the words, its numbers fit, it has room, and its runs end within the colour.
        pub placed : NextFits at packets bytes i n batch
        unfolding split_batch
        placed =
            let small = split-small colour start ws can in
            record {
              room-left = omega (arith, c.bytes_left, c.long, size, room, small.1);
              size_fits = omega arith;
              colour-fits = omega (arith, can.right.colour-right);
              start_fits = omega (arith, c.runs-left, can.within);
              within = omega arith;
              runs_fit = omega (arith, c.runs-left, sums, can.within);
              few = omega (arith, c.packets-left, small.0);
            }

        pub turned : {sum bytes' : ℕ} {batch' : List ℕ} → (bytes' ≡ bytes + length (pairs_packet colour at (take n l))) × (batch' ≡ sets batch bytes (pairs_packet colour at (take n l))) → sum ≡ sum_runs (take n l)
            → Cutting (at + sum) (packets + 1) bytes' (i + n) batch'
        unfolding joined
        turned {sum} {bytes'} {batch'} put s =
            let p : List ℕ = pairs_packet colour at (take n l) in
            let behind : List (List ℕ) = rest (at + sum_runs (take n l)) (drop n l) in
            let next : drop (i + n) ws ≡ drop n l = sym (drop-drop n i ws) in
            let left : sets batch bytes (p ++ joined behind) ≡ sets batch₀ 0 (joined (rest start ws)) = rw step at c.batch-left in
            let place : bytes' ≡ bytes + length p = put.0 in
            let wide : length p ≡ 10 + 2 * n = pairs-long colour at (take n l) ∙ rw part-size in
            record {
              within = omega arith;
              even = rw next (omega (arith, length-drop n l, left-long, c.even));
              runs-left = rw (next, s) (omega (arith, c.runs-left, sums));
              packets-left = rw (next, s) (omega (arith, c.packets-left, ap length step));
              bytes_left = rw (next, s) (omega (arith, c.bytes_left, size, place, wide));
              batch-left = rw (next, s, put.1, place) (sets-append batch bytes p (joined behind) ∙ left);
              long = rw put.1 (length-sets batch bytes p ∙ c.long);
            }
