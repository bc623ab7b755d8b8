-- A part of a table lent and written anew is a run of stores; and the loop that writes what pairs stand for: what is left makes the goal.
use Prim.Native.Nat.{ℕ, ◌+◌, ◌-◌, ◌*◌, ◌≤◌, ◌<◌}
use mathlib.Core.Path.{◌≡◌, refl}
use mathlib.Core.List.{List, [], ◌∷◌, ◌++◌, append_assoc}
use native.Mathlib.Omega.{arith}
use borrow.Rule.Slice.PartMut.{put_mid}
use lib.ListN.{length, take, drop, get_or, replicate, length-drop, length-replicate}
use lib.Seq.{sets, sets-eq, drop-drop, length-take-le}
use Rattle.wire.specs.Tables.{bytes}
use Rattle.wire.proofs.Laws.{sets-append}
use Rattle.wire.proofs.Tables.{length-halves, halves-append}
use Rattle.gain_words.specs.Pairs.{expand, sum_runs}
use Rattle.gain_words.proofs.Walk.{pair_turn, sum-turn}

-- n elements from a place on.
pub put-part : (l new : List ℕ) (at n : ℕ) → at + n ≤ length l → length new ≡ n → put_mid at (at + n - at) l new ≡ sets l at new
put-part l new at n h e =
    let size : at + n - at ≡ length new = omega arith in
    rw (size, sets-eq new l at (omega arith), append_assoc (take at l) new (drop (at + length new) l), drop-drop (length new) at l)

pub part-size : (l : List ℕ) (at n : ℕ) → at + n ≤ length l → length (take (at + n - at) (drop at l)) ≡ n
part-size l at n h = let size : at + n - at ≡ n = omega arith in rw size (length-take-le n (drop at l) (rw length-drop (omega arith)))

-- One pair of ws, the i-th word and the next.
module _ (ws table : List ℕ) (i place : ℕ) {run gain : ℕ} (h : i + 1 < length ws) (r : run ≡ get_or ws i 0) (g : gain ≡ get_or ws (i + 1) 0) where
  expand-turn : expand (drop i ws) ≡ replicate run gain ++ expand (drop (i + 2) ws)
  unfolding expand
  expand-turn = rw (pair_turn ws i h, ← r, ← g)

  pub runs-turn : sets (sets table place (replicate run gain)) (place + run) (expand (drop (i + 2) ws)) ≡ sets table place (expand (drop i ws))
  runs-turn =
      let behind = sets-append table place (replicate run gain) (expand (drop (i + 2) ws)) in
      rw expand-turn (rw (length-replicate run gain) at behind)

  pub runs-turn-bytes : sets (sets table (2 * place) (bytes (replicate run gain))) (2 * (place + run)) (bytes (expand (drop (i + 2) ws)))
      ≡ sets table (2 * place) (bytes (expand (drop i ws)))
  runs-turn-bytes =
      let behind = sets-append table (2 * place) (bytes (replicate run gain)) (bytes (expand (drop (i + 2) ws))) in
      let next : 2 * place + length (bytes (replicate run gain)) ≡ 2 * (place + run) =
      omega (arith, length-halves 256 (replicate run gain), length-replicate run gain) in
      rw (expand-turn, halves-append) (rw next at behind)

pub runs-left : (ws : List ℕ) (i : ℕ) {run : ℕ} → i + 1 < length ws → run ≡ get_or ws i 0 → sum_runs (drop i ws) ≡ run + sum_runs (drop (i + 2) ws)
runs-left ws i h r = rw r (sum-turn ws i h)

-- No pair is left.
pub runs_done : (ws : List ℕ) (i : ℕ) → length ws ≤ i + 1 → expand (drop i ws) ≡ []
unfolding expand
runs_done ws i h = alone (drop i ws) (rw length-drop (omega arith))
  where
    alone : (vs : List ℕ) → length vs ≤ 1 → expand vs ≡ []
    alone [] e = refl
    alone (v ∷ []) e = refl
    alone (v ∷ w ∷ vs) e = absurd (omega arith)
