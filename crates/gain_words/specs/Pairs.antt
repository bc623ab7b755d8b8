-- Rule 5.11: compressed gains. Words come in pairs of a run and a gain, flat in one list; a last word alone is no pair.
use Rattle.std.specs.Prelude.{ℕ, suc, ◌+◌, Bool, cond, not, ◌&&◌, List, [], ◌∷◌, ◌++◌, replicate, leb, ltb}
use Rattle.gain_words.specs.Gains.{most_gain}

-- Rule 5.8: the gains of one colour; rule 5.11: no run is longer.
abbrev pub colour_gains : ℕ
colour_gains = 2016

-- Rule 5.11: the gains that pairs stand for: each pair its gain, as many times as its run says.
unfoldable pub expand : List ℕ → List ℕ
expand [] = []
expand (run ∷ []) = []
expand (run ∷ gain ∷ rest) = replicate run gain ++ expand rest

-- Rule 5.11: the sum of runs.
unfoldable pub sum_runs : List ℕ → ℕ
sum_runs [] = 0
sum_runs (run ∷ []) = 0
sum_runs (run ∷ gain ∷ rest) = run + sum_runs rest

-- Rule 5.11: a run of 0, or longer than a colour.
abbrev pub run_wrong : ℕ → Bool
run_wrong run = not (leb 1 run && leb run colour_gains)

-- Rule 5.11: the index of the first word at fault, a pair's run before its gain; the number of words in pairs for none.
unfoldable pub pair_fault : List ℕ → ℕ
pair_fault [] = 0
pair_fault (run ∷ []) = 0
pair_fault (run ∷ gain ∷ rest) = cond (run_wrong run) 0 (cond (leb gain most_gain) (suc (suc (pair_fault rest))) 1)

-- Rules 4.3 and 5.11: from a start on the runs go past a colour's gains.
abbrev pub runs_beyond : ℕ → List ℕ → Bool
runs_beyond start ws = ltb colour_gains (start + sum_runs ws)
