-- The lines behind the last record, case by case.
use Prim.Native.Nat.{ℕ, ◌+◌, ◌≤◌, ◌<◌}
use mathlib.Core.Path.{◌≡◌, refl, sym, ap, subst, ◌∙◌}
use mathlib.Core.Bool.{and-false}
use mathlib.Core.List.{List, [], ◌++◌}
use native.Mathlib.Omega.{arith}
use borrow.Author.Tests.{eq-eqb, ne_eqb, le-leb, lt-leb, lt-ltb, le-ltb}
use lib.ListN.{length}
use lib.Seq.{length-sets}
use Rattle.text.specs.Text.{decimal, Puts}
use Rattle.session_file.specs.Windows.{matched_of}
use Rattle.playback.specs.declared.Progress.{Progress}
use Rattle.playback.specs.Replay.{cut_word, cut_text, end_line, not_a_session, closing}
use Rattle.playback.specs.Windows.{most_records, closing_room, closing_text}

-- Text that is known to be another.
pub puts-as : {at end : ℕ} {a b entry exit : List ℕ} → b ≡ a → Puts at a entry exit end → Puts at b entry exit end
puts-as {at} {end} {a} {b} {entry} {exit} e p = subst (λ (t : List ℕ). Puts at t entry exit end) (sym e) p

-- No text.
pub puts-nothing : (at : ℕ) (out : List ℕ) → Puts at [] out out at
puts-nothing at out = record { ends = omega arith; exits = refl }

-- The buffer keeps its length.
pub puts-length : {at end : ℕ} {a entry exit : List ℕ} → Puts at a entry exit end → length exit ≡ length entry
puts-length {at} {end} {a} {entry} p = ap (λ (l : List ℕ). length l) p.exits ∙ length-sets entry at a

-- ---- A record that is cut.

-- None is.
pub no_cut : (number have : ℕ) → have ≡ 0 → cut_text number have ≡ []
no_cut number have e = rw (eq-eqb have 0 e)

-- One is.
pub one-cut : (number have : ℕ) → (have ≡ 0 → ⊥) → cut_text number have ≡ decimal (number + 1) ++ cut_word
one-cut number have e = rw (ne_eqb have 0 e)

-- ---- All of them.

module _ (p : Progress) (out : List ℕ) where
  -- There is no room for them.
  pub closing-short : length out < closing_room → closing_text p out ≡ []
  closing-short h = rw (lt-leb closing_room (length out) h)

  -- There are too many records to count.
  pub closing-most : most_records ≤ p.number → closing_text p out ≡ []
  closing-most h = rw (le-ltb p.number most_records h, and-false)

  module _ (room : closing_room ≤ length out) (few : p.number < most_records) where
    pub closing-none : (matched_of p.matched ≡ 5 → ⊥) → closing_text p out ≡ not_a_session
    unfolding closing
    closing-none h = rw (le-leb closing_room (length out) room, lt-ltb p.number most_records few, ne_eqb (matched_of p.matched) 5 h)

    pub closing_lines : matched_of p.matched ≡ 5 → closing_text p out ≡ cut_text p.number p.have ++ end_line p.number
    unfolding closing
    closing_lines h = rw (le-leb closing_room (length out) room, lt-ltb p.number most_records few, eq-eqb (matched_of p.matched) 5 h)
