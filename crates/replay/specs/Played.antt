-- Rule 9.6: the program's windows, as far as a contract can speak of them: what was read is free,
-- and so is whether a write succeeds.
use Rattle.std.specs.Prelude.{ℕ, zero, suc, ◌≤◌, ◌<◌, ◌≡◌, Bool, cond, List, eqb, length, take, Result, Ok, Err}
use Rattle.std_io.specs.declared.io.error.Error.{Error}
use Rattle.text.specs.Text.{Puts}
use Rattle.front_end.specs.State.{State}
use Rattle.session_file.specs.declared.Preamble.{Preamble}
use Rattle.session_file.specs.declared.Preamble.TheVariants.{Matched, Spoiled}
use Rattle.playback.specs.declared.Progress.{Progress}
use Rattle.playback.specs.Windows.{Carries, closing_text}
use Rattle.replay.specs.declared.Way.{Way}
use Rattle.replay.specs.declared.Way.TheVariants.{More, Ended, Unreadable, Unwritable}
use Rattle.replay.specs.declared.BetweenReads.{BetweenReads}
use Rattle.replay.specs.Plain.{given, LastText}

-- As much of a window as fills the output: nothing counts as taken where its lines could not be
-- written.
pub record PlayedSome (window : List ℕ) (from : Progress) (kept : List ℕ) (s : State) (p : Progress) (kept' : List ℕ) (s' : State) : Type 0 where
  pub inside : p.at ≤ length window
  pub carried : (p.at ≡ 0 → ⊥) → Carries (take p.at window) from kept s p kept' s'

-- A window: all of it, or a write failed.
pub record Played (window : List ℕ) (from : Progress) (kept : List ℕ) (s : State) (p : Progress) (kept' : List ℕ) (s' : State) : Type 0 where
  pub inside : p.at ≤ length window
  pub carried : p.at ≡ length window → Carries window from kept s p kept' s'

-- Rule 9.4: a file that is no session need not be read to its end.
abbrev pub behind_some : Preamble → Way
behind_some (Matched n) = More
behind_some Spoiled = Ended

-- Rules 9.4 and 9.7: after a read that failed or gave n bytes, of which some were replayed and
-- their lines written. A read that gives nothing is the file's end.
unfoldable pub way_of : Bool → ℕ → Progress → Way
way_of failed n p =
    cond (eqb p.at n) (cond failed Unreadable (cond (eqb n 0) Ended (behind_some p.matched))) Unwritable

-- ---- From window to window.

-- How it goes on behind what a read answered, with so much of the preamble.
unfoldable pub onward : Result ℕ Error → Preamble → Way
onward (Err e) matched = Unreadable
onward (Ok zero) matched = Ended
onward (Ok (suc k)) matched = behind_some matched

-- A read has answered `got`: unless a write failed, all bytes that it gave have taken on what is
-- carried, and it goes on as the answer says. A window has room for some bytes.
pub record TakenIn (from : Progress) (got : Result ℕ Error) (window kept : List ℕ) (t : State) (s : BetweenReads) (kept' : List ℕ) (t' : State) : Type 0 where
  pub taken : (s.how ≡ Unwritable → ⊥) → Carries (given got window) from kept t s.progress kept' t'
  pub goes_on : 0 < length window → (s.how ≡ Unwritable → ⊥) → s.how ≡ onward got s.progress.matched

-- A window was read; what the read answered is free.
pub record WindowTaken (from : Progress) (kept : List ℕ) (t : State) (window : List ℕ) (s : BetweenReads) (kept' : List ℕ) (t' : State) : Type 0 where
  pub got : Result ℕ Error
  pub answered : TakenIn from got window kept t s kept' t'

-- The last lines are so many bytes at the start of the output, which else is as it was.
pub record LastLines (s : BetweenReads) (out out' : List ℕ) (size : ℕ) : Type 0 where
  pub text : List ℕ
  pub put : Puts 0 text out out' size
  pub lines : LastText s.how (length out) (closing_text s.progress out) text

-- They were put, and handed over to be written.
pub record Closed (s : BetweenReads) (out out' : List ℕ) : Type 0 where
  pub size : ℕ
  pub lines : LastLines s out out' size
