-- What goes from window to window, from reset to the last line.
use Prim.Native.Nat.{ℕ, zero, suc, ◌+◌, ◌≤◌, ◌<◌, min}
use mathlib.Core.Path.{◌≡◌, refl, sym, ap, subst, ◌∙◌}
use mathlib.Core.Logic.{◌⊎◌, inl, inr}
use native.Mathlib.Numerals.{add-one}
use mathlib.Core.Bool.{Bool, true, false, cond}
use mathlib.Core.List.{List, [], ◌++◌}
use native.Mathlib.Decide.{ℕ_discrete}
use native.Mathlib.Omega.{arith}
use borrow.Author.Tests.{eq-eqb, ne_eqb, le-leb, lt-ltb}
use lib.Dec.{eqb}
use lib.Seq.{length-take-le}
use lib.ListN.{length, take}
use Rattle.std.proofs.Common.{Result, Ok, Err, is_err}
use Rattle.std_io.specs.declared.io.error.Error.{Error}
use Rattle.front_end.specs.State.{State, ResetOut, reset, reset_out, reset_state}
use Rattle.front_end.specs.Calls.{state_after_all}
use Rattle.front_end.specs.Plain.{StateLent}
use Rattle.front_end.specs.Demands.{Resets}
use Rattle.front_end.proofs.Demands.{state-lent}
use Rattle.session_file.specs.declared.Preamble.{Preamble}
use Rattle.session_file.specs.declared.Preamble.TheVariants.{Matched, Spoiled}
use Rattle.session_file.specs.Windows.{matched_of}
use Rattle.session_file.specs.Session.{Run, taken, spoiled, file_run, start}
use Rattle.session_file.specs.Plain.{HasPreamble}
use Rattle.session_file.proofs.Runs.{taken-append}
use Rattle.session_file.proofs.File.{file-read}
use Rattle.playback.specs.declared.Progress.{Progress}
use Rattle.playback.specs.Windows.{ReplayStands, Carries, most_records, closing_room, closing_text}
use Rattle.playback.specs.Replay.{«lines» as lines_of, «closing» as closing_of, text_of, replay_text, state_after_records, end_state}
use Rattle.playback.specs.Plain.{Counted, Countable, Closes, Printed}
use Rattle.playback.proofs.Files.{closing-none}
use Rattle.playback.proofs.Plain.{closes, «printed» as file-printed}
use Rattle.replay.specs.declared.Way.{Way}
use Rattle.replay.specs.declared.Way.TheVariants.{More, Ended, Unreadable, Unwritable}
use Rattle.replay.specs.declared.BetweenReads.{BetweenReads}
use Rattle.replay.specs.Plain.{count_of, given, GoesOn, Reads, Closing, RunPlain}
use Rattle.replay.specs.Played.{Played, behind_some, way_of, onward, TakenIn, WindowTaken, Closed}

-- ---- From reset.

pub from_reset : {status : ℕ} {s t : State} → Resets s (reset_out status t) → StateLent s → t ≡ reset_state
unfolding reset
from_reset {status} {s} {t} r lent = ap (λ (x : ResetOut). x.state) r.outcome ∙ rw ((state-lent s).1 lent) refl

stands-none : (p : Progress) (kept : List ℕ) (t : State) → t ≡ reset_state → matched_of p.matched ≡ 0 → p.number ≡ 0 → p.have ≡ 0
    → ReplayStands reset_state (file_run []) p kept t
unfolding state_after_all taken file_run
stands-none p kept t e m n h =
    record {
      reader = record { preamble-bytes = m; record-bytes = h; record-front = rw h refl; record-cut = record { short = λ two. omega arith } };
      number = n;
      state = e;
    }

-- ---- How it goes on.

way-taken : (failed : Bool) (n : ℕ) (q : Progress) → (way_of failed n q ≡ Unwritable → ⊥) → q.at ≡ n
unfolding way_of
way-taken failed n q h =
    elim (ℕ_discrete q.at n) [ yes e ↦ e | no e ↦ absurd (h (rw (ne_eqb q.at n e) refl)) ]

way-fine : (failed : Bool) (n : ℕ) (q : Progress) → (way_of failed n q ≡ Unwritable → ⊥)
    → way_of failed n q ≡ cond failed Unreadable (cond (eqb n 0) Ended (behind_some q.matched))
unfolding way_of
way-fine failed n q fine = rw (eq-eqb q.at n (way-taken failed n q fine)) refl

-- A read that failed, one that gave nothing, and one that gave some bytes.
way-onward : (got : Result ℕ Error) (room : ℕ) (q : Progress) → 0 < room → (way_of (is_err got) (count_of got room) q ≡ Unwritable → ⊥)
    → way_of (is_err got) (count_of got room) q ≡ onward got q.matched
unfolding onward
way-onward (Err e) room q some fine = way-fine true 0 q fine
way-onward (Ok zero) room q some fine =
    way-fine false (min 0 room) q fine ∙ rw (eq-eqb (min 0 room) 0 (omega arith)) refl
way-onward (Ok (suc k)) room q some fine =
    way-fine false (min (suc k) room) q fine ∙ rw (ne_eqb (min (suc k) room) 0 (λ e. omega arith)) refl

-- A file whose preamble is spoiled is no session.
not-matched : (bytes : List ℕ) (matched : Preamble) → matched_of matched ≡ (file_run bytes).matched
    → matched_of matched ≡ spoiled → HasPreamble bytes → ⊥
not-matched bytes matched e six preamble = omega (arith, e, six, (file-read bytes).session.1 preamble)

-- How it goes on behind some bytes: there may be more, or the file is no session.
behind-some : (bytes : List ℕ) (matched : Preamble) → matched_of matched ≡ (file_run bytes).matched
    → (behind_some matched ≡ More) ⊎ ((behind_some matched ≡ Ended) × (HasPreamble bytes → ⊥))
behind-some bytes (Matched n) e = inl refl
behind-some bytes Spoiled e = inr (refl, not-matched bytes Spoiled e refl)

goes_on : {got : Result ℕ Error} {bytes : List ℕ} (matched : Preamble) {how : Way} → how ≡ onward got matched
    → matched_of matched ≡ (file_run bytes).matched → GoesOn got bytes how
unfolding onward
goes_on {got} {bytes} matched {how} e read =
    record {
      failed = λ same. of same;
      ended = λ same. of same;
      some =
          λ same.
          elim (behind-some bytes matched read) [
            | inl more ↦ inl (of same ∙ more)
            | inr none ↦ inr (of same ∙ none.0, none.1)
          ];
    }
  where
    of : {g : Result ℕ Error} → got ≡ g → how ≡ onward g matched
    of same = e ∙ ap (λ (h : Result ℕ Error). onward h matched) same

-- ---- A window, and one behind others.

pub taken_in : {s : BetweenReads} {from : Progress} {window kept kept' : List ℕ} {t t' : State} {got : Result ℕ Error} (n : ℕ)
    → n ≡ count_of got (length window) → Played (take n window) from kept t s.progress kept' t' → s.how ≡ way_of (is_err got) n s.progress
    → n ≤ length window → TakenIn from got window kept t s kept' t'
taken_in {s} {from} {window} {kept} {kept'} {t} {t'} {got} n counts played how fits =
    record {
      taken =
          λ fine.
          let all : s.progress.at ≡ length (take n window) = way-taken (is_err got) n s.progress (λ e. fine (how ∙ e)) ∙ sym (length-take-le n window fits) in
          subst (λ (k : ℕ). Carries (take k window) from kept t s.progress kept' t') counts (played.carried all);
      goes_on =
          λ room fine.
          let as-counted : s.how ≡ way_of (is_err got) (count_of got (length window)) s.progress = how ∙ ap (λ (k : ℕ). way_of (is_err got) k s.progress) counts in
          as-counted ∙ way-onward got (length window) s.progress room (λ e. fine (as-counted ∙ e));
    }

-- ---- Window after window.

-- So many reads and their bytes, for which what is carried stands.
pub record SoFar (count : ℕ) (s : BetweenReads) (kept : List ℕ) (t : State) : Type 0 where
  pub bytes : List ℕ
  pub reads : Reads count s.how bytes
  pub stands : (s.how ≡ Unwritable → ⊥) → ReplayStands reset_state (file_run bytes) s.progress kept t

pub start_of : {s : BetweenReads} {kept : List ℕ} {t : State} → t ≡ reset_state → matched_of s.progress.matched ≡ 0 → s.progress.number ≡ 0
    → s.progress.have ≡ 0 → s.how ≡ More → SoFar 0 s kept t
start_of {s} {kept} {t} e m n h w =
    record {
      bytes = [];
      reads = subst (λ (k : Way). Reads 0 k []) (sym w) Reads.none;
      stands = λ fine. stands-none s.progress kept t e m n h;
    }

pub one_more : {count : ℕ} {s s' : BetweenReads} {window kept kept' : List ℕ} {t t' : State} → SoFar count s kept t → s.how ≡ More
    → WindowTaken s.progress kept t window s' kept' t' → 0 < length window → SoFar (count + 1) s' kept' t'
unfolding file_run
one_more {count} {s} {s'} {window} {kept} {kept'} {t} {t'} x more w room =
    record {
      bytes = x.bytes ++ given w.got window;
      reads =
          rw add-one
          (Reads.next w.got window (subst (λ (k : Way). Reads count k x.bytes) more x.reads) room
          (λ fine. goes_on s'.progress.matched (w.answered.goes_on room fine) (stands fine).reader.preamble-bytes));
      stands = stands;
    }
  where
    stands : (s'.how ≡ Unwritable → ⊥) → ReplayStands reset_state (file_run (x.bytes ++ given w.got window)) s'.progress kept' t'
    stands fine =
        subst (λ (r : Run). ReplayStands reset_state r s'.progress kept' t') (sym (taken-append start x.bytes (given w.got window)))
        ((w.answered.taken fine).stands reset_state (file_run x.bytes) (x.stands (λ e. absurd cc)))

-- ---- The whole run.

-- The records of a file that can be counted are few enough, and of no session there are none.
few-records : (bytes : List ℕ) → Countable bytes → Counted (length (file_run bytes).whole)
few-records bytes few =
    let read = file-read bytes in
    elim (ℕ_discrete (file_run bytes).matched 5) [
      | yes five ↦ few (file_run bytes).whole (file_run bytes).under (read.splits (read.session.0 five))
      | no other ↦ rw (read.none (λ preamble. other (read.session.1 preamble))) (omega arith)
    ]

text-printed : {t : State} (bytes : List ℕ) → Countable bytes → t ≡ state_after_records (file_run bytes).whole reset_state
    → Printed bytes (lines_of 0 (file_run bytes).whole reset_state ++ closing_of (file_run bytes).matched (length (file_run bytes).whole) (length (file_run bytes).under)) t
unfolding replay_text text_of end_state
text-printed bytes few e = rw e (file-printed bytes few)

closes-it : (bytes : List ℕ) → Countable bytes
    → Closing bytes (closing_of (file_run bytes).matched (length (file_run bytes).whole) (length (file_run bytes).under))
closes-it bytes few =
    let r : Run = file_run bytes in
    let read = file-read bytes in
    elim (ℕ_discrete r.matched 5) [
      | yes five ↦
          let preamble = read.session.0 five in
          Closing.session preamble (read.splits preamble)
          (subst (λ (m : ℕ). Closes (length r.whole) (length r.under) (closing_of m (length r.whole) (length r.under))) (sym five)
          (closes (length r.whole) (length r.under) (few-records bytes few)))
      | no wrong ↦
          rw (closing-none r.matched (length r.whole) (length r.under) wrong) (Closing.other (λ preamble. wrong (read.session.1 preamble)))
    ]

closing-is : (s : BetweenReads) {kept : List ℕ} {t : State} (bytes out : List ℕ) → ReplayStands reset_state (file_run bytes) s.progress kept t → Countable bytes
    → closing_room ≤ length out
    → closing_text s.progress out ≡ closing_of (file_run bytes).matched (length (file_run bytes).whole) (length (file_run bytes).under)
closing-is s bytes out stands few room =
    let number : s.progress.number < most_records = omega (arith, stands.number, few-records bytes few) in
    rw (le-leb closing_room (length out) room, lt-ltb s.progress.number most_records number, stands.reader.preamble-bytes, stands.number, stands.reader.record-bytes) refl

one_of : (s : BetweenReads) → s.how ≡ Ended → s.how ≡ Unwritable → ⊥
one_of s one three = absurd cc

-- All the reads of a run: it does not go on, or there were 2^64 - 1.
pub record Through (s : BetweenReads) (kept : List ℕ) (t : State) : Type 0 where
  pub count : ℕ
  pub far : SoFar count s kept t
  pub all : s.how ≡ More → count ≡ 18446744073709551615

pub through-as : {s s' : BetweenReads} {kept kept' : List ℕ} {t t' : State} → s' ≡ s → kept' ≡ kept → t' ≡ t → Through s kept t → Through s' kept' t'
through-as {s} {s'} {kept} {kept'} {t} {t'} a b c x =
    subst (λ (y : BetweenReads). Through y kept' t') (sym a)
    (subst (λ (y : List ℕ). Through s y t') (sym b) (subst (λ (y : State). Through s kept y) (sym c) x))

pub ran : {last : BetweenReads} {kept out out' : List ℕ} {t : State} → Through last kept t → Closed last out out' → RunPlain last.how t out'
ran {last} {kept} {out} x closed =
    let far = x.far in
    let r : Run = file_run far.bytes in
    let text = closed.lines in
    record {
      count = x.count;
      bytes = far.bytes;
      reads = far.reads;
      stops = x.all;
      lines = lines_of 0 r.whole reset_state;
      closing = closing_of r.matched (length r.whole) (length r.under);
      printed = λ fine few. text-printed far.bytes few (far.stands fine).state;
      closes = closes-it far.bytes;
      out = out;
      text = text.text;
      last =
          λ few.
          record {
            at-end = λ one room. text.lines.at-end one room ∙ closing-is last far.bytes out (far.stands (λ three. one_of last one three)) few room;
            unread = text.lines.unread;
            unwritten = text.lines.unwritten;
          };
      put = text.put.exits;
    }
