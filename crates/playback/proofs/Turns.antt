-- WindowTurns of a replay: each takes the run on, and one after another they are one.
use Prim.Native.Nat.{ℕ, ◌+◌, ◌-◌, ◌≤◌, ◌<◌}
use mathlib.Core.Path.{◌≡◌, refl, sym, ap, subst, ◌∙◌}
use mathlib.Core.Bool.{Bool, true, false, cond, ◌&&◌, true≢false}
use mathlib.Core.Logic.{inl, inr}
use mathlib.Core.List.{List, [], ◌∷◌, ◌++◌, append_assoc, append-nil}
use native.Mathlib.Omega.{arith}
use borrow.Author.Tests.{leb-true, leb-false, le-leb, ltb-true, ltb-false}
use lib.ListN.{length, take, drop, length-append, length-drop}
use lib.Seq.{take-add, take_all, drop-drop}
use Rattle.std.proofs.Common.{Some, None}
use lib.Dec.{leb, ltb}
use Rattle.wire.proofs.Tests.{and_left, and_right}
use Rattle.wire.specs.First.{first}
use Rattle.wire.specs.Buffers.{over}
use Rattle.text.specs.Text.{decimal, hex, Puts}
use Rattle.text.specs.Plain.{Decimal, Hex}
use Rattle.front_end.specs.State.{State, stopped}
use Rattle.front_end.specs.Step.{Out, out, read_and_placed, number_of, reply_to, step}
use Rattle.front_end.proofs.Bounds.{placed-number}
use Rattle.front_end.proofs.ReadBack.{size_small}
use Rattle.session_file.specs.declared.Preamble.{Preamble}
use Rattle.session_file.specs.declared.Found.{Found}
use Rattle.session_file.specs.declared.Taken.{Taken}
use Rattle.session_file.specs.Session.{Run, taken}
use Rattle.session_file.specs.Windows.{most_record, found, next_taken, Follows, ReaderStep, ReaderStands}
use Rattle.session_file.proofs.Runs.{taken-append}
use Rattle.playback.specs.declared.Progress.{Progress}
use Rattle.playback.specs.Replay.{reply_buffer, line, line_of, lines, state_after_records, Formed}
use Rattle.playback.specs.Windows.{part, line_room, most_records, progress, begun, ReplayStands, Replayed, Full, has_room, RoomsEnough, rooms_right}
use Rattle.playback.specs.Windows.{WindowReplayed, Carries, Answered, Turned, Going, going, read_on, answer_of, answer_found, turn_by, turn_of, WindowTurns, stops, goes}
use Rattle.playback.proofs.Lines.{state-snoc, lines_snoc, front-line, front-state, line-formed, formed-append, puts-behind}

-- ---- Parts of a window.

part_none : (window : List ℕ) (a : ℕ) → part window a a ≡ []
part_none window a = let e : a - a ≡ 0 = omega arith in rw e

part-append : (window : List ℕ) (a b c : ℕ) → a ≤ b → b ≤ c → part window a b ++ part window b c ≡ part window a c
part-append window a b c ab bc =
    let e : c - a ≡ b - a + (c - b) = omega arith in
    let f : a + (b - a) ≡ b = omega arith in
    sym
    (rw e (take-add (b - a) (c - b) (drop a window))
    ∙ ap (λ (l : List ℕ). part window a b ++ take (c - b) l) (drop-drop (b - a) a window ∙ ap (λ (k : ℕ). drop k window) f))

-- ---- Nothing yet, and one turn behind others.

pub replay-none : (window : List ℕ) (p : Progress) (kept : List ℕ) (s : State) (out : List ℕ) → Replayed window p kept s out p kept s out
unfolding taken
replay-none window p kept s out =
    record {
      text = [];
      put = record { ends = omega arith; exits = refl };
      formed = Formed.none;
      follows =
          λ first r st.
          let e : taken r (part window p.at p.at) ≡ r = ap (taken r) (part_none window p.at) in
          record {
            stands = subst (λ (x : Run). ReplayStands first x p kept s) (sym e) st;
            printed = ap (λ (x : Run). lines 0 x.whole first) e ∙ sym (append-nil (lines 0 r.whole first));
          };
    }

pub replay-on : {window : List ℕ} {from p q : Progress} {kept kept' kept'' : List ℕ} {s s' s'' : State} {out out' out'' : List ℕ}
    → from.at ≤ p.at → p.at ≤ q.at → Replayed window from kept s out p kept' s' out' → Replayed window p kept' s' out' q kept'' s'' out''
    → Replayed window from kept s out q kept'' s'' out''
replay-on {window} {from} {p} {q} {kept} {kept'} {kept''} {s} {s'} {s''} {out} {out'} {out''} ab bc x y =
    record {
      text = x.text ++ y.text;
      put = puts-behind x.put y.put;
      formed = formed-append x.formed y.formed;
      follows =
          λ first r st.
          let a = x.follows first r st in
          let b = y.follows first (taken r (part window from.at p.at)) a.stands in
          let e : taken (taken r (part window from.at p.at)) (part window p.at q.at) ≡ taken r (part window from.at q.at) =
          sym (taken-append r (part window from.at p.at) (part window p.at q.at))
          ∙ ap (taken r) (part-append window from.at p.at q.at ab bc) in
          record {
            stands = subst (λ (x : Run). ReplayStands first x q kept'' s'') e b.stands;
            printed =
                ap (λ (x : Run). lines 0 x.whole first) (sym e) ∙ b.printed ∙ ap (λ (l : List ℕ). l ++ y.text) a.printed
                ∙ append_assoc (lines 0 r.whole first) x.text y.text;
          };
    }

-- ---- A record's line.

pub status-small : (p : List ℕ) (s : State) (reply : List ℕ) → (step p s reply).status ≤ 12
unfolding step number_of
status-small p s reply = go (stopped s reply)
  where
    go : (b : Bool) → cond b 1 (first (read_and_placed p s.block)) ≤ 12
    go true = omega arith
    go false = (placed-number p s.block).small

pub answer-done : {packet : List ℕ} {q p : Progress} {s s' : State} {reply reply' buffer buffer' : List ℕ} {status fault size : ℕ}
    → out status fault size s' reply' ≡ step packet s reply → Puts q.size (line (q.number + 1) status (take size reply')) buffer buffer' p.size
    → p.size ≤ q.size + line_room → Decimal (q.number + 1) (decimal (q.number + 1)) → Decimal status (decimal status)
    → Hex (take size reply') (hex (take size reply')) → p.number ≡ q.number + 1 → p.at ≡ q.at → p.matched ≡ q.matched → p.have ≡ q.have
    → Answered packet q s reply buffer p s' reply' buffer'
answer-done {packet} {q} {p} {s} {s'} {reply} {reply'} {buffer} {buffer'} {status} {fault} {size} e put fits a b c number at matched have =
    let small : status ≤ 12 = rw (ap (λ (o : Out). o.status) e) (status-small packet s reply) in
    record {
      state = ap (λ (o : Out). o.state) e;
      buffer = ap (λ (o : Out). o.reply) e;
      put = subst (λ (o : Out). Puts q.size (line_of (q.number + 1) o) buffer buffer' p.size) e put;
      formed = subst (λ (o : Out). Formed q.number (line_of (q.number + 1) o) (q.number + 1)) e
          (line-formed q.number status (take size reply') a b small c);
      number = number;
      at = at;
      matched = matched;
      have = have;
      fits = fits;
    }

-- ---- A turn.

-- What the reader leaves, with the output as it was.
abbrev pub read_to : Progress → Taken → Progress
read_to p t = progress (p.at + t.size) p.size t.matched p.number t.have

-- The bytes that it took.
pub part-next : (window : List ℕ) (at n : ℕ) → part window at (at + n) ≡ take n (drop at window)
part-next window at n = let e : at + n - at ≡ n = omega arith in rw e

module _ (window : List ℕ) (p : Progress) (kept : List ℕ) (s : State) (out : List ℕ) (t : Taken) (kept' : List ℕ)
    (follows : Follows (drop p.at window) p.matched p.have kept t kept') where
  -- No record became whole.
  pub turn-none : t.found ≡ None → Replayed window p kept s out (read_to p t) kept' s out
  turn-none none =
      record {
        text = [];
        put = record { ends = omega arith; exits = refl };
        formed = Formed.none;
        follows =
            λ first r st.
            let w = follows r st.reader in
            let run : taken r (part window p.at (p.at + t.size)) ≡ taken r (take t.size (drop p.at window)) =
            ap (taken r) (part-next window p.at t.size) in
            let same : (taken r (part window p.at (p.at + t.size))).whole ≡ r.whole = ap (λ (x : Run). x.whole) run ∙ w.none none in
            record {
              stands =
                  record {
                    reader = subst (λ (x : Run). ReaderStands x t.matched t.have kept') (sym run) w.stands;
                    number = st.number ∙ ap (λ (l : List (List ℕ)). length l) (sym same);
                    state = st.state ∙ ap (λ (l : List (List ℕ)). state_after_records l first) (sym same);
                  };
              printed = ap (λ (l : List (List ℕ)). lines 0 l first) same ∙ sym (append-nil (lines 0 r.whole first));
            };
      }

  -- One did.
  module _ (reply : List ℕ) (room : 512 ≤ length reply) (f : Found) (some : t.found ≡ Some f) (q : Progress) (s' : State) (reply' out' : List ℕ)
      (a : Answered (found f (drop p.at window) kept') (read_to p t) s reply out q s' reply' out') where
    abbrev answered : List ℕ
    answered = found f (drop p.at window) kept'

    pub turn_one : Replayed window p kept s out q kept' s' out'
    turn_one =
        record {
          text = line_of (p.number + 1) (step answered s reply);
          put = a.put;
          formed = subst (λ (n : ℕ). Formed p.number (line_of (p.number + 1) (step answered s reply)) n) (sym a.number) a.formed;
          follows =
              λ first r st.
              let w = follows r st.reader in
              let packet : List ℕ = w.packet in
              let before : State = state_after_records r.whole first in
              let one = w.one some in
              let there = w.there some in
              let bytes : List ℕ = take t.size (drop p.at window) in
              let run : taken r (part window p.at q.at) ≡ taken r bytes =
              ap (taken r) (ap (part window p.at) a.at ∙ part-next window p.at t.size) in
              let state-now : s' ≡ (step packet before reply_buffer).state =
              a.state ∙ ap (λ (x : List ℕ). (step x s reply).state) there ∙ front-state packet s reply room
              ∙ ap (λ (x : State). (step packet x reply_buffer).state) st.state in
              let text-now : line_of (p.number + 1) (step answered s reply) ≡ line_of (0 + length r.whole + 1) (step packet before reply_buffer) =
              ap (λ (x : List ℕ). line_of (p.number + 1) (step x s reply)) there ∙ front-line (p.number + 1) packet s reply room
              ∙ ap (λ (x : State). line_of (p.number + 1) (step packet x reply_buffer)) st.state
              ∙ ap (λ (n : ℕ). line_of n (step packet before reply_buffer)) (omega (arith, st.number)) in
              record {
                stands =
                    subst (λ (x : Run). ReplayStands first x q kept' s') (sym run)
                    (record {
                      reader =
                          subst (λ (m : Preamble). ReaderStands (taken r bytes) m q.have kept') (sym a.matched)
                          (subst (λ (h : ℕ). ReaderStands (taken r bytes) t.matched h kept') (sym a.have) w.stands);
                      number =
                          a.number ∙ ap (λ (n : ℕ). n + 1) st.number
                          ∙ sym (ap (λ (l : List (List ℕ)). length l) one ∙ length-append r.whole (packet ∷ []));
                      state =
                          state-now ∙ sym (ap (λ (l : List (List ℕ)). state_after_records l first) one ∙ state-snoc r.whole packet first);
                    });
                printed =
                    ap (λ (x : Run). lines 0 x.whole first) run ∙ ap (λ (l : List (List ℕ)). lines 0 l first) one
                    ∙ lines_snoc 0 r.whole packet first ∙ ap (λ (l : List ℕ). lines 0 r.whole first ++ l) (sym text-now);
              };
        }

-- ---- Room in the output.

pub no_room : (size long : ℕ) → long < line_room → long < size + line_room
no_room size long h = omega arith

pub filled-room : (size long : ℕ) → line_room ≤ long → long - line_room < size → long < size + line_room
filled-room size long h k = omega arith

pub some-room : (size long : ℕ) → line_room ≤ long → size ≤ long - line_room → size + line_room ≤ long
some-room size long h k = omega arith

-- A reply lies in its buffer, and is no longer than any may be.
pub reply-fits : (packet : List ℕ) (s : State) (reply : List ℕ) {s' : State} {reply' : List ℕ} {status fault size : ℕ} → out status fault size s' reply' ≡ step packet s reply
    → (size ≤ length reply') × (size ≤ 512)
unfolding step over
reply-fits packet s reply {s'} {reply'} {status} {fault} {size} e =
    let number : ℕ = number_of packet s reply in
    let bytes : List ℕ = reply_to number packet s in
    let long : size ≡ length bytes = ap (λ (o : Out). o.size) e in
    let there : reply' ≡ bytes ++ drop (length bytes) reply = ap (λ (o : Out). o.reply) e in (
      omega (arith, long, ap (λ (l : List ℕ). length l) there, length-append bytes (drop (length bytes) reply)),
      rw (ap (λ (o : Out). o.size) e) (size_small packet s reply),
    )

-- ---- The promise of a turn.

-- A step of the reader is that of the definition.
by-step : (window : List ℕ) (g : Going) (t : Taken) (kept' : List ℕ)
    → ReaderStep (drop g.now.at window) g.now.matched g.now.have g.kept t kept' → turn_by (drop g.now.at window) g t kept' ≡ turn_of window g
unfolding turn_of
by-step window g t kept' step =
    let rest : List ℕ = drop g.now.at window in
    ap (λ (x : Taken). turn_by rest g x kept') step.answer
    ∙ ap (λ (k : List ℕ). turn_by rest g (next_taken rest g.now.matched g.now.have g.kept) k) step.room

progress-is : (q : Progress) {at size number have : ℕ} {matched : Preamble} → q.at ≡ at → q.size ≡ size → q.matched ≡ matched → q.number ≡ number
    → q.have ≡ have → q ≡ progress at size matched number have
progress-is q {at} {size} {number} {have} {matched} a z m n h =
    ap (λ (x : ℕ). progress x q.size q.matched q.number q.have) a
    ∙ ap (λ (x : ℕ). progress at x q.matched q.number q.have) z
    ∙ ap (λ (x : Preamble). progress at size x q.number q.have) m
    ∙ ap (λ (x : ℕ). progress at size matched x q.have) n
    ∙ ap (λ (x : ℕ). progress at size matched number x) h

answer-is : (packet : List ℕ) (g : Going) (q : Progress) (s' : State) (reply' out' : List ℕ)
    → Answered packet g.now g.state g.reply g.out q s' reply' out' → going q g.kept s' reply' out' ≡ answer_of packet g
answer-is packet g q s' reply' out' a =
    ap (λ (x : Progress). going x g.kept s' reply' out') (progress-is q a.at a.put.ends a.matched a.number a.have)
    ∙ ap (λ (x : State). going (answer_of packet g).now g.kept x reply' out') a.state
    ∙ ap (λ (x : List ℕ). going (answer_of packet g).now g.kept (answer_of packet g).state x out') a.buffer
    ∙ ap (λ (x : List ℕ). going (answer_of packet g).now g.kept (answer_of packet g).state (answer_of packet g).reply x) a.put.exits

outcome-none : (rest : List ℕ) (g : Going) (t : Taken) (kept' : List ℕ) → t.found ≡ None → read_on g t kept' ≡ turn_by rest g t kept'
unfolding answer_found
outcome-none rest g t kept' none = rw none

outcome-one : (rest : List ℕ) (g : Going) (t : Taken) (kept' : List ℕ) (f : Found) → t.found ≡ Some f
    → answer_of (found f rest kept') (read_on g t kept') ≡ turn_by rest g t kept'
unfolding answer_found
outcome-one rest g t kept' f some = rw some

pub turned_none : {window kept kept' reply out : List ℕ} {p : Progress} {s : State} {t : Taken}
    → ReaderStep (drop p.at window) p.matched p.have kept t kept' → t.found ≡ None → p.at < length window → p.size + line_room ≤ length out
    → Turned window p kept s reply out (read_to p t) kept' s reply out
turned_none {window} {kept} {kept'} {reply} {out} {p} {s} {t} step none inside room =
    let g : Going = going p kept s reply out in
    record {
      outcome = outcome-none (drop p.at window) g t kept' none ∙ by-step window g t kept' step;
      replayed = turn-none window p kept s out t kept' step.follows none;
      some = omega (arith, step.within.some);
      inside = omega (arith, step.within.inside, length-drop p.at window);
      filled = omega arith;
      have-most = step.within.have-most;
    }

pub turned-one : {window kept kept' reply out : List ℕ} {p : Progress} {s : State} {t : Taken} (f : Found)
    → ReaderStep (drop p.at window) p.matched p.have kept t kept' → t.found ≡ Some f → p.at < length window → p.size + line_room ≤ length out
    → 512 ≤ length reply → {q : Progress} {s' : State} {reply' out' : List ℕ}
    → Answered (found f (drop p.at window) kept') (read_to p t) s reply out q s' reply' out' → Turned window p kept s reply out q kept' s' reply' out'
turned-one {window} {kept} {kept'} {reply} {out} {p} {s} {t} f step some inside room long {q} {s'} {reply'} {out'} a =
    let g : Going = going p kept s reply out in
    record {
      outcome =
          answer-is (found f (drop p.at window) kept') (read_on g t kept') q s' reply' out' a
          ∙ outcome-one (drop p.at window) g t kept' f some ∙ by-step window g t kept' step;
      replayed = turn_one window p kept s out t kept' step.follows reply long f some q s' reply' out' a;
      some = omega (arith, step.within.some, a.at);
      inside = omega (arith, step.within.inside, a.at, length-drop p.at window);
      filled = omega (arith, a.fits);
      have-most = omega (arith, step.within.have-most, a.have);
    }

-- What is left of a window.
pub rest-is : (window : List ℕ) (at : ℕ) → take (length window - at) (drop at window) ≡ drop at window
rest-is window at = take_all (length window - at) (drop at window) (omega (arith, length-drop at window))

-- ---- The loop over a window.

-- What it keeps: the turns so far, and places and lengths.
pub record Loop (window : List ℕ) (from : Progress) (kept : List ℕ) (s : State) (reply out : List ℕ)
    (p : Progress) (kept' : List ℕ) (s' : State) (reply' out' : List ℕ) : Type 0 where
  pub replayed : Replayed window from kept s out p kept' s' out'
  pub so_far : (h : Going) → WindowTurns window (going p kept' s' reply' out') h → WindowTurns window (going from kept s reply out) h
  pub forward : from.at ≤ p.at
  pub inside : p.at ≤ length window
  pub filled : p.size ≤ length out'
  pub have-most : p.have ≤ most_record
  pub kept-long : length kept' ≡ length kept
  pub reply-long : length reply' ≡ length reply
  pub out-long : length out' ≡ length out

pub roomy : (kept reply : List ℕ) (have : ℕ) → rooms_right kept reply have ≡ true → RoomsEnough kept reply have
roomy kept reply have e =
    record {
      for-record = leb-true 515 (length kept) (and_left (leb 515 (length kept)) (leb 512 (length reply)) (and_left _ (leb have 65537) e));
      for-reply = leb-true 512 (length reply) (and_right (leb 515 (length kept)) (leb 512 (length reply)) (and_left _ (leb have 65537) e));
      for-have = leb-true have 65537 (and_right (leb 515 (length kept) && leb 512 (length reply)) (leb have 65537) e);
    }

pub not-roomy : (kept reply : List ℕ) (have : ℕ) → rooms_right kept reply have ≡ false → RoomsEnough kept reply have → ⊥
not-roomy kept reply have e r =
    true≢false
    (sym (rw (le-leb 515 (length kept) r.for-record, le-leb 512 (length reply) r.for-reply, le-leb have 65537 r.for-have) refl) ∙ e)

-- Rooms that are too short: nothing is taken.
pub window-none : (window : List ℕ) (from : Progress) (kept : List ℕ) (s : State) (reply out : List ℕ) → rooms_right kept reply from.have ≡ false
    → WindowReplayed window from kept s reply out (begun from) kept s reply out
window-none window from kept s reply out wrong =
    record {
      replayed = replay-none window (begun from) kept s out;
      inside = omega arith;
      filled = omega arith;
      rest = λ r lt. absurd (not-roomy kept reply from.have wrong r);
      have-most = λ r. absurd (not-roomy kept reply from.have wrong r);
      turns = λ r. absurd (not-roomy kept reply from.have wrong r);
      refused = λ n. record { progress-same = refl; kept_same = refl; state-same = refl; reply-same = refl; out-same = refl };
    }

pub loop-start : (window : List ℕ) (p : Progress) (kept : List ℕ) (s : State) (reply out : List ℕ) → p.at ≡ 0 → p.size ≡ 0 → p.have ≤ most_record
    → Loop window p kept s reply out p kept s reply out
loop-start window p kept s reply out a z most =
    record {
      replayed = replay-none window p kept s out;
      so_far = λ h t. t;
      forward = omega arith;
      inside = omega arith;
      filled = omega arith;
      have-most = most;
      kept-long = refl;
      reply-long = refl;
      out-long = refl;
    }

pub loop-turn : {window : List ℕ} {from p q : Progress} {kept kept' kept'' : List ℕ} {s s' s'' : State} {reply reply' reply'' : List ℕ}
    {out out' out'' : List ℕ} → Loop window from kept s reply out p kept' s' reply' out' → p.at < length window
    → (p.size + line_room ≤ length out') × (p.number < most_records) → Turned window p kept' s' reply' out' q kept'' s'' reply'' out''
    → length kept'' ≡ length kept' → length reply'' ≡ length reply' → length out'' ≡ length out'
    → Loop window from kept s reply out q kept'' s'' reply'' out''
loop-turn {window} l left room t k r o =
    record {
      so_far = λ h u. l.so_far h (goes left room.0 room.1 (subst (λ (x : Going). WindowTurns window x h) t.outcome u));
      replayed = replay-on l.forward (omega (arith, t.some)) l.replayed t.replayed;
      forward = omega (arith, l.forward, t.some);
      inside = t.inside;
      filled = omega (arith, t.filled);
      have-most = t.have-most;
      kept-long = k ∙ l.kept-long;
      reply-long = r ∙ l.reply-long;
      out-long = o ∙ l.out-long;
    }

-- What a line more asks for.
pub room-true : (size number : ℕ) (out : List ℕ) → has_room size number out ≡ true → (size + line_room ≤ length out) × (number < most_records)
room-true size number out e =
    (leb-true (size + line_room) (length out) (and_left _ (ltb number most_records) e), ltb-true number most_records (and_right (leb (size + line_room) (length out)) _ e))

room-false : (p : Progress) (out : List ℕ) → has_room p.size p.number out ≡ false → Full p out
room-false p out e = go (leb (p.size + line_room) (length out)) refl e
  where
    go : (b : Bool) → leb (p.size + line_room) (length out) ≡ b → (b && ltb p.number most_records) ≡ false → Full p out
    go false f g = inl (leb-false (p.size + line_room) (length out) f)
    go true f g = inr (ltb-false p.number most_records g)

pub window-all : {window : List ℕ} {from : Progress} {kept : List ℕ} {s : State} {reply out : List ℕ} {p : Progress} {kept' : List ℕ} {s' : State}
    {reply' out' : List ℕ} → RoomsEnough kept reply from.have → Loop window (begun from) kept s reply out p kept' s' reply' out' → length window ≤ p.at
    → WindowReplayed window from kept s reply out p kept' s' reply' out'
window-all rooms l all =
    record {
      replayed = l.replayed;
      inside = l.inside;
      filled = l.filled;
      rest = λ r lt. absurd (omega arith);
      have-most = λ r. l.have-most;
      turns = λ r. l.so_far _ (stops (inl all));
      refused = λ n. absurd (n rooms);
    }

pub window-full : {window : List ℕ} {from : Progress} {kept : List ℕ} {s : State} {reply out : List ℕ} {p : Progress} {kept' : List ℕ} {s' : State}
    {reply' out' : List ℕ} → RoomsEnough kept reply from.have → Loop window (begun from) kept s reply out p kept' s' reply' out'
    → has_room p.size p.number out' ≡ false → WindowReplayed window from kept s reply out p kept' s' reply' out'
window-full {p = p} {out' = out'} rooms l full =
    record {
      replayed = l.replayed;
      inside = l.inside;
      filled = l.filled;
      rest = λ r lt. room-false p out' full;
      have-most = λ r. l.have-most;
      turns = λ r. l.so_far _ (stops (inr (room-false p out' full)));
      refused = λ n. absurd (n rooms);
    }

-- ---- What is carried from window to window.

pub carry-none : (p : Progress) (kept : List ℕ) (s : State) → Carries [] p kept s p kept s
unfolding taken
carry-none p kept s = record { stands = λ first r st. st }

pub carry-on : {a b : List ℕ} {from p q : Progress} {kept kept' kept'' : List ℕ} {s s' s'' : State} → Carries a from kept s p kept' s'
    → Carries b p kept' s' q kept'' s'' → Carries (a ++ b) from kept s q kept'' s''
carry-on {a} {b} {q = q} {kept'' = kept''} {s'' = s''} x y =
    record {
      stands =
          λ first r st.
          subst (λ (t : Run). ReplayStands first t q kept'' s'') (sym (taken-append r a b)) (y.stands first (taken r a) (x.stands first r st));
    }

-- Places in window and output are not carried.
pub carry-as : {bytes : List ℕ} {from p q : Progress} {kept kept' : List ℕ} {s s' : State} → q.matched ≡ p.matched → q.number ≡ p.number
    → q.have ≡ p.have → Carries bytes from kept s p kept' s' → Carries bytes from kept s q kept' s'
carry-as {bytes} {from} {p} {q} {kept} {kept'} {s} {s'} m n h x =
    record {
      stands =
          λ first r st.
          let y = x.stands first r st in
          record {
            reader =
                subst (λ (m : Preamble). ReaderStands (taken r bytes) m q.have kept') (sym m)
                (subst (λ (h : ℕ). ReaderStands (taken r bytes) p.matched h kept') (sym h) y.reader);
            number = n ∙ y.number;
            state = y.state;
          };
    }

pub carry-window : {window : List ℕ} {from : Progress} {kept : List ℕ} {s : State} {reply out : List ℕ} {p : Progress} {kept' : List ℕ} {s' : State}
    {reply' out' : List ℕ} → WindowReplayed window from kept s reply out p kept' s' reply' out' → Carries (take p.at window) from kept s p kept' s'
carry-window {window} {p = p} {kept' = kept'} {s' = s'} w =
    record {
      stands =
          λ first r st.
          let e : p.at - 0 ≡ p.at = omega arith in
          let f = w.replayed.follows first r (record { reader = st.reader; number = st.number; state = st.state }) in
          subst (λ (k : ℕ). ReplayStands first (taken r (take k window)) p kept' s') e f.stands;
    }
