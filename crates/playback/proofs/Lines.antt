-- Lines: one record more; any reply buffer gives them; and so does the front of an over-long record.
use Prim.Native.Nat.{ℕ, ◌+◌, ◌≤◌, ◌<◌}
use mathlib.Core.Path.{◌≡◌, refl, sym, ap, ◌∙◌}
use mathlib.Core.Bool.{Bool, true, false, cond}
use mathlib.Core.List.{List, [], ◌∷◌, ◌++◌, append_assoc, append-nil}
use native.Mathlib.Decide.{dec_lt}
use native.Mathlib.Nat.{add-zero}
use native.Mathlib.Omega.{arith}
use borrow.Author.Tests.{lt-ltb, le-ltb, le-leb}
use lib.ListN.{length, take, length-append, length-replicate}
use lib.Seq.{take_all, length-take-le, get_or-take}
use Rattle.wire.proofs.Laws.{take-over, sets-append}
use Rattle.opcode.specs.Judgement.{judgement}
use Rattle.packet.specs.Frame.{header_of}
use Rattle.packet.specs.Reading.{too_short}
use Rattle.text.specs.declared.Page.{Page}
use Rattle.text.specs.Page.{PutOn}
use Rattle.text.specs.Text.{decimal, hex, Puts}
use Rattle.text.specs.Plain.{Decimal, Hex}
use Rattle.front_end.specs.State.{State, stopped}
use Rattle.front_end.specs.Step.{number_of, reply_to, state_after, step}
use Rattle.front_end.specs.Calls.{state_after_all}
use Rattle.playback.specs.Replay.{reply_buffer, line, line_of, lines, state_after_records, Formed}

-- ---- One record more.

pub state-snoc : (ps : List (List ℕ)) (p : List ℕ) (s : State)
    → state_after_records (ps ++ (p ∷ [])) s ≡ (step p (state_after_records ps s) reply_buffer).state
unfolding state_after_all
state-snoc [] p s = refl
state-snoc (q ∷ ps) p s = state-snoc ps p (step q s reply_buffer).state

pub lines_snoc : (before : ℕ) (ps : List (List ℕ)) (p : List ℕ) (s : State)
    → lines before (ps ++ (p ∷ [])) s
    ≡ lines before ps s ++ line_of (before + length ps + 1) (step p (state_after_records ps s) reply_buffer)
unfolding lines state_after_all
lines_snoc before [] p s = rw (add-zero before) (append-nil _)
lines_snoc before (q ∷ ps) p s =
    let rest = lines_snoc (before + 1) ps p (step q s reply_buffer).state in
    let e : before + 1 + length ps + 1 ≡ before + length (q ∷ ps) + 1 = omega arith in
    ap (λ (l : List ℕ). line_of (before + 1) (step q s reply_buffer) ++ l) (rw e at rest)
    ∙ sym (append_assoc (line_of (before + 1) (step q s reply_buffer)) (lines (before + 1) ps (step q s reply_buffer).state) (line_of (before + length (q ∷ ps) + 1) (step p (state_after_records ps (step q s reply_buffer).state) reply_buffer)))

-- ---- What a record's line and state depend on.

-- Rule 9.2: the bytes of the reply, whatever the buffer held.
line-is : (n : ℕ) (p : List ℕ) (s : State) (reply : List ℕ)
    → line_of n (step p s reply) ≡ line n (number_of p s reply) (reply_to (number_of p s reply) p s)
unfolding step
line-is n p s reply = ap (line n (number_of p s reply)) (take-over (reply_to (number_of p s reply) p s) reply)

state-is : (p : List ℕ) (s : State) (reply : List ℕ) → (step p s reply).state ≡ state_after (number_of p s reply) p s
unfolding step
state-is p s reply = refl

pub length-buffer : length reply_buffer ≡ 512
unfolding reply_buffer
length-buffer = length-replicate {A = ℕ} 512 0

same-stopped : (s : State) (reply : List ℕ) → 512 ≤ length reply → stopped s reply ≡ stopped s reply_buffer
unfolding stopped
same-stopped s reply h = rw (le-leb 512 (length reply) h, le-leb 512 (length reply_buffer) (omega (arith, length-buffer))) refl

same_number : (p : List ℕ) (s : State) (reply : List ℕ) → 512 ≤ length reply → number_of p s reply ≡ number_of p s reply_buffer
unfolding number_of
same_number p s reply h = rw (same-stopped s reply h)

-- Rule 9.5: an over-long packet is refused by 1 or 3, and of its bytes only the first counts.
module _ (p q : List ℕ) (s : State) (reply : List ℕ) (long : 512 < length p) (long' : 512 < length q) (same : header_of p ≡ header_of q) where
  pub number-long : (x : List ℕ) → 512 < length x → number_of x s reply ≡ cond (stopped s reply) 1 3
  unfolding number_of judgement
  number-long x l =
      let short : too_short x ≡ false = le-ltb (length x) _ (omega arith) in
      rw (short, lt-ltb 512 (length x) l) refl

  number_same : number_of p s reply ≡ number_of q s reply
  number_same = number-long p long ∙ sym (number-long q long')

  reply-same : reply_to (number_of p s reply) p s ≡ reply_to (number_of q s reply) q s
  unfolding reply_to
  reply-same = rw (number-long p long, number-long q long') (go (stopped s reply))
    where
      go : (b : Bool) → reply_to (cond b 1 3) p s ≡ reply_to (cond b 1 3) q s
      go true = rw (lt-ltb 0 (length p) (omega arith), lt-ltb 0 (length q) (omega arith), same)
      go false = rw (lt-ltb 0 (length p) (omega arith), lt-ltb 0 (length q) (omega arith), same)

  state-same : state_after (number_of p s reply) p s ≡ state_after (number_of q s reply) q s
  state-same = rw (number-long p long, number-long q long') (go (stopped s reply))
    where
      go : (b : Bool) → state_after (cond b 1 3) p s ≡ state_after (cond b 1 3) q s
      go true = refl
      go false = refl

-- The front of a packet stands for it.
pub front-line : (n : ℕ) (p : List ℕ) (s : State) (reply : List ℕ) → 512 ≤ length reply
    → line_of n (step (take 513 p) s reply) ≡ line_of n (step p s reply_buffer)
front-line n p s reply room =
    elim (dec_lt 512 (length p)) [
      | yes lt ↦
          let size : length (take 513 p) ≡ 513 = length-take-le 513 p (omega arith) in
          let head = get_or-take 513 p 0 0 (omega arith) in
          let e = number_same (take 513 p) p s reply_buffer (omega arith) lt head in
          line-is n (take 513 p) s reply ∙ rw (same_number (take 513 p) s reply room)
          (rw e (ap (line n (number_of p s reply_buffer)) (rw e at (reply-same (take 513 p) p s reply_buffer (omega arith) lt head))))
          ∙ sym (line-is n p s reply_buffer)
      | no ge ↦
          rw (take_all 513 p (omega arith))
          (line-is n p s reply ∙ rw (same_number p s reply room) (sym (line-is n p s reply_buffer)))
    ]

pub front-state : (p : List ℕ) (s : State) (reply : List ℕ) → 512 ≤ length reply
    → (step (take 513 p) s reply).state ≡ (step p s reply_buffer).state
front-state p s reply room =
    elim (dec_lt 512 (length p)) [
      | yes lt ↦
          let size : length (take 513 p) ≡ 513 = length-take-le 513 p (omega arith) in
          let head = get_or-take 513 p 0 0 (omega arith) in
          state-is (take 513 p) s reply ∙ rw (same_number (take 513 p) s reply room)
          (state-same (take 513 p) p s reply_buffer (omega arith) lt head)
          ∙ sym (state-is p s reply_buffer)
      | no ge ↦
          rw (take_all 513 p (omega arith))
          (state-is p s reply ∙ rw (same_number p s reply room) (sym (state-is p s reply_buffer)))
    ]

-- ---- The form of lines.

pub line-formed : (n status : ℕ) (reply : List ℕ) → Decimal (n + 1) (decimal (n + 1)) → Decimal status (decimal status) → status ≤ 12
    → Hex reply (hex reply) → Formed n (line (n + 1) status reply) (n + 1)
unfolding line
line-formed n status reply a b small c = rw (← append-nil (decimal (n + 1) ++ (32 ∷ []) ++ decimal status ++ hex reply ++ (10 ∷ []))) (Formed.next a b small c Formed.none)

pub formed-append : {n m k : ℕ} {a b : List ℕ} → Formed n a m → Formed m b k → Formed n (a ++ b) k
formed-append Formed.none g = g
formed-append {b = t} (Formed.next {a = a} {b = b} {c = c} {rest = rest} x y small z f) g =
    rw (append_assoc (a ++ (32 ∷ []) ++ b ++ c ++ (10 ∷ [])) rest t) (Formed.next x y small z (formed-append f g))

-- ---- Text behind text.

pub puts-behind : {at mid end : ℕ} {a b out between out' : List ℕ} → Puts at a out between mid → Puts mid b between out' end
    → Puts at (a ++ b) out out' end
puts-behind {at} {mid} {end} {a} {b} {out} x y =
    record {
      ends = omega (arith, x.ends, y.ends, length-append a b);
      exits = y.exits ∙ rw (x.exits, x.ends) (sets-append out at a b);
    }

-- The same on a page.
pub put-behind : {p q r : Page} {a b : List ℕ} → PutOn a p q → PutOn b q r → PutOn (a ++ b) p r
put-behind x y = record { puts = puts-behind x.puts y.puts; same = y.same ∙ x.same; long = y.long ∙ x.long }
