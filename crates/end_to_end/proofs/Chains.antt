-- Calls on lent bytes, one after another: they do what they do on the numbers that the bytes hold.
use Prim.Native.Nat.{ℕ}
use mathlib.Core.Path.{◌≡◌, refl, sym, ap, subst, ◌∙◌}
use mathlib.Core.Bool.{Bool, true, false}
use mathlib.Core.List.{List, [], ◌∷◌}
use lib.ListN.{take, drop}
use Rattle.wire.specs.Tables.{bytes}
use Rattle.wire.specs.Plain.{Bytes}
use Rattle.tables.proofs.Bytes.{words-bytes}
use Rattle.front_end.specs.State.{State, reset_state}
use Rattle.front_end.specs.Step.{out, step}
use Rattle.front_end.specs.Writes.{Applies}
use Rattle.front_end.specs.Rows.{MarkRight}
use Rattle.front_end.specs.Plain.{StateLent, LentRight}
use Rattle.front_end.specs.Calls.{Call, state_after_all, NoneApplies}
use Rattle.front_end.proofs.Plain.{lengths-kept}
use Rattle.front_end.proofs.Live.{«live-kept» as numbers-kept}
use Rattle.front_end.proofs.Marking.{always-right}
use Rattle.front_end.proofs.Demands.{mark-reset}
use Rattle.front_end_bytes.specs.Bytes.{Lent, state_in, lent_of, byte_lengths_right, LentOut, lent_out, out_bytes, numbers_out, step_bytes, reset_bytes}
use Rattle.front_end_bytes.specs.Plain.{BytesLent, AllBytes}
use Rattle.front_end_bytes.proofs.Ways.{sized, right-sized, unchanged}
use Rattle.front_end_bytes.proofs.Promises.{step-bytes, lent-bytes, wide-lent, wrong, resets-bytes}
use Rattle.end_to_end.specs.Delivery.{AllStored}
use Rattle.end_to_end.specs.Chains.{lent_after_all, PacketBytes, SameAnswers, SameOnBytes, LentRightBytes, AllStoredBytes, NoneAppliesBytes, LiveBytesKept}

-- ---- A state as its bytes.

again : (s : State) → state_in (lent_of s) ≡ s
again s = rw (words-bytes s.staged, words-bytes s.live, words-bytes s.gains)

-- Lent bytes are those of the numbers in them.
pub own-bytes : (l : Lent) → BytesLent l → AllBytes l → l ≡ lent_of (state_in l)
own-bytes l z b = unchanged l (right-sized l z) (record { staged = b.staged; live = b.live; gains = b.gains })

-- One call on the bytes of a state, and the same read as numbers.
one-call : (x : Call) (s : State) → StateLent s
    → numbers_out (step_bytes x.packet (lent_of s) x.reply) ≡ step x.packet s x.reply
one-call x s z =
    ap numbers_out (step-bytes x.packet s x.reply z)
    ∙ ap (λ (t : State). out (step x.packet s x.reply).status (step x.packet s x.reply).fault-place (step x.packet s x.reply).size t (step x.packet s x.reply).reply) (again (step x.packet s x.reply).state)

one_left : (x : Call) (s : State) → StateLent s
    → (step_bytes x.packet (lent_of s) x.reply).lent ≡ lent_of (step x.packet s x.reply).state
one_left x s z = ap (λ (o : LentOut). o.lent) (step-bytes x.packet s x.reply z)

-- ---- Several calls.

packet-first : {x : Call} {xs : List Call} → PacketBytes (x ∷ xs) → Bytes x.packet × PacketBytes xs
packet-first (PacketBytes.next b rest) = (b, rest)

record Chained (xs : List Call) (s : State) : Type 0 where
  long : StateLent (state_after_all xs s)
  left : lent_after_all xs (lent_of s) ≡ lent_of (state_after_all xs s)
  answers : SameAnswers xs (lent_of s) s

chained : {xs : List Call} → PacketBytes xs → (s : State) → StateLent s → Chained xs s
unfolding lent_after_all state_after_all
chained PacketBytes.none s z = record { long = z; left = refl; answers = SameAnswers.none }
chained (PacketBytes.next {x} {xs} b rest) s z =
    let t : State = (step x.packet s x.reply).state in
    let behind = chained rest t (lengths-kept x.packet b s x.reply z) in
    let here = one_left x s z in
    record {
      long = behind.long;
      left = ap (lent_after_all xs) here ∙ behind.left;
      answers = SameAnswers.next (one-call x s z) (subst (λ (l : Lent). SameAnswers xs l t) (sym here) behind.answers);
    }

-- The same of any bytes that are those of their numbers.
pub same-on-bytes : (xs : List Call) → PacketBytes xs → (l : Lent) → BytesLent l → l ≡ lent_of (state_in l) → SameOnBytes xs l
same-on-bytes xs b l z own =
    let all = chained b (state_in l) (wide-lent l z) in
    let left = ap (lent_after_all xs) own ∙ all.left in
    record {
      long = subst BytesLent (sym left) (lent-bytes (state_after_all xs (state_in l)) all.long);
      answers = subst (λ (k : Lent). SameAnswers xs k (state_in l)) (sym own) all.answers;
      numbers = ap state_in left ∙ again (state_after_all xs (state_in l));
      bytes_left = left;
    }

pub same : (xs : List Call) → PacketBytes xs → (l : Lent) → BytesLent l → AllBytes l → SameOnBytes xs l
same xs b l z small = same-on-bytes xs b l z (own-bytes l z small)

-- A wrong length: every call is refused, and no byte changes.
one-refused : (x : Call) (l : Lent) → (BytesLent l → ⊥) → (step_bytes x.packet l x.reply).lent ≡ l
unfolding step_bytes
one-refused x l none = go (byte_lengths_right l) refl
  where
    go : (b : Bool) → byte_lengths_right l ≡ b → (step_bytes x.packet l x.reply).lent ≡ l
    go true e = absurd (none (sized l e))
    go false e = rw e

pub wrong-length : (xs : List Call) (l : Lent) → (BytesLent l → ⊥) → lent_after_all xs l ≡ l
unfolding lent_after_all
wrong-length [] l none = refl
wrong-length (x ∷ xs) l none = ap (lent_after_all xs) (one-refused x l none) ∙ wrong-length xs l none

lengths-or : (l : Lent) {P : Type 0} → (BytesLent l → P) → ((BytesLent l → ⊥) → P) → P
lengths-or l {P} right not_right = go (byte_lengths_right l) refl
  where
    go : (b : Bool) → byte_lengths_right l ≡ b → P
    go true e = right (sized l e)
    go false e = not_right (wrong l e)

-- ---- From reset on.

reset-left : (l : Lent) → BytesLent l → (reset_bytes l).lent ≡ lent_of reset_state
unfolding reset_bytes
reset-left l z = rw (right-sized l z)

pub from-reset : (xs : List Call) → PacketBytes xs → (l : Lent) → BytesLent l
    → (state_in (reset_bytes l).lent ≡ reset_state) × SameOnBytes xs (reset_bytes l).lent
from-reset xs b l z =
    let e = reset-left l z in
    let held = ap state_in e ∙ again reset_state in
    (held, same-on-bytes xs b (reset_bytes l).lent ((resets-bytes l refl).plain.long z) (e ∙ ap lent_of (sym held)))

-- ---- The live side.

none-applies : {xs : List Call} {l : Lent} → NoneAppliesBytes xs l → PacketBytes xs → (s : State) → StateLent s → l ≡ lent_of s → NoneApplies xs s
none-applies NoneAppliesBytes.none b s z e = NoneApplies.none
none-applies (NoneAppliesBytes.next {x} {xs} {l} other rest) b s z e =
    let split = packet-first b in
    let here : numbers_out (step_bytes x.packet l x.reply) ≡ step x.packet s x.reply =
    ap (λ (k : Lent). numbers_out (step_bytes x.packet k x.reply)) e ∙ one-call x s z in
    NoneApplies.next (λ a. other (subst (Applies x.packet) (sym here) a))
    (none-applies rest split.1 (step x.packet s x.reply).state (lengths-kept x.packet split.0 s x.reply z)
    (ap (λ (k : Lent). (step_bytes x.packet k x.reply).lent) e ∙ one_left x s z))

pub live-kept : (xs : List Call) → PacketBytes xs → (l : Lent) → AllBytes l → NoneAppliesBytes xs l → LiveBytesKept l (lent_after_all xs l)
live-kept xs b l small other =
    lengths-or l
    (λ z.
    let own = own-bytes l z small in
    let all = same-on-bytes xs b l z own in
    let kept = numbers-kept xs (state_in l) (none-applies other b (state_in l) (wide-lent l z) own) in
    record {
      points_kept = ap (λ (k : Lent). k.live) all.bytes_left ∙ ap bytes (sym kept.points_kept) ∙ ap (λ (k : Lent). k.live) (sym own);
      settings-kept = ap (λ (k : Lent). take 193 (drop 202 k.block)) all.bytes_left ∙ sym kept.settings-kept;
    })
    (λ no.
    let e = wrong-length xs l no in
    record { points_kept = ap (λ (k : Lent). k.live) e; settings-kept = ap (λ (k : Lent). take 193 (drop 202 k.block)) e })

-- ---- The row mark.

pub mark-stays : (xs : List Call) → PacketBytes xs → (l : Lent) → AllBytes l → MarkRight (state_in l) → MarkRight (state_in (lent_after_all xs l))
mark-stays xs b l small right =
    lengths-or l
    (λ z. subst MarkRight (sym (same xs b l z small).numbers) (always-right xs (state_in l) right))
    (λ no. subst (λ (k : Lent). MarkRight (state_in k)) (sym (wrong-length xs l no)) right)

pub mark-from-reset : (xs : List Call) → PacketBytes xs → (l : Lent) → BytesLent l → MarkRight (state_in (lent_after_all xs (reset_bytes l).lent))
mark-from-reset xs b l z =
    let all = from-reset xs b l z in
    subst MarkRight (sym (all.1.numbers ∙ ap (state_after_all xs) all.0)) (always-right xs reset_state mark-reset)

-- ---- Calls that are accepted without a reply.

pub stored_bytes : {xs : List Call} {s : State} → AllStored xs s → PacketBytes xs → (l : Lent) → StateLent s → l ≡ lent_of s → AllStoredBytes xs l
stored_bytes AllStored.none b l z e = AllStoredBytes.none
stored_bytes (AllStored.next {x} {xs} {s} one rest) b l z e =
    let split = packet-first b in
    let t : State = (step x.packet s x.reply).state in
    let here : step_bytes x.packet l x.reply ≡ lent_out 0 0 0 (lent_of t) x.reply =
    ap (λ (k : Lent). step_bytes x.packet k x.reply) e ∙ step-bytes x.packet s x.reply z ∙ ap out_bytes one in
    let left : (step_bytes x.packet l x.reply).lent ≡ lent_of t = ap (λ (o : LentOut). o.lent) here in
    AllStoredBytes.next (here ∙ ap (λ (k : Lent). lent_out 0 0 0 k x.reply) (sym left))
    (stored_bytes rest split.1 (step_bytes x.packet l x.reply).lent (lengths-kept x.packet split.0 s x.reply z) left)

-- What refusal 1 asks for, of the numbers.
pub numbers-right : {l : Lent} {reply : List ℕ} → LentRightBytes l reply → LentRight (state_in l) reply
numbers-right {l} r = record { tables = wide-lent l r.long; room = r.room; settings = r.settings }
