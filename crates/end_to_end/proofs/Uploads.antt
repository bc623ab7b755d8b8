-- Planned uploads and compressed gains, sent to a front end that is lent as bytes: what they leave
-- on numbers, byte for byte.
use Prim.Native.Nat.{ℕ, zero, suc, ◌+◌, ◌*◌, ◌/◌, ◌%◌, ◌≤◌, ◌<◌}
use mathlib.Core.Path.{◌≡◌, refl, sym, ap, subst, ◌∙◌}
use mathlib.Core.List.{List, ◌∷◌, map}
use native.Mathlib.Omega.{arith}
use lib.ListN.{length, take, drop, get_or}
use lib.Dec.{lit<}
use Rattle.wire.specs.Tables.{words, bytes}
use Rattle.wire.specs.Plain.{Bytes}
use Rattle.wire.proofs.Tables.{pairs-take, halves-take, halves-drop, halves-paste, halves-below, length-halves}
use Rattle.tables.proofs.Bytes.{words-below, bytes-words, length-words, length-words-of}
use Rattle.gain_words.specs.Pairs.{expand, sum_runs}
use Rattle.gain_words.specs.Plain.{Pairs}
use Rattle.gain_words.proofs.Expand.{pairs-both, sum-append}
use Rattle.gain_words.proofs.Right.{pairs-even}
use Rattle.row_mark.specs.Bits.{bit_at}
use Rattle.front_end.specs.State.{State}
use Rattle.front_end.specs.Effects.{gains_with}
use Rattle.front_end.specs.Rows.{mark_of, RowRight, MarkRight}
use Rattle.front_end.specs.Plain.{staged_points}
use Rattle.front_end.specs.Calls.{calls_of}
use Rattle.front_end.proofs.Bounds.{counts}
use Rattle.front_end.proofs.Demands.{lent, runs, right-running}
use Rattle.front_end_bytes.specs.Bytes.{Lent, state_in, lent_of}
use Rattle.front_end_bytes.proofs.Promises.{wide-lent}
use Rattle.upload.specs.Plan.{Part, packet_for, packets_of}
use Rattle.upload.specs.Parts.{InOrder}
use Rattle.upload.specs.Judge.{MapOf}
use Rattle.upload.proofs.Lists.{plan-in-order}
use Rattle.upload.proofs.Bytes.{packet-bytes}
use Rattle.batch.specs.Pairs.{pairs_packet}
use Rattle.batch.proofs.Writing.{pairs-form}
use Rattle.splitter.specs.Plain.{CutUp, Splittable}
use Rattle.splitter.specs.Split.{split_packets}
use Rattle.splitter.proofs.Cutting.{cut_up}
use Rattle.compressor.specs.Compress.{compressed}
use Rattle.compressor.specs.Plain.{Compressible}
use Rattle.compressor.proofs.Fewest.{expand-compressed}
use Rattle.end_to_end.specs.Gains.{Blended}
use Rattle.end_to_end.specs.Chains.{lent_after_all, PacketBytes, LentRightBytes}
use Rattle.end_to_end.specs.OnBytes.{MapBytes, DeliveredBytes, gain_bytes_with, BlendedBytes, GainsDeliveredBytes}
use Rattle.end_to_end.proofs.Sent.{delivered}
use Rattle.end_to_end.proofs.Pairs.{gains-delivered, compressed-splittable}
use Rattle.end_to_end.proofs.Chains.{own-bytes, same-on-bytes, stored_bytes, numbers-right}

-- ---- A planned upload.

-- A map as bytes holds a map, and is its bytes.
map-held : {n : ℕ} {map : List ℕ} → MapBytes n map → MapOf n (words map)
map-held {n} {map} m = record { long = length-words-of map (2 * n) (m.long ∙ omega arith); words = words-below map m.bytes }

map-own : {n : ℕ} {map : List ℕ} → MapBytes n map → bytes (words map) ≡ map
map-own {n} {map} m = bytes-words map (omega (arith, m.long)) m.bytes

-- The plan's packets are bytes.
plan-packets : (n : ℕ) → n ≤ 65536 → (wanted reply : List ℕ) → MapOf n wanted → {i : ℕ} {ps : List Part} → InOrder n i ps
    → PacketBytes (calls_of reply (map (packet_for wanted) ps))
plan-packets n small wanted reply w InOrder.none = PacketBytes.none
plan-packets n small wanted reply w (InOrder.next {p = p} l f o) = PacketBytes.next (packet-bytes n small wanted w p f) (plan-packets n small wanted reply w o)

pub delivered-bytes : (n : ℕ) (held wanted : List ℕ) → MapBytes n held → MapBytes n wanted → (l : Lent) (reply : List ℕ) → LentRightBytes l reply
    → staged_points l.block ≡ n → take (4 * n) l.staged ≡ held → DeliveredBytes n held wanted l reply
unfolding packets_of
delivered-bytes n held wanted h w l reply r e t =
    let right = numbers-right r in
    let going = runs (state_in l) reply (right-running right) in
    let own = own-bytes l r.long r.bytes in
    let twice : 4 * n ≡ 2 * (2 * n) = omega arith in
    let few : n ≤ 65536 = omega (arith, (counts l.block (lent (state_in l) reply going).settings).points) in
    let packets = plan-packets n few (words wanted) reply (map-held w) (plan-in-order n (words held) (words wanted) (map-held h).long (map-held w).long) in
    let all = same-on-bytes (calls_of reply (packets_of (words held) (words wanted))) packets l r.long own in
    let left = all.bytes_left in
    let front : take (2 * n) (words l.staged) ≡ words held = sym (pairs-take 256 (2 * n) l.staged) ∙ ap words (ap (λ (k : ℕ). take k l.staged) (sym twice) ∙ t) in
    let d = delivered n (words held) (words wanted) (map-held h) (map-held w) (state_in l) reply going e front in
    record {
      turned =
          ap (λ (k : Lent). take (4 * n) k.staged) left
          ∙ rw (twice, ← halves-take, d.turned) (map-own w);
      behind =
          ap (λ (k : Lent). drop (4 * n) k.staged) left
          ∙ rw (twice, ← halves-drop, d.behind, halves-drop) (ap (λ (k : Lent). drop (2 * (2 * n)) k.staged) (sym own));
      settings-kept = ap (λ (k : Lent). take 865 k.block) left ∙ d.settings-kept;
      tail-kept = ap (λ (k : Lent). drop 869 k.block) left ∙ d.tail-kept;
      live-kept = ap (λ (k : Lent). k.live) left ∙ ap bytes d.live-kept ∙ ap (λ (k : Lent). k.live) (sym own);
      gains-kept = ap (λ (k : Lent). k.gains) left ∙ ap bytes d.gains-kept ∙ ap (λ (k : Lent). k.gains) (sym own);
      rows_right = λ k touch. subst (λ (s : State). RowRight s k) (sym all.numbers) (d.rows_right k touch);
      rows-kept = λ k small off. ap (λ (m : Lent). bit_at (mark_of m.block) k) left ∙ d.rows-kept k small off;
      mark-right = λ m. subst MarkRight (sym all.numbers) (d.mark-right m);
      taken = stored_bytes d.taken packets l (wide-lent l r.long) own;
    }

-- ---- Compressed gains.

-- Words of pairs are numbers of two bytes.
pair-words : {ws : List ℕ} → Pairs ws → (k : ℕ) → get_or ws k 0 < 65536
pair-words Pairs.none k = lit< tt
pair-words (Pairs.pair a b c r) zero = omega arith
pair-words (Pairs.pair a b c r) (suc zero) = omega arith
pair-words (Pairs.pair a b c r) (suc (suc k)) = pair-words r k

form-bytes : (colour start n : ℕ) (l : List ℕ) → colour ≤ 3 → start ≤ 2016 → n ≤ 250 → Bytes l
    → Bytes (0x14 ∷ 0x2B ∷ (6 + 2 * n) % 256 ∷ (6 + 2 * n) / 256 ∷ 1 ∷ colour ∷ n % 256 ∷ n / 256 ∷ start % 256 ∷ start / 256 ∷ l)
form-bytes colour start n l c s m b zero = lit< tt
form-bytes colour start n l c s m b (suc zero) = lit< tt
form-bytes colour start n l c s m b (suc (suc zero)) = omega arith
form-bytes colour start n l c s m b (suc (suc (suc zero))) = omega arith
form-bytes colour start n l c s m b (suc (suc (suc (suc zero)))) = lit< tt
form-bytes colour start n l c s m b (suc (suc (suc (suc (suc zero))))) = omega arith
form-bytes colour start n l c s m b (suc (suc (suc (suc (suc (suc zero)))))) = omega arith
form-bytes colour start n l c s m b (suc (suc (suc (suc (suc (suc (suc zero))))))) = omega arith
form-bytes colour start n l c s m b (suc (suc (suc (suc (suc (suc (suc (suc zero)))))))) = omega arith
form-bytes colour start n l c s m b (suc (suc (suc (suc (suc (suc (suc (suc (suc zero))))))))) = omega arith
form-bytes colour start n l c s m b (suc (suc (suc (suc (suc (suc (suc (suc (suc (suc k)))))))))) = b k

pairs-packet-bytes : (colour start : ℕ) (ws : List ℕ) → colour ≤ 3 → start ≤ 2016 → length ws ≤ 250 → Pairs ws → Bytes (pairs_packet colour start ws)
pairs-packet-bytes colour start ws c s few right =
    rw (pairs-form colour start ws) (form-bytes colour start (length ws) (bytes ws) c s few (halves-below 256 ws (pair-words right)))

-- The splitter's packets are bytes.
cut-packets : {colour start : ℕ} {ws : List ℕ} {ps : List (List ℕ)} → CutUp colour start ws ps → (reply : List ℕ) → Pairs ws → colour ≤ 3 → start + sum_runs ws ≤ 2016
    → PacketBytes (calls_of reply ps)
cut-packets {colour} (CutUp.last {start} {ws} some few) reply right c within =
    PacketBytes.next (pairs-packet-bytes colour start ws c (omega arith) few right) PacketBytes.none
cut-packets {colour} (CutUp.more {start} ws rest {ps} full some cut) reply right c within =
    let even : length ws % 2 ≡ 0 = omega arith in
    let both = pairs-both ws rest even right in
    let sum = sum-append ws rest even in
    PacketBytes.next (pairs-packet-bytes colour start ws c (omega arith) (omega arith) both.0) (cut-packets cut reply both.1 c (omega arith))

-- Numbers over a place of the gains are bytes over twice that place.
with-bytes : (s : State) (at at₂ : ℕ) (new : List ℕ) → at₂ ≡ 2 * at → gain_bytes_with (lent_of s) at₂ (bytes new) ≡ lent_of (gains_with s at new)
with-bytes s at at₂ new e = rw (e, length-halves 256 new, halves-paste)

blended-bytes : {s : State} {start : ℕ} {new : List ℕ} {colour : ℕ} {t : State} → Blended s start new colour t → BlendedBytes (lent_of s) start (bytes new) colour (lent_of t)
blended-bytes {s} {start = start} {new = new} Blended.red =
    subst (BlendedBytes (lent_of s) start (bytes new) 1) (with-bytes s start (2 * start) new refl) BlendedBytes.red
blended-bytes {s} {start = start} {new = new} Blended.green =
    subst (BlendedBytes (lent_of s) start (bytes new) 2) (with-bytes s (2016 + start) _ new (omega arith)) BlendedBytes.green
blended-bytes {s} {start = start} {new = new} Blended.blue =
    subst (BlendedBytes (lent_of s) start (bytes new) 3) (with-bytes s (4032 + start) (8064 + 2 * start) new (omega arith)) BlendedBytes.blue
blended-bytes {s} {start = start} {new = new} Blended.all =
    let one : State = gains_with s start new in
    let two : State = gains_with one (2016 + start) new in
    subst (BlendedBytes (lent_of s) start (bytes new) 0)
    (ap (λ (l : Lent). gain_bytes_with (gain_bytes_with l (4032 + 2 * start) (bytes new)) (8064 + 2 * start) (bytes new)) (with-bytes s start (2 * start) new refl)
    ∙ ap (λ (l : Lent). gain_bytes_with l (8064 + 2 * start) (bytes new)) (with-bytes one (2016 + start) (4032 + 2 * start) new (omega arith))
    ∙ with-bytes two (4032 + start) (8064 + 2 * start) new (omega arith))
    BlendedBytes.all

pub gains-bytes : (colour start : ℕ) (ws : List ℕ) → Splittable colour start ws → (l : Lent) (reply : List ℕ) → LentRightBytes l reply
    → GainsDeliveredBytes colour start ws (bytes (expand ws)) l reply
gains-bytes colour start ws f l reply r =
    let right = numbers-right r in
    let own = own-bytes l r.long r.bytes in
    let pairs = f.right.pairs in
    let packets = cut-packets (cut_up colour start ws (pairs-even pairs) f.right.some) reply pairs f.right.colour-right f.within in
    let all = same-on-bytes (calls_of reply (split_packets colour start ws)) packets l r.long own in
    let d = gains-delivered colour start ws f (state_in l) reply (runs (state_in l) reply (right-running right)) in
    record {
      set =
          subst (λ (k : Lent). BlendedBytes k start (bytes (expand ws)) colour (lent_after_all (calls_of reply (split_packets colour start ws)) l)) (sym own)
          (subst (BlendedBytes (lent_of (state_in l)) start (bytes (expand ws)) colour) (sym all.bytes_left) (blended-bytes d.set));
      taken = stored_bytes d.taken packets l (wide-lent l r.long) own;
    }

pub compressed-bytes : (colour start : ℕ) (gains : List ℕ) → Bytes gains → length gains % 2 ≡ 0 → Compressible (words gains) → colour ≤ 3
    → 2 * start + length gains ≤ 4032 → (l : Lent) (reply : List ℕ) → LentRightBytes l reply
    → Splittable colour start (compressed (words gains)) × GainsDeliveredBytes colour start (compressed (words gains)) gains l reply
compressed-bytes colour start gains b even g c h l reply r =
    let f = compressed-splittable colour start (words gains) g c (omega (arith, length-words gains)) in
    let same : bytes (expand (compressed (words gains))) ≡ gains = ap bytes (expand-compressed (words gains)) ∙ bytes-words gains even b in
    (f, subst (λ (new : List ℕ). GainsDeliveredBytes colour start (compressed (words gains)) new l reply) same (gains-bytes colour start (compressed (words gains)) f l reply r))
