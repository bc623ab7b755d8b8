-- The plan's packets sent to the front end: each is accepted and writes its points, so the staged map goes the way of the judge's map, and
-- what stands behind it stays.
use Prim.Native.Nat.{ℕ, ◌*◌, ◌≤◌, ◌<◌}
use mathlib.Core.Path.{◌≡◌, refl, sym, ap, subst, ◌∙◌}
use mathlib.Core.Bool.{Bool, true, false, and-false}
use mathlib.Core.List.{List, [], ◌∷◌, ◌++◌, map}
use native.Mathlib.Omega.{arith}
use lib.ListN.{length, take, drop, get_or, take-append-drop}
use lib.Seq.{length-paste, take_at, drop_at}
use Rattle.wire.specs.Numbers.{word_bytes}
use Rattle.wire.specs.Buffers.{over}
use Rattle.wire.specs.Tables.{bytes}
use Rattle.wire.proofs.Copies.{paste-front}
use Rattle.packet.specs.Frame.{header_of, data_of}
use Rattle.packet.specs.Points.{start_of, points_of, accepted_at, map_after}
use Rattle.packet.proofs.MadeReads.{made_reads}
use Rattle.front_end.specs.State.{State, state, stopped}
use Rattle.front_end.specs.Commands.{points}
use Rattle.row_mark.specs.Bits.{bit_at}
use Rattle.front_end.specs.Mark.{marked}
use Rattle.front_end.specs.Step.{Out, out, status_reply, step}
use Rattle.front_end.specs.Writes.{Writes}
use Rattle.front_end.specs.Rows.{mark_of, columns_of, RowRight, TouchedBy, RowsMarked}
use Rattle.front_end.specs.Plain.{LentRight}
use Rattle.front_end.proofs.Bounds.{counts}
use Rattle.front_end.proofs.Demands.{lent, running-right, right-running, «runs» as stopped-not}
use Rattle.front_end.proofs.Marks.{AllButMark, mark-alone, front-byte, front-part}
use Rattle.front_end.proofs.Moves.{touched-few}
use Rattle.front_end.proofs.Marking.{rows-marked}
use Rattle.front_end.proofs.InRange.{stays_lent}
use Rattle.upload.specs.Plan.{Part, packet_for, packets_of}
use Rattle.upload.specs.Judge.{maps_after, AllAccepted, MapOf}
use Rattle.upload.proofs.Reading.{sound}
use Rattle.upload.specs.Parts.{InOrder}
use Rattle.upload.proofs.Lists.{demand3, plan-in-order}
use Rattle.upload.proofs.Bytes.{packet-bytes}
use Rattle.front_end.specs.Calls.{Call, calls_of, state_after_all}
use Rattle.end_to_end.specs.Delivery.{AllStored, TouchedByOne, Delivered}
use Rattle.front_end.proofs.Same.{accepted-step, same_write}

-- ---- A map of n points with more behind it.

module _ (n : ℕ) (p : List ℕ) where
  long_after : (m : List ℕ) → 2 * n ≤ length m → length (map_after n p m) ≡ length m
  unfolding map_after
  long_after m h = go (accepted_at n p) refl
    where
      go : (b : Bool) → accepted_at n p ≡ b → length (map_after n p m) ≡ length m
      go false e = rw e
      go true e =
          let f = sound n p e in
          let pts : List ℕ = points_of (data_of p) in
          rw e (length-paste m (2 * start_of (data_of p)) pts (length pts) (omega (arith, f.long, f.within)) (omega arith))

  front-after : (a b : List ℕ) → length a ≡ 2 * n → map_after n p (a ++ b) ≡ map_after n p a ++ b
  unfolding map_after
  front-after a b l = go (accepted_at n p) refl
    where
      go : (c : Bool) → accepted_at n p ≡ c → map_after n p (a ++ b) ≡ map_after n p a ++ b
      go false e = rw e
      go true e =
          let f = sound n p e in
          let pts : List ℕ = points_of (data_of p) in
          rw e (paste-front a b (2 * start_of (data_of p)) pts (length pts) (omega (arith, f.long, f.within)))

front-all : (n : ℕ) (ps : List (List ℕ)) (a b : List ℕ) → length a ≡ 2 * n → maps_after n ps (a ++ b) ≡ maps_after n ps a ++ b
unfolding maps_after
front-all n [] a b l = refl
front-all n (p ∷ ps) a b l =
    rw (front-after n p a b l) (front-all n ps (map_after n p a) b (long_after n p a (omega arith) ∙ l))

-- ---- Packets that the judge accepts, with the header 14h of a plan, which asks for no reply.

data Quiet (n : ℕ) : List (List ℕ) → Type 0 where
  none : Quiet n []
  next : {p : List ℕ} {ps : List (List ℕ)} → accepted_at n p ≡ true → header_of p ≡ 0x14 → ((k : ℕ) → get_or p k 0 < 256) → Quiet n ps → Quiet n (p ∷ ps)

quiet-parts : (n : ℕ) → n ≤ 65536 → (w : List ℕ) → MapOf n w → {i : ℕ} {ps : List Part} → InOrder n i ps → AllAccepted n (map (packet_for w) ps) → Quiet n (map (packet_for w) ps)
unfolding packet_for
quiet-parts n small w m InOrder.none AllAccepted.none = Quiet.none
quiet-parts n small w m (InOrder.next {p = p} l f o) (AllAccepted.next a r) =
    let d : List ℕ = word_bytes p.start ++ bytes (take (2 * p.count) (drop (2 * p.start) w)) in
    Quiet.next a (made_reads 0x34 0x10 d refl).header (packet-bytes n small w m p f) (quiet-parts n small w m o r)

pub no-reply : (p : List ℕ) → header_of p ≡ 0x14 → status_reply 0 0 p ≡ []
unfolding status_reply
no-reply p h = rw (h, and-false)

-- ---- One packet.

chain : {a b c : List ℕ} → AllButMark a b → AllButMark b c → AllButMark a c
chain h k =
    record {
      long = k.long ∙ h.long;
      front = record { each = λ i l. k.front.each i l ∙ h.front.each i l };
      behind = k.behind ∙ h.behind;
    }

-- The shape stays, and so does which rows a packet touches.
same-columns : {a b : List ℕ} → AllButMark a b → columns_of b ≡ columns_of a
same-columns k = rw (front-byte k 9 (omega arith), front-byte k 10 (omega arith))

same_points : {a b : List ℕ} → AllButMark a b → points b ≡ points a
same_points k = rw (front-byte k 9 (omega arith), front-byte k 10 (omega arith), front-byte k 11 (omega arith), front-byte k 12 (omega arith))

module _ {n : ℕ} (p : List ℕ) (bytes : (k : ℕ) → get_or p k 0 < 256) (s : State) (reply : List ℕ) (runs : stopped s reply ≡ false) (e : points s.block ≡ n)
    (a : accepted_at n p ≡ true) (h : header_of p ≡ 0x14) where
  -- The state that the judge's map stands for, its rows marked.
  abbrev left : State
  left = marked 0x34 (data_of p) (state s.block (map_after n p s.staged) s.live s.gains)

  quiet_step : step p s reply ≡ out 0 0 0 left reply
  unfolding over
  quiet_step = rw (← e) (accepted-step p s reply runs (rw e a) ∙ rw (no-reply p h))

  -- It is an accepted write.
  writes : Writes 0x34 p (step p s reply)
  writes = (same_write p s reply runs).accepted.0 (rw e a)

  -- It leaves a state in range, of the same shape.
  next-runs : stopped left reply ≡ false
  next-runs =
      let stays = stays_lent p bytes s reply (running-right (lent s reply runs)) in
      stopped-not left reply (right-running (subst (λ (o : Out). LentRight o.state o.reply) quiet_step stays))

  alone : AllButMark s.block left.block
  alone = mark-alone 0x34 (data_of p) s.block (map_after n p s.staged) s.live (lent s reply runs).tables.block

  -- And what becomes of its mark.
  rows : RowsMarked p s (out 0 0 0 left reply)
  rows = subst (RowsMarked p s) quiet_step (rows-marked p s reply)

  few : (r : ℕ) → TouchedBy (columns_of s.block) p r → r < 32
  few r t = touched-few p s reply writes.0 writes.2 writes.1 r t

  wrote : Writes 0x34 p (out 0 0 0 left reply)
  wrote = (refl, writes.1, writes.2)

-- ---- Packets one after another, each on the state that the last one left.

record Sent (n : ℕ) (ps : List (List ℕ)) (s : State) (reply : List ℕ) : Type 0 where
  staged : (state_after_all (calls_of reply ps) s).staged ≡ maps_after n ps s.staged
  live : (state_after_all (calls_of reply ps) s).live ≡ s.live
  gains : (state_after_all (calls_of reply ps) s).gains ≡ s.gains
  block : AllButMark s.block (state_after_all (calls_of reply ps) s).block
  stored : AllStored (calls_of reply ps) s
  row : (r : ℕ) → r < 32 → RowRight s r → RowRight (state_after_all (calls_of reply ps) s) r
  touched : (r : ℕ) → TouchedByOne (columns_of s.block) r ps → RowRight (state_after_all (calls_of reply ps) s) r
  untouched : (r : ℕ) → r < 32 → (TouchedByOne (columns_of s.block) r ps → ⊥)
      → bit_at (mark_of (state_after_all (calls_of reply ps) s).block) r ≡ bit_at (mark_of s.block) r

no_touch : {columns r : ℕ} → TouchedByOne columns r [] → ⊥
no_touch t = go t refl
  where
    go : {columns r : ℕ} {ps : List (List ℕ)} → TouchedByOne columns r ps → ps ≡ [] → ⊥
    go (TouchedByOne.here t) e = let z : ◌≡◌ {A = ℕ} 0 1 = cc in omega arith
    go (TouchedByOne.later t) e = let z : ◌≡◌ {A = ℕ} 0 1 = cc in omega arith

-- A packet of a list, or one behind it.
touched-here : {G : Type 0} (columns r : ℕ) (p : List ℕ) (ps : List (List ℕ)) → TouchedByOne columns r (p ∷ ps)
    → (TouchedBy columns p r → G) → (TouchedByOne columns r ps → G) → G
touched-here columns r p ps (TouchedByOne.here t) f g = f t
touched-here columns r p ps (TouchedByOne.later t) f g = g t

quiet-sent : {n : ℕ} {ps : List (List ℕ)} → Quiet n ps → (s : State) (reply : List ℕ) → stopped s reply ≡ false → points s.block ≡ n → Sent n ps s reply
unfolding state_after_all maps_after
quiet-sent Quiet.none s reply runs e =
    record {
      staged = refl;
      live = refl;
      gains = refl;
      block = record { long = refl; front = record { each = λ k h. refl }; behind = refl };
      stored = AllStored.none;
      row = λ r l h. h;
      touched = λ r t. absurd (no_touch t);
      untouched = λ r l t. refl;
    }
quiet-sent {n} (Quiet.next {p} {ps} a h b q) s reply runs e =
    let t : State = left p b s reply runs e a h in
    let one : step p s reply ≡ out 0 0 0 t reply = quiet_step p b s reply runs e a h in
    let here = alone p b s reply runs e a h in
    let m = rows p b s reply runs e a h in
    let w = wrote p b s reply runs e a h in
    let rest = quiet-sent q t reply (next-runs p b s reply runs e a h) (same_points here ∙ e) in
    let call : Call = record { packet = p; reply = reply } in
    let all : state_after_all (calls_of reply (p ∷ ps)) s ≡ state_after_all (calls_of reply ps) t = ap (λ (o : Out). state_after_all (calls_of reply ps) o.state) one in
    let columns = same-columns here in
    record {
      staged = ap (λ (u : State). u.staged) all ∙ rest.staged;
      live = ap (λ (u : State). u.live) all ∙ rest.live;
      gains = ap (λ (u : State). u.gains) all ∙ rest.gains;
      block = subst (λ (u : State). AllButMark s.block u.block) (sym all) (chain here rest.block);
      stored = AllStored.next {x = call} {xs = calls_of reply ps} {s = s} (rw one) (rw one rest.stored);
      row = λ r l right. subst (λ (u : State). RowRight u r) (sym all) (rest.row r l (m.row-right r l right));
      touched = λ r touch.
          subst (λ (u : State). RowRight u r) (sym all)
          (touched-here (columns_of s.block) r p ps touch
          (λ f. rest.row r (few p b s reply runs e a h r f) (m.touched w r f))
          (λ f. rest.touched r (subst (λ (c : ℕ). TouchedByOne c r ps) (sym columns) f)));
      untouched = λ r l off.
          ap (λ (u : State). bit_at (mark_of u.block) r) all
          ∙ rest.untouched r l (λ f. off (TouchedByOne.later (subst (λ (c : ℕ). TouchedByOne c r ps) columns f)))
          ∙ m.untouched w r l (λ f. off (TouchedByOne.here f));
    }

-- ---- The plan.

pub delivered : (n : ℕ) (held wanted : List ℕ) → MapOf n held → MapOf n wanted → (s : State) (reply : List ℕ) → stopped s reply ≡ false
    → points s.block ≡ n → take (2 * n) s.staged ≡ held → Delivered n held wanted s reply
unfolding packets_of
delivered n held wanted h w s reply runs e t =
    let d = demand3 n held wanted h w in
    let rest : List ℕ = drop (2 * n) s.staged in
    let few : n ≤ 65536 = omega (arith, (counts s.block (lent s reply runs).settings).points) in
    let all = quiet-sent (quiet-parts n few wanted w (plan-in-order n held wanted h.long w.long) d.accepted) s reply runs e in
    let cut : s.staged ≡ held ++ rest = sym (rw t at (take-append-drop (2 * n) s.staged)) in
    let left : maps_after n (packets_of held wanted) s.staged ≡ wanted ++ rest =
    ap (maps_after n (packets_of held wanted)) cut ∙ front-all n (packets_of held wanted) held rest h.long ∙ rw d.turns in
    let staged = all.staged ∙ left in
    record {
      turned = rw staged (take_at wanted rest (2 * n) w.long);
      behind = rw staged (drop_at wanted rest (2 * n) w.long);
      settings-kept = front-part all.block 0 865 (omega arith) (omega (arith, (lent s reply runs).tables.block));
      tail-kept = all.block.behind;
      live-kept = all.live;
      gains-kept = all.gains;
      rows_right = all.touched;
      rows-kept = all.untouched;
      mark-right = λ right. record { each = λ r l. all.row r l (right.each r l) };
      taken = all.stored;
    }
