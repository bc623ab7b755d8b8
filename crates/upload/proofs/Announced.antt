-- Rule 2.4, of a batch: each of its packets ends where its own header and length field say, whatever stands behind it.
use Prim.Native.Nat.{ℕ, ◌*◌}
use mathlib.Core.Path.{◌≡◌}
use mathlib.Core.List.{List, ◌++◌, map}
use native.Mathlib.Omega.{arith}
use lib.ListN.{length}
use Rattle.packet.specs.Frame.{announced}
use Rattle.upload.specs.Plan.{Part, packet_for, packets_of, EachAnnounced}
use Rattle.upload.specs.Parts.{Fits, InOrder, none, next}
use Rattle.upload.proofs.Reading.{meant}
use Rattle.upload.proofs.Bytes.{packet-form}
use Rattle.upload.proofs.Lists.{plan-in-order}

pub packet-announced : (n : ℕ) (wanted : List ℕ) (p : Part) (rest : List ℕ) → length wanted ≡ 2 * n → Fits n p
    → announced (packet_for wanted p ++ rest) ≡ length (packet_for wanted p)
packet-announced n wanted p rest e f = rw ((meant n wanted p e f).size, packet-form n wanted p e f) (omega arith)

each-announced : (n : ℕ) (wanted : List ℕ) → length wanted ≡ 2 * n → {i : ℕ} {ps : List Part} → InOrder n i ps → (rest : List ℕ)
    → EachAnnounced rest (map (packet_for wanted) ps)
each-announced n wanted e none rest = EachAnnounced.none
each-announced n wanted e (next {p = p} h f o) rest =
    EachAnnounced.next (packet-announced n wanted p _ e f) (each-announced n wanted e o rest)

pub batch-announced : (n : ℕ) (held wanted : List ℕ) → length held ≡ 2 * n → length wanted ≡ 2 * n → (rest : List ℕ)
    → EachAnnounced rest (packets_of held wanted)
unfolding packets_of
batch-announced n held wanted h w rest = each-announced n wanted w (plan-in-order n held wanted h w) rest
