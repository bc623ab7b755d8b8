-- What names mean that the plain promises cite, by unfolding them.
use Prim.Native.Nat.{suc, ◌+◌, ◌*◌}
use mathlib.Core.Path.{◌≡◌, refl}
use mathlib.Core.List.{append-nil}
use native.Mathlib.Numerals.{add-one}
use native.Mathlib.Omega.{arith}
use lib.ListN.{length}
use Rattle.wire.specs.Tables.{bytes}
use Rattle.wire.proofs.Tables.{length-halves}
use Rattle.packet.specs.Making.{packet_of}
use Rattle.upload.specs.Plan.{packet_for, cost, joined, plan_numbers, followed}
use Rattle.upload.specs.Judge.{maps_after, total_bytes}
use Rattle.upload.specs.Parts.{counts}
use Rattle.upload.specs.Plain.{Pinned}

pub pinned : Pinned
unfolding maps_after total_bytes cost counts plan_numbers joined packet_for packet_of followed
pinned =
    record {
      maps-0 = λ n m. refl;
      maps-1 = λ n p ps m. refl;
      total-0 = refl;
      total-1 = λ p ps. refl;
      cost-0 = refl;
      cost-1 = λ p ps. refl;
      counts-0 = refl;
      counts-1 = λ p ps. refl;
      numbers-0 = refl;
      numbers-1 = λ p ps. refl;
      joined-0 = refl;
      joined-1 = λ p ps. refl;
      packet = λ wanted p pts e.
          let long : suc (suc (length (bytes pts))) ≡ 2 + 2 * length pts = omega (arith, length-halves 256 pts) in
          rw (← e, long, append-nil (bytes pts));
      follow-end = λ i k. refl;
      follow-inside = λ i k c cs. rw add-one;
      follow-on = λ i cs. rw add-one;
      follow-begin = λ i c cs. rw add-one;
    }
