-- Each theorem of the list, where it is proved.
use mathlib.Core.Path.{refl}
use native.Mathlib.Omega.{arith}
use Rattle.wire.specs.Checksum.{checksum}
use Rattle.front_end.specs.State.{reset_state}
use Rattle.front_end.proofs.Demands.{runs, right-running, mark-reset}
use Rattle.front_end.proofs.Marking.{always-right}
use Rattle.front_end.proofs.Live.{live-kept}
use Rattle.upload.proofs.Announced.{batch-announced}
use Rattle.upload.proofs.Bytes.{batch-bytes}
use Rattle.upload.proofs.Examples.{examples}
use Rattle.gain_words.proofs.Expand.{length-expand}
use Rattle.compressor.specs.Compress.{compressed}
use Rattle.compressor.proofs.Fewest.{expand-compressed}
use Rattle.end_to_end.proofs.Sent.{delivered}
use Rattle.end_to_end.proofs.Pairs.{gains-delivered, compressed-splittable}
use Rattle.end_to_end.proofs.Chains.{same, wrong-length, from-reset, live-kept as live-kept-bytes, mark-stays, mark-from-reset}
use Rattle.end_to_end.proofs.Uploads.{delivered-bytes, gains-bytes, compressed-bytes}
use Rattle.end_to_end.proofs.theorems.Goals as goal

pub returns : goal.returns
unfolding checksum
returns c = record {
  live-kept = live-kept;
  mark-stays = always-right;
  mark-from-reset = λ xs. always-right xs reset_state mark-reset;
  delivered = λ n held wanted h w s reply l. delivered n held wanted h w s reply (runs s reply (right-running l));
  runs-counted = length-expand;
  gains-delivered = λ colour start ws f s reply l. gains-delivered colour start ws f s reply (runs s reply (right-running l));
  compressed-delivered = λ colour start gains g c h s reply l.
      let f = compressed-splittable colour start gains g c h in
      (expand-compressed gains, f, gains-delivered colour start (compressed gains) f s reply (runs s reply (right-running l)));
  on-bytes =
      record {
        same = same;
        wrong-length = wrong-length;
        from-reset = from-reset;
        live-kept = live-kept-bytes;
        mark-stays = mark-stays;
        mark-from-reset = mark-from-reset;
        delivered = delivered-bytes;
        gains-delivered = gains-bytes;
        compressed-delivered = compressed-bytes;
      };
  batch-bytes = λ n held wanted small h w. batch-bytes n small wanted w held h;
  announced-sound = λ p s h. rw h (omega (arith, s.whole, s.counted h));
  batch-walked = λ n held wanted h w. batch-announced n held wanted h.long w.long;
  examples = examples;
  sum-worked = refl;
}
