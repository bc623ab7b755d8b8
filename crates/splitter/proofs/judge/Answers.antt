-- Whole pairs have no word over.
use Rattle.std.proofs.Common.{◌≡◌, ◌*◌, ◌%◌, length, arith}
use Rattle.splitter.proofs.Faults.{even}
use Rattle.splitter.proofs.judge.Goals as goal

pub values_wrong-requires : goal.values_wrong-requires
values_wrong-requires g c =
    let pairs = c.args.pairs.now in
    let whole : length pairs % (2 * c.WIDTH.result) ≡ 0 = omega arith in
    even g.T.Element.WIDTH g.T.Element.laws pairs (rw c.WIDTH.ensures at whole)
