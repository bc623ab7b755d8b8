-- A copy to the start of the buffer.
use native.Mathlib.Omega.{arith}
use Prim.Native.Nat.{◌≤◌}
use mathlib.Core.Path.{◌∙◌}
use lib.ListN.{length, drop, length-drop}
use Rattle.wire.proofs.Copies.{paste-over}
use Rattle.front_end.proofs.fetch_part.Goals as goal

pub returns : goal.returns
returns c = let args = c.args in
    let src = drop args.at args.block.now in
    let enough : args.n ≤ length src = rw length-drop (omega arith) in
    let written = paste-over args.out.now src args.n enough in
    (written.0, c.copy.ensures ∙ written.1)
