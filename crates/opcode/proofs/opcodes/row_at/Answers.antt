-- The digits are the command's, and no command has a greater kind.
use native.Mathlib.Omega.{arith}
use Rattle.opcode.proofs.Rows.{few-kinds}
use Rattle.opcode.proofs.opcodes.row_at.Goals as goal

pub kind_of-requires : goal.kind_of-requires
kind_of-requires c = omega (arith, c.packed_at-x.ensures.kind, few-kinds c.args.opcode)

pub returns : goal.returns
returns c = let s = c.packed_at-x.ensures in let k = c.kind_of.ensures in cc
