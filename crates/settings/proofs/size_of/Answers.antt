-- Each arm's opcode makes the sizes come out at its size; any other that is carried has one byte.
use native.Mathlib.Omega.{arith}
use borrow.Author.Tests.{ne_eqb}
use Rattle.settings.specs.Internal.{size_by_opcode}
use Rattle.settings.proofs.Fits.{kept-size}
use Rattle.settings.proofs.size_of.Goals as goal

pub returns-in-19 : goal.returns-in-19
unfolding size_by_opcode
returns-in-19 c = kept-size _ _ (rw c.in-19.is) (omega arith)

pub returns-in-43 : goal.returns-in-43
unfolding size_by_opcode
returns-in-43 c = kept-size _ _ (rw c.in-43.is) (omega arith)

pub returns-in-52 : goal.returns-in-52
unfolding size_by_opcode
returns-in-52 c = kept-size _ _ (rw c.in-52.is) (omega arith)

pub returns-in-53 : goal.returns-in-53
unfolding size_by_opcode
returns-in-53 c = kept-size _ _ (rw c.in-53.is) (omega arith)

pub returns-in-56 : goal.returns-in-56
unfolding size_by_opcode
returns-in-56 c = kept-size _ _ (rw c.in-56.is) (omega arith)

pub returns-in-96 : goal.returns-in-96
unfolding size_by_opcode
returns-in-96 c = kept-size _ _ (rw c.in-96.is) (omega arith)

pub returns-in-101 : goal.returns-in-101
unfolding size_by_opcode
returns-in-101 c = kept-size _ _ (rw c.in-101.is) (omega arith)

pub returns-in-109 : goal.returns-in-109
unfolding size_by_opcode
returns-in-109 c = kept-size _ _ (rw c.in-109.is) (omega arith)

pub returns-in_default : goal.returns-in_default
unfolding size_by_opcode
returns-in_default c = let rest = c.in_default.in_default-own.rest in kept-size _ _ (rw (ne_eqb _ _ rest.0.0.0.0.0.0.0.1, ne_eqb _ _ rest.0.0.0.0.0.0.1, ne_eqb _ _ rest.0.0.0.0.0.1, ne_eqb _ _ rest.0.0.0.0.1, ne_eqb _ _ rest.0.0.0.1, ne_eqb _ _ rest.0.0.1, ne_eqb _ _ rest.0.1, ne_eqb _ _ rest.1)) (omega arith)
