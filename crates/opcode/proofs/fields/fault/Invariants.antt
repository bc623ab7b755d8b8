-- The answer is that of the fields left, which have the bytes left, from the place reached.
use mathlib.Core.Path.{◌≡◌}
use Prim.Native.Nat.{◌+◌}
use lib.ListN.{drop}
use Rattle.opcode.specs.Fields.{span, «fault»}
use Rattle.opcode.proofs.fields.fault.Given as goal

abbrev pub invariant-loop-field : goal.invariant-loop-field
invariant-loop-field l = (l.at + span (drop l.field-index l.fields) ≡ span l.fields)
    × (fault l.fields l.data 0 ≡ fault (drop l.field-index l.fields) l.data l.at)
