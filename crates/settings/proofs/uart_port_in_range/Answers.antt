-- Ten bytes from 0 on, one behind the other.
use mathlib.Core.Path.{◌≡◌, refl, sym}
use mathlib.Core.Bool.{true}
use mathlib.Core.List.{[], ◌∷◌, map}
use Rattle.opcode.specs.Fields.{byte}
use Rattle.opcode.specs.Commands.{command_of}
use Rattle.settings.specs.Ranges.{behind_port}
use Rattle.settings.proofs.Laws.{bytes-first}
use Rattle.settings.proofs.uart_port_in_range.Goals as goal

fields : behind_port 0x6D ≡ map (byte 0) (1 ∷ 11 ∷ 3 ∷ 1 ∷ 2 ∷ 1 ∷ 4 ∷ 4 ∷ 1 ∷ 1 ∷ [])
unfolding command_of
fields = refl

pub returns : goal.returns
returns c = let args = c.args in
    rw fields (sym (bytes-first 1 (11 ∷ 3 ∷ 1 ∷ 2 ∷ 1 ∷ 4 ∷ 4 ∷ 1 ∷ 1 ∷ []) args.block.now true args.at))
