-- What only private functions of this crate need, and no rule: what a packed row stands for, and how lists are gone through.
use Rattle.std.specs.Prelude.{ℕ, ◌+◌, ◌*◌, ◌-◌, ◌/◌, ◌%◌, ◌≤◌, ◌≡◌, List}
use Rattle.opcode.specs.Fields.{words_at, rise}
use Rattle.opcode.specs.Commands.{Command}

-- A packed row has the command's kind and sizes, a hexadecimal digit each, the first the highest.
pub record Sized (x : ℕ) (c : Command) : Type 0 where
  pub kind : x / 4096 % 16 ≡ c.kind
  pub write : x / 256 % 16 ≡ c.write
  pub read : x / 16 % 16 ≡ c.read
  pub back : x % 16 ≡ c.back

-- The most bytes of a command's fields.
abbrev pub most_span : ℕ
most_span = 11

-- The steps from one number to the next that the code compares in one go.
abbrev pub stretch_steps : ℕ
stretch_steps = 5

-- Of count numbers from a place on, those up to the i-th rise: how far all of them do is counted on from there.
abbrev pub RisenTo : List ℕ → ℕ → ℕ → ℕ → Type 0
RisenTo d at count i = (i ≤ count) × (rise (words_at d at count) ≡ i + rise (words_at d (at + 2 * i) (count - i)))
