-- Buffers that the caller lends.
use Rattle.std.specs.Prelude.{ℕ, ◌≡◌, List, ◌++◌, length, drop}

-- Rules 4.2, 4.4 and 6.5: a buffer with bytes written over its start; what lies behind them stays.
unfoldable pub over : List ℕ → List ℕ → List ℕ
over s buffer = s ++ drop (length s) buffer

-- The same as a promise: so many bytes were written over the start of a buffer, and these.
abbrev pub Overwrites : ℕ → List ℕ → List ℕ → List ℕ → Type 0
Overwrites n s entry exit = (n ≡ length s) × (exit ≡ over s entry)
