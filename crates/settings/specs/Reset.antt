-- Rule 5.10: what reset leaves in the block and in every table.
use Rattle.std.specs.Prelude.{ℕ, zero, suc, List, [], ◌∷◌, ◌++◌, replicate}
use Rattle.wire.specs.Numbers.{word_bytes}
use Rattle.wire.specs.Tables.{bytes}

abbrev pub zeros : ℕ → List ℕ
zeros n = replicate n 0

-- n numbers from a first one on.
abbrev pub count_up : ℕ → ℕ → List ℕ
count_up i zero = []
count_up i (suc n) = i ∷ count_up (suc i) n

-- Rule 5.10: mode 0, 62 columns, 32 rows, and lists that count from 0.
unfoldable pub reset_shape : List ℕ
reset_shape = (0 ∷ []) ++ word_bytes 62 ++ word_bytes 32 ++ bytes (count_up 0 62) ++ bytes (count_up 0 32)

-- Rule 5.10: frequency 20, duty 0, off, for each of n ports.
abbrev pub reset_pwm : ℕ → List ℕ
reset_pwm zero = []
reset_pwm (suc n) = 20 ∷ 0 ∷ 0 ∷ 0 ∷ 0 ∷ 0 ∷ reset_pwm n

-- Rule 5.10, the block: places 0-7, staged, enable, live, the smooth table's counts, its points and 39h and 60h (395 to 761),
-- 65h, the rest.
unfoldable pub reset_block : List ℕ
reset_block =
    zeros 8 ++ reset_shape ++ zeros 1 ++ reset_shape ++ (3 ∷ 3 ∷ []) ++ zeros 365 ++ reset_pwm 12 ++ zeros 190

-- Rule 1.3: numbers in a map (x, y in turn) and in the gain table (red, green, blue).
abbrev pub map_size : ℕ
map_size = 3968

abbrev pub gains_size : ℕ
gains_size = 6048

-- Rule 5.10, the tables.
unfoldable pub reset_map : List ℕ
reset_map = zeros map_size

unfoldable pub reset_gains : List ℕ
reset_gains = replicate gains_size 4096
