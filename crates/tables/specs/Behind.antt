-- Rule 1.3: what stands behind the numbers of a list.
use Rattle.std.specs.Prelude.{ℕ, ◌*◌, ◌≡◌, List, length, drop}

-- Rule 1.3: behind their numbers two lists have the same. Bytes may have a last one alone there,
-- which is no number; else nothing stands there.
abbrev pub SameBehind : {T : Type 0} → ℕ → (List T → List ℕ) → List T → List T → Type 0
SameBehind width numbers s t =
    drop (width * length (numbers s)) s ≡ drop (width * length (numbers t)) t
