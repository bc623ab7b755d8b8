-- Rules 6.1 and 6.2: the lists of which the plan is one, their order by counts, and the one that is chosen. What the theorems
-- about the plan and the promise of planning say.
use Rattle.std.specs.Prelude.{ℕ, ◌+◌, ◌≤◌, ◌<◌, ◌≡◌, ◌⊎◌, List, [], ◌∷◌, map}
use Rattle.upload.specs.Plan.{Part, cost, packet_for}
use Rattle.upload.specs.Judge.{Turns}

abbrev pub part : ℕ → ℕ → Part
part s c = record { start = s; count = c }

-- Rule 6.1: a part of a map of n points.
pub record Fits (n : ℕ) (p : Part) : Type 0 where
  pub some : 1 ≤ p.count
  pub few : p.count ≤ 126
  pub within : p.start + p.count ≤ n

-- Rule 6.1: parts of a map of n points, rising and not overlapping, from point i on.
pub data InOrder (n : ℕ) : ℕ → List Part → Type 0 where
  none : {i : ℕ} → InOrder n i []
  next : {i : ℕ} {p : Part} {ps : List Part} → i ≤ p.start → Fits n p → InOrder n (p.start + p.count) ps
      → InOrder n i (p ∷ ps)

unfoldable pub counts : List Part → List ℕ
counts [] = []
counts (p ∷ ps) = p.count ∷ counts ps

-- Rule 6.2: the smaller first count comes first, and where they are equal the next one decides: lexicographic order.
pub data Less : List ℕ → List ℕ → Type 0 where
  ends : {b : ℕ} {bs : List ℕ} → Less [] (b ∷ bs)
  here : {a b : ℕ} {as' bs : List ℕ} → a < b → Less (a ∷ as') (b ∷ bs)
  later : {a : ℕ} {as' bs : List ℕ} → Less as' bs → Less (a ∷ as') (a ∷ bs)

-- Rules 6.1 and 7.2: a list of parts, in order, that turns held into wanted.
pub record Uploads (n : ℕ) (held wanted : List ℕ) (ps : List Part) : Type 0 where
  pub in_order : InOrder n 0 ps
  pub turns : Turns n held wanted (map (packet_for wanted) ps)

-- Rule 6.2: no list is cheaper, and of those as cheap none comes before it.
pub record Chosen (n : ℕ) (held wanted : List ℕ) (ps : List Part) : Type 0 where
  pub uploads : Uploads n held wanted ps
  pub cheapest : (qs : List Part) → Uploads n held wanted qs → cost ps ≤ cost qs
  pub earliest : (qs : List Part) → Uploads n held wanted qs → cost qs ≡ cost ps
      → (counts ps ≡ counts qs) ⊎ Less (counts ps) (counts qs)
