-- Text put on a page.
use Rattle.std.specs.Prelude.{ℕ, ◌≡◌, List, length}
use Rattle.text.specs.declared.Page.{Page}
use Rattle.text.specs.Text.{Puts}

-- Text was put behind what the page had, in the same buffer.
pub record PutOn (text : List ℕ) (before after : Page) : Type 0 where
  pub puts : Puts before.size text before.out.now after.out.now after.size
  pub same : after.out.ghost_name ≡ before.out.ghost_name
  pub long : length after.out.now ≡ length before.out.now
