-- Lengths of what is lent.
use Rattle.std.proofs.Common.{ℕ, ◌≡◌, ◌*◌, true, List, length}
use Rattle.wire.proofs.Tests.{told}
use Rattle.settings.specs.Layout.{block_size}
use Rattle.settings.specs.Reset.{map_size, gains_size}
use Rattle.wire.specs.declared.element.Element.{Ghosts}
use Rattle.wire.specs.Elements.{ElementLaws}
use Rattle.front_end.specs.State.{lengths_right as numbers_right}
use Rattle.front_end_tables.specs.Held.{held}
use Rattle.front_end_tables.specs.declared.state.State.{State as Lists}
use Rattle.front_end_tables.specs.Lent.{Lent, lengths_right}

pub record Long {T : Type 0} (width : ℕ) (l : Lent T) : Type 0 where
  pub block : length l.block ≡ block_size
  pub staged : length l.staged ≡ width * map_size
  pub live : length l.live ≡ width * map_size
  pub gains : length l.gains ≡ width * gains_size

pub long : {T : Type 0} (width : ℕ) (l : Lent T) → lengths_right width l ≡ true → Long width l
long width l e = record { block = search told; staged = search told; live = search told; gains = search told }

-- So their numbers are as many as they must be.
pub record Counted {T : Type 0} (numbers : List T → List ℕ) (l : Lent T) : Type 0 where
  pub staged : length (numbers l.staged) ≡ map_size
  pub live : length (numbers l.live) ≡ map_size
  pub gains : length (numbers l.gains) ≡ gains_size

pub counted : {T : Type 0} {width : ℕ} {numbers : List T → List ℕ} → ElementLaws width numbers → (l : Lent T) → Long width l → Counted numbers l
counted laws l h =
    record {
      staged = laws.counted l.staged map_size h.staged;
      live = laws.counted l.live map_size h.live;
      gains = laws.counted l.gains gains_size h.gains;
    }

-- Those of a state are right.
pub held-right : {T : Type 0} {E : Ghosts T} (s : Lists T E) → ElementLaws E.WIDTH E.numbers → numbers_right (held s) ≡ true
held-right {E = E} s laws =
    rw (
      s.block_long,
      laws.counted s.staged.now map_size s.staged_long,
      laws.counted s.live.now map_size s.live_long,
      laws.counted s.gains.now gains_size s.gains_long,
    )
