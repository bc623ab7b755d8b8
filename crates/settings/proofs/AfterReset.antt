-- Each byte that reset writes is the one that stands at its place, by one computed test along the block; and the tables are full of one number.
use Prim.Native.Nat.{ℕ, zero, suc, ◌<◌}
use mathlib.Core.Path.{◌≡◌, refl}
use mathlib.Core.Bool.{Bool}
use lib.ListN.{get_or, replicate, get_or-replicate}
use lib.Dec.{eqb, eqb→eq}
use Rattle.opcode.proofs.Table.{everywhere}
use Rattle.settings.specs.Reset.{gains_size, map_size}
use Rattle.settings.specs.Reset.{reset_shape, reset_block, reset_map, reset_gains}
use Rattle.settings.specs.AfterReset.{byte_after_reset}
use Rattle.settings.specs.Layout.{block_size}

placed : ℕ → ℕ → Bool
placed k x = eqb x (byte_after_reset k)

pub reset-bytes : (k : ℕ) → k < block_size → get_or reset_block k 0 ≡ byte_after_reset k
unfolding reset_block reset_shape byte_after_reset placed
reset-bytes k h = eqb→eq (get_or reset_block k 0) (byte_after_reset k) (everywhere placed 0 reset_block tt k h)

empty : (n k : ℕ) → ◌≡◌ {A = ℕ} (get_or (replicate n 0) k 0) 0
empty zero k = refl
empty (suc n) zero = refl
empty (suc n) (suc k) = empty n k

pub reset-points : (k : ℕ) → get_or reset_map k 0 ≡ 0
unfolding reset_map
reset-points k = empty map_size k

pub reset-gains : (k : ℕ) → k < gains_size → get_or reset_gains k 0 ≡ 4096
unfolding reset_gains
reset-gains k h = get_or-replicate gains_size k 4096 0 h
