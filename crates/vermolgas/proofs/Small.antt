-- What the front end answers on lent bytes is no longer than a reply may be, and its place lies within a packet.
use Prim.Native.Nat.{ℕ, ◌≤◌, ◌<◌}
use mathlib.Core.Path.{◌≡◌, refl}
use mathlib.Core.Bool.{Bool, true, false}
use mathlib.Core.List.{List}
use native.Mathlib.Omega.{arith}
use Rattle.front_end.proofs.ReadBack.{size_small, fault-small}
use Rattle.front_end_bytes.specs.Bytes.{Lent, LentOut, state_in, byte_lengths_right, step_bytes}

pub record Small (o : LentOut) : Type 0 where
  pub size : o.size ≤ 512
  pub fault-place : o.fault-place < 512

pub step-bytes-small : (p : List ℕ) (l : Lent) (reply : List ℕ) → Small (step_bytes p l reply)
unfolding step_bytes
step-bytes-small p l reply = go (byte_lengths_right l) refl
  where
    go : (b : Bool) → byte_lengths_right l ≡ b → Small (step_bytes p l reply)
    go true e = rw e (record { size = size_small p (state_in l) reply; fault-place = fault-small p (state_in l) reply })
    go false e = rw e (record { size = omega arith; fault-place = omega arith })
