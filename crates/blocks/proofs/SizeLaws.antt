-- Two sizes of a block that are the same have the same lines and the same stops. Assumes nothing.
use Rattle.std.specs.Prelude.{ℕ, ◌≡◌}
use Rattle.std.proofs.Common.{ap}
use Rattle.blocks.specs.declared.BlockSize.{BlockSize}
use Rattle.blocks.specs.Drive.{size_of}

module _ {k n m e : ℕ} (q : size_of k n ≡ size_of m e) where
  same : ◌≡◌ {A = BlockSize} (record { lines = k; stops = n }) (record { lines = m; stops = e })
  same = cc

  pub same_lines : k ≡ m
  same_lines = ap (λ z. z.lines) same

  pub same_stops : n ≡ e
  same_stops = ap (λ z. z.stops) same
