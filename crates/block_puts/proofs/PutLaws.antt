-- Two blocks put that are the same leave the same. Assumes nothing.
use Rattle.std.specs.Prelude.{ℕ, Bool, ◌≡◌}
use Rattle.std.proofs.Common.{ap}
use Rattle.fresh_keys.specs.declared.KeyRun.{KeyRun}
use Rattle.block_puts.specs.declared.BlockPut.{BlockPut}
use Rattle.block_puts.specs.Puts.{put_of}

module _ {run next : KeyRun} {row to : ℕ} {told new : Bool} (q : put_of run row told ≡ put_of next to new) where
  same : ◌≡◌ {A = BlockPut} (record { run = run; row = row; told = told }) (record { run = next; row = to; told = new })
  same = cc

  pub same_run : run ≡ next
  same_run = ap (λ z. z.run) same

  pub same_row : row ≡ to
  same_row = ap (λ z. z.row) same

  pub same_told : told ≡ new
  same_told = ap (λ z. z.told) same
