-- Words moved within a table.
use Rattle.std.specs.Prelude.{ℕ, ◌+◌, ◌-◌, ◌≤◌, ◌≡◌, List, ◌++◌, true, length, take, drop, replicate}
use Rattle.iff.specs.Tables.{all_zero}

-- so many words that stood from `from` on stand from `to` on too; all others are as they were
unfoldable pub copied : List ℕ → ℕ → ℕ → ℕ → List ℕ
copied t from to count = take to t ++ (take count (drop from t) ++ drop (to + count) t)

-- THE WORDS from `from` on and before `end`, behind which all is zero, stand from `to` on; behind them all is zero again
unfoldable pub moved : List ℕ → ℕ → ℕ → ℕ → List ℕ
moved t from end to = take to t ++ (take (end - from) (drop from t) ++ replicate (length t - (to + (end - from))) 0)

pub record Movable (t : List ℕ) (from end to : ℕ) : Type 0 where
  pub ordered : from ≤ end
  pub lies : end ≤ length t
  pub roomy : to + (end - from) ≤ length t
  pub unused : all_zero (drop end t) ≡ true
