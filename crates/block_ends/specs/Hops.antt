-- What hops over the lines of a block tell.
use Rattle.std.specs.Prelude.{ℕ, ◌+◌, ◌-◌, ◌≤◌, ◌≡◌, List, false, length, drop, get_or}
use Rattle.iff.specs.Bytes.{cr, lf}
use Rattle.iff.specs.Lists.{any}
use Rattle.iff.specs.Lines.{lines, is_hash}
use Rattle.block_ends.specs.Blocks.{part, Clean}

-- CR LF stands right before `to`, and not before `at`
pub record Ending (t : List ℕ) (at to : ℕ) : Type 0 where
  pub low : at + 2 ≤ to
  pub high : to ≤ length t
  pub returns : get_or t (to - 2) 0 ≡ cr
  pub feeds : get_or t (to - 1) 0 ≡ lf

-- n HOPS from `from` up to `to`, each over a line or more; where there are no more lines than hops, no line behind the first begins with `#`
pub record Hops (t : List ℕ) (from to n : ℕ) : Type 0 where
  pub ending : Ending t from to
  pub least : n ≤ length (lines (part t from to))
  pub single : length (lines (part t from to)) ≤ n → any is_hash (drop 1 (lines (part t from to))) ≡ false

-- and a block begins there, or the text ends
pub record Hopped (t : List ℕ) (from to n : ℕ) : Type 0 where
  pub hops : Hops t from to n
  pub clean : Clean (lines (drop to t))
