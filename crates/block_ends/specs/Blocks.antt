-- Where a TIMETBLS block stands in a text.
use Rattle.std.specs.Prelude.{ℕ, ◌+◌, ◌-◌, ◌≤◌, ◌<◌, ◌≡◌, List, [], ◌∷◌, true, false, length, take, drop}
use Rattle.iff.specs.Lists.{front, any}
use Rattle.iff.specs.Lines.{Line, lines, is_hash}
use Rattle.iff_rules.specs.Rows.{as_block, blocks_of, lines_in}

abbrev pub part : List ℕ → ℕ → ℕ → List ℕ
part t from to = take (to - from) (drop from t)

-- one line beginning `#`, the first
pub record OneBlock (b : List ℕ) : Type 0 where
  pub some : 0 < length b
  pub opens : is_hash (as_block b).top ≡ true
  pub single : any is_hash (as_block b).rest ≡ false

-- lines that begin with a block, or none
abbrev pub Clean : List Line → Type 0
Clean ls = front is_hash ls ≡ []

-- the block from `from` up to r, and those from r on
pub record NextBlock (t : List ℕ) (from r : ℕ) : Type 0 where
  pub low : from < r
  pub high : r ≤ length t
  pub one : OneBlock (part t from r)
  pub blocks : blocks_of (lines (drop from t)) ≡ as_block (part t from r) ∷ blocks_of (lines (drop r t))
  pub clean : Clean (lines (drop r t))
  pub sized : length (lines (drop from t)) ≡ lines_in (as_block (part t from r)) + length (lines (drop r t))
