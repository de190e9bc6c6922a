-- Where the next group begins among the rows of a table from `from` on and before `to`: at their first `#` row, or at `to` where there is none.
use Rattle.std.specs.Prelude.{ℕ, ◌≤◌, ◌<◌, ◌≡◌, List, true}
use Rattle.iff.specs.Lists.{front, groups}
use Rattle.iff.specs.Tables.{is_hash_row, row_at}
use Rattle.keys.specs.Blocks.{rows_between}

pub record NextHead (w : ℕ) (t : List ℕ) (from to r : ℕ) : Type 0 where
  pub low : from ≤ r
  pub high : r ≤ to
  pub until : front is_hash_row (rows_between w t from to) ≡ rows_between w t from r
  pub behind : groups is_hash_row (rows_between w t from to) ≡ groups is_hash_row (rows_between w t r to)
  pub head : r < to → is_hash_row (row_at w t r) ≡ true
