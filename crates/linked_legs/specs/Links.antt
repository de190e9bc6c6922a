-- What it is for a block's records to follow each other.
use Rattle.std.specs.Prelude.{ℕ, List, [], ◌∷◌, Bool, not, ◌&&◌, cond, eqb}
use Rattle.iff.specs.Bytes.{percent, dash, ampersand}
use Rattle.iff.specs.Lists.{all}
use Rattle.iff.specs.Tables.{Row, tag, row_width}
use Rattle.iff.specs.declared.File.TheVariants.{Timetbls}
use Rattle.iff_rules.specs.Legs.{first_stop, last_stop, reach_of, in_range}
use Rattle.keys.specs.Blocks.{rows_between}

-- the rows of TIMETBLS from `from` on and before `to`
abbrev pub block_between : List ℕ → ℕ → ℕ → List Row
block_between t from to = rows_between (row_width Timetbls) t from to

-- RECORDS THAT FOLLOW EACH OTHER. The stop that those of kind x have come to with a row, where they had come to `at`; 0, which is no stop, where
-- the row is of that kind and begins elsewhere
unfoldable pub stop_after : ℕ → ℕ → Row → ℕ
stop_after x at r = cond (eqb (tag r) x) (cond (eqb (first_stop r) at) (last_stop r) 0) at

-- those of kind x go from stop `at` to stop n, each from where the one before ends
unfoldable pub linked : ℕ → ℕ → ℕ → List Row → Bool
linked x at n [] = eqb at n
linked x at n (r ∷ rs) = not (eqb (stop_after x at r) 0) && linked x (stop_after x at r) n rs

-- all records are in range, and those of each kind go from stop 1 to stop n
unfoldable pub all_linked : ℕ → List Row → Bool
all_linked n rs = all (in_range reach_of n) rs && (linked percent 1 n rs && (linked dash 1 n rs && linked ampersand 1 n rs))
