-- The test of a block, of its rows. Assumes nothing.
use Prim.Native.Nat.{ℕ, ◌-◌}
use mathlib.Core.Path.{◌≡◌, sym, ◌∙◌}
use mathlib.Core.List.{List}
use mathlib.Core.Bool.{Bool, true, false, ◌&&◌}
use Rattle.iff.specs.Bytes.{percent, dash, ampersand}
use Rattle.iff.specs.Lists.{all}
use Rattle.iff.specs.Tables.{Row}
use Rattle.iff_rules.specs.Meaning.{most_stops}
use Rattle.iff_rules.specs.Legs.{reach_of, in_range, covered, of_kind, legs}
use Rattle.legs.specs.Rows.{covers}
use Rattle.leg_marks.specs.Once.{once_to}
use Rattle.leg_marks.proofs.MarkLaws.{once_covered}
use Rattle.legs.proofs.RowLaws.{kind_times}
use Rattle.linked_legs.specs.Links.{block_between}
use Rattle.row_legs.specs.Blocks.{BlockOfStops, RangedBlock, rows_times}

-- a kind's records, counted among all
pub kind_once : (x m : ℕ) (rs : List Row) → once_to m (rows_times x rs) ≡ covered m (of_kind x rs)
kind_once x m rs = once_covered (of_kind x rs) (rows_times x rs) (λ k. sym (kind_times x k rs)) m

-- the four tests, in order
module _ (t : List ℕ) (from to n : ℕ) (p : BlockOfStops t from to n) where
  abbrev in_block : Bool
  in_block = all (in_range reach_of n) (block_between t from to)

  abbrev kind_in : ℕ → Bool
  kind_in x = covered (n - 1) (of_kind x (block_between t from to))

  block_right : legs reach_of (block_between t from to) ≡ (in_block && (kind_in percent && (kind_in dash && kind_in ampersand)))
  unfolding legs
  block_right = rw (← p.stops)

  pub out_of_range : in_block ≡ false → false ≡ legs reach_of (block_between t from to)
  out_of_range e = sym (block_right ∙ rw e)

  module _ (a : in_block ≡ true) where
    pub asks : (x : ℕ) → covers x ≡ true → RangedBlock t from to n x most_stops
    asks x e = record { inside = p.inside; kind = e; fit = p.few; within = a }

    pub no_numbers : kind_in percent ≡ false → false ≡ legs reach_of (block_between t from to)
    no_numbers e = sym (block_right ∙ rw (a, e))

    module _ (b : kind_in percent ≡ true) where
      pub no_validities : kind_in dash ≡ false → false ≡ legs reach_of (block_between t from to)
      no_validities e = sym (block_right ∙ rw (a, b, e))

      pub modes : kind_in dash ≡ true → kind_in ampersand ≡ legs reach_of (block_between t from to)
      modes e = sym (block_right ∙ rw (a, b, e))
