-- A group's row against the earlier ones: a `#` clashes with none, another row with none of those behind the `#`. Assumes nothing.
use Prim.Native.Nat.{ℕ, ◌+◌}
use mathlib.Core.Path.{◌≡◌, sym}
use mathlib.Core.List.{List, []}
use mathlib.Core.Bool.{Bool, true, ◌&&◌, not}
use borrow.Author.Tests.{eq-eqb, ne_eqb}
use lib.ListN.{drop}
use Rattle.iff.specs.Bytes.{hash}
use Rattle.iff.specs.Lists.{any}
use Rattle.iff.specs.Tables.{Row, tag}
use Rattle.iff.specs.declared.GroupFile.{GroupFile}
use Rattle.iff.specs.declared.File.TheVariants.{Groups}
use Rattle.iff_rules.specs.Unique.{clash, fresh_key, fresh_in_group}
use Rattle.keys.specs.Blocks.{rows_between}
use Rattle.fresh_keys.proofs.Runs.{and_right}
use Rattle.walks.proofs.GroupLaws.{between_rest}

module _ (f : GroupFile) (r : Row) where
  pub fresh_head : (earlier : List Row) → tag r ≡ hash → true ≡ fresh_in_group f earlier r
  unfolding fresh_in_group
  fresh_head earlier h = rw (eq-eqb (tag r) hash h)

  pub fresh_other : (w : ℕ) (t : List ℕ) (from to : ℕ) (b : Bool) → (tag r ≡ hash → ⊥)
      → b ≡ not (any (clash f r) (rows_between w t (from + 1) to))
      → b ≡ fresh_in_group f (drop 1 (rows_between w t from to)) r
  unfolding fresh_in_group
  fresh_other w t from to b h e = rw (ne_eqb (tag r) hash h, between_rest w t from to) e

  -- a row that is told to be new by its marks, whatever is said of keys
  pub fresh_told : (earlier : List Row) → true ≡ (fresh_key (Groups f) [] r && fresh_in_group f earlier r) → true ≡ fresh_in_group f earlier r
  fresh_told earlier e = sym (and_right (fresh_key (Groups f) [] r) (fresh_in_group f earlier r) (sym e))
