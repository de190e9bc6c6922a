-- An exception's two sides looked up in tables, over any context that agrees with them. Assumes nothing.
use Prim.Native.Nat.{ℕ}
use mathlib.Core.Path.{◌≡◌}
use mathlib.Core.List.{List}
use mathlib.Core.Bool.{Bool, ◌&&◌, ◌||◌, and_assoc}
use lib.Dec.{eqb}
use Rattle.iff.specs.Lists.{has}
use Rattle.iff.specs.Tables.{Row}
use Rattle.iff.specs.Words.{from_company, from_mode, to_company, to_mode, exception_footnote}
use Rattle.iff.specs.declared.RowFile.TheVariants.{Company, Trnsmode}
use Rattle.iff.specs.declared.GroupFile.TheVariants.{Xfootnote}
use Rattle.iff.specs.declared.File.TheVariants.{Rows, Groups}
use Rattle.iff_rules.specs.Rows.{Context}
use Rattle.iff_rules.specs.References.{any_company, any_mode, met_exception}
use Rattle.keys.specs.Lookup.{keys_among}
use Rattle.references.specs.declared.GroupCounts.{GroupCounts}
use Rattle.references.specs.Agree.{ExceptionKeysAmong, met_sides}

-- two sides are four keys
four : (a b c d e : Bool) → (a && b) && ((c && d) && e) ≡ a && (b && (c && (d && e)))
four a b c d e = rw (and_assoc a b, and_assoc c d)

-- a company or a mode that is named, or the wildcard
abbrev company_in : GroupCounts → List ℕ → ℕ → Bool
company_in n co x = eqb x any_company || has x (keys_among (Rows Company) n.companies co)

abbrev mode_in : GroupCounts → List ℕ → ℕ → Bool
mode_in n mo x = eqb x any_mode || has x (keys_among (Rows Trnsmode) n.modes mo)

module _ (c : Context) (n : GroupCounts) (co mo st xf : List ℕ) (k : ExceptionKeysAmong c n co mo st xf) where
  pub sides_met : (r : Row) → met_sides n co mo xf r ≡ met_exception c r
  sides_met r =
      rw (k.companies, k.modes, k.xfootnotes)
      (four (company_in n co (from_company r)) (mode_in n mo (from_mode r)) (company_in n co (to_company r)) (mode_in n mo (to_mode r))
      (has (exception_footnote r) (keys_among (Groups Xfootnote) n.xfootnotes xf)))
