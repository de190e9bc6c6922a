-- The first row of DELIVERY, by the number of its rows in use. Assumes nothing.
use Prim.Native.Nat.{ℕ, ◌+◌, ◌*◌, ◌/◌, ◌≤◌}
use mathlib.Core.Path.{◌≡◌, refl, ap, sym, ◌∙◌}
use mathlib.Core.List.{List, [], ◌∷◌}
use native.Mathlib.Omega.{arith}
use lib.ListN.{length}
use Rattle.iff.specs.Tables.{Row, word, row_width, row_at, rows_in}
use Rattle.iff.specs.declared.File.TheVariants.{Delivery}
use Rattle.iff_rules.specs.Rows.{first_of}
use Rattle.tables.proofs.Rows.{row_inside, row_is}
use Rattle.store.specs.Found.{Stored}
use Rattle.store.proofs.FirstLaws.{used_fits}

module _ (used : ℕ) (t : List ℕ) (s : Stored Delivery used t) (k : ℕ) where
  no_rows : (rs : List Row) → length rs ≡ 0 → 0 ≡ word (first_of rs) k
  no_rows [] e = refl
  no_rows (r ∷ rs) e = absurd (omega arith)

  pub first_none : used ≡ 0 → 0 ≡ word (first_of (rows_in Delivery t)) k
  first_none e = no_rows (rows_in Delivery t) (omega (arith, s.counted))

  pub first_stands : (used ≡ 0 → ⊥) → 0 * row_width Delivery + row_width Delivery ≤ length t
  first_stands n = row_inside (row_width Delivery) 0 used (length t) (omega arith) (used_fits Delivery used t s)

  pub first_is : (used ≡ 0 → ⊥) → (x : ℕ) → x ≡ word (row_at (row_width Delivery) t 0) k → x ≡ word (first_of (rows_in Delivery t)) k
  first_is n x e =
      e ∙ ap (λ (r : Row). word r k) (sym (row_is (row_width Delivery) (length t / row_width Delivery) t 0 (omega (arith, s.counted))))
