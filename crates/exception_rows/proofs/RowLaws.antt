-- A row of XCHANGES applies or not. Assumes nothing.
use Prim.Native.Nat.{ℕ}
use mathlib.Core.Path.{◌≡◌, ap, sym, ◌∙◌}
use mathlib.Core.List.{List}
use mathlib.Core.Bool.{Bool, true, false, ◌&&◌}
use Rattle.iff.specs.Words.{exception_footnote}
use Rattle.iff.specs.Tables.{Row}
use Rattle.iff_desk.specs.Store.{marked, vector_of}
use Rattle.iff_desk.specs.Changing.{from_keys, to_keys, fits}
use Rattle.iff_desk.specs.declared.Riding.{Riding}
use Rattle.exception_rows.specs.Rows.{applies_by}

-- by the keys of the one side, those of the other, and the vector
module _ (xf : List Row) (a b : Riding) (d : ℕ) (r : Row) (from : Riding) (f : from ≡ from_keys r) (x : Bool) (g : x ≡ fits from a) where
  from_fits : fits (from_keys r) a ≡ x
  from_fits = ap (λ (k : Riding). fits k a) (sym f) ∙ sym g

  pub from_misses : x ≡ false → false ≡ applies_by xf a b d r
  from_misses e =
      sym (ap (λ (v : Bool). v && (fits (to_keys r) b && marked (vector_of xf (exception_footnote r)) d)) (from_fits ∙ e))

  module _ (h : x ≡ true) (to : Riding) (k : to ≡ to_keys r) (y : Bool) (m : y ≡ fits to b) where
    both_sides : (fits (to_keys r) b && marked (vector_of xf (exception_footnote r)) d) ≡ applies_by xf a b d r
    both_sides = sym (ap (λ (v : Bool). v && (fits (to_keys r) b && marked (vector_of xf (exception_footnote r)) d)) (from_fits ∙ h))

    to_fits : fits (to_keys r) b ≡ y
    to_fits = ap (λ (k : Riding). fits k b) (sym k) ∙ sym m

    pub to_misses : y ≡ false → false ≡ applies_by xf a b d r
    to_misses e = sym (ap (λ (v : Bool). v && marked (vector_of xf (exception_footnote r)) d) (to_fits ∙ e)) ∙ both_sides

    pub keys_fit : y ≡ true → marked (vector_of xf (exception_footnote r)) d ≡ applies_by xf a b d r
    keys_fit e = sym (ap (λ (v : Bool). v && marked (vector_of xf (exception_footnote r)) d) (to_fits ∙ e)) ∙ both_sides
