-- DELIVERY: a first line and nothing more. Assumes nothing.
use Rattle.std.specs.Prelude.{Err, Ok, Option}
use Prim.Native.Nat.{ℕ, ◌+◌, ◌≤◌, ◌<◌}
use mathlib.Core.Path.{◌≡◌, refl, ap, sym, ◌∙◌}
use mathlib.Core.List.{List, [], ◌∷◌}
use mathlib.Core.Bool.{true, false≢true}
use native.Mathlib.Omega.{arith}
use lib.ListN.{length, drop, length-drop}
use Rattle.iff.specs.Lists.{kept, same}
use Rattle.iff.specs.Refusals.{first_test, first_fault, Test, at_place, fault_at}
use Rattle.iff.specs.Lines.{Line, lines, first_line, width}
use Rattle.iff.specs.Columns.{form424}
use Rattle.iff.specs.Tables.{row_width, fill, rising}
use Rattle.iff.specs.declared.File.TheVariants.{Delivery}
use Rattle.iff.specs.declared.Reason.{Reason}
use Rattle.iff.specs.declared.Reason.TheVariants.{Order}
use Rattle.iff_rules.specs.Order.{line_test}
use Rattle.iff_rules.specs.Rows.{first_row_of, rows_of_lines}
use Rattle.iff_rules.specs.Load.{first_line_test, delivery_verdict}
use Rattle.text.proofs.LineLaws.{lines_step, lines_end}
use Rattle.text.proofs.PictureLaws.{is_same_lem}
use Rattle.tables.proofs.Filled.{fill_none}
use Rattle.reading.specs.Reading.{head_line, Ready, DeliveryRead}
use Rattle.iff.specs.declared.Place.{Place}

-- an absent one, and one after a fault
pub delivery_absent : (text t : List ℕ) → length text ≡ 0 → Ready Delivery text t → DeliveryRead text (Ok tt) t t (Ok tt)
unfolding delivery_verdict rows_of_lines lines
delivery_absent [] t e r = record { verdict = refl; table = λ q. r.cleared ∙ sym (fill_none 6 (length t)); kept = refl }
delivery_absent (x ∷ xs) t e r = absurd (omega arith)

pub delivery_passed : (text t is : List ℕ) (k : Reason) (p : Option Place) → length is ≡ length t → DeliveryRead text (fault_at k p) t is (fault_at k p)
delivery_passed text t is k p e = record { verdict = refl; table = λ q. absurd (false≢true q); kept = e }

module _ (text was is : List ℕ) (ls : List Line) (some : lines text ≡ head_line text ∷ ls) (x : Test)
    (e : x ≡ first_line_test (same (head_line text).body (head_line text).body) (head_line text)) (kept_length : length is ≡ length was) where
  test_is : x ≡ first_line_test true (head_line text)
  test_is = e ∙ rw (is_same_lem (head_line text).body)

  pub delivery_refused : (k : Reason) → x ≡ Err k → DeliveryRead text (Ok tt) was is (fault_at k (at_place Delivery 0 1))
  unfolding delivery_verdict first_fault
  delivery_refused k p =
      record { verdict = sym (ap delivery_verdict some ∙ rw (← test_is, p)); table = λ q. absurd (false≢true q); kept = kept_length }

  pub delivery_second : x ≡ Ok tt → (l : Line) (more : List Line) → ls ≡ l ∷ more → DeliveryRead text (Ok tt) was is (fault_at Order (at_place Delivery 0 2))
  unfolding delivery_verdict first_fault line_test first_test
  delivery_second p l more q =
      record { verdict = sym (ap delivery_verdict some ∙ rw (q, ← test_is, p)); table = λ z. absurd (false≢true z); kept = kept_length }

  rows_are : ls ≡ [] → rows_of_lines (form424 0) Delivery (lines text) ≡ first_row_of Delivery true (head_line text) ∷ []
  unfolding rows_of_lines rising kept
  rows_are q = ap (rows_of_lines (form424 0) Delivery) (some ∙ ap (λ (z : List Line). head_line text ∷ z) q)

  pub delivery_alone :
      x ≡ Ok tt → ls ≡ [] → is ≡ fill (row_width Delivery) (length is) (first_row_of Delivery true (head_line text) ∷ []) →
      DeliveryRead text (Ok tt) was is (Ok tt)
  unfolding delivery_verdict first_fault
  delivery_alone p q h =
      record { verdict = sym (ap delivery_verdict some ∙ rw (q, ← test_is, p)); table = λ z. h ∙ rw (kept_length, rows_are q); kept = kept_length }

-- a line is left, or none
pub line_left :
    (text : List ℕ) (from : ℕ) → from < length text →
    lines (drop from text) ≡ first_line (drop from text) ∷ lines (drop (width (drop from text) + 2) (drop from text))
line_left text from h = lines_step (drop from text) (omega (arith, length-drop from text))

pub none_left : (text : List ℕ) (from : ℕ) → length text ≤ from → lines (drop from text) ≡ []
none_left text from h = lines_end text from h
