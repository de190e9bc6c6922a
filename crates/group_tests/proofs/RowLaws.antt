-- The tests of a line that is put to a group, and its row. Assumes nothing.
use Rattle.std.specs.Prelude.{Err, Ok}
use Prim.Native.Nat.{ℕ}
use mathlib.Core.Path.{◌≡◌, sym, ◌∙◌}
use mathlib.Core.List.{List}
use Rattle.iff.specs.Refusals.{or_test, Test}
use Rattle.iff.specs.Lines.{Line}
use Rattle.iff.specs.declared.GroupFile.{GroupFile}
use Rattle.iff.specs.declared.File.TheVariants.{Groups}
use Rattle.iff.specs.declared.Form.{Form}
use Rattle.iff.specs.declared.Reason.{Reason}
use Rattle.iff_rules.specs.Rows.{row_of, Context}
use Rattle.iff_rules.specs.Load.{group_test}
use Rattle.keys.specs.Lookup.{keys_in}
use Rattle.group_tests.specs.Tests.{group_row_test}
use Rattle.open_groups.specs.Open.{open_rows, Beside}
use Rattle.group_tests.specs.Facts.{RowMade, RowTested}
use Rattle.open_groups.specs.declared.Open.{Open}
use Rattle.group_tests.proofs.TestLaws.{group_split}
use Rattle.group_tests.proofs.LineLaws.{fails_not}

module _ (f : GroupFile) (form : Form) (rows : ℕ) (g : Open) (Agree : Context → Type 0) (l : Line) (t marks : List ℕ) (b : Beside f rows g t marks) where
  abbrev seen : List ℕ
  seen = keys_in (Groups f) t

  module _ (was is : List ℕ) (p : Test) (m : RowMade f form g.stand l was is p) where
    tests_are : (c : Context) → c.form ≡ form
        → group_test c f seen (open_rows f t rows g.size) l
        ≡ or_test p (group_row_test c f seen (open_rows f t rows g.size) (row_of form (Groups f) l))
    tests_are c d = rw (group_split c f seen (open_rows f t rows g.size) l, d, ← b.stands, ← m.test)

    -- the line alone is refused
    pub tested_no : (r : Reason) → p ≡ Err r → RowTested f form rows g Agree l t was is (Err r)
    tested_no r q =
        record {
          test = λ c d a. sym (tests_are c d ∙ rw q);
          row = λ n. absurd (fails_not r n);
          used = λ n. absurd (fails_not r n);
          kept = m.kept;
        }

    -- or not, and its row is tested
    pub tested : p ≡ Ok tt → (r : Test)
        → ((c : Context) → Agree c → r ≡ group_row_test c f seen (open_rows f t rows g.size) is)
        → RowTested f form rows g Agree l t was is r
    tested q r e =
        let s : is ≡ row_of form (Groups f) l = m.row q in
        record {
          test = λ c d a. sym (tests_are c d ∙ rw (q, ← s) (sym (e c a)));
          row = λ n. s;
          used = λ n. m.used q;
          kept = m.kept;
        }
