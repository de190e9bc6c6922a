-- A line of a file without record letters: its row's tests by what the code found. Assumes nothing.
use Rattle.std.specs.Prelude.{Err, Ok, Result}
use Prim.Native.Nat.{ℕ, suc, ◌+◌, ◌*◌, ◌≤◌}
use mathlib.Core.Path.{◌≡◌, refl, sym, ◌∙◌}
use mathlib.Core.List.{List, [], ◌∷◌}
use mathlib.Core.Bool.{Bool, true, not}
use native.Mathlib.Omega.{arith}
use lib.Dec.{eqb}
use lib.ListN.{length}
use Rattle.iff.specs.Lists.{has}
use Rattle.iff.specs.Refusals.{first_test, unless, Test}
use Rattle.iff.specs.Lines.{Line, lines, letter}
use Rattle.iff.specs.Tables.{Row, word, tag, letterless, row_width, key_tag, key_word, padded, put_row}
use Rattle.iff.specs.declared.RowFile.{RowFile}
use Rattle.iff.specs.declared.File.TheVariants.{Rows}
use Rattle.iff.specs.declared.Form.{Form}
use Rattle.iff.specs.declared.Reason.TheVariants.{Value, Duplicate, Reference}
use Rattle.iff_rules.specs.Rows.{row_of, Context}
use Rattle.iff_rules.specs.Meaning.{row_meaning}
use Rattle.iff_rules.specs.Unique.{fresh_key, fresh_texts}
use Rattle.iff_rules.specs.References.{met_by_row}
use Rattle.keys.specs.Lookup.{keys_in}
use Rattle.references.specs.Agree.{StationKeysAmong}
use Rattle.references.specs.declared.StationCounts.{StationCounts}
use Rattle.fresh_texts.specs.Texts.{as_line}
use Rattle.records.specs.Layouts.{layout_test}
use Rattle.file_rows.specs.Tests.{plain_row_test}
use Rattle.iff.specs.Columns.{record_fields, row_record, fields_of}
use Rattle.iff.specs.Values.{words, word_count}
use Rattle.iff.specs.declared.Record.{Record}
use Rattle.iff.specs.declared.Reason.{Reason}
use Rattle.tables.proofs.Put.{length_put}
use Rattle.records.proofs.FileLaws.{row_fields, row_length, row_tag, row_put, row_room}
use Rattle.fresh_keys.specs.Runs.{run_of}
use Rattle.fresh_keys.specs.declared.KeyRun.{KeyRun}
use Rattle.file_rows.specs.Plain.{Earlier, LinesMarked, PlainRow, RowStored, LineAdded}
use Rattle.file_rows.proofs.TestLaws.{plain_split}

-- the four tests as the code makes them
unfoldable pub row_tests : Bool → Bool → Bool → Bool → Test
row_tests m k x g = first_test (unless m Value ∷ unless k Duplicate ∷ unless x Duplicate ∷ unless g Reference ∷ [])

module _ (f : RowFile) (count : ℕ) (before t line : List ℕ) (r : Row) (keyed : eqb (tag r) (key_tag (Rows f)) ≡ true) (m k x g : Bool)
    (c : Context) (earlier : List Line) (e : Earlier c f count before t earlier) where
  pub row_test_is : m ≡ row_meaning f count r → k ≡ not (has (word r (key_word (Rows f))) (keys_in (Rows f) t))
      → x ≡ fresh_texts f (lines before) (as_line line) → g ≡ met_by_row c f r
      → row_tests m k x g ≡ plain_row_test c f earlier (as_line line) r
  unfolding row_tests plain_row_test fresh_key
  row_test_is p q s u = rw (p, q, s, u, e.number, e.keys, e.text, keyed)

-- a row that is refused, and one that is kept
module _ (f : RowFile) (count : ℕ) (before : List ℕ) (counts : StationCounts) (countries zones : List ℕ) (l : Line) (row was : List ℕ) (x : Test)
    (says : (c : Context) → StationKeysAmong c counts countries zones → (earlier : List Line) → Earlier c f count before was earlier
    → x ≡ plain_row_test c f earlier l row) where
  pub row_refused : (k : Reason) → x ≡ Err k → RowStored f count before counts countries zones l row was was (Err k)
  row_refused k p =
      record {
        test = λ c s earlier e. sym p ∙ says c s earlier e;
        table = λ q. absurd (let z : ◌≡◌ {A = ℕ} 0 1 = cc in omega arith);
        key = λ q. absurd (let z : ◌≡◌ {A = ℕ} 0 1 = cc in omega arith);
        kept = refl;
      }

  pub row_stored : (is : List ℕ) (key w k : ℕ) → x ≡ Ok tt → length row ≡ w → w ≡ row_width (Rows f)
      → (count + 1) * row_width (Rows f) + row_width (Rows f) ≤ length was → is ≡ put_row w was (count + 1) row
      → k ≡ key_word (Rows f) → key ≡ word row k → RowStored f count before counts countries zones l row was is (Ok key)
  row_stored is key w k p n m h q d e =
      record {
        test = λ c s earlier g. sym p ∙ says c s earlier g;
        table = λ z. q ∙ rw m;
        key = λ z. e ∙ rw d;
        kept = rw (q, m) (length_put (row_width (Rows f)) was (count + 1) row (n ∙ m) h);
      }

-- a line that is refused by its layout, and one whose row is read
module _ (f : RowFile) (form : Form) (count : ℕ) (before : List ℕ) (counts : StationCounts) (countries zones : List ℕ) (l : Line) (was : List ℕ)
    (kind : Record) (k : kind ≡ row_record f)
  where
    layout_is : (c : Context) → c.form ≡ form → layout_test l (fields_of c.form (Rows f) (letter l)) ≡ layout_test l (record_fields form kind)
    layout_is c d = rw (row_fields c.form f (letter l), d, k)

    pub line_refused : (x : Test) (r : Reason) → x ≡ layout_test l (record_fields form kind) → x ≡ Err r
        → LineAdded f form count before counts countries zones l was was (Err r)
    line_refused x r e p =
        record {
          test = λ c d s earlier g. sym (plain_split c f earlier l ∙ rw (layout_is c d, ← e, p));
          table = λ q. absurd (let z : ◌≡◌ {A = ℕ} 0 1 = cc in omega arith);
          key = λ q. absurd (let z : ◌≡◌ {A = ℕ} 0 1 = cc in omega arith);
          kept = refl;
        }

    module _ (x : Test) (e : x ≡ layout_test l (record_fields form kind)) (p : x ≡ Ok tt) (room row : List ℕ) (n : length room ≡ row_width (Rows f))
        (w : row ≡ padded (length room) (letterless ∷ words 0 l.body (record_fields form kind))) where
      pub row_is : row ≡ row_of form (Rows f) l
      row_is = w ∙ (rw (n, k) (row_put form f l))

      pub row_plain : (t : List ℕ) (run : KeyRun) (marks : List ℕ) → run ≡ run_of (keys_in (Rows f) t) → LinesMarked f before t marks
          → PlainRow f row before t run marks
      row_plain t run marks r m =
          record {
            width = rw row_is (row_length form (Rows f) l);
            keyed = rw (row_is, row_tag form (Rows f) l);
            runs = r;
            marked = m;
          }

      pub line_added : (is : List ℕ) (r : Result ℕ Reason) → RowStored f count before counts countries zones (as_line l.body) row was is r
          → LineAdded f form count before counts countries zones l was is r
      unfolding plain_row_test fresh_texts
      line_added is r d =
          record {
            test = λ c q s earlier g. d.test c s earlier g ∙ sym (plain_split c f earlier l ∙ rw (layout_is c q, ← e, p, q, ← row_is));
            table = λ z. d.table z ∙ rw row_is;
            key = λ z. d.key z ∙ rw row_is;
            kept = d.kept;
          }

-- room for a line's row
pub room_for : (f : RowFile) (form : Form) (n : ℕ) (kind : Record) → kind ≡ row_record f → n ≡ row_width (Rows f)
    → suc (word_count (record_fields form kind)) ≤ n
room_for f form n kind k e = rw (k, e) (row_room form f)
