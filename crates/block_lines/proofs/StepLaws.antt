-- Laws of one line's work: what each way out of it says of the line. Assumes nothing.
use Rattle.std.specs.Prelude.{Err, None, Ok, Some}
use Prim.Native.Nat.{ℕ, suc, ◌+◌, ◌≤◌}
use mathlib.Core.Path.{◌≡◌, refl, ap, sym, ◌∙◌}
use mathlib.Core.List.{List}
use mathlib.Core.Bool.{Bool, true, false, cond}
use native.Mathlib.Omega.{arith}
use lib.ListN.{length}
use Rattle.iff.specs.Lines.{Line, letter}
use Rattle.iff.specs.Columns.{record_fields, block_record, fields_of}
use Rattle.iff.specs.Values.{word_count}
use Rattle.iff.specs.Tables.{Row, row_width, is_hash_row}
use Rattle.iff.specs.declared.Form.{Form}
use Rattle.iff.specs.declared.Record.{Record}
use Rattle.iff.specs.declared.File.TheVariants.{Timetbls}
use Rattle.iff.specs.declared.Reason.{Reason}
use Rattle.iff.specs.declared.Reason.TheVariants.{Layout, Value, Order, Duplicate, Reference}
use Rattle.iff.specs.declared.Stand.{Stand}
use Rattle.iff.specs.declared.InBlock.{InBlock}
use Rattle.iff_rules.specs.Order.{known_in_block, goes, is_stop}
use Rattle.iff_rules.specs.Rows.{row_of, Context}
use Rattle.iff_rules.specs.Meaning.{block_meaning}
use Rattle.iff_rules.specs.References.{met_in_block}
use Rattle.iff_rules.specs.Legs.{one}
use Rattle.iff_rules.specs.Load.{block_moves}
use Rattle.references.specs.declared.BlockCounts.{BlockCounts}
use Rattle.references.specs.Agree.{BlockKeysAmong}
use Rattle.records.specs.Layouts.{layout_test}
use Rattle.records.specs.Facts.{LineRead}
use Rattle.records.proofs.FileLaws.{block_fields, block_room, block_put}
use Rattle.block_lines.specs.Lines.{keys_from, row_test, record_test, block_step}
use Rattle.block_lines.proofs.TestLaws.{test_in_order}
use Rattle.iff.specs.Refusals.{Test}

-- the lent tables' own context
pub keys_agree : (form : Form) (n : BlockCounts) (co mo st fo : List ℕ) → BlockKeysAmong (keys_from form n co mo st fo) n co mo st fo
unfolding keys_from
keys_agree form n co mo st fo = record { companies = refl; modes = refl; stations = refl; footnotes = refl }

-- A ROW
module _ (c : Context) (fresh : Bool) (stops : ℕ) (r : Row) where
  pub bad_value : block_meaning stops r ≡ false → Err Value ≡ row_test c fresh stops r
  bad_value m = rw m

  pub not_new : block_meaning stops r ≡ true → cond (is_hash_row r) fresh true ≡ false → Err Duplicate ≡ row_test c fresh stops r
  not_new m n = rw (m, n)

  pub not_met : block_meaning stops r ≡ true → cond (is_hash_row r) fresh true ≡ true → met_in_block c r ≡ false
      → Err Reference ≡ row_test c fresh stops r
  not_met m n k = rw (m, n, k)

  pub row_passes : block_meaning stops r ≡ true → cond (is_hash_row r) fresh true ≡ true → met_in_block c r ≡ true
      → Ok tt ≡ row_test c fresh stops r
  row_passes m n k = rw (m, n, k)

-- A RECORD of a line, and its row
pub has_room : (form : Form) (x : ℕ) (kind : Record) → kind ≡ block_record x → suc (word_count (record_fields form kind)) ≤ row_width Timetbls
has_room form x kind is = omega (arith, rw (sym is) at (block_room form x))

module _ (c : Context) (fresh : Bool) (stops : ℕ) (l : Line) (x : ℕ) (kind : Record) (head : x ≡ letter l) (is : kind ≡ block_record x) where
  fields_read : record_fields c.form kind ≡ fields_of c.form Timetbls (letter l)
  fields_read = sym (block_fields c.form (letter l) ∙ rw (is, head))

  module _ (was row : Row) (t : Test) (read : LineRead c.form kind x l was row t) where
    same_layout : t ≡ layout_test l (fields_of c.form Timetbls (letter l))
    same_layout = read.test ∙ ap (layout_test l) fields_read

    pub layout_fails : (w : Reason) → t ≡ Err w → Err w ≡ record_test c fresh stops l
    layout_fails w f = rw (sym same_layout ∙ f)

    pub layout_passes : length was ≡ row_width Timetbls → t ≡ Ok tt → (r : Test) → r ≡ row_test c fresh stops row → r ≡ record_test c fresh stops l
    layout_passes n f r g =
        let s : row ≡ row_of c.form Timetbls l = read.row f ∙ rw (n, is, head) (block_put c.form l) in
        rw (sym same_layout ∙ f, ← s) g

-- A LINE
module _ (c : Context) (fresh : Bool) (st : InBlock) (l : Line) (x : ℕ) (head : x ≡ letter l) where
  pub unknown : known_in_block x ≡ false → Err Layout ≡ block_step c fresh st l
  unfolding block_step
  unknown k = rw (test_in_order, ← head, k)

  pub out_of_order : known_in_block x ≡ true → goes st.stand x ≡ None → Err Order ≡ block_step c fresh st l
  unfolding block_step
  out_of_order k g = rw (test_in_order, ← head, k, g)

  pub no_record : known_in_block x ≡ true → (to : Stand) → goes st.stand x ≡ Some to → (w : Reason) → record_test c fresh st.stops l ≡ Err w
      → Err w ≡ block_step c fresh st l
  unfolding block_step
  no_record k to g w e = rw (test_in_order, e, ← head, k, g)

  pub let_through : known_in_block x ≡ true → (to : Stand) → goes st.stand x ≡ Some to → record_test c fresh st.stops l ≡ Ok tt
      → (next : InBlock) → next ≡ record { stand = to; stops = st.stops + one (is_stop x) } → Ok next ≡ block_step c fresh st l
  unfolding block_step block_moves
  let_through k to g e next q = rw (q, test_in_order, e, ← head, k, g)
