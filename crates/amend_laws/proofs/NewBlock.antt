-- THE BLOCK OF AN AMENDMENT: a text that passes 11's test is one block of lines that names its service, and its rows are one block of a table;
-- where its lines pass, each row is in use. Assumes nothing.
use Rattle.std.specs.Prelude.{Ok, Option}
use Prim.Native.Nat.{ℕ}
use mathlib.Core.Path.{◌≡◌, refl}
use mathlib.Core.List.{List, [], ◌∷◌}
use mathlib.Core.Bool.{Bool, true, false, ◌&&◌, ◌||◌, not, false≢true}
use lib.Dec.{eqb}
use lib.ListN.{length, get_or, drop}
use borrow.Author.Tests.{eqb-true}
use Rattle.iff.specs.Bytes.{hash, at, digit}
use Rattle.iff.specs.Lists.{Group, members, all, any}
use Rattle.iff.specs.Refusals.{verdict_at, at_place}
use Rattle.iff.specs.Lines.{Line, lines, letter, is_hash, no_line}
use Rattle.iff.specs.Columns.{cols, Number, columns, fields_of, record_of, block_record, record_fields}
use Rattle.iff.specs.Values.{number_of, readable, words, field_words}
use Rattle.iff.specs.Tables.{Row, is_hash_row, row_width, padded}
use Rattle.iff.specs.Words.{named}
use Rattle.iff.specs.declared.File.TheVariants.{Timetbls}
use Rattle.iff.specs.declared.Form.{Form}
use Rattle.iff.specs.declared.InBlock.{InBlock}
use Rattle.iff_rules.specs.Rows.{row_of, block_row, block_rows_from, block_rows, stops_in, lines_in, as_block, Context}
use Rattle.iff_rules.specs.Load.{block_test, block_start, block_next, block_verdict, service_of}
use Rattle.iff_laws.specs.ScanLaws.{cons_fine, verdict_fine}
use Rattle.iff_laws.specs.TruthLaws.{both}
use Rattle.iff_laws.proofs.LineLaws.{line_passes}
use Rattle.iff_desk.specs.Parts.{is_head, inner, is_one_block}
use Rattle.tables.proofs.Each.{Each}
use Rattle.tables.proofs.Rows.{Used}
use Rattle.records.specs.Layouts.{legible}
use Rattle.records.proofs.FileLaws.{legible_line}
use Rattle.legs.proofs.RowLaws.{tag_is}
use Rattle.block_rows.proofs.RowLaws.{rows_used}
use Rattle.sound_laws.proofs.PassLaws.{Opens, scan_each}
use Rattle.sound_laws.proofs.TimetblsLaws.{block_of, none_open}
use Rattle.amend_laws.proofs.GroupLists.{all_of_each}
use Rattle.iff.specs.declared.Place.{Place}

-- ONE BLOCK OF LINES
-- the number in a `#` line
abbrev pub number_in : Line → ℕ
number_in l = number_of (columns l.body (cols 2 9 Number))

pub record OneBlock (s : ℕ) (b : List ℕ) : Type 0 where
  pub is : lines b ≡ members (as_block b)
  pub opens : Opens is_hash (as_block b)
  pub number_is : number_in (as_block b).top ≡ s

none_inside : (ls : List Line) → all inner ls ≡ true → any is_hash ls ≡ false
unfolding all any
none_inside [] e = refl
none_inside (l ∷ ls) e = go (is_hash l) (eqb (letter l) at) e (none_inside ls)
  where
    go : (a b : Bool) → (not (a || b) && all inner ls) ≡ true → (all inner ls ≡ true → any is_hash ls ≡ false) → (a || any is_hash ls) ≡ false
    go true b e ih = absurd (false≢true e)
    go false true e ih = absurd (false≢true e)
    go false false e ih = ih e

head_says : (s : ℕ) (l : Line) → is_head s l ≡ true → (is_hash l ≡ true) × (number_in l ≡ s)
unfolding is_head
head_says s l e =
    let a = both (is_hash l) _ (both (eqb (length l.body) 9) _ e).1 in
    (a.0, eqb-true _ _ (both (all digit (columns l.body (cols 2 9 Number))) _ a.1).1)

one_of_lines : (s : ℕ) (ls : List Line) → is_one_block s ls ≡ true
    → (ls ≡ get_or ls 0 no_line ∷ drop 1 ls)
    × ((is_hash (get_or ls 0 no_line) ≡ true) × ((any is_hash (drop 1 ls) ≡ false) × (number_in (get_or ls 0 no_line) ≡ s)))
unfolding is_one_block
one_of_lines s [] e = absurd (false≢true e)
one_of_lines s (l ∷ ls) e =
    let a = both (is_head s l) (all inner ls) (both (all (λ x. x.ended) (l ∷ ls)) _ e).1 in
    let h = head_says s l a.0 in
    (refl, (h.0, (none_inside ls a.1, h.1)))

pub one_block : (s : ℕ) (b : List ℕ) → is_one_block s (lines b) ≡ true → OneBlock s b
one_block s b e =
    let o = one_of_lines s (lines b) e in
    record { is = o.0; opens = (o.1.0, o.1.1.0); number_is = o.1.1.1 }

-- it names its service
pub service_is : (form : Form) (g : Group Line) → is_hash g.top ≡ true → service_of form g ≡ number_in g.top
unfolding row_of padded fields_of record_of block_record record_fields words field_words
service_is form g e = let z : letter g.top ≡ hash = eqb-true _ _ e in rw z

-- ITS ROWS
module _ (form : Form) (g : Group Line) where
  pub rows_are : block_rows form g ≡ members (block_of form g)
  unfolding block_rows_from
  rows_are = refl

  pub rows_open : Opens is_hash g → Opens is_hash_row (block_of form g)
  rows_open o = (rw tag_is o.0, none_open form (stops_in g) (lines_in g) 2 g.rest o.1)

  pub row_names : is_hash g.top ≡ true → named (block_of form g).top ≡ number_in g.top
  unfolding block_row padded fields_of record_of block_record record_fields words field_words
  row_names e = let z : letter g.top ≡ hash = eqb-true _ _ e in rw z

-- the block of rows that a text leaves
abbrev pub new_block : Form → List ℕ → Group Row
new_block form b = block_of form (as_block b)

-- IN USE, where the lines pass
any_line : (ls : List Line) → Each (λ l. Unit {0}) ls
any_line [] = tt
any_line (l ∷ ls) = (tt, any_line ls)

line_legible : (c : Context) (seen : List ℕ) (st : InBlock) (p : Option Place) (l : Line) → verdict_at p (block_test c seen st l) ≡ Ok tt → legible c.form l ≡ true
unfolding block_test
line_legible c seen st p l e =
    let s = (line_passes _).0 (verdict_fine p (block_test c seen st l) e) in
    legible_line c.form l s.is_laid_out (both (readable l.body (fields_of c.form Timetbls (letter l))) _ s.is_valued).0

module _ (c : Context) (seen : List ℕ) (o : ℕ) (g : Group Line) (e : block_verdict c seen o g ≡ Ok tt) where
  lines_legible : Each (λ l. legible c.form l ≡ true) (members g)
  unfolding block_verdict
  lines_legible =
      scan_each (λ st j l. verdict_at (at_place Timetbls o j) (block_test c seen st l)) block_next (λ l. Unit {0}) (λ l. legible c.form l ≡ true)
      (λ st j l u q. line_legible c seen st (at_place Timetbls o j) l q) block_start 1 (members g) (any_line (members g)) (cons_fine _ _ e).0

  pub rows_in_use : Each (Used (row_width Timetbls)) (block_rows c.form g)
  rows_in_use = rows_used c.form (stops_in g) (lines_in g) 1 (members g) (all_of_each (legible c.form) (members g) lines_legible)
