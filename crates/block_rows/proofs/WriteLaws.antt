-- Laws of a block's rows put into a table one after the other. Assumes nothing.
use Prim.Native.Nat.{ℕ, suc, ◌+◌, ◌*◌, ◌≤◌}
use mathlib.Core.Path.{◌≡◌, refl, ap, sym, ◌∙◌}
use mathlib.Core.List.{List, [], ◌∷◌, ◌++◌}
use mathlib.Core.Bool.{true}
use native.Mathlib.Nat.{add-zero}
use native.Mathlib.Numerals.{add-one}
use native.Mathlib.Omega.{arith}
use lib.ListN.{length, take, drop}
use Rattle.iff.specs.Lists.{all, members}
use Rattle.iff.specs.Lines.{Line, lines}
use Rattle.iff.specs.Tables.{Row, row_width, joined, put_row}
use Rattle.iff.specs.declared.Form.{Form}
use Rattle.iff.specs.declared.File.TheVariants.{Timetbls}
use Rattle.iff_rules.specs.Rows.{stops_in, block_row, block_rows_from, block_rows, as_block}
use Rattle.text.proofs.PictureLaws.{and_left, and_right}
use Rattle.tables.proofs.Puts.{used_wide, put_rows, rows_put}
use Rattle.legs.proofs.RowLaws.{block_lines_lem}
use Rattle.records.specs.Layouts.{legible}
use Rattle.records.proofs.FileLaws.{can_be_put}
use Rattle.blocks.specs.Whole.{WholeBlock}
use Rattle.block_rows.specs.Written.{Readable, Placeable}
use Rattle.block_rows.proofs.RowLaws.{ended_line, any_end, rows_used, rows_count}

-- how many words a row has
abbrev w : ℕ
w = row_width Timetbls

-- one row, and what it holds
pub line_put : (t to : List ℕ) (i : ℕ) (row r : Row) → to ≡ put_row w t i row → row ≡ r → to ≡ put_row w t i r
line_put t to i row r p q = p ∙ ap (put_row w t i) q

-- A LOOP OVER THE LINES of a block, after `done` of them and with these left: what is left to put is the whole
pub record Writing (form : Form) (ls : List Line) (was is : List ℕ) (k n start done : ℕ) (left : List Line) : Type 0 where
  pub counted : done + length left ≡ k
  pub each : all (legible form) left ≡ true
  pub kept : length is ≡ length was
  pub whole :
      put_rows w was start (block_rows_from form n k 1 ls) ≡ put_rows w is (start + done) (block_rows_from form n k (suc done) left)

whole_count : (form : Form) (b : List ℕ) (k n : ℕ) → WholeBlock form b k n → length (lines b) ≡ k
whole_count form b k n x = omega (arith, x.counted, ap length (block_lines_lem b x.some))

pub write_start : (form : Form) (b t : List ℕ) (k n start done : ℕ) (left : List Line) → done ≡ 0 → left ≡ lines b → Placeable form b t k n start
    → Writing form (lines b) t t k n start done left
write_start form b t k n start done left z q p =
    rw (z, q) (record { counted = omega (arith, whole_count form b k n p.whole); each = p.whole.each; kept = refl; whole = rw add-zero })

module _ (form : Form) (b was is : List ℕ) (k n start done : ℕ) (left rest : List Line) (l : Line) (p : Placeable form b was k n start)
    (x : Writing form (lines b) was is k n start done left) (e : left ≡ l ∷ rest) where
  here : legible form l ≡ true
  unfolding all
  here = and_left (legible form l) _ (sym (ap (all (legible form)) e) ∙ x.each)

  one_less : done + 1 + length rest ≡ k
  one_less = omega (arith, x.counted, ap length e)

  pub line_readable : Readable form l.body w
  line_readable = can_be_put form l here w (omega arith)

  pub line_room : (start + done) * w + w ≤ length is
  line_room = omega (arith, one_less, x.kept, p.room)

  pub write_next : (to : List ℕ) → to ≡ put_row w is (start + done) (block_row form n k (done + 1) (ended_line l.body))
      → length to ≡ length is → Writing form (lines b) was to k n start (done + 1) rest
  unfolding put_rows block_rows_from all
  write_next to y m =
      let i : start + (done + 1) ≡ suc (start + done) = omega arith in
      record {
        counted = one_less;
        each = and_right (legible form l) _ (sym (ap (all (legible form)) e) ∙ x.each);
        kept = m ∙ x.kept;
        whole = x.whole ∙ rw (e, y, i, add-one, any_end form n k (suc done) l);
      }

-- all lines are put
pub write_end : (form : Form) (b was is : List ℕ) (k n start done : ℕ) (left : List Line) → Placeable form b was k n start
    → Writing form (lines b) was is k n start done left → left ≡ []
    → is ≡ take (start * w) was ++ (joined (block_rows form (as_block b)) ++ drop ((start + k) * w) was)
unfolding put_rows block_rows_from
write_end form b was is k n start done left p x h =
    let c = p.whole.counted in
    let v = p.whole.stops in
    let m : members (as_block b) ≡ lines b = block_lines_lem b p.whole.some in
    let r : block_rows_from form n k 1 (lines b) ≡ block_rows form (as_block b) =
    ap (block_rows_from form n k 1) (sym m)
    ∙ (ap (λ (i : ℕ). block_rows_from form i k 1 (members (as_block b))) v
    ∙ ap (λ (i : ℕ). block_rows_from form (stops_in (as_block b)) i 1 (members (as_block b))) c) in
    let q : length (block_rows_from form n k 1 (lines b)) ≡ k = rows_count form n k 1 (lines b) ∙ whole_count form b k n p.whole in
    let z : put_rows w is (start + done) (block_rows_from form n k (suc done) left) ≡ is = rw h in
    let rows = block_rows_from form n k 1 (lines b) in
    sym z ∙ sym x.whole
    ∙ rows_put w rows (used_wide w rows (rows_used form n k 1 (lines b) p.whole.each)) was start (rw q p.room)
    ∙ rw (q, r)
