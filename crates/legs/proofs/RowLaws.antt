-- Laws of the rows of a block. Assumes nothing.
use Prim.Native.Nat.{ℕ, suc, ◌<◌}
use mathlib.Core.Path.{◌≡◌, refl, ap}
use mathlib.Core.List.{List, [], ◌∷◌}
use mathlib.Core.Bool.{Bool, true, false, cond}
use native.Mathlib.Omega.{arith}
use lib.Dec.{eqb}
use lib.ListN.{length, get_or, drop}
use Rattle.iff.specs.Lists.{total, kept, members}
use Rattle.iff.specs.Lines.{Line, lines, letter, no_line}
use Rattle.iff.specs.Tables.{Row, tag, padded}
use Rattle.iff.specs.declared.Form.{Form}
use Rattle.text.proofs.LineLaws.{lines_step}
use Rattle.iff_rules.specs.Order.{is_stop}
use Rattle.iff_rules.specs.Legs.{covering, of_kind, stops_of}
use Rattle.iff_rules.specs.Rows.{block_row, block_rows_from, as_block}
use Rattle.legs.specs.Rows.{times}

-- the row of a line has the line's letter
pub tag_is : (form : Form) (n c j : ℕ) (l : Line) → tag (block_row form n c j l) ≡ letter l
unfolding block_row padded
tag_is form n c j l = refl

-- the records of a kind, counted among all
pub kind_times : (x k : ℕ) (rs : List Row) → covering k (of_kind x rs) ≡ total (times x k) rs
unfolding total kept times
kind_times x k [] = refl
kind_times x k (r ∷ rs) = go (eqb (tag r) x) refl (kind_times x k rs)
  where
    go : (b : Bool) → eqb (tag r) x ≡ b → covering k (of_kind x rs) ≡ total (times x k) rs
        → covering k (of_kind x (r ∷ rs)) ≡ total (times x k) (r ∷ rs)
    go true e ih = rw (e, ih)
    go false e ih = rw (e, ih) (omega arith)

-- n, of rows and of lines
one_more : (b : Bool) (r : Row) (l : Line) (rs : List Row) (ls : List Line) → length rs ≡ length ls
    → length (cond b (r ∷ rs) rs) ≡ length (cond b (l ∷ ls) ls)
one_more true r l rs ls e = rw e
one_more false r l rs ls e = e

pub stops_same : (form : Form) (n c j : ℕ) (ls : List Line) → stops_of (block_rows_from form n c j ls) ≡ length (kept (λ l. is_stop (letter l)) ls)
unfolding kept block_rows_from
stops_same form n c j [] = refl
stops_same form n c j (l ∷ ls) = rw (tag_is form n c j l) (one_more (is_stop (letter l)) _ l _ _ (stops_same form n c (suc j) ls))

-- a text that is not empty is its lines, as one block
whole : (ls : List Line) → 0 < length ls → (get_or ls 0 no_line ∷ drop 1 ls) ≡ ls
whole [] h = absurd (omega arith)
whole (l ∷ ls) h = refl

pub block_lines_lem : (b : List ℕ) → 0 < length b → members (as_block b) ≡ lines b
block_lines_lem b h = whole (lines b) (omega (arith, ap length (lines_step b h)))
