-- Laws of the lengths of files: lines one after the other, and so few that they fit whatever they are. Assumes nothing.
use Prim.Native.Nat.{ℕ, zero, suc, ◌+◌, ◌-◌, ◌*◌, ◌/◌, ◌≤◌, ◌<◌}
use mathlib.Core.Path.{◌≡◌, refl, ap, sym, ◌∙◌}
use mathlib.Core.List.{List, [], ◌∷◌}
use mathlib.Core.Bool.{Bool, true, false, false≢true}
use native.Mathlib.Nat.{suc-mul, mul-le-mul_right, le-div_iff_mul-le}
use native.Mathlib.Omega.{arith}
use native.Mathlib.Numerals.{add-one}
use lib.Dec.{leb, lit≤}
use lib.ListN.{length}
use borrow.Author.Tests.{leb-true, leb-false, le-leb, lt-leb}
use Rattle.iff.specs.Lists.{total}
use Rattle.iff.specs.Files.{limit}
use Rattle.iff.specs.Columns.{picture_from, record_of, fields_of}
use Rattle.iff.specs.Tables.{Row, tag, row_at, row_width}
use Rattle.iff.specs.declared.Form.{Form}
use Rattle.iff.specs.declared.File.{File}
use Rattle.iff.specs.declared.Record.{Record}
use Rattle.iff_desk.specs.Sound.{row_size, first_size}
use Rattle.keys.specs.Blocks.{block_of_rows, rows_between}
use Rattle.row_sizes.specs.Few.{FewLines}
use Rattle.row_sizes.proofs.LineLaws.{Longest, line_length}

-- what a file may have behind its first line
abbrev pub room : ℕ
room = limit - 60

first_size_lem : first_size ≡ 60
unfolding picture_from
first_size_lem = refl

-- FEW LINES
total_most : (size : Row → ℕ) (m : ℕ) → ((r : Row) → size r ≤ m) → (rs : List Row) → total size rs ≤ length rs * m
unfolding total
total_most size m h [] = omega arith
total_most size m h (r ∷ rs) = rw suc-mul (omega (arith, h r, total_most size m h rs))

pub few_fit : (form : Form) (f : File) (used n : ℕ) → Longest form f n → (b : Bool) → b ≡ leb used (room / (n + 2)) → FewLines form f used b
few_fit form f used n h b e = record { fit = λ q rows l. fits (leb-true _ _ (sym e ∙ q)) rows l }
  where
    fits : used ≤ room / (n + 2) → (rows : List Row) → length rows ≤ used → first_size + total (row_size form f) rows ≤ limit
    fits g rows l =
        let p : used * (n + 2) ≤ room = (le-div_iff_mul-le {k = n + 2} {x = used} {y = room} (omega arith)).0 g in
        let q : length rows * (n + 2) ≤ used * (n + 2) = mul-le-mul_right (n + 2) l in
        let t = total_most (row_size form f) (n + 2) (λ r. omega (arith, h (tag r))) rows in
        rw first_size_lem (omega arith)

pub none_few : (form : Form) (f : File) (used : ℕ) → FewLines form f used false
none_few form f used = record { fit = λ q. absurd (false≢true q) }

-- where they are few, those of a table fit
pub count_between : (w : ℕ) (t : List ℕ) (i k : ℕ) → length (block_of_rows w t i k) ≡ k
unfolding block_of_rows
count_between w t i zero = refl
count_between w t i (suc k) = ap suc (count_between w t (suc i) k)

pub few_rows : (form : Form) (f : File) (used : ℕ) (b : Bool) → FewLines form f used b → b ≡ true → (w : ℕ) (t : List ℕ)
    → true ≡ leb (first_size + total (row_size form f) (rows_between w t 1 used)) limit
few_rows form f used b h e w t = sym (le-leb _ _ (h.fit e (rows_between w t 1 used) (omega (arith, count_between w t 1 (used - 1)))))

-- LINE BY LINE: what is left of the limit has room for the lines that are left exactly where all fit
pub record Counting (form : Form) (f : File) (t : List ℕ) (used left i : ℕ) : Type 0 where
  pub whole : leb (first_size + total (row_size form f) (rows_between (row_width f) t 1 used)) limit
      ≡ leb (total (row_size form f) (rows_between (row_width f) t i used)) left

-- a part taken from both sides
taken : (a b c : ℕ) → a ≤ c → leb (a + b) c ≡ leb b (c - a)
taken a b c h = go (leb b (c - a)) refl
  where
    go : (r : Bool) → leb b (c - a) ≡ r → leb (a + b) c ≡ r
    go true e = le-leb (a + b) c (omega (arith, leb-true b (c - a) e))
    go false e = lt-leb (a + b) c (omega (arith, leb-false b (c - a) e))

pub count_begin : (form : Form) (f : File) (t : List ℕ) (used : ℕ) → Counting form f t used room 1
count_begin form f t used =
    record { whole = rw first_size_lem (taken 60 (total (row_size form f) (rows_between (row_width f) t 1 used)) limit (lit≤ tt)) }

module _ (form : Form) (f : File) (t : List ℕ) (used left i n : ℕ) (l : Counting form f t used left i)
    (e : n ≡ line_length form (record_of f (tag (row_at (row_width f) t i)))) where
  module _ (h : i < used) where
    step : total (row_size form f) (rows_between (row_width f) t i used)
        ≡ n + 2 + total (row_size form f) (rows_between (row_width f) t (i + 1) used)
    unfolding total block_of_rows fields_of
    step =
        let z : used - i ≡ suc (used - suc i) = omega arith in
        rw (z, add-one, e)

    pub count_on : n ≤ left → 2 ≤ left - n → Counting form f t used (left - n - 2) (i + 1)
    count_on p q =
        let s : left - (n + 2) ≡ left - n - 2 = omega arith in
        record { whole = l.whole ∙ rw step (taken (n + 2) _ left (omega arith) ∙ rw s) }

    pub count_fails : left < n + 2 → false ≡ leb (first_size + total (row_size form f) (rows_between (row_width f) t 1 used)) limit
    count_fails p =
        sym (l.whole ∙ lt-leb (total (row_size form f) (rows_between (row_width f) t i used)) left (omega (arith, step)))

pub count_end : (form : Form) (f : File) (t : List ℕ) (used left i : ℕ) → Counting form f t used left i → used ≤ i
    → true ≡ leb (first_size + total (row_size form f) (rows_between (row_width f) t 1 used)) limit
unfolding total block_of_rows
count_end form f t used left i l h =
    let z : used - i ≡ 0 = omega arith in
    sym (l.whole ∙ rw z (le-leb 0 left (omega arith)))

-- the line that a row stands for, as the code finds its length
pub line_of : (form : Form) (f : File) (t : List ℕ) (w i x n : ℕ) (r : Record) → w ≡ row_width f → x ≡ tag (row_at w t i) → r ≡ record_of f x
    → n ≡ line_length form r → n ≡ line_length form (record_of f (tag (row_at (row_width f) t i)))
line_of form f t w i x n r a b c d = d ∙ rw (c, b, a)
