-- The rows of a block as the test of its legs sees them. Assumes nothing.
use Prim.Native.Nat.{ℕ, suc, ◌≤◌, ◌<◌}
use mathlib.Core.Path.{◌≡◌, refl, sym, ◌∙◌}
use mathlib.Core.List.{List, [], ◌∷◌, ◌++◌, append-nil}
use mathlib.Core.Bool.{Bool, true, false, false≢true}
use native.Mathlib.Omega.{arith}
use lib.Dec.{eqb}
use lib.ListN.{length, get_or, length-append, length-replicate, get_or-append}
use borrow.Author.Tests.{eqb-true}
use Rattle.iff.specs.Bytes.{hash}
use Rattle.iff.specs.Columns.{fields_of, record_of, record_fields, block_record}
use Rattle.iff.specs.Lists.{all, any, total}
use Rattle.iff.specs.Lines.{Line, is_hash}
use Rattle.iff.specs.Values.{words}
use Rattle.iff.specs.Tables.{Row, word, tag, padded}
use Rattle.iff.specs.declared.Form.{Form}
use Rattle.iff.specs.declared.Record.{Record}
use Rattle.iff.specs.declared.File.TheVariants.{Timetbls}
use Rattle.iff_rules.specs.Legs.{Reach, covering, of_kind, reach_of, in_range}
use Rattle.iff_rules.specs.Rows.{line_words, counts, block_row, block_rows_from}
use Rattle.records.specs.Facts.{Legible}
use Rattle.legs.specs.Rows.{covers, times}
use Rattle.legs.proofs.RowLaws.{tag_is, kind_times}
use Rattle.block_legs.specs.Sight.{record_width, CanBePut, line_row, line_in_range, lines_times}

-- THE ROW OF A LINE'S RECORD
pub line_tag : (form : Form) (n : ℕ) (b : List ℕ) → tag (line_row form n b) ≡ get_or b 0 0
unfolding line_row padded
line_tag form n b = refl

-- read by its letter's record
pub reads_row : (form : Form) (body : List ℕ) (r : Record) (x : ℕ) → x ≡ get_or body 0 0 → r ≡ block_record x → CanBePut form body
    → (room : ℕ) → room ≡ record_width → Legible form r body room
reads_row form body r x p q e room h = rw (q, p, h) e

pub row_read : (form : Form) (n : ℕ) (body row : List ℕ) (r : Record) (x : ℕ) → x ≡ get_or body 0 0 → r ≡ block_record x
    → (room : ℕ) → room ≡ record_width → row ≡ padded room (x ∷ words n body (record_fields form r)) → row ≡ line_row form n body
unfolding line_row
row_read form n body row r x p q room h e = e ∙ rw (h, q, p)

-- A ROW OF A BLOCK AND ITS LINE'S RECORD
wide : (ws : List ℕ) → record_width ≤ length (padded record_width ws)
unfolding padded
wide ws = rw (length-append, length-replicate) (omega arith)

number_last : (ws t : List ℕ) (j i : ℕ) → t ≡ [] → i < record_width
    → get_or (padded record_width (ws ++ t) ++ (j ∷ [])) i 0 ≡ get_or (padded record_width ws) i 0
number_last ws t j i z h = rw (z, append-nil) (get_or-append (padded record_width ws) (j ∷ []) 0 i (omega (arith, wide ws)))

pub line_wide : (form : Form) (n : ℕ) (b : List ℕ) → 5 ≤ length (line_row form n b)
unfolding line_row
line_wide form n b = omega (arith, wide (get_or b 0 0 ∷ words n b (record_fields form (block_record (get_or b 0 0)))))

-- but for `#`, which has counts, a row is its line's record and the line's number
line_word : (form : Form) (n c j : ℕ) (l : Line) → is_hash l ≡ false → (i : ℕ) → i < record_width
    → word (block_row form n c j l) i ≡ word (line_row form n l.body) i
unfolding block_row line_row fields_of record_of
line_word form n c j l e i h = number_last (line_words n form Timetbls l) (counts n c (is_hash l)) j i (rw e) h

-- what the test of the legs reads of a row is its letter and the four words behind it
pub record Words (r s : Row) : Type 0 where
  pub one : word r 1 ≡ word s 1
  pub two : word r 2 ≡ word s 2
  pub three : word r 3 ≡ word s 3
  pub four : word r 4 ≡ word s 4

abbrev Alike : Row → Row → Type 0
Alike r s = (tag r ≡ tag s) × (eqb (tag r) hash ≡ false → Words r s)

alike : (form : Form) (n c j : ℕ) (l : Line) → Alike (block_row form n c j l) (line_row form n l.body)
alike form n c j l = (
  tag_is form n c j l ∙ sym (line_tag form n l.body),
  λ e.
      let q : is_hash l ≡ false = rw (tag_is form n c j l) at e in
      record {
        one = line_word form n c j l q 1 (omega arith);
        two = line_word form n c j l q 2 (omega arith);
        three = line_word form n c j l q 3 (omega arith);
        four = line_word form n c j l q 4 (omega arith);
      },
)

range_alike : (reach : ℕ → Reach) (n : ℕ) (r s : Row) → Alike r s → in_range reach n r ≡ in_range reach n s
unfolding in_range
range_alike reach n r s a = go (eqb (tag r) hash) refl
  where
    go : (b : Bool) → eqb (tag r) hash ≡ b → in_range reach n r ≡ in_range reach n s
    go true e =
        let q : tag r ≡ hash = eqb-true (tag r) hash e in
        let p : tag s ≡ hash = sym a.0 ∙ q in
        rw (q, p)
    go false e = let w = a.1 e in rw (a.0, w.one, w.two, w.three, w.four)

pub covers_not_hash : (x : ℕ) → covers x ≡ true → eqb x hash ≡ false
unfolding covers any
covers_not_hash x e = go (eqb x hash) refl
  where
    go : (b : Bool) → eqb x hash ≡ b → eqb x hash ≡ false
    go false q = q
    go true q =
        let z : x ≡ hash = eqb-true x hash q in
        absurd (false≢true (rw z at e))

times_alike : (x k : ℕ) (r s : Row) → eqb x hash ≡ false → Alike r s → times x k r ≡ times x k s
unfolding times
times_alike x k r s h a = go (eqb (tag r) x) refl
  where
    go : (b : Bool) → eqb (tag r) x ≡ b → times x k r ≡ times x k s
    go true e =
        let q : tag r ≡ x = eqb-true (tag r) x e in
        let w = a.1 (rw q h) in
        rw (← a.0, w.two, w.three, w.four)
    go false e = rw (← a.0, e)

-- THE ROWS OF A BLOCK AND ITS LINES
pub ranges : (form : Form) (n c j : ℕ) (ls : List Line) → all (in_range reach_of n) (block_rows_from form n c j ls) ≡ all (line_in_range form n) ls
unfolding all block_rows_from line_in_range
ranges form n c j [] = refl
ranges form n c j (l ∷ ls) =
    rw (range_alike reach_of n (block_row form n c j l) (line_row form n l.body) (alike form n c j l), ranges form n c (suc j) ls)

lines_times_lem : (form : Form) (x k n c j : ℕ) (ls : List Line) → eqb x hash ≡ false
    → total (times x k) (block_rows_from form n c j ls) ≡ lines_times form n x ls k
unfolding total block_rows_from
lines_times_lem form x k n c j [] h = refl
lines_times_lem form x k n c j (l ∷ ls) h =
    rw (times_alike x k (block_row form n c j l) (line_row form n l.body) h (alike form n c j l), lines_times_lem form x k n c (suc j) ls h)

pub counted : (form : Form) (x k n c j : ℕ) (ls : List Line) → covers x ≡ true
    → lines_times form n x ls k ≡ covering k (of_kind x (block_rows_from form n c j ls))
counted form x k n c j ls e = sym (kind_times x k (block_rows_from form n c j ls) ∙ lines_times_lem form x k n c j ls (covers_not_hash x e))
