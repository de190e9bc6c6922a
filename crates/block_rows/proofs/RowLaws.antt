-- Laws of the rows of a block: how they are put together from a line's record, how many they are, and what they name. Assumes nothing.
use Prim.Native.Nat.{ℕ, suc, ◌≤◌}
use mathlib.Core.Path.{◌≡◌, refl, ap, sym, ◌∙◌}
use mathlib.Core.List.{List, [], ◌∷◌, ◌++◌, append-nil}
use mathlib.Core.Bool.{Bool, true, false, ◌||◌, false≢true}
use native.Mathlib.Omega.{arith}
use lib.Dec.{eqb}
use lib.ListN.{length, get_or, set, length-append}
use borrow.Author.Tests.{eqb-true, ne_eqb}
use Rattle.iff.specs.Bytes.{hash, allowed}
use Rattle.iff.specs.Lists.{Group, all, all2, any, kept}
use Rattle.iff.specs.Lines.{Line, letter, is_hash}
use Rattle.iff.specs.Columns.{record_fields, block_record, record_of, fields_of, picture, picture_from, column, fits}
use Rattle.iff.specs.Values.{field_words, words}
use Rattle.iff.specs.Tables.{Row, padded, row_width, is_hash_row, keys_of}
use Rattle.iff.specs.Words.{named}
use Rattle.iff.specs.declared.Form.{Form}
use Rattle.iff.specs.declared.Record.{Record}
use Rattle.iff.specs.declared.File.TheVariants.{Timetbls}
use Rattle.iff_rules.specs.Rows.{line_words, counts, row_of, block_row, block_rows_from, block_rows, lines_in, stops_in}
use Rattle.iff_rules.specs.Load.{service_of}
use Rattle.text.proofs.PictureLaws.{and_left, and_right}
use Rattle.tables.proofs.Each.{Each}
use Rattle.tables.proofs.Rows.{Used}
use Rattle.records.proofs.RowLaws.{words_length, padded_length}
use Rattle.records.proofs.FileLaws.{block_room}
use Rattle.legs.proofs.RowLaws.{tag_is}
use Rattle.records.specs.Layouts.{legible}
use Rattle.records.specs.Facts.{Legible}
use Rattle.block_rows.specs.Written.{Readable}

abbrev pub ended_line : List ℕ → Line
ended_line body = record { body = body; ended = true }

-- a row does not depend on how its line ends
pub any_end : (form : Form) (n k j : ℕ) (l : Line) → block_row form n k j (ended_line l.body) ≡ block_row form n k j l
unfolding block_row
any_end form n k j l = refl

-- A ROW PUT TOGETHER
-- seven words, the last of them put
last_word : (ws : List ℕ) (j : ℕ) → length ws ≤ 6 → set (padded 7 ws) 6 j ≡ padded 6 ws ++ (j ∷ [])
unfolding padded
last_word [] j h = refl
last_word (a ∷ []) j h = refl
last_word (a ∷ b ∷ []) j h = refl
last_word (a ∷ b ∷ c ∷ []) j h = refl
last_word (a ∷ b ∷ c ∷ d ∷ []) j h = refl
last_word (a ∷ b ∷ c ∷ d ∷ e ∷ []) j h = refl
last_word (a ∷ b ∷ c ∷ d ∷ e ∷ f ∷ []) j h = refl
last_word (a ∷ b ∷ c ∷ d ∷ e ∷ f ∷ g ∷ ws) j h = absurd (omega arith)

words_few : (form : Form) (n x : ℕ) (body : List ℕ) → suc (length (words n body (fields_of form Timetbls x))) ≤ 5
unfolding fields_of record_of
words_few form n x body = omega (arith, words_length n body (fields_of form Timetbls x), block_room form x)

-- the record that is read is that of the line's letter
pub readable_as : (form : Form) (body : List ℕ) (room : ℕ) (r : Record) (x : ℕ) → x ≡ get_or body 0 0 → r ≡ block_record x
    → Readable form body room → Legible form r body room
readable_as form body room r x p q e = rw (q, p) e

module _ (form : Form) (n k j : ℕ) (body row : List ℕ) (m : ℕ) (w : m ≡ row_width Timetbls) (r : Record) (x : ℕ) (p : x ≡ get_or body 0 0)
    (q : r ≡ block_record x) (e : row ≡ padded m (x ∷ words n body (record_fields form r))) where
  put : row ≡ padded (row_width Timetbls) (line_words n form Timetbls (ended_line body))
  unfolding fields_of record_of
  put = e ∙ rw (w, q, p)

  pub row_plain : (x ≡ hash → ⊥) → set row 6 j ≡ block_row form n k j (ended_line body)
  unfolding block_row
  row_plain h =
      let z : is_hash (ended_line body) ≡ false = ne_eqb _ _ (λ y. h (p ∙ y)) in
      ap (λ (s : List ℕ). set s 6 j) put
      ∙ rw (z, append-nil (line_words n form Timetbls (ended_line body)))
      (last_word (line_words n form Timetbls (ended_line body)) j (omega (arith, words_few form n (get_or body 0 0) body)))

  pub row_head : x ≡ hash → set (set (set row 6 j) 2 k) 3 n ≡ block_row form n k j (ended_line body)
  unfolding block_row padded fields_of record_of block_record record_fields words field_words
  row_head h = ap (λ (s : List ℕ). set (set (set s 6 j) 2 k) 3 n) put ∙ rw (sym p ∙ h)

-- A ROW OF A BLOCK
-- the `#` has one word of its own, so there is room for its counts
head_few : (form : Form) (n k x : ℕ) (body : List ℕ) → x ≡ hash → length ((x ∷ words n body (fields_of form Timetbls x)) ++ counts n k true) ≤ 6
unfolding fields_of record_of block_record record_fields words field_words
head_few form n k x body e = rw e (omega arith)

few : (form : Form) (n k x : ℕ) (body : List ℕ) (b : Bool) → eqb x hash ≡ b
    → length ((x ∷ words n body (fields_of form Timetbls x)) ++ counts n k b) ≤ 6
few form n k x body true e = head_few form n k x body (eqb-true x hash e)
few form n k x body false e = omega (arith, length-append (x ∷ words n body (fields_of form Timetbls x)) [], words_few form n x body)

pub block_row_length : (form : Form) (n k j : ℕ) (l : Line) → length (block_row form n k j l) ≡ row_width Timetbls
unfolding block_row
block_row_length form n k j l =
    let h = padded_length 6 (line_words n form Timetbls l ++ counts n k (is_hash l)) (few form n k (letter l) l.body (is_hash l) refl) in
    omega (arith, h, length-append (padded 6 (line_words n form Timetbls l ++ counts n k (is_hash l))) (j ∷ []))

-- a line that is laid out has a letter
has_letter : (form : Form) (body : List ℕ) → fits body (picture (fields_of form Timetbls (get_or body 0 0))) ≡ true → get_or body 0 0 ≡ 0 → ⊥
unfolding fields_of record_of block_record record_fields picture_from column all2 allowed
has_letter form [] e z = false≢true e
has_letter form (b ∷ s) e z = false≢true (rw z at e)

legible_used : (form : Form) (l : Line) → legible form l ≡ true → eqb (letter l) 0 ≡ false
unfolding legible
legible_used form l e =
    ne_eqb (letter l) 0 (has_letter form l.body (and_left (fits l.body (picture (fields_of form Timetbls (letter l)))) _ e))

pub rows_used : (form : Form) (n k j : ℕ) (ls : List Line) → all (legible form) ls ≡ true
    → Each (Used (row_width Timetbls)) (block_rows_from form n k j ls)
unfolding all block_rows_from
rows_used form n k j [] e = tt
rows_used form n k j (l ∷ ls) e = (
  (block_row_length form n k j l, rw tag_is (legible_used form l (and_left (legible form l) _ e))),
  rows_used form n k (suc j) ls (and_right (legible form l) _ e),
)

pub rows_count : (form : Form) (n k j : ℕ) (ls : List Line) → length (block_rows_from form n k j ls) ≡ length ls
unfolding block_rows_from
rows_count form n k j [] = refl
rows_count form n k j (l ∷ ls) = ap suc (rows_count form n k (suc j) ls)

-- WHAT THE ROWS OF A BLOCK NAME: its service
-- a row that names nothing, and one that does
pub key_skips : (r : Row) (rs : List Row) (b : Bool) → is_hash_row r ≡ b → b ≡ false → keys_of Timetbls (r ∷ rs) ≡ keys_of Timetbls rs
unfolding kept
key_skips r rs b e z = rw (e, z)

key_counts : (r : Row) (rs : List Row) → is_hash_row r ≡ true → keys_of Timetbls (r ∷ rs) ≡ named r ∷ keys_of Timetbls rs
unfolding kept
key_counts r rs e = rw e

or_left : (a b : Bool) → (a || b) ≡ false → a ≡ false
or_left true b e = e
or_left false b e = refl

or_right : (a b : Bool) → (a || b) ≡ false → b ≡ false
or_right true b e = absurd (false≢true (sym e))
or_right false b e = e

pub keys_nil : keys_of Timetbls [] ≡ []
unfolding kept
keys_nil = refl

keys_none : (form : Form) (n k j : ℕ) (ls : List Line) → any is_hash ls ≡ false → keys_of Timetbls (block_rows_from form n k j ls) ≡ []
unfolding any block_rows_from
keys_none form n k j [] e = keys_nil
keys_none form n k j (l ∷ ls) e =
    key_skips (block_row form n k j l) (block_rows_from form n k (suc j) ls) (is_hash l) (rw tag_is) (or_left (is_hash l) _ e)
    ∙ keys_none form n k (suc j) ls (or_right (is_hash l) _ e)

service_word : (form : Form) (n k j : ℕ) (l : Line) → letter l ≡ hash → named (block_row form n k j l) ≡ named (row_of form Timetbls l)
unfolding block_row row_of padded fields_of record_of block_record record_fields words field_words
service_word form n k j l e = rw e

pub block_keys_lem : (form : Form) (g : Group Line) → is_hash g.top ≡ true → any is_hash g.rest ≡ false
    → keys_of Timetbls (block_rows form g) ≡ service_of form g ∷ []
unfolding block_rows_from
block_keys_lem form g e f =
    key_counts (block_row form (stops_in g) (lines_in g) 1 g.top) (block_rows_from form (stops_in g) (lines_in g) 2 g.rest) (rw tag_is e)
    ∙ rw (service_word form (stops_in g) (lines_in g) 1 g.top (eqb-true _ _ e), keys_none form (stops_in g) (lines_in g) 2 g.rest f)
