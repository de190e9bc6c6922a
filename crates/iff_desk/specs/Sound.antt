-- "Soundness. Tables are sound when the needed first lines are there, rows meet every rule here on kept fields and file length, and unused places are zero."
use Rattle.std.specs.Prelude.{ℕ, suc, ◌+◌, ◌*◌, List, [], ◌∷◌, ◌++◌, Bool, true, false, ◌&&◌, not, cond, length, take, drop, eqb, ltb, leb}
use Rattle.iff.specs.Bytes.{at}
use Rattle.iff.specs.Lists.{Group, front, groups, members, all, all_of, total, same, has}
use Rattle.iff.specs.Files.{PerFile, of, per_file, in_order, needed, limit}
use Rattle.iff.specs.Columns.{Field, first_fields, fields_of, picture}
use Rattle.iff.specs.Values.{words_right, word_count}
use Rattle.iff.specs.Tables.{Row, tag, letterless, is_hash_row, row_width, rows_in, all_zero, keys_of, rising}
use Rattle.iff.specs.Words.{own_company, rises, line_number, line_count, stop_count}
use Rattle.iff.specs.declared.RowFile.{RowFile}
use Rattle.iff.specs.declared.RowFile.TheVariants.{Company}
use Rattle.iff.specs.declared.GroupFile.{GroupFile}
use Rattle.iff.specs.declared.File.{File}
use Rattle.iff.specs.declared.File.TheVariants.{Delivery, Rows, Groups, Timetbls}
use Rattle.iff.specs.declared.Stand.{Stand}
use Rattle.iff.specs.declared.InBlock.{InBlock}
use Rattle.iff.specs.declared.Form.{Form}
use Rattle.iff_rules.specs.Order.{may_follow, group_stand, may_end, goes, is_goes, finished}
use Rattle.iff_rules.specs.Rows.{flag, line_one, Context, context_of, first_of}
use Rattle.iff_rules.specs.Meaning.{first_meaning, row_meaning, group_meaning, block_meaning}
use Rattle.iff_rules.specs.Unique.{fresh_in_group}
use Rattle.iff_rules.specs.References.{names, met_by_row, met_in_group, met_in_block}
use Rattle.iff_rules.specs.Legs.{stops_of, reach_of, legs}
use Rattle.iff_rules.specs.Load.{block_start, block_moves}

-- the entries of a list in turn, each in the state that those before it leave: all pass
module _ {S A : Type 0} (ok : S → A → Bool) (next : S → A → S) where
  unfoldable pub passes : S → List A → Bool
  passes st [] = true
  passes st (x ∷ xs) = ok st x && passes (next st x) xs

-- one more at the end of those so far
abbrev pub followed_by : {A : Type 0} → List A → A → List A
followed_by xs x = xs ++ (x ∷ [])

-- the rows of eleven tables
abbrev pub rows_of_tables : PerFile (List ℕ) → PerFile (List Row)
rows_of_tables T = per_file (λ f. rows_in f (of T f))

-- a row's tag and words are those of a record with these fields, and its other words are zero
unfoldable pub shaped : List Field → Row → Bool
shaped fs r = words_right (drop 1 r) fs && all_zero (drop (suc (word_count fs)) r)

-- "Unique", of the keys of a file: none is one of those before it
unfoldable pub distinct : List ℕ → Bool
distinct ks = passes (λ seen k. not (has k seen)) followed_by [] ks

-- A FIRST LINE'S ROW: as DELIVERY's on what is kept, with the derived words that belong there
unfoldable pub sound_first : File → Row → Row → List Row → Bool
sound_first f delivery r later =
    all_of
    (eqb (tag r) at
    ∷ words_right (drop 1 r) first_fields
    ∷ first_meaning r
    ∷ same (take 5 r) (take 5 delivery)
    ∷ eqb (rises r) (flag (rising (keys_of f later)))
    ∷ same (take (length (line_one f)) (drop 6 r)) (line_one f)
    ∷ all_zero (drop (6 + length (line_one f)) r)
    ∷ [])

-- A ROW of a file without record letters, after so many rows of it
unfoldable pub sound_plain_row : Context → RowFile → ℕ → Row → Bool
sound_plain_row c f count r =
    all_of
    (eqb (tag r) letterless
    ∷ shaped (fields_of c.form (Rows f) (tag r)) r
    ∷ row_meaning f count r
    ∷ met_by_row c f r
    ∷ [])

unfoldable pub sound_plain : Context → RowFile → List Row → Bool
sound_plain c f rs = passes (sound_plain_row c f) (λ count r. suc count) 0 rs

-- A ROW OF A GROUP, after some rows of the group
unfoldable pub sound_group_row : Context → GroupFile → List Row → Row → Bool
sound_group_row c f earlier r =
    all_of
    (may_follow f (group_stand earlier) (tag r)
    ∷ shaped (fields_of c.form (Groups f) (tag r)) r
    ∷ group_meaning f r
    ∷ fresh_in_group f (drop 1 earlier) r
    ∷ met_in_group c f r
    ∷ [])

unfoldable pub sound_group : Context → GroupFile → Group Row → Bool
sound_group c f g = passes (sound_group_row c f) followed_by [] (members g) && may_end f (group_stand (members g))

abbrev pub empty : List Row → Bool
empty [] = true
empty (r ∷ rs) = false

-- no row stands before the first group
unfoldable pub sound_groups : Context → GroupFile → List Row → Bool
sound_groups c f rs = empty (front is_hash_row rs) && all (sound_group c f) (groups is_hash_row rs)

-- A ROW OF A TIMETBLS BLOCK: its number in the block is its last word; the `#` row counts the block's lines and stops beside its own field
abbrev pub own_words : Row → Row
own_words r = cond (is_hash_row r) (take 2 r ++ drop 4 (take 6 r)) (take 6 r)

pub record InRows : Type 0 where
  pub block : InBlock
  pub line : ℕ

unfoldable pub sound_block_row : Context → InRows → Row → Bool
sound_block_row c st r =
    all_of
    (is_goes (goes st.block.stand (tag r))
    ∷ shaped (fields_of c.form Timetbls (tag r)) (own_words r)
    ∷ eqb (line_number r) st.line
    ∷ block_meaning st.block.stops r
    ∷ met_in_block c r
    ∷ [])

abbrev pub next_row : InRows → Row → InRows
next_row st r = record { block = block_moves st.block (tag r); line = suc st.line }

abbrev pub rows_start : InRows
rows_start = record { block = block_start; line = 1 }

-- where a block stands after its rows
unfoldable pub stand_after_rows : InBlock → List Row → Stand
stand_after_rows st [] = st.stand
stand_after_rows st (r ∷ rs) = stand_after_rows (block_moves st (tag r)) rs

unfoldable pub sound_block : Context → Group Row → Bool
sound_block c g =
    all_of
    (passes (sound_block_row c) next_row rows_start (members g)
    ∷ finished (stand_after_rows block_start (members g))
    ∷ legs reach_of (members g)
    ∷ eqb (line_count g.top) (length (members g))
    ∷ eqb (stop_count g.top) (stops_of (members g))
    ∷ [])

unfoldable pub sound_timetbls : Context → List Row → Bool
sound_timetbls c rs = empty (front is_hash_row rs) && all (sound_block c) (groups is_hash_row rs)

-- the rows after the first line's: what each kind of file asks of them
abbrev pub sound_later : Context → File → List Row → Bool
sound_later c Delivery rs = empty rs
sound_later c (Rows f) rs = sound_plain c f rs
sound_later c (Groups f) rs = sound_groups c f rs
sound_later c Timetbls rs = sound_timetbls c rs

-- the bytes of the line that a row stands for, with its CR LF
abbrev pub row_size : Form → File → Row → ℕ
row_size form f r = length (picture (fields_of form f (tag r))) + 2

abbrev pub first_size : ℕ
first_size = length (picture first_fields) + 2

unfoldable pub sound_rows : Context → Row → File → List Row → Bool
sound_rows c delivery f [] = true
sound_rows c delivery f (r ∷ rs) =
    all_of
    (sound_first f delivery r rs
    ∷ distinct (keys_of f rs)
    ∷ sound_later c f rs
    ∷ leb (first_size + total (row_size c.form f) rs) limit
    ∷ [])

-- which tables hold rows
abbrev pub held_in : PerFile (List Row) → File → Bool
held_in R f = ltb 0 (length (of R f))

-- one table: its rows are sound, there are some where they are needed, and unused places are zero
unfoldable pub sound_table : Context → PerFile (List Row) → File → List ℕ → Bool
sound_table c R f t =
    all_of
    (cond (needed (held_in R) f) (held_in R f) true
    ∷ sound_rows c (first_of R.delivery) f (of R f)
    ∷ all_zero (drop (length (of R f) * row_width f) t)
    ∷ [])

-- the eleven tables
unfoldable pub sound : PerFile (List ℕ) → Bool
sound T =
    let R = rows_of_tables T in
    let c = context_of R in
    all (λ f. sound_table c R f (of T f)) in_order && names c (Rows Company) (own_company (first_of R.delivery))
