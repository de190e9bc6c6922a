-- The days and services that a load answers are those that the text has written.
use Rattle.std.specs.Prelude.{ℕ, suc, ◌+◌, ◌≡◌, refl, List, [], ◌∷◌, ◌++◌, Bool, true, false, cond, length, drop}
use Rattle.std.proofs.Common.{ap, sym, ◌∙◌, arith}
use Rattle.std.proofs.lemmas.List.{length-map}
use Rattle.iff.specs.Lists.{Group, front, groups, members, kept}
use Rattle.iff.specs.Files.{PerFile}
use Rattle.iff.specs.Lines.{Line, lines, is_hash}
use Rattle.iff.specs.Values.{value, field_words, words}
use Rattle.iff.specs.Days.{span}
use Rattle.iff.specs.Tables.{Row, padded, is_hash_row, keys_of}
use Rattle.iff.specs.Words.{first_day, last_day, named}
use Rattle.iff.specs.declared.File.TheVariants.{Delivery, Timetbls}
use Rattle.iff.specs.declared.Form.{Form}
use Rattle.iff_rules.specs.Legs.{one}
use Rattle.iff_rules.specs.Rows.{stops_in, lines_in, block_row, block_rows_from, block_rows, blocks_rows, first_row_of, rows_of_lines, form_of, first_of, rows_of_files}
use Rattle.iff_laws.specs.Places.{line_no, context_in}
use Rattle.iff_laws.specs.Meets.{written, days_written, services_written}
use Rattle.iff_laws.specs.TruthLaws.{one_more}

-- DAYS: a first line's row has the two dates
dates : (form : Form) (ls : List Line)
    → span (first_day (first_of (rows_of_lines form Delivery ls))) (last_day (first_of (rows_of_lines form Delivery ls)))
    ≡ span (written (line_no ls 0) 6 13) (written (line_no ls 0) 15 22)
unfolding rows_of_lines first_row_of padded words field_words value
dates form [] = refl
dates form (l ∷ ls) = refl

pub days_written_lem : (F : PerFile (List ℕ)) → (context_in (rows_of_files F)).form.days ≡ days_written F
unfolding form_of
days_written_lem F = dates _ (lines F.delivery)

-- SERVICES: rows that begin with `#` are as many as lines
abbrev hash_rows : List Row → ℕ
hash_rows rs = length (kept is_hash_row rs)

abbrev hash_lines : List Line → ℕ
hash_lines ls = length (kept is_hash ls)

more_rows : (r : Row) (rs : List Row) → hash_rows (r ∷ rs) ≡ one (is_hash_row r) + hash_rows rs
unfolding kept
more_rows r rs = one_more (is_hash_row r) r (kept is_hash_row rs)

more_lines : (l : Line) (ls : List Line) → hash_lines (l ∷ ls) ≡ one (is_hash l) + hash_lines ls
unfolding kept
more_lines l ls = one_more (is_hash l) l (kept is_hash ls)

no_rows : hash_rows [] ≡ 0
unfolding kept
no_rows = refl

no_lines : hash_lines [] ≡ 0
unfolding kept
no_lines = refl

hashes_append : (rs ss : List Row) → hash_rows (rs ++ ss) ≡ hash_rows rs + hash_rows ss
hashes_append [] ss = omega (arith, no_rows)
hashes_append (r ∷ rs) ss = omega (arith, more_rows r (rs ++ ss), more_rows r rs, hashes_append rs ss)

block_tag : (form : Form) (n k j : ℕ) (l : Line) → is_hash_row (block_row form n k j l) ≡ is_hash l
unfolding block_row padded
block_tag form n k j l = refl

block_hashes : (form : Form) (n k j : ℕ) (ls : List Line) → hash_rows (block_rows_from form n k j ls) ≡ hash_lines ls
unfolding block_rows_from
block_hashes form n k j [] = no_rows ∙ sym no_lines
block_hashes form n k j (l ∷ ls) =
    let rest = block_rows_from form n k (suc j) ls in
    more_rows (block_row form n k j l) rest
    ∙ (ap (λ (b : Bool). one b + hash_rows rest) (block_tag form n k j l)
    ∙ (ap (λ (m : ℕ). one (is_hash l) + m) (block_hashes form n k (suc j) ls) ∙ sym (more_lines l ls)))

-- none of the lines before the first `#` begins with one
front_hashes : (ls : List Line) → hash_lines (front is_hash ls) ≡ 0
unfolding front
front_hashes [] = no_lines
front_hashes (l ∷ ls) = go (is_hash l) refl (front_hashes ls)
  where
    go : (b : Bool) → is_hash l ≡ b → hash_lines (front is_hash ls) ≡ 0 → hash_lines (cond b [] (l ∷ front is_hash ls)) ≡ 0
    go true q e = no_lines
    go false q e = more_lines l (front is_hash ls) ∙ (ap (λ (b : Bool). one b + hash_lines (front is_hash ls)) q ∙ omega arith)

blocks_hashes : (form : Form) (ls : List Line) → hash_rows (blocks_rows form (groups is_hash ls)) ≡ hash_lines ls
unfolding blocks_rows groups
blocks_hashes form [] = no_rows ∙ sym no_lines
blocks_hashes form (l ∷ ls) = go (is_hash l) refl (blocks_hashes form ls)
  where
    go : (b : Bool) → is_hash l ≡ b → hash_rows (blocks_rows form (groups is_hash ls)) ≡ hash_lines ls
        → hash_rows (blocks_rows form (cond b (record { top = l; rest = front is_hash ls } ∷ groups is_hash ls) (groups is_hash ls))) ≡ hash_lines (l ∷ ls)
    go true q e =
        let g : Group Line = record { top = l; rest = front is_hash ls } in
        let rest = blocks_rows form (groups is_hash ls) in
        let a : hash_rows (block_rows form g ++ rest) ≡ hash_rows (block_rows form g) + hash_rows rest = hashes_append (block_rows form g) rest in
        let b : hash_rows (block_rows form g) ≡ hash_lines (members g) = block_hashes form (stops_in g) (lines_in g) 1 (members g) in
        omega (arith, more_lines l (front is_hash ls), more_lines l ls, front_hashes ls)
    go false q e = e ∙ sym (more_lines l ls ∙ (ap (λ (b : Bool). one b + hash_lines ls) q ∙ omega arith))

services : (form : Form) (ls : List Line) → length (keys_of Timetbls (rows_of_lines form Timetbls ls)) ≡ hash_lines (drop 1 ls)
unfolding rows_of_lines first_row_of padded
services form [] = length-map (kept is_hash_row []) named ∙ (no_rows ∙ sym no_lines)
services form (l ∷ ls) = length-map (kept is_hash_row _) named ∙ (more_rows _ _ ∙ omega (arith, blocks_hashes form ls))

pub services_written_lem : (F : PerFile (List ℕ)) → length ((context_in (rows_of_files F)).keys Timetbls) ≡ services_written F
services_written_lem F = services _ (lines F.timetbls)
