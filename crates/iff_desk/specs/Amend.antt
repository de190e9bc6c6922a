-- "Amendment. Lent: tables, a service, a block."
use Rattle.std.specs.Prelude.{ℕ, suc, ◌+◌, List, [], ◌∷◌, ◌++◌, cond, length, take, drop, eqb, None}
use Rattle.iff.specs.Lists.{Group, groups, flat, front, position, total}
use Rattle.iff.specs.Refusals.{first_fault, fine, answer, Answer, Verdict}
use Rattle.iff.specs.Files.{PerFile}
use Rattle.iff.specs.Lines.{lines, text, is_hash}
use Rattle.iff.specs.Tables.{Row, is_hash_row, row_width, fill}
use Rattle.iff.specs.Words.{named}
use Rattle.iff.specs.declared.File.TheVariants.{Timetbls}
use Rattle.iff.specs.declared.Reason.TheVariants.{NotOneBlock, NoService, NotSound}
use Rattle.iff.specs.declared.Form.{Form}
use Rattle.iff_rules.specs.Rows.{block_rows, as_block, Context, context_of}
use Rattle.iff_rules.specs.References.{names}
use Rattle.iff_rules.specs.Load.{fault_unless, length_verdict, room_verdict, block_verdict, service_of}
use Rattle.iff_desk.specs.Sound.{sound, rows_of_tables, row_size, first_size}
use Rattle.iff_desk.specs.Parts.{is_one_block}

-- the blocks of a table, and a service's place among them, from 0
abbrev pub table_blocks : List Row → List (Group Row)
table_blocks rs = groups is_hash_row rs

abbrev pub place_of : ℕ → List Row → ℕ
place_of s rs = position (λ g. eqb (named g.top) s) (table_blocks rs)

-- the first line's row, the blocks before place k, and those behind it
abbrev pub rows_before : ℕ → List Row → List Row
rows_before k rs = front is_hash_row rs ++ flat (take k (table_blocks rs))

abbrev pub rows_behind : ℕ → List Row → List Row
rows_behind k rs = flat (drop (suc k) (table_blocks rs))

-- "Test 1 counts the edited text by its lines' lengths."
abbrev pub edited_length : Context → ℕ → List Row → List ℕ → ℕ
edited_length c k rs b =
    first_size + total (row_size c.form Timetbls) (drop 1 (rows_before k rs)) + length b + total (row_size c.form Timetbls) (rows_behind k rs)

abbrev pub edited_lines : ℕ → List Row → List ℕ → ℕ
edited_lines k rs b = length (rows_before k rs) + length (lines b) + length (rows_behind k rs)

-- "After 16: 11 ..; then 12; then as a load of the edited text: 1 and 2 over TIMETBLS, then the block's lines."
unfoldable pub amend_verdict : PerFile (List ℕ) → ℕ → List ℕ → Verdict
amend_verdict T s b =
    let R = rows_of_tables T in
    let c = context_of R in
    let k = place_of s R.timetbls in
    first_fault
    (fault_unless (sound T) NotSound None
    ∷ fault_unless (is_one_block s (lines b)) NotOneBlock None
    ∷ fault_unless (names c Timetbls s) NoService None
    ∷ length_verdict Timetbls (edited_length c k R.timetbls b)
    ∷ room_verdict Timetbls (edited_lines k R.timetbls b) (length T.timetbls)
    ∷ block_verdict c (take k (c.keys Timetbls)) (suc k) (as_block b)
    ∷ [])

unfoldable pub amend_answer : PerFile (List ℕ) → ℕ → List ℕ → Answer
amend_answer T s b =
    answer (amend_verdict T s b) (context_of (rows_of_tables T)).form.days (length ((context_of (rows_of_tables T)).keys Timetbls))

-- "The block replaces the service's lines; freed room is used."
abbrev pub amended_rows : Form → ℕ → List Row → List ℕ → List Row
amended_rows form k rs b = rows_before k rs ++ (block_rows form (as_block b) ++ rows_behind k rs)

-- TIMETBLS after the call: amended, or as it stood. The other ten tables are not written.
unfoldable pub amend_timetbls : PerFile (List ℕ) → ℕ → List ℕ → List ℕ
amend_timetbls T s b =
    let R = rows_of_tables T in
    cond (fine (amend_verdict T s b))
    (fill (row_width Timetbls) (length T.timetbls)
    (amended_rows (context_of R).form (place_of s R.timetbls) R.timetbls b))
    T.timetbls

-- THE EDITED TEXT of a delivery of some form that an amendment is to agree with: the block in the place of the service's lines
unfoldable pub edited : Form → List ℕ → ℕ → List ℕ → List ℕ
edited form F s b =
    let hd = front is_hash (lines F) in
    let gs = groups is_hash (lines F) in
    let k = position (λ g. eqb (service_of form g) s) gs in
    text (hd ++ flat (take k gs)) ++ (b ++ text (flat (drop (suc k) gs)))
