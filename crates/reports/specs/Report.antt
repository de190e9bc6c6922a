-- The check program's second line: "the first larger file makes the second line `larger` and its name"; "Fields: days, services";
-- "number, file, ordinal, line".
use Rattle.std.specs.Prelude.{ℕ, List, [], ◌∷◌, ◌++◌, Err, None, Ok, Option, Some}
use Rattle.iff.specs.Bytes.{bytes, blank, lf}
use Rattle.iff.specs.Files.{file_name}
use Rattle.iff.specs.Refusals.{number, ordinal, line_at, Answer}
use Rattle.text_puts.specs.Texts.{decimal}
use Rattle.reports.specs.declared.Report.{Report}
use Rattle.reports.specs.declared.Report.TheVariants.{Larger, Answered}
use Rattle.iff.specs.declared.Place.{Place}

-- the file of a place; 0 where there is none
abbrev pub place_name : Option Place → List ℕ
place_name None = bytes "0"
place_name (Some place) = file_name place.file

-- a field behind a blank
abbrev pub field : ℕ → List ℕ
field n = blank ∷ decimal n

-- file, ordinal and line of a refusal
abbrev pub where_text : Option Place → List ℕ
where_text p = (blank ∷ place_name p) ++ (field (ordinal p) ++ (field (line_at p) ++ (lf ∷ [])))

abbrev pub answer_line : Answer → List ℕ
answer_line (Ok done) = bytes "accepted" ++ (field done.days ++ (field done.services ++ (lf ∷ [])))
answer_line (Err fault) = bytes "refused" ++ (field (number fault.reason) ++ where_text fault.place)

abbrev pub report_line : Report → List ℕ
report_line (Larger p) = bytes "larger" ++ ((blank ∷ place_name p) ++ (lf ∷ []))
report_line (Answered a) = answer_line a
