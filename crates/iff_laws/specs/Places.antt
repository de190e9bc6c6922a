-- WHERE A LINE STANDS: lines, groups and rows by number, and what comes before them. `Meets` and `Tests` are written in these words.
use Rattle.std.specs.Prelude.{ℕ, List, [], map, length, get_or, take}
use Rattle.iff.specs.Lists.{Group, members, kept}
use Rattle.iff.specs.Refusals.{after}
use Rattle.iff.specs.Files.{PerFile, of}
use Rattle.iff.specs.Lines.{Line, lines, letter, no_line}
use Rattle.iff.specs.Tables.{Row, keys_of}
use Rattle.iff.specs.Words.{named}
use Rattle.iff.specs.declared.GroupFile.{GroupFile}
use Rattle.iff.specs.declared.File.TheVariants.{Groups, Timetbls}
use Rattle.iff.specs.declared.Stand.{Stand}
use Rattle.iff.specs.declared.Stand.TheVariants.{Start}
use Rattle.iff.specs.declared.InBlock.{InBlock}
use Rattle.iff.specs.declared.Form.{Form}
use Rattle.iff_rules.specs.Order.{goes, stand_after, is_stop}
use Rattle.iff_rules.specs.Rows.{row_of, form_of, first_of, Context}

abbrev pub line_no : List Line → ℕ → Line
line_no ls j = get_or ls j no_line

abbrev pub row_no : List Row → ℕ → Row
row_no rs i = get_or rs i []

abbrev pub no_group : Group Line
no_group = record { top = no_line; rest = [] }

abbrev pub group_no : List (Group Line) → ℕ → Group Line
group_no gs k = get_or gs k no_group

-- the form of a delivery's lines, by its first line; and what its files are asked for, keys
abbrev pub form_in : PerFile (List Row) → Form
form_in D = form_of (first_of D.delivery)

abbrev pub context_in : PerFile (List Row) → Context
context_in D = record { form = form_in D; keys = λ f. keys_of f (of D f) }

-- the body of DELIVERY's first line
abbrev pub header_in : PerFile (List ℕ) → List ℕ
header_in F = (line_no (lines F.delivery) 0).body

-- the rows of some lines of a group
abbrev pub group_rows : Form → GroupFile → List Line → List Row
group_rows form f ls = map (row_of form (Groups f)) ls

-- the keys of the groups before group k
abbrev pub key_of : Form → GroupFile → Group Line → ℕ
key_of form f g = named (row_of form (Groups f) g.top)

abbrev pub keys_before : Form → GroupFile → List (Group Line) → ℕ → List ℕ
keys_before form f gs k = map (key_of form f) (take k gs)

-- the services of the blocks before block k
abbrev pub service_in : Form → Group Line → ℕ
service_in form g = named (row_of form Timetbls g.top)

abbrev pub services_before : Form → List (Group Line) → ℕ → List ℕ
services_before form gs k = map (service_in form) (take k gs)

-- where a TIMETBLS block stands after some lines, and how many of them are stops
abbrev pub stands : Stand → Line → Stand
stands s l = stand_after s (goes s (letter l))

abbrev pub standing : List Line → InBlock
standing ls = record { stand = after stands Start ls; stops = length (kept (λ l. is_stop (letter l)) ls) }

-- before its line j
abbrev pub state_at : Group Line → ℕ → InBlock
state_at g j = standing (take j (members g))
