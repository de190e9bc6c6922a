-- The eleven tables of the small delivery, word by word. Codes are packed, first byte highest: `NL  ` is 0x4E4C2020.
use Rattle.std.specs.Prelude.{ℕ, ◌+◌, ◌-◌, ◌*◌, List, [], ◌∷◌, ◌++◌, length, take, drop, replicate, set}
use Rattle.iff.specs.Files.{PerFile, of, per_file}
use Rattle.iff.specs.Tables.{row_width}
use Rattle.iff.specs.declared.RowFile.TheVariants.{Company}
use Rattle.iff.specs.declared.File.{File}
use Rattle.iff.specs.declared.File.TheVariants.{Rows}
use Rattle.small_delivery.specs.Delivery.{at}

-- the stations' codes
abbrev pub AAA : ℕ
AAA = 0x41414120202020

abbrev pub BBB : ℕ
BBB = 0x42424220202020

abbrev pub CCC : ℕ
CCC = 0x43434320202020

abbrev pub delivery_words : List ℕ
delivery_words =
    64 ∷ 100 ∷ 1011615 ∷ 10011615 ∷ 1 ∷ 1
    ∷ replicate 7 0

abbrev pub company_words : List ℕ
company_words =
    64 ∷ 100 ∷ 1011615 ∷ 10011615 ∷ 1 ∷ 1
    ∷ 1 ∷ 100 ∷ 400 ∷ 0 ∷ 0 ∷ 0
    ∷ 1 ∷ 200 ∷ 0 ∷ 0 ∷ 0 ∷ 0
    ∷ replicate 7 0

abbrev pub country_words : List ℕ
country_words =
    64 ∷ 100 ∷ 1011615 ∷ 10011615 ∷ 1 ∷ 1
    ∷ 1 ∷ 0x4E4C2020 ∷ 1 ∷ 0 ∷ 0 ∷ 0
    ∷ replicate 7 0

abbrev pub trnsmode_words : List ℕ
trnsmode_words =
    64 ∷ 100 ∷ 1011615 ∷ 10011615 ∷ 1 ∷ 0
    ∷ 1 ∷ 0x49432020 ∷ 0 ∷ 0 ∷ 0 ∷ 0
    ∷ 1 ∷ 0x424F4154 ∷ 0 ∷ 0 ∷ 0 ∷ 0
    ∷ replicate 7 0

abbrev pub timezone_words : List ℕ
timezone_words =
    64 ∷ 100 ∷ 1011615 ∷ 10011615 ∷ 1 ∷ 1
    ∷ 35 ∷ 0 ∷ 0 ∷ 0 ∷ 0 ∷ 0
    ∷ 43 ∷ 1 ∷ 1011615 ∷ 5011615 ∷ 0 ∷ 0
    ∷ 43 ∷ 2 ∷ 6011615 ∷ 31121615 ∷ 0 ∷ 0
    ∷ 35 ∷ 1 ∷ 0 ∷ 0 ∷ 0 ∷ 0
    ∷ 45 ∷ 1 ∷ 1011615 ∷ 14011615 ∷ 0 ∷ 0
    ∷ replicate 7 0

abbrev pub stations_words : List ℕ
stations_words =
    64 ∷ 100 ∷ 1011615 ∷ 10011615 ∷ 1 ∷ 1
    ∷ 1 ∷ 1 ∷ AAA ∷ 5 ∷ 0x4E4C2020 ∷ 0
    ∷ 1 ∷ 0 ∷ BBB ∷ 10 ∷ 0x4E4C2020 ∷ 1
    ∷ 1 ∷ 1 ∷ CCC ∷ 99 ∷ 0x4E4C2020 ∷ 0
    ∷ replicate 7 0

abbrev pub footnote_words : List ℕ
footnote_words =
    64 ∷ 100 ∷ 1011615 ∷ 10011615 ∷ 1 ∷ 1 ∷ 0 ∷ 0 ∷ 0 ∷ 0 ∷ 0 ∷ 0 ∷ 0 ∷ 0
    ∷ 35 ∷ 1 ∷ 0 ∷ 0 ∷ 0 ∷ 0 ∷ 0 ∷ 0 ∷ 0 ∷ 0 ∷ 0 ∷ 0 ∷ 0 ∷ 0
    ∷ 1 ∷ 1023 ∷ 0 ∷ 0 ∷ 0 ∷ 0 ∷ 0 ∷ 0 ∷ 0 ∷ 0 ∷ 0 ∷ 0 ∷ 0 ∷ 0
    ∷ 35 ∷ 2 ∷ 0 ∷ 0 ∷ 0 ∷ 0 ∷ 0 ∷ 0 ∷ 0 ∷ 0 ∷ 0 ∷ 0 ∷ 0 ∷ 0
    ∷ 1 ∷ 341 ∷ 0 ∷ 0 ∷ 0 ∷ 0 ∷ 0 ∷ 0 ∷ 0 ∷ 0 ∷ 0 ∷ 0 ∷ 0 ∷ 0
    ∷ replicate 15 0

-- TIMETBLS: its first line, and the three services
abbrev pub timetbls_first : List ℕ
timetbls_first =
    64 ∷ 100 ∷ 1011615 ∷ 10011615 ∷ 1 ∷ 1 ∷ 1
    ∷ []

abbrev pub rows7 : List ℕ
rows7 =
    35 ∷ 7 ∷ 10 ∷ 3 ∷ 0 ∷ 0 ∷ 1
    ∷ 37 ∷ 100 ∷ 12 ∷ 1 ∷ 3 ∷ 0 ∷ 2
    ∷ 45 ∷ 1 ∷ 1 ∷ 3 ∷ 0 ∷ 0 ∷ 3
    ∷ 38 ∷ 0x424F4154 ∷ 1 ∷ 3 ∷ 0 ∷ 0 ∷ 4
    ∷ 42 ∷ 0x46494554 ∷ 1 ∷ 2 ∷ 1 ∷ 0 ∷ 5
    ∷ 62 ∷ AAA ∷ 330 ∷ 0 ∷ 0 ∷ 0 ∷ 6
    ∷ 63 ∷ 1 ∷ 0 ∷ 0 ∷ 0 ∷ 0 ∷ 7
    ∷ 59 ∷ BBB ∷ 0 ∷ 0 ∷ 0 ∷ 0 ∷ 8
    ∷ 43 ∷ CCC ∷ 2430 ∷ 2510 ∷ 0 ∷ 0 ∷ 9
    ∷ 60 ∷ AAA ∷ 2600 ∷ 0 ∷ 0 ∷ 0 ∷ 10
    ∷ []

abbrev pub rows8 : List ℕ
rows8 =
    35 ∷ 8 ∷ 8 ∷ 3 ∷ 0 ∷ 0 ∷ 1
    ∷ 37 ∷ 200 ∷ 13 ∷ 1 ∷ 3 ∷ 0 ∷ 2
    ∷ 45 ∷ 2 ∷ 1 ∷ 2 ∷ 0 ∷ 0 ∷ 3
    ∷ 45 ∷ 1 ∷ 2 ∷ 3 ∷ 0 ∷ 0 ∷ 4
    ∷ 38 ∷ 0x49432020 ∷ 1 ∷ 3 ∷ 0 ∷ 0 ∷ 5
    ∷ 62 ∷ CCC ∷ 30 ∷ 0 ∷ 0 ∷ 0 ∷ 6
    ∷ 46 ∷ BBB ∷ 200 ∷ 0 ∷ 0 ∷ 0 ∷ 7
    ∷ 60 ∷ AAA ∷ 301 ∷ 0 ∷ 0 ∷ 0 ∷ 8
    ∷ []

abbrev pub rows9 : List ℕ
rows9 =
    35 ∷ 9 ∷ 11 ∷ 4 ∷ 0 ∷ 0 ∷ 1
    ∷ 37 ∷ 200 ∷ 14 ∷ 1 ∷ 3 ∷ 0 ∷ 2
    ∷ 37 ∷ 100 ∷ 14 ∷ 3 ∷ 4 ∷ 0 ∷ 3
    ∷ 45 ∷ 1 ∷ 1 ∷ 4 ∷ 0 ∷ 0 ∷ 4
    ∷ 38 ∷ 0x49432020 ∷ 1 ∷ 2 ∷ 0 ∷ 0 ∷ 5
    ∷ 38 ∷ 0x424F4154 ∷ 2 ∷ 4 ∷ 0 ∷ 0 ∷ 6
    ∷ 62 ∷ BBB ∷ 100 ∷ 0 ∷ 0 ∷ 0 ∷ 7
    ∷ 43 ∷ CCC ∷ 9999 ∷ 230 ∷ 0 ∷ 0 ∷ 8
    ∷ 43 ∷ AAA ∷ 300 ∷ 9999 ∷ 0 ∷ 0 ∷ 9
    ∷ 60 ∷ BBB ∷ 400 ∷ 0 ∷ 0 ∷ 0 ∷ 10
    ∷ 63 ∷ 2 ∷ 0 ∷ 0 ∷ 0 ∷ 0 ∷ 11
    ∷ []

abbrev pub timetbls_words : List ℕ
timetbls_words = timetbls_first ++ (rows7 ++ (rows8 ++ (rows9 ++ replicate 31 0)))

abbrev pub changes_words : List ℕ
changes_words =
    64 ∷ 100 ∷ 1011615 ∷ 10011615 ∷ 1 ∷ 0
    ∷ 35 ∷ CCC ∷ 0 ∷ 0 ∷ 0 ∷ 0
    ∷ 45 ∷ 7 ∷ 8 ∷ 1 ∷ 0 ∷ 0
    ∷ 45 ∷ 7 ∷ 9 ∷ 0 ∷ 0 ∷ 0
    ∷ 35 ∷ BBB ∷ 0 ∷ 0 ∷ 0 ∷ 0
    ∷ 45 ∷ 8 ∷ 9 ∷ 1 ∷ 0 ∷ 0
    ∷ 45 ∷ 9 ∷ 8 ∷ 2 ∷ 0 ∷ 0
    ∷ 35 ∷ AAA ∷ 0 ∷ 0 ∷ 0 ∷ 0
    ∷ replicate 7 0

abbrev pub xfootnote_words : List ℕ
xfootnote_words =
    64 ∷ 100 ∷ 1011615 ∷ 10011615 ∷ 1 ∷ 1 ∷ 0 ∷ 0 ∷ 0 ∷ 0 ∷ 0 ∷ 0 ∷ 0 ∷ 0
    ∷ 35 ∷ 1 ∷ 0 ∷ 0 ∷ 0 ∷ 0 ∷ 0 ∷ 0 ∷ 0 ∷ 0 ∷ 0 ∷ 0 ∷ 0 ∷ 0
    ∷ 1 ∷ 31 ∷ 0 ∷ 0 ∷ 0 ∷ 0 ∷ 0 ∷ 0 ∷ 0 ∷ 0 ∷ 0 ∷ 0 ∷ 0 ∷ 0
    ∷ 35 ∷ 2 ∷ 0 ∷ 0 ∷ 0 ∷ 0 ∷ 0 ∷ 0 ∷ 0 ∷ 0 ∷ 0 ∷ 0 ∷ 0 ∷ 0
    ∷ 1 ∷ 24 ∷ 0 ∷ 0 ∷ 0 ∷ 0 ∷ 0 ∷ 0 ∷ 0 ∷ 0 ∷ 0 ∷ 0 ∷ 0 ∷ 0
    ∷ replicate 15 0

abbrev pub xchanges_words : List ℕ
xchanges_words =
    64 ∷ 100 ∷ 1011615 ∷ 10011615 ∷ 1 ∷ 1 ∷ 0
    ∷ 35 ∷ AAA ∷ 0 ∷ 0 ∷ 0 ∷ 0 ∷ 0
    ∷ 45 ∷ 100 ∷ 0x2A202020 ∷ 0x2A2020 ∷ 0x2A202020 ∷ 20 ∷ 1
    ∷ 45 ∷ 0x2A2020 ∷ 0x424F4154 ∷ 100 ∷ 0x424F4154 ∷ 30 ∷ 1
    ∷ 45 ∷ 100 ∷ 0x2A202020 ∷ 0x2A2020 ∷ 0x2A202020 ∷ 99 ∷ 2
    ∷ 45 ∷ 200 ∷ 0x49432020 ∷ 0x2A2020 ∷ 0x2A202020 ∷ 999 ∷ 1
    ∷ 35 ∷ BBB ∷ 0 ∷ 0 ∷ 0 ∷ 0 ∷ 0
    ∷ replicate 8 0

-- each table has a line's room to spare and a remainder, TIMETBLS four lines'
abbrev pub stored : PerFile (List ℕ)
stored =
    record {
      delivery = delivery_words;
      company = company_words;
      country = country_words;
      trnsmode = trnsmode_words;
      timezone = timezone_words;
      stations = stations_words;
      footnote = footnote_words;
      timetbls = timetbls_words;
      changes = changes_words;
      xfootnote = xfootnote_words;
      xchanges = xchanges_words;
    }

-- the tables' lengths
abbrev pub rooms : PerFile ℕ
rooms =
    record {
      delivery = 13;
      company = 25;
      country = 19;
      trnsmode = 25;
      timezone = 43;
      stations = 31;
      footnote = 85;
      timetbls = 241;
      changes = 55;
      xfootnote = 85;
      xchanges = 57;
    }

-- CHANGES TO TABLES
-- another word in row i, word k of a file's table, both counted from 0
abbrev pub reword : File → ℕ → ℕ → ℕ → PerFile (List ℕ) → PerFile (List ℕ)
reword f i k x T = at f (λ t. set t (i * row_width f + k) x) T

-- another word k in the first row of every table
abbrev pub reword_firsts : ℕ → ℕ → PerFile (List ℕ) → PerFile (List ℕ)
reword_firsts k x T = per_file (λ f. set (of T f) k x)

-- the words of some new rows, before row i
abbrev pub insert_rows : File → ℕ → List ℕ → PerFile (List ℕ) → PerFile (List ℕ)
insert_rows f i ws T = at f (λ t. take (i * row_width f) t ++ (ws ++ drop (i * row_width f) t)) T

-- the first n rows of a file's table, and no more
abbrev pub keeping : ℕ → File → PerFile (List ℕ) → PerFile (List ℕ)
keeping n f T = at f (λ t. take (n * row_width f) t ++ replicate (length t - n * row_width f) 0) T

-- the last word of COMPANY's table, which no row reaches, is not zero
abbrev pub tampered : PerFile (List ℕ)
tampered = reword (Rows Company) 4 0 1 stored
