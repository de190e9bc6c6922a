-- What a caller in another language is promised.
use Rattle.std.specs.Prelude.{ℕ, ◌≡◌, List, ℤ, Result}
use Rattle.iff.specs.Files.{PerFile, of}
use Rattle.iff.specs.Lines.{lines}
use Rattle.iff.specs.declared.File.{File}
use Rattle.iff_rules.specs.Load.{load_answer, load_table}
use Rattle.iff_desk.specs.Amend.{amend_answer, amend_timetbls}
use Rattle.iff_desk.specs.Answers.{part_number}
use Rattle.iff_desk.specs.Sheet.{sheet_test}
use Rattle.iff_desk.specs.Parts.{name, name_test, is_one_block, lines_now, lines_now_test}
use Rattle.iff_desk.specs.declared.Change.{Change}
use Rattle.numbers.specs.Numbers.{answer_words}
use Rattle.question_numbers.specs.Numbers.{part_words, lines_words, stop_time_words, stop_time_minutes}
use Rattle.change_numbers.specs.Numbers.{change_words, change_gap}
use Rattle.sheet_answers.specs.Words.{sheet_list}
use Rattle.parts.specs.Bounds.{part_of, Inside}
use Rattle.station_names.specs.Names.{name_part}
use Rattle.service_lines.specs.Bounds.{text_now, part_now}
use Rattle.iff.specs.declared.Reason.{Reason}
use Rattle.iff_desk.specs.declared.StopTimes.{StopTimes}

-- A LOAD, as `load::load` promises it, with its answer in numbers
pub record LoadedInNumbers (F : PerFile (List ℕ)) (R : PerFile ℕ) (words : List ℕ) (T : PerFile (List ℕ)) : Type 0 where
  pub answers : words ≡ answer_words (load_answer F R)
  pub leaves : (f : File) → of T f ≡ load_table f F R

-- AN AMENDMENT, as `amend::amend` promises it, with its answer in numbers
pub record AmendedInNumbers (T : PerFile (List ℕ)) (s : ℕ) (b words t : List ℕ) : Type 0 where
  pub answers : words ≡ answer_words (amend_answer T s b)
  pub leaves : t ≡ amend_timetbls T s b

-- A NAME by its bounds in STATIONS, from a byte on and before another; both are 0 where there is none
pub record NamedInNumbers (stations : List ℕ) (short : ℕ) (words : List ℕ) : Type 0 where
  pub answers : words ≡ part_words (name_test stations short) (name_part stations short).from (name_part stations short).to
  pub inside : Inside stations (name_part stations short)
  pub part : part_of stations (name_part stations short).from (name_part stations short).to ≡ name stations short

-- LINES NOW by their bounds in the block where it is the service's, else in the text
pub record LinesInNumbers (text block : List ℕ) (service : ℕ) (words : List ℕ) : Type 0 where
  pub answers : words
      ≡ lines_words (lines_now_test text block service) (is_one_block service (lines block)) (part_now text block service).from (part_now text block service).to
  pub inside : Inside (text_now text block service) (part_now text block service)
  pub part : part_of (text_now text block service) (part_now text block service).from (part_now text block service).to ≡ lines_now text block service

-- A STOP'S TIMES, and a CHANGE: numbers, and minutes, which have a sign
pub record TimedInNumbers (a : Result StopTimes Reason) (words : List ℕ) (minutes : List ℤ) : Type 0 where
  pub answers : words ≡ stop_time_words a
  pub times : minutes ≡ stop_time_minutes a

pub record ChangedInNumbers (a : Result Change Reason) (words : List ℕ) (minutes : List ℤ) : Type 0 where
  pub answers : words ≡ change_words a
  pub gap : minutes ≡ change_gap a

-- A SHEET: the refusal's number, 0 where every question is answered, and the lent list
pub record SheetedInNumbers (T : PerFile (List ℕ)) (qs list : List ℕ) (number : ℕ) (after : List ℕ) : Type 0 where
  pub tells : number ≡ part_number (sheet_test T qs list)
  pub leaves : after ≡ sheet_list T qs list
