-- What the soundness of eleven tables gives the questions. Assumes nothing.
use Prim.Native.Nat.{ℕ, zero, suc, ◌+◌, ◌*◌, ◌≤◌, ◌<◌}
use mathlib.Core.Path.{◌≡◌, refl, ap, sym, ◌∙◌}
use mathlib.Core.List.{List, [], ◌∷◌}
use mathlib.Core.Bool.{Bool, true, false}
use native.Mathlib.Nat.{zero-mul}
use native.Mathlib.Omega.{arith}
use borrow.Author.Tests.{eqb-true, ltb-true}
use lib.Dec.{eqb}
use lib.ListN.{length, get_or, drop}
use Rattle.iff.specs.Lists.{all, total}
use Rattle.iff.specs.Days.{span, longest}
use Rattle.iff.specs.Files.{PerFile, of, in_order, limit}
use Rattle.iff.specs.Tables.{tag, row_width, row_at, rows_in, all_zero, key_tag, keys_of}
use Rattle.iff.specs.Words.{first_day, last_day, hours, change_time, exception_time, line_count, stop_count}
use Rattle.iff.specs.declared.RowFile.TheVariants.{Company, Country, Trnsmode, Stations}
use Rattle.iff.specs.declared.GroupFile.TheVariants.{Timezone, Footnote, Changes, Xfootnote, Xchanges}
use Rattle.iff.specs.declared.File.{File}
use Rattle.iff.specs.declared.File.TheVariants.{Delivery, Rows, Groups, Timetbls}
use Rattle.iff_rules.specs.Rows.{context_of, first_of}
use Rattle.iff_rules.specs.Legs.{stops_of}
use Rattle.iff_laws.specs.TruthLaws.{both, says_all}
use Rattle.iff_desk.specs.Sound.{rows_of_tables, row_size, first_size, sound_rows, sound_table, sound, distinct}
use Rattle.iff_desk.specs.Store.{no_row, group_of, station_row, holds, period_of, is_there}
use Rattle.tables.proofs.Each.{Each}
use Rattle.sound_facts.proofs.PeriodFacts.{period_alone, period_there}
use Rattle.walks.proofs.TableLaws.{tag_first, parted}
use Rattle.sound_facts.proofs.RowFacts.{at_no_key, zero_no_key, first_at, one_of, keys_once_lem, rows_short, days_few, station_times, key_block}
use Rattle.sound_facts.proofs.RowFacts.{period_few, exceptions_few}

-- the files, by their place in the order of reading
module _ (p : File → Bool) (e : all p in_order ≡ true) where
  at_place : (i : ℕ) → i < 11 → p (get_or in_order i Delivery) ≡ true
  at_place i h = (says_all Delivery p in_order).0 e i h

  each_file : (f : File) → p f ≡ true
  each_file Delivery = at_place 0 (omega arith)
  each_file (Rows Company) = at_place 1 (omega arith)
  each_file (Rows Country) = at_place 2 (omega arith)
  each_file (Rows Trnsmode) = at_place 3 (omega arith)
  each_file (Groups Timezone) = at_place 4 (omega arith)
  each_file (Rows Stations) = at_place 5 (omega arith)
  each_file (Groups Footnote) = at_place 6 (omega arith)
  each_file Timetbls = at_place 7 (omega arith)
  each_file (Groups Changes) = at_place 8 (omega arith)
  each_file (Groups Xfootnote) = at_place 9 (omega arith)
  each_file (Groups Xchanges) = at_place 10 (omega arith)

-- the first of words that are all zero
first_zero : (t : List ℕ) → all_zero t ≡ true → get_or t 0 0 ≡ 0
unfolding all
first_zero [] e = refl
first_zero (x ∷ t) e = sym (eqb-true 0 x (both (eqb 0 x) (all_zero t) e).0)

-- the rows of a file's table
rows_of : (T : PerFile (List ℕ)) (f : File) → of (rows_of_tables T) f ≡ rows_in f (of T f)
rows_of T Delivery = refl
rows_of T (Rows Company) = refl
rows_of T (Rows Country) = refl
rows_of T (Rows Trnsmode) = refl
rows_of T (Rows Stations) = refl
rows_of T (Groups Timezone) = refl
rows_of T (Groups Footnote) = refl
rows_of T (Groups Changes) = refl
rows_of T (Groups Xfootnote) = refl
rows_of T (Groups Xchanges) = refl
rows_of T Timetbls = refl

module _ (T : PerFile (List ℕ)) (s : sound T ≡ true) where
  pub table_sound : (f : File) → sound_table (context_of (rows_of_tables T)) (rows_of_tables T) f (of T f) ≡ true
  unfolding sound
  table_sound f = each_file (λ f. sound_table (context_of (rows_of_tables T)) (rows_of_tables T) f (of T f)) (both _ _ s).0 f

  rows_sound : (f : File) → sound_rows (context_of (rows_of_tables T)) (first_of (rows_of_tables T).delivery) f (rows_in f (of T f)) ≡ true
  unfolding sound_table
  rows_sound f = rw (← (rows_of T f)) (one_of _ (table_sound f) 1)

  -- "the needed first lines are there": DELIVERY has a row
  pub delivery_held : 0 < length (rows_in Delivery T.delivery)
  unfolding sound_table
  delivery_held = ltb-true _ _ (one_of _ (table_sound Delivery) 0)

  -- "unused places are zero"
  pub unused_zero : (f : File) → all_zero (drop (length (rows_in f (of T f)) * row_width f) (of T f)) ≡ true
  unfolding sound_table
  unused_zero f = rw (← (rows_of T f)) (one_of _ (table_sound f) 2)

  -- the first row, where there is one, is a first line's: it names nothing
  pub first_unnamed : (f : File) → eqb (tag (row_at (row_width f) (of T f) 0)) (key_tag f) ≡ false
  first_unnamed f = go (length (rows_in f t)) refl
    where
      t : List ℕ
      t = of T f

      go : (n : ℕ) → length (rows_in f t) ≡ n → eqb (tag (row_at (row_width f) t 0)) (key_tag f) ≡ false
      go zero e =
          let zeros : all_zero t ≡ true = rw (e, zero-mul) at (unused_zero f) in
          ap (λ x. eqb x (key_tag f)) (sym (tag_first f t) ∙ first_zero t zeros) ∙ zero_no_key f
      go (suc n) e =
          let some : 0 < length (rows_in f t) = omega arith in
          let rows = rw (parted f t (length (rows_in f t)) refl some) at (rows_sound f) in
          ap (λ x. eqb x (key_tag f)) (first_at _ _ f _ _ rows) ∙ at_no_key f

  -- "file length": the lines that a table's rows stand for
  pub short : (f : File) → first_size + total (row_size (context_of (rows_of_tables T)).form f) (drop 1 (rows_in f (of T f))) ≤ limit
  short f = rows_short _ _ f _ (rows_sound f)

  -- "Unique": no two rows of a file name one key
  pub once : (f : File) → distinct (keys_of f (rows_in f (of T f))) ≡ true
  once f = keys_once_lem _ _ f _ (rows_sound f)

  -- "A delivery spans at most 800 days."
  pub few_days : span (first_day (first_of (rows_in Delivery T.delivery))) (last_day (first_of (rows_in Delivery T.delivery))) ≤ longest
  few_days = days_few _ _ Delivery _ (rows_sound Delivery)

  -- a service's `#` row counts the block's lines, and its stops
  pub block_lines_lem : (service : ℕ)
      → length (group_of service (rows_in Timetbls T.timetbls)) ≡ line_count (first_of (group_of service (rows_in Timetbls T.timetbls)))
  block_lines_lem service = (key_block _ _ _ (rows_sound Timetbls) service).0

  pub block_stops : (service : ℕ)
      → stops_of (group_of service (rows_in Timetbls T.timetbls)) ≡ stop_count (first_of (group_of service (rows_in Timetbls T.timetbls)))
  block_stops service = (key_block _ _ _ (rows_sound Timetbls) service).1

  -- hours of a zone's period, 2-3
  pub few_hours : (zone day : ℕ) → hours (period_of (rows_in (Groups Timezone) T.timezone) zone day) < 100
  few_hours zone day = period_few _ _ _ (rows_sound (Groups Timezone)) zone day

  -- "Periods of one zone do not overlap.": the one that holds a day is the zone's period on it
  pub one_period : (zone day i : ℕ) → i < length (drop 1 (group_of zone (rows_in (Groups Timezone) T.timezone)))
      → holds day (get_or (drop 1 (group_of zone (rows_in (Groups Timezone) T.timezone))) i no_row) ≡ true
      → period_of (rows_in (Groups Timezone) T.timezone) zone day ≡ get_or (drop 1 (group_of zone (rows_in (Groups Timezone) T.timezone))) i no_row
  one_period zone day i h e = period_alone _ _ _ (rows_sound (Groups Timezone)) zone day i h e

  pub period_is_there : (zone i : ℕ) → i < length (drop 1 (group_of zone (rows_in (Groups Timezone) T.timezone)))
      → is_there (get_or (drop 1 (group_of zone (rows_in (Groups Timezone) T.timezone))) i no_row) ≡ true
  period_is_there zone i h = period_there _ _ _ (rows_sound (Groups Timezone)) zone i h

  -- a station's change time, 11-12
  pub few_change_time : (key : ℕ) → change_time (station_row (rows_of_tables T) key) < 100
  unfolding station_row
  few_change_time key = station_times _ _ _ (rows_sound (Rows Stations)) key

  -- an exception's time, 20-22
  pub few_exception_time : (station : ℕ) → Each (λ r. exception_time r < 1000) (drop 1 (group_of station (rows_in (Groups Xchanges) T.xchanges)))
  few_exception_time station = exceptions_few _ _ _ (rows_sound (Groups Xchanges)) station
