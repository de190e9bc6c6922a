-- Everything that a case computes through, opened at once: `unfolding opened` opens all that the line below names.
use Rattle.std.specs.Prelude.{ℕ}
use Rattle.iff.specs.Bytes.{allowed, digit, zero_or_one, bytes}
use Rattle.iff.specs.Lists.{front, groups, flat, any, all, kept, position, total, all_of, all2}
use Rattle.iff.specs.Refusals.{first_test, first_fault, scan, after}
use Rattle.iff.specs.Lines.{before, lines, text, width}
use Rattle.iff.specs.Columns.{record_fields, block_record, record_of, fields_of, picture_from, column, figure}
use Rattle.iff.specs.Values.{value, wildcard, field_right, readable, company_or_any, bits, vector_words, field_words, words, code_bytes, code_right}
use Rattle.iff.specs.Values.{vector_right, word_right, words_right}
use Rattle.iff.specs.Days.{leap_year, days_before, year_days, days_in, years_before, day_is, day_of, period, span, in_period, day_in}
use Rattle.iff.specs.Times.{is_time, minutes_of, is_turn, interval}
use Rattle.iff.specs.Tables.{padded, joined, fill, put_row, rows_up_to, rising, first_row}
use Rattle.iff_rules.specs.Order.{line_test, may_follow, group_stand, goes}
use Rattle.iff_rules.specs.Rows.{row_of, block_row, block_rows_from, blocks_rows, first_row_of, rows_of_lines, form_of, context_of}
use Rattle.iff_rules.specs.Meaning.{first_meaning, row_meaning, group_meaning, block_meaning}
use Rattle.iff_rules.specs.Unique.{fresh_key, fresh_texts, fresh_in_group}
use Rattle.iff_rules.specs.References.{met_by_row, met_in_block, met_in_group}
use Rattle.iff_rules.specs.Legs.{covered, in_range, legs}
use Rattle.iff_rules.specs.Load.{first_line_test, delivery_verdict, plain_test, plain_verdict, group_test, group_verdict, groups_verdict, block_test}
use Rattle.iff_rules.specs.Load.{block_moves, block_verdict, timetbls_verdict, file_verdict, contents_verdict, load_verdict, load_answer, filled, load_table}
use Rattle.iff_desk.specs.Sound.{passes, shaped, distinct, sound_first, sound_plain_row, sound_plain, sound_group_row, sound_group, sound_groups, sound_block_row, stand_after_rows}
use Rattle.iff_desk.specs.Sound.{sound_block, sound_timetbls, sound_rows, sound_table, sound}
use Rattle.iff_desk.specs.Store.{group_of, stop_at, record_on, station_row, marked, holds, period_of}
use Rattle.iff_desk.specs.Running.{runs_on, asked, running_in, running_day}
use Rattle.iff_desk.specs.Stops.{may_alight, may_board, told_on, stop_time_in, stop_time}
use Rattle.iff_desk.specs.Card.{card, place_of}
use Rattle.iff_desk.specs.Changing.{pair_at, riding_on, applies, rank, better, best, best_at, settled, by_time, core}
use Rattle.iff_desk.specs.Changing.{first_hurdle, core_by, core_change, precheck, change}
use Rattle.iff_desk.specs.Parts.{seek, seek_after, is_station, name, name_test, is_head, is_one_block, lines_now, lines_now_test}
use Rattle.iff_desk.specs.Amend.{amend_verdict, amend_answer, amend_timetbls, edited}
use Rattle.small_delivery.specs.Text.{text_of, lines_of}

unfoldable pub opened : ℕ
unfolding allowed digit zero_or_one front groups flat any all kept position total all_of all2 first_test first_fault scan after before lines text width
    record_fields block_record record_of fields_of picture_from column figure value wildcard field_right readable company_or_any bits vector_words field_words
    words code_bytes code_right vector_right word_right words_right leap_year days_before year_days days_in years_before day_is day_of period span in_period day_in
    is_time minutes_of is_turn interval padded joined fill put_row rows_up_to rising first_row line_test may_follow group_stand goes row_of block_row
    block_rows_from blocks_rows first_row_of rows_of_lines form_of context_of first_meaning row_meaning group_meaning block_meaning fresh_key fresh_texts
    fresh_in_group met_by_row met_in_block met_in_group covered in_range legs first_line_test delivery_verdict plain_test plain_verdict group_test group_verdict
    groups_verdict block_test block_moves block_verdict timetbls_verdict file_verdict contents_verdict load_verdict load_answer filled load_table passes shaped distinct
    sound_first sound_plain_row sound_plain sound_group_row sound_group sound_groups sound_block_row stand_after_rows sound_block sound_timetbls sound_rows sound_table sound
    group_of stop_at record_on station_row marked holds period_of runs_on asked running_in running_day may_alight may_board told_on stop_time_in stop_time pair_at
    riding_on applies card place_of rank better best best_at settled by_time core first_hurdle core_by core_change precheck change seek seek_after is_station
    name name_test is_head is_one_block lines_now lines_now_test amend_verdict amend_answer amend_timetbls edited bytes text_of lines_of
opened = 0
