-- `sound::are_right_behind` meets its contract: DELIVERY's rows, then nine files, one after the other. Assumes nothing.
use mathlib.Core.Path.{◌≡◌, refl, ap, sym, ◌∙◌}
use lib.Dec.{ltb}
use Rattle.iff.specs.Files.{of, eleven}
use Rattle.iff.specs.Tables.{rows_in}
use Rattle.iff.specs.declared.File.TheVariants.{Delivery}
use Rattle.iff_rules.specs.Rows.{context_of}
use Rattle.iff_desk.specs.Sound.{rows_of_tables}
use Rattle.sound_behind.specs.Behind.{behind}
use Rattle.sound.specs.Whole.{all_behind}
use Rattle.sound.proofs.WholeLaws.{in_order_lem, one_row, station_keys, group_keys_lem}
use Rattle.sound.proofs.are_right_behind.Goals as goal

pub are_rows_right-with_company-requires : goal.are_rows_right-with_company-requires
are_rows_right-with_company-requires c = c.requires.0.company

pub are_rows_right-with_country-requires : goal.are_rows_right-with_country-requires
are_rows_right-with_country-requires c = c.requires.0.country

pub are_rows_right-with_trnsmode-requires : goal.are_rows_right-with_trnsmode-requires
are_rows_right-with_trnsmode-requires c = c.requires.0.trnsmode

pub are_groups_right-with_timezone-requires : goal.are_groups_right-with_timezone-requires
are_groups_right-with_timezone-requires c = c.requires.0.timezone

pub are_rows_right-with_stations-requires : goal.are_rows_right-with_stations-requires
are_rows_right-with_stations-requires c = c.requires.0.stations

pub are_groups_right-with_footnote-requires : goal.are_groups_right-with_footnote-requires
are_groups_right-with_footnote-requires c = c.requires.0.footnote

pub are_groups_right-with_changes-requires : goal.are_groups_right-with_changes-requires
are_groups_right-with_changes-requires c = c.requires.0.changes

pub are_groups_right-with_xfootnote-requires : goal.are_groups_right-with_xfootnote-requires
are_groups_right-with_xfootnote-requires c = c.requires.0.xfootnote

pub are_groups_right-with_xchanges-requires : goal.are_groups_right-with_xchanges-requires
are_groups_right-with_xchanges-requires c = c.requires.0.xchanges

pub returns : goal.returns
unfolding all_behind
returns c form =
    let a = c.args in
    let T = eleven a.delivery.now a.company.now a.country.now a.trnsmode.now a.timezone.now a.stations.now a.footnote.now a.timetbls.now a.changes.now a.xfootnote.now a.xchanges.now in
    let x = context_of (rows_of_tables T) in
    let st = station_keys T in
    let gr = group_keys_lem T a.used c.requires.0 a.services c.requires.1 in
    in_order_lem (λ f. behind x f (rows_in f (of T f))) _ _ _ _ _ _ _ _ _ _
    (ap (λ n. ltb n 2) c.requires.0.delivery ∙ one_row x (rows_in Delivery a.delivery.now))
    (c.are_rows_right-with_company.ensures x (sym form) st)
    (c.are_rows_right-with_country.ensures x (sym form) st)
    (c.are_rows_right-with_trnsmode.ensures x (sym form) st)
    (c.are_groups_right-with_timezone.ensures x (sym form) gr)
    (c.are_rows_right-with_stations.ensures x (sym form) st)
    (c.are_groups_right-with_footnote.ensures x (sym form) gr)
    (c.are_groups_right-with_changes.ensures x (sym form) gr)
    (c.are_groups_right-with_xfootnote.ensures x (sym form) gr)
    (c.are_groups_right-with_xchanges.ensures x (sym form) gr)
