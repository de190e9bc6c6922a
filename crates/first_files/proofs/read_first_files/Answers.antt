-- `read_first_files` meets its contract: each reader's word handed on. Assumes nothing.
use mathlib.Core.Path.{◌≡◌}
use mathlib.Core.Bool.{true}
use Rattle.iff.specs.Refusals.{fine}
use Rattle.file_laws.proofs.ContextLaws.{back, delivery_back, rows_back, groups_back}
use Rattle.first_files.proofs.read_first_files.Goals as goal

-- WHAT THE READERS ASK FOR
pub read_delivery-v1-requires : goal.read_delivery-v1-requires
read_delivery-v1-requires c =
    λ g. (c.requires g).delivery

pub read_row_file-v2-requires : goal.read_row_file-v2-requires
read_row_file-v2-requires c =
    let Right : Type 0 = fine c.args.v ≡ true in
    let back_delivery : fine c.read_delivery-v1.result ≡ true → Right = λ g. delivery_back c.read_delivery-v1.ensures g in
    λ g. (c.requires (back_delivery g)).company

pub read_row_file-v4-requires : goal.read_row_file-v4-requires
read_row_file-v4-requires c =
    let Right : Type 0 = fine c.args.v ≡ true in
    let back_delivery : fine c.read_delivery-v1.result ≡ true → Right = λ g. delivery_back c.read_delivery-v1.ensures g in
    let back_company : fine c.read_row_file-v2.result ≡ true → Right = λ g. back_delivery (rows_back c.read_row_file-v2.ensures g) in
    let back_named : fine c.company_test-v3.result ≡ true → Right = λ g. back_company (back c.read_row_file-v2.result _ c.company_test-v3.ensures g) in
    λ g. (c.requires (back_named g)).country

pub read_row_file-v5-requires : goal.read_row_file-v5-requires
read_row_file-v5-requires c =
    let Right : Type 0 = fine c.args.v ≡ true in
    let back_delivery : fine c.read_delivery-v1.result ≡ true → Right = λ g. delivery_back c.read_delivery-v1.ensures g in
    let back_company : fine c.read_row_file-v2.result ≡ true → Right = λ g. back_delivery (rows_back c.read_row_file-v2.ensures g) in
    let back_named : fine c.company_test-v3.result ≡ true → Right = λ g. back_company (back c.read_row_file-v2.result _ c.company_test-v3.ensures g) in
    let back_country : fine c.read_row_file-v4.result ≡ true → Right = λ g. back_named (rows_back c.read_row_file-v4.ensures g) in
    λ g. (c.requires (back_country g)).trnsmode

pub read_group_file-v6-requires : goal.read_group_file-v6-requires
read_group_file-v6-requires c =
    let Right : Type 0 = fine c.args.v ≡ true in
    let back_delivery : fine c.read_delivery-v1.result ≡ true → Right = λ g. delivery_back c.read_delivery-v1.ensures g in
    let back_company : fine c.read_row_file-v2.result ≡ true → Right = λ g. back_delivery (rows_back c.read_row_file-v2.ensures g) in
    let back_named : fine c.company_test-v3.result ≡ true → Right = λ g. back_company (back c.read_row_file-v2.result _ c.company_test-v3.ensures g) in
    let back_country : fine c.read_row_file-v4.result ≡ true → Right = λ g. back_named (rows_back c.read_row_file-v4.ensures g) in
    let back_trnsmode : fine c.read_row_file-v5.result ≡ true → Right = λ g. back_country (rows_back c.read_row_file-v5.ensures g) in
    λ g. (c.requires (back_trnsmode g)).timezone

pub read_row_file-v7-requires : goal.read_row_file-v7-requires
read_row_file-v7-requires c =
    let Right : Type 0 = fine c.args.v ≡ true in
    let back_delivery : fine c.read_delivery-v1.result ≡ true → Right = λ g. delivery_back c.read_delivery-v1.ensures g in
    let back_company : fine c.read_row_file-v2.result ≡ true → Right = λ g. back_delivery (rows_back c.read_row_file-v2.ensures g) in
    let back_named : fine c.company_test-v3.result ≡ true → Right = λ g. back_company (back c.read_row_file-v2.result _ c.company_test-v3.ensures g) in
    let back_country : fine c.read_row_file-v4.result ≡ true → Right = λ g. back_named (rows_back c.read_row_file-v4.ensures g) in
    let back_trnsmode : fine c.read_row_file-v5.result ≡ true → Right = λ g. back_country (rows_back c.read_row_file-v5.ensures g) in
    let back_timezone : fine c.read_group_file-v6.result ≡ true → Right = λ g. back_trnsmode (groups_back c.read_group_file-v6.ensures g) in
    λ g. (c.requires (back_timezone g)).stations

pub read_group_file-v8-requires : goal.read_group_file-v8-requires
read_group_file-v8-requires c =
    let Right : Type 0 = fine c.args.v ≡ true in
    let back_delivery : fine c.read_delivery-v1.result ≡ true → Right = λ g. delivery_back c.read_delivery-v1.ensures g in
    let back_company : fine c.read_row_file-v2.result ≡ true → Right = λ g. back_delivery (rows_back c.read_row_file-v2.ensures g) in
    let back_named : fine c.company_test-v3.result ≡ true → Right = λ g. back_company (back c.read_row_file-v2.result _ c.company_test-v3.ensures g) in
    let back_country : fine c.read_row_file-v4.result ≡ true → Right = λ g. back_named (rows_back c.read_row_file-v4.ensures g) in
    let back_trnsmode : fine c.read_row_file-v5.result ≡ true → Right = λ g. back_country (rows_back c.read_row_file-v5.ensures g) in
    let back_timezone : fine c.read_group_file-v6.result ≡ true → Right = λ g. back_trnsmode (groups_back c.read_group_file-v6.ensures g) in
    let back_stations : fine c.read_row_file-v7.result ≡ true → Right = λ g. back_timezone (rows_back c.read_row_file-v7.ensures g) in
    λ g. (c.requires (back_stations g)).footnote

-- THE TABLES KEEP THEIR LENGTHS
pub shape_of-t_delivery : goal.shape_of-t_delivery
shape_of-t_delivery c = c.read_delivery-v1.ensures.kept

pub shape_of-t_company : goal.shape_of-t_company
shape_of-t_company c = c.read_row_file-v2.ensures.kept

pub shape_of-t_country : goal.shape_of-t_country
shape_of-t_country c = c.read_row_file-v4.ensures.kept

pub shape_of-t_trnsmode : goal.shape_of-t_trnsmode
shape_of-t_trnsmode c = c.read_row_file-v5.ensures.kept

pub shape_of-t_timezone : goal.shape_of-t_timezone
shape_of-t_timezone c = c.read_group_file-v6.ensures.kept

pub shape_of-t_stations : goal.shape_of-t_stations
shape_of-t_stations c = c.read_row_file-v7.ensures.kept

pub shape_of-t_footnote : goal.shape_of-t_footnote
shape_of-t_footnote c = c.read_group_file-v8.ensures.kept

pub returns : goal.returns
returns c =
    record {
      after_delivery = _;
      after_company = _;
      after_named = _;
      after_country = _;
      after_trnsmode = _;
      after_timezone = _;
      after_stations = _;
      delivered = c.read_delivery-v1.ensures;
      formed = c.form_of-form.ensures;
      companies = c.read_row_file-v2.ensures;
      named = c.company_test-v3.ensures;
      countries = c.read_row_file-v4.ensures;
      modes = c.read_row_file-v5.ensures;
      zones = c.read_group_file-v6.ensures;
      places = c.read_row_file-v7.ensures;
      footnotes = c.read_group_file-v8.ensures;
    }
