-- `absences` meets its contract: the tests of the files, in their order. Assumes nothing.
use mathlib.Core.Path.{refl}
use Rattle.iff.specs.Files.{eleven}
use Rattle.iff_rules.specs.Load.{absence_verdict}
use Rattle.sizes.specs.Sizes.{there_by}
use Rattle.sizes.proofs.SizeLaws.{in_order_lem}
use Rattle.sizes.proofs.absences.Goals as goal

pub returns : goal.returns
returns c =
    let a = c.args in
    let there = there_by
    (eleven a.n_delivery a.n_company a.n_country a.n_trnsmode a.n_timezone a.n_stations a.n_footnote a.n_timetbls
    a.n_changes a.n_xfootnote a.n_xchanges) in
    in_order_lem (absence_verdict there) a.v
    (c.absence_test-v1.ensures there refl refl)
    (c.absence_test-v2.ensures there refl refl)
    (c.absence_test-v3.ensures there refl refl)
    (c.absence_test-v4.ensures there refl refl)
    (c.absence_test-v5.ensures there refl refl)
    (c.absence_test-v6.ensures there refl refl)
    (c.absence_test-v7.ensures there refl refl)
    (c.absence_test-v8.ensures there refl refl)
    (c.absence_test-v9.ensures there refl refl)
    (c.absence_test-v10.ensures there refl refl)
    (c.absence_test.ensures there refl refl)
