-- `rooms` meets its contract: the tests of the files, in their order. Assumes nothing.
use Prim.Native.Nat.{ℕ}
use mathlib.Core.List.{List}
use lib.ListN.{length}
use Rattle.iff.specs.Files.{PerFile, of, eleven}
use Rattle.iff.specs.Lines.{lines}
use Rattle.iff_rules.specs.Load.{room_verdict}
use Rattle.sizes.proofs.SizeLaws.{in_order_lem}
use Rattle.sizes.proofs.rooms.Goals as goal

pub returns : goal.returns
returns c =
    let a = c.args in
    let F : PerFile (List ℕ) =
    eleven a.delivery.now a.company.now a.country.now a.trnsmode.now a.timezone.now a.stations.now
    a.footnote.now a.timetbls.now a.changes.now a.xfootnote.now a.xchanges.now in
    let R : PerFile ℕ =
    eleven a.r_delivery a.r_company a.r_country a.r_trnsmode a.r_timezone a.r_stations a.r_footnote a.r_timetbls
    a.r_changes a.r_xfootnote a.r_xchanges in
    in_order_lem (λ f. room_verdict f (length (lines (of F f))) (of R f)) a.v
    c.room_test-v1.ensures
    c.room_test-v2.ensures
    c.room_test-v3.ensures
    c.room_test-v4.ensures
    c.room_test-v5.ensures
    c.room_test-v6.ensures
    c.room_test-v7.ensures
    c.room_test-v8.ensures
    c.room_test-v9.ensures
    c.room_test-v10.ensures
    c.room_test.ensures
