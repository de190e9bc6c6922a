-- `lengths` meets its contract: the tests of the files, in their order. Assumes nothing.
use Rattle.std.specs.Prelude.{Ok}
use Prim.Native.Nat.{ℕ}
use Rattle.iff.specs.Files.{PerFile, of, eleven}
use Rattle.size_tests.specs.Lengths.{length_within}
use Rattle.sizes.proofs.SizeLaws.{in_order_lem}
use Rattle.sizes.proofs.lengths.Goals as goal

pub returns : goal.returns
returns c =
    let a = c.args in
    let L : PerFile ℕ =
    eleven a.n_delivery a.n_company a.n_country a.n_trnsmode a.n_timezone a.n_stations a.n_footnote a.n_timetbls
    a.n_changes a.n_xfootnote a.n_xchanges in
    in_order_lem (λ f. length_within a.most f (of L f)) (Ok tt)
    c.length_test-v1.ensures
    c.length_test-v2.ensures
    c.length_test-v3.ensures
    c.length_test-v4.ensures
    c.length_test-v5.ensures
    c.length_test-v6.ensures
    c.length_test-v7.ensures
    c.length_test-v8.ensures
    c.length_test-v9.ensures
    c.length_test-v10.ensures
    c.length_test.ensures
