-- `sound::tell_soundness` meets its contract: what is there, then the rest. Assumes nothing.
use Prim.Native.Nat.{ℕ, ◌<◌, ◌≤◌}
use mathlib.Core.Path.{◌≡◌, refl, sym, ◌∙◌}
use mathlib.Core.List.{List}
use native.Mathlib.Omega.{arith}
use borrow.Author.Tests.{not-true, not-false}
use Rattle.iff.specs.Files.{PerFile, eleven}
use Rattle.iff.specs.declared.File.TheVariants.{Delivery}
use Rattle.iff_desk.specs.Sound.{rows_of_tables}
use Rattle.walks.proofs.TableLaws.{first_inside, first_wide, first_row_lem}
use Rattle.sound.specs.Whole.{Counted, all_there}
use Rattle.sound.proofs.WholeLaws.{not_there, delivery_held, unsound}
use Rattle.sound.proofs.tell_soundness.Goals as goal

pub returns-then-not-are_there : goal.returns-then-not-are_there
returns-then-not-are_there c =
    let tables : PerFile (List ℕ) = let a = c.args in
    eleven a.delivery.now a.company.now a.country.now a.trnsmode.now a.timezone.now a.stations.now a.footnote.now a.timetbls.now a.changes.now a.xfootnote.now a.xchanges.now in
    let counted : Counted tables c.count_rows-used.result = c.count_rows-used.ensures c.args.timetbls.now in
    let there_is : c.are_there.result ≡ all_there (rows_of_tables tables) = c.are_there.ensures tables counted c.has_blocks.ensures in
    unsound tables _ (not_there tables (sym there_is ∙ not-true _ c.if-not-are_there.true-raw))

pub slice_bounds-first-end : goal.slice_bounds-first-end
slice_bounds-first-end c =
    let tables : PerFile (List ℕ) = let a = c.args in
    eleven a.delivery.now a.company.now a.country.now a.trnsmode.now a.timezone.now a.stations.now a.footnote.now a.timetbls.now a.changes.now a.xfootnote.now a.xchanges.now in
    let counted : Counted tables c.count_rows-used.result = c.count_rows-used.ensures c.args.timetbls.now in
    let there_is : c.are_there.result ≡ all_there (rows_of_tables tables) = c.are_there.ensures tables counted c.has_blocks.ensures in
    let held : 0 < c.count_rows-used.result.delivery = omega (arith, delivery_held tables (sym there_is ∙ not-false _ c.if-not-are_there.false-raw), counted.delivery) in
    let a = c.args in
    let h = first_inside Delivery a.delivery.now _ counted.delivery held in
    omega (arith, h)

pub are_all_sound-requires : goal.are_all_sound-requires
are_all_sound-requires c =
    let tables : PerFile (List ℕ) = let a = c.args in
    eleven a.delivery.now a.company.now a.country.now a.trnsmode.now a.timezone.now a.stations.now a.footnote.now a.timetbls.now a.changes.now a.xfootnote.now a.xchanges.now in
    let counted : Counted tables c.count_rows-used.result = c.count_rows-used.ensures c.args.timetbls.now in
    let there_is : c.are_there.result ≡ all_there (rows_of_tables tables) = c.are_there.ensures tables counted c.has_blocks.ensures in
    let held : 0 < c.count_rows-used.result.delivery = omega (arith, delivery_held tables (sym there_is ∙ not-false _ c.if-not-are_there.false-raw), counted.delivery) in
    let a = c.args in
    let k = counted in
    let r = first_row_lem Delivery a.delivery.now _ k.delivery held in
    let w = first_wide Delivery a.delivery.now 6 refl (first_inside Delivery a.delivery.now _ k.delivery held) in
    (k, r.0, omega (arith, w), sym there_is ∙ not-false _ c.if-not-are_there.false-raw)

pub returns : goal.returns
returns c = c.are_all_sound.ensures
