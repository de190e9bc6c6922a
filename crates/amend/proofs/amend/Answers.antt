-- `amend::amend` meets its contract: soundness first, which the rest stands on. Assumes nothing.
use mathlib.Core.Path.{◌≡◌, sym, ◌∙◌}
use mathlib.Core.Bool.{true}
use mathlib.Core.List.{List}
use Prim.Native.Nat.{ℕ}
use borrow.Author.Tests.{not-true, not-false}
use Rattle.iff.specs.Files.{PerFile, eleven}
use Rattle.iff_desk.specs.Sound.{sound}
use Rattle.amend.proofs.AmendLaws.{not_sound, sound_there, amended_sound}
use Rattle.amend.proofs.amend.Goals as goal

pub returns-then-not-is_sound_by : goal.returns-then-not-is_sound_by
returns-then-not-is_sound_by c =
    let tables : PerFile (List ℕ) = let a = c.args in
    eleven a.delivery.now a.company.now a.country.now a.trnsmode.now a.timezone.now a.stations.now a.footnote.now
    a.timetbls.now a.changes.now a.xfootnote.now a.xchanges.now in
    not_sound tables c.args.service c.args.block.now (sym c.is_sound_by.ensures ∙ not-true _ c.if-not-is_sound_by.true-raw)

pub amend_there-requires : goal.amend_there-requires
amend_there-requires c =
    let tables : PerFile (List ℕ) = let a = c.args in
    eleven a.delivery.now a.company.now a.country.now a.trnsmode.now a.timezone.now a.stations.now a.footnote.now
    a.timetbls.now a.changes.now a.xfootnote.now a.xchanges.now in
    let are_sound : sound tables ≡ true = sym c.is_sound_by.ensures ∙ not-false _ c.if-not-is_sound_by.false-raw in
    sound_there tables c.args.service c.args.block.now are_sound

pub returns : goal.returns
returns c =
    let tables : PerFile (List ℕ) = let a = c.args in
    eleven a.delivery.now a.company.now a.country.now a.trnsmode.now a.timezone.now a.stations.now a.footnote.now
    a.timetbls.now a.changes.now a.xfootnote.now a.xchanges.now in
    let are_sound : sound tables ≡ true = sym c.is_sound_by.ensures ∙ not-false _ c.if-not-is_sound_by.false-raw in
    amended_sound tables c.args.service c.args.block.now are_sound _ _ c.amend_there.ensures
