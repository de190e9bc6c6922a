-- `are_rows_sound` meets its contract: each row in its turn is told sound. Assumes nothing.
use Prim.Native.Nat.{◌-◌}
use mathlib.Core.Path.{refl, ◌∙◌}
use borrow.Author.Rules.{rules}
use borrow.Author.Tests.{tests}
use Rattle.std.proofs.lemmas.Iterator.{YieldsList-from_range}
use Rattle.std.proofs.lemmas.Iterator.Search.{all_from_yields_List}
use Rattle.sound_rows.proofs.WalkLaws.{is_row_sound, all_sound}
use Rattle.sound_rows.proofs.are_rows_sound.Goals as goal

pub returns : goal.returns
returns c k d a =
    let p = c.args in
    let among = c.count_for_stations-counts.ensures k a in
    all_from_yields_List (is_row_sound k p.file c.row_width-w.result p.t.now) c.all.new.self _ _ c.all.ensures.ran
    (YieldsList-from_range 1 p.used (p.used - 1) refl refl)
    (λ x b q h. search (rules, tests))
    ∙ all_sound k p.file c.row_width-w.result p.t.now p.used c.row_width-w.ensures.is
