-- `are_distinct` meets its contract. Assumes nothing.
use mathlib.Core.Path.{refl, sym}
use native.Mathlib.Omega.{arith}
use Rattle.iff.specs.declared.File.TheVariants.{Timetbls}
use Rattle.keys.specs.Lookup.{keys_among}
use Rattle.repeats.proofs.KeyLaws.{again_not_distinct}
use Rattle.sound_services.proofs.are_distinct.Goals as goal

pub returns-then-done-le-INDEXED : goal.returns-then-done-le-INDEXED
returns-then-done-le-INDEXED c = (sym (c.requires.new (omega (arith, c.if-done-le-INDEXED.true))), refl, (λ f. refl))

pub first_repeat-requires : goal.first_repeat-requires
first_repeat-requires c = c.requires.inside

pub index_keys-are-requires : goal.index_keys-are-requires
index_keys-are-requires c =
    (c.requires.inside, c.requires.first)

pub returns-in-Never : goal.returns-in-Never
returns-in-Never c = (sym (c.first_repeat.ensures.never c.in-Never.is), refl, (λ f. refl))

pub returns-in-First : goal.returns-in-First
returns-in-First c =
    let a = c.args in
    let again = c.first_repeat.ensures.first _ c.in-First.is in
    (sym (again_not_distinct (keys_among Timetbls a.used a.t.now) _ again), refl, (λ f. refl))

pub returns-in-Untold : goal.returns-in-Untold
returns-in-Untold c =
    (c.index_keys-are.ensures.0.distinct, c.index_keys-are.ensures.1, (λ f. absurd (omega (arith, c.if-done-le-INDEXED.false))))
