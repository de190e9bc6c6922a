-- `is_first_sound` meets its contract: the tests stand in the definition's order. Assumes nothing.
use Prim.Native.Nat.{◌≤◌}
use mathlib.Core.Path.{◌≡◌, refl, ap, sym, ◌∙◌}
use mathlib.Core.Bool.{true, false}
use native.Mathlib.Omega.{arith}
use lib.Dec.{eqb}
use lib.ListN.{length, take}
use lib.Seq.{length-take-le}
use borrow.Author.Tests.{eq-eqb, ne_eqb, not-true, not-false}
use Rattle.iff.specs.Words.{rises}
use Rattle.iff_rules.specs.Rows.{flag}
use Rattle.tables.proofs.Widths.{widths}
use Rattle.sound_firsts.proofs.FirstLaws.{five_words, kept_shape, words_differ, words_same, first_by}
use Rattle.sound_firsts.proofs.is_first_sound.Goals as goal

pub returns-then-row-ne-AT : goal.returns-then-row-ne-AT
returns-then-row-ne-AT c later u =
    let a = c.args in
    first_by a.file a.delivery.now a.row.now later false _ _ _ _ _ false (ne_eqb _ _ c.if-row-ne-AT.true) refl refl refl refl refl refl

pub is_shaped-requires : goal.is_shaped-requires
is_shaped-requires c =
    let wide : 6 ≤ length c.args.row.now = omega (arith, (widths c.args.file).wide, c.requires.0) in
    let w = wide in
    rw (length-take-le 5 c.args.row.now (omega arith)) (five_words _)

pub returns-then-not-is_shaped : goal.returns-then-not-is_shaped
returns-then-not-is_shaped c later u =
    let wide : 6 ≤ length c.args.row.now = omega (arith, (widths c.args.file).wide, c.requires.0) in
    let a = c.args in
    let w = wide in
    first_by a.file a.delivery.now a.row.now later true false _ _ _ _ false (eq-eqb _ _ c.if-row-ne-AT.false)
    (sym (c.is_shaped.ensures ∙ kept_shape _ a.row.now (omega arith)) ∙ not-true _ c.if-not-is_shaped.true-raw)
    refl refl refl refl refl

pub returns-then-not-first_means : goal.returns-then-not-first_means
returns-then-not-first_means c later u =
    let wide : 6 ≤ length c.args.row.now = omega (arith, (widths c.args.file).wide, c.requires.0) in
    let a = c.args in
    let w = wide in
    first_by a.file a.delivery.now a.row.now later true true false _ _ _ false (eq-eqb _ _ c.if-row-ne-AT.false)
    (sym (c.is_shaped.ensures ∙ kept_shape _ a.row.now (omega arith)) ∙ not-false _ c.if-not-is_shaped.false-raw)
    (sym c.first_means.ensures ∙ not-true _ c.if-not-first_means.true-raw) refl refl refl refl

pub returns-then-ne : goal.returns-then-ne
returns-then-ne c later u =
    let wide : 6 ≤ length c.args.row.now = omega (arith, (widths c.args.file).wide, c.requires.0) in
    let a = c.args in
    let w = wide in
    first_by a.file a.delivery.now a.row.now later true true true false _ _ false (eq-eqb _ _ c.if-row-ne-AT.false)
    (sym (c.is_shaped.ensures ∙ kept_shape _ a.row.now (omega arith)) ∙ not-false _ c.if-not-is_shaped.false-raw)
    (sym c.first_means.ensures ∙ not-false _ c.if-not-first_means.false-raw)
    (words_differ _ _ _ c.ne.ensures c.if-ne.true) refl refl refl

pub returns-then-not-is_flag : goal.returns-then-not-is_flag
returns-then-not-is_flag c later u =
    let wide : 6 ≤ length c.args.row.now = omega (arith, (widths c.args.file).wide, c.requires.0) in
    let a = c.args in
    let w = wide in
    first_by a.file a.delivery.now a.row.now later true true true true false _ false (eq-eqb _ _ c.if-row-ne-AT.false)
    (sym (c.is_shaped.ensures ∙ kept_shape _ a.row.now (omega arith)) ∙ not-false _ c.if-not-is_shaped.false-raw)
    (sym c.first_means.ensures ∙ not-false _ c.if-not-first_means.false-raw)
    (words_same _ _ _ c.ne.ensures c.if-ne.false)
    (sym (c.is_flag.ensures ∙ ap (λ b. eqb (rises a.row.now) (flag b)) u) ∙ not-true _ c.if-not-is_flag.true-raw) refl refl

pub returns : goal.returns
returns c later u =
    let wide : 6 ≤ length c.args.row.now = omega (arith, (widths c.args.file).wide, c.requires.0) in
    let a = c.args in
    let w = wide in
    first_by a.file a.delivery.now a.row.now later true true true true true _ _ (eq-eqb _ _ c.if-row-ne-AT.false)
    (sym (c.is_shaped.ensures ∙ kept_shape _ a.row.now (omega arith)) ∙ not-false _ c.if-not-is_shaped.false-raw)
    (sym c.first_means.ensures ∙ not-false _ c.if-not-first_means.false-raw)
    (words_same _ _ _ c.ne.ensures c.if-ne.false)
    (sym (c.is_flag.ensures ∙ ap (λ b. eqb (rises a.row.now) (flag b)) u) ∙ not-false _ c.if-not-is_flag.false-raw)
    refl c.is_right_behind.ensures

pub bounds-row-0 : goal.bounds-row-0
bounds-row-0 c =
    let wide : 6 ≤ length c.args.row.now = omega (arith, (widths c.args.file).wide, c.requires.0) in
    omega (arith, wide)

pub slice_bounds-is_shaped-end : goal.slice_bounds-is_shaped-end
slice_bounds-is_shaped-end c =
    let wide : 6 ≤ length c.args.row.now = omega (arith, (widths c.args.file).wide, c.requires.0) in
    let kept_words : 5 ≡ length (take 5 c.args.row.now) = let w = wide in
    sym (length-take-le 5 c.args.row.now (omega arith)) in
    kept_words

pub first_means-requires : goal.first_means-requires
first_means-requires c =
    let wide : 6 ≤ length c.args.row.now = omega (arith, (widths c.args.file).wide, c.requires.0) in
    omega (arith, wide)

pub slice_bounds-ne-end : goal.slice_bounds-ne-end
slice_bounds-ne-end c =
    let wide : 6 ≤ length c.args.row.now = omega (arith, (widths c.args.file).wide, c.requires.0) in
    let kept_words : 5 ≡ length (take 5 c.args.row.now) = let w = wide in
    sym (length-take-le 5 c.args.row.now (omega arith)) in
    kept_words

pub slice_bounds-ne-end-2 : goal.slice_bounds-ne-end-2
slice_bounds-ne-end-2 c = sym (length-take-le 5 c.args.delivery.now c.requires.1)

pub bounds-row-5 : goal.bounds-row-5
bounds-row-5 c =
    let wide : 6 ≤ length c.args.row.now = omega (arith, (widths c.args.file).wide, c.requires.0) in
    omega (arith, wide)
