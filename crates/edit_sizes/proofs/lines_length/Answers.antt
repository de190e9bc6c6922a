-- The bytes so far and those of the rows left are all. Assumes nothing.
use Prim.Native.Nat.{◌+◌}
use mathlib.Core.Path.{◌≡◌}
use native.Mathlib.Omega.{arith}
use borrow.Author.Rules.{rules}
use Rattle.tables.proofs.Rows.{row_inside}
use Rattle.edit_sizes.proofs.EditLaws.{size_between, size_none, size_step}
use Rattle.edit_sizes.proofs.lines_length.Goals as goal

pub word_at-tag-requires : goal.word_at-tag-requires
word_at-tag-requires c =
    (omega arith, row_inside _ _ c.args.to _ c.loop-i-test.true c.requires.0)

pub overflow_add-bytes : goal.overflow_add-bytes
overflow_add-bytes c =
    let row_size_lem : (let a = c.args in
    size_between a.form a.t.now c.loop-i.i a.to
    ≡ c.record_length-n.result + 2 + size_between a.form a.t.now (c.loop-i.i + 1) a.to) = let a = c.args in
    size_step a.form a.t.now c.loop-i.i a.to _ _ _ c.loop-i-test.true c.word_at-tag.ensures c.record_of.ensures
    c.record_length-n.ensures in
    let p = c.requires.1 in
    let i = c.loop-i.invariant.all in
    let r = row_size_lem in
    search (rules, p, i, r)

pub overflow_add-bytes-in-loop-i : goal.overflow_add-bytes-in-loop-i
overflow_add-bytes-in-loop-i c =
    let row_size_lem : (let a = c.args in
    size_between a.form a.t.now c.loop-i.i a.to
    ≡ c.record_length-n.result + 2 + size_between a.form a.t.now (c.loop-i.i + 1) a.to) = let a = c.args in
    size_step a.form a.t.now c.loop-i.i a.to _ _ _ c.loop-i-test.true c.word_at-tag.ensures c.record_of.ensures
    c.record_length-n.ensures in
    let p = c.requires.1 in
    let i = c.loop-i.invariant.all in
    let r = row_size_lem in
    search (rules, p, i, r)

pub loop-i-preserved : goal.loop-i-preserved
loop-i-preserved c =
    let row_size_lem : (let a = c.args in
    size_between a.form a.t.now c.loop-i.i a.to
    ≡ c.record_length-n.result + 2 + size_between a.form a.t.now (c.loop-i.i + 1) a.to) = let a = c.args in
    size_step a.form a.t.now c.loop-i.i a.to _ _ _ c.loop-i-test.true c.word_at-tag.ensures c.record_of.ensures
    c.record_length-n.ensures in
    record { all = omega (arith, c.loop-i.invariant.all, row_size_lem) }

pub returns : goal.returns
returns c =
    let a = c.args in
    omega (arith, c.loop-i.invariant.all, size_none a.form a.t.now c.loop-i.i a.to c.loop-i-test.false)

pub loop-i-init : goal.loop-i-init
loop-i-init c = record { all = omega arith }
