-- `find_key_in` meets its contract: the first of the rows that are left is the first of all. Assumes nothing.
use Prim.Native.Nat.{◌<◌}
use mathlib.Core.Path.{refl, sym, ◌∙◌}
use native.Mathlib.Omega.{arith}
use borrow.Author.Rules.{rules}
use Rattle.iff.specs.Tables.{keyed}
use Rattle.tables.proofs.Rows.{row_inside}
use Rattle.tables.proofs.Search.{search_none, search_unused, search_here, search_on}
use Rattle.key_rows.proofs.find_key_in.Goals as goal

pub word_at-requires : goal.word_at-requires
word_at-requires c =
    let h : c.loop-i.i < c.args.to = omega arith in
    (search rules, row_inside _ _ _ _ h c.requires.1)

pub returns-then-word_at-eq0 : goal.returns-then-word_at-eq0
returns-then-word_at-eq0 c =
    let a = c.args in
    sym
    (c.loop-i.invariant
    ∙ search_unused (keyed a.tag a.col a.key) a.t.now a.w a.to c.loop-i.i (search rules) (search rules) _
    c.word_at.ensures c.if-word_at-eq0.true)

pub keyed_at-requires : goal.keyed_at-requires
keyed_at-requires c =
    let h : c.loop-i.i < c.args.to = omega arith in
    (search rules, row_inside _ _ _ _ h c.requires.1)

pub returns-then-keyed_at : goal.returns-then-keyed_at
returns-then-keyed_at c =
    let a = c.args in
    sym
    (c.loop-i.invariant
    ∙ search_here (keyed a.tag a.col a.key) a.t.now a.w a.to c.loop-i.i (search rules) (search rules) _
    c.word_at.ensures c.if-word_at-eq0.false _ c.keyed_at.ensures c.if-keyed_at.true)

pub loop-i-preserved : goal.loop-i-preserved
loop-i-preserved c =
    let a = c.args in
    c.loop-i.invariant
    ∙ search_on (keyed a.tag a.col a.key) a.t.now a.w a.to c.loop-i.i (search rules) (search rules) _
    c.word_at.ensures c.if-word_at-eq0.false _ c.keyed_at.ensures c.if-keyed_at.false

pub returns : goal.returns
returns c =
    let a = c.args in
    sym (c.loop-i.invariant ∙ search_none (keyed a.tag a.col a.key) a.t.now a.w a.to c.loop-i.i (search rules))

pub loop-i-init : goal.loop-i-init
loop-i-init c = refl
