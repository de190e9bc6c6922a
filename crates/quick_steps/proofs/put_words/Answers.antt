-- `quick_steps::put_words` meets its contract: a width of 0 is told first, and else the row is put. Assumes nothing.
use mathlib.Core.Path.{refl}
use native.Mathlib.Omega.{arith}
use Rattle.quick_steps.proofs.LineLaws.{positive, not_put, all_put}
use Rattle.quick_steps.proofs.put_words.Goals as goal

pub returns-then-w-eq0 : goal.returns-then-w-eq0
returns-then-w-eq0 c =
    let a = c.args in
    not_put a.letter a.w a.at a.to a.stops a.number a.t.now _ a.i c.if-w-eq0.true refl

pub overflow_add-next : goal.overflow_add-next
overflow_add-next c =
    omega (arith, c.requires.0 (positive _ c.if-w-eq0.false))

pub overflow_add-next-2 : goal.overflow_add-next-2
overflow_add-next-2 c =
    omega (arith, c.requires.0 (positive _ c.if-w-eq0.false))

pub returns : goal.returns
returns c =
    let a = c.args in
    all_put a.letter a.w a.at a.to a.stops a.number a.t.now _ a.i c.if-w-eq0.false c.put_row.ensures _ c.stop_for.ensures.0
