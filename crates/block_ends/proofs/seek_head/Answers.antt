-- `block_ends::seek_head` meets its contract: no line after the first begins with `#` so far. Assumes nothing.
use mathlib.Core.Path.{sym, ◌∙◌}
use borrow.Author.Tests.{eq-eqb, ne_eqb}
use Rattle.block_ends.proofs.PartLaws.{seek_start, seek_next, seek_found, seek_none}
use Rattle.block_ends.proofs.seek_head.Goals as goal

pub returns-then-first_byte-eq35 : goal.returns-then-first_byte-eq35
returns-then-first_byte-eq35 c =
    seek_found c.args.text.now c.args.from c.loop-at.at c.loop-at.invariant _ c.line_at-span.ensures c.requires.1
    (eq-eqb _ _ (sym c.first_byte.ensures ∙ c.if-first_byte-eq35.true))

pub loop-at-preserved : goal.loop-at-preserved
loop-at-preserved c =
    seek_next c.args.text.now c.args.from c.loop-at.at c.loop-at.invariant _ c.line_at-span.ensures
    (ne_eqb _ _ (λ z. c.if-first_byte-eq35.false (c.first_byte.ensures ∙ z)))

pub returns : goal.returns
returns c =
    seek_none c.args.text.now c.args.from c.loop-at.at c.loop-at.invariant c.loop-at-test.false c.requires.1

pub loop-at-init : goal.loop-at-init
loop-at-init c = seek_start _ _ _ c.line_at-head.ensures
