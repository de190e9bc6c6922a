-- `legs::is_loose` meets its contract: its tests are the definition's, in order. Assumes nothing.
use native.Mathlib.Omega.{arith}
use Rattle.legs.proofs.SpanLaws.{loose_low, loose_none, loose_last}
use Rattle.legs.proofs.is_loose.Goals as goal

pub returns-then-span-lt1 : goal.returns-then-span-lt1
returns-then-span-lt1 c = loose_low _ _ _ c.span_of-span.ensures (omega (arith, c.if-span-lt1.true))

pub returns-then-span : goal.returns-then-span
returns-then-span c =
    loose_none _ _ _ c.span_of-span.ensures (omega (arith, c.if-span.true))

pub returns : goal.returns
returns c =
    loose_last _ _ _ c.span_of-span.ensures (omega (arith, c.if-span-lt1.false)) (omega (arith, c.if-span.false))
