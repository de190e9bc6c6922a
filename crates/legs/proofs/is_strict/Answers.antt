-- `legs::is_strict` meets its contract: its tests are the definition's, in order. Assumes nothing.
use native.Mathlib.Omega.{arith}
use Rattle.legs.proofs.SpanLaws.{strict_low, strict_none, strict_last}
use Rattle.legs.proofs.is_strict.Goals as goal

pub returns-then-s-lt1 : goal.returns-then-s-lt1
returns-then-s-lt1 c = strict_low _ _ _ c.span_of-s.ensures (omega (arith, c.if-s-lt1.true))

pub returns-then-s : goal.returns-then-s
returns-then-s c =
    strict_none _ _ _ c.span_of-s.ensures (omega (arith, c.if-s.true))

pub returns : goal.returns
returns c =
    strict_last _ _ _ c.span_of-s.ensures (omega (arith, c.if-s-lt1.false)) (omega (arith, c.if-s.false))
