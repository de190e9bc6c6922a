-- `legs::mark_row` meets its contract: a record of the kind marks its legs, any other none. Assumes nothing.
use native.Mathlib.Omega.{arith}
use Rattle.legs.proofs.SpanLaws.{Ranged, span_ranged, this_kind, other_kind}
use Rattle.legs.proofs.mark_row.Goals as goal

pub mark_legs-requires : goal.mark_legs-requires
mark_legs-requires c =
    let range : Ranged c.args.n c.span_of-s.result = span_ranged c.args.row.now _ _ c.if-row-kind.false _ c.span_of-s.ensures _ c.requires in
    omega (arith, range, c.requires.fit)

pub returns : goal.returns
returns c =
    let range : Ranged c.args.n c.span_of-s.result = span_ranged c.args.row.now _ _ c.if-row-kind.false _ c.span_of-s.ensures _ c.requires in
    this_kind _ _ _ c.if-row-kind.false _ c.span_of-s.ensures _ _ _ (range) c.mark_legs.ensures

pub returns-then-row-kind : goal.returns-then-row-kind
returns-then-row-kind c = other_kind _ _ _ _ c.if-row-kind.true
