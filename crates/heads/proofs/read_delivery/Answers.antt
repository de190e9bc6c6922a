-- `heads::read_delivery` meets its contract. Assumes nothing.
use Prim.Native.Nat.{◌<◌}
use mathlib.Core.Path.{ap, ◌∙◌}
use native.Mathlib.Omega.{arith}
use lib.ListN.{length, drop}
use Rattle.iff.specs.Lines.{lines}
use Rattle.iff.specs.Refusals.{fine}
use Rattle.reading.specs.Reading.{begin_test}
use Rattle.heads.proofs.BeginLaws.{head_is}
use Rattle.heads.proofs.FileLaws.{some_lines}
use Rattle.heads.proofs.DeliveryLaws.{delivery_absent, delivery_refused, delivery_second, delivery_alone}
use Rattle.heads.proofs.DeliveryLaws.{line_left, none_left}
use Rattle.heads.proofs.read_delivery.Goals as goal

pub returns-then-text-eq0 : goal.returns-then-text-eq0
returns-then-text-eq0 c =
    let told = c.in_ok-v.was in
    rw told (delivery_absent c.args.text.now c.args.t.now c.if-text-eq0.true (c.requires (ap fine told)))

pub begin_file-requires : goal.begin_file-requires
begin_file-requires c =
    let more : 0 < length c.args.text.now = omega (arith, c.if-text-eq0.false) in
    (more, c.requires (ap fine c.in_ok-v.was))

pub returns-then-from-text : goal.returns-then-from-text
returns-then-from-text c =
    let b = c.begin_file.ensures in
    let split = b.rest _ c.in-Ok.is in
    let h = ap (λ l. l.body) (head_is c.args.text.now _ c.line_at-s.ensures) in
    rw c.in_ok-v.was
    (delivery_second c.args.text.now c.args.t.now _ _ split.all _ (b.test ∙ rw (← h)) b.kept (ap begin_test c.in-Ok.is) _ _
    (line_left c.args.text.now _ c.if-from-text.true))

pub returns-in-Err : goal.returns-in-Err
returns-in-Err c =
    let b = c.begin_file.ensures in
    let more : 0 < length c.args.text.now = omega (arith, c.if-text-eq0.false) in
    let h = ap (λ l. l.body) (head_is c.args.text.now _ c.line_at-s.ensures) in
    rw c.in_ok-v.was
    (delivery_refused c.args.text.now c.args.t.now _ (drop 1 (lines c.args.text.now)) (some_lines c.args.text.now more) _
    (b.test ∙ rw (← h)) b.kept _ (ap begin_test c.in-Err.is))

pub returns-else-from-text : goal.returns-else-from-text
returns-else-from-text c =
    let b = c.begin_file.ensures in
    let split = b.rest _ c.in-Ok.is in
    let h = ap (λ l. l.body) (head_is c.args.text.now _ c.line_at-s.ensures) in
    rw c.in_ok-v.was
    (delivery_alone c.args.text.now c.args.t.now _ _ split.all _ (b.test ∙ rw (← h)) b.kept (ap begin_test c.in-Ok.is)
    (none_left c.args.text.now _ c.if-from-text.false) split.begun.holds)

pub line_at-s-requires : goal.line_at-s-requires
line_at-s-requires c = omega (arith, c.if-text-eq0.false)

pub slice_bounds-begin_file-count : goal.slice_bounds-begin_file-count
slice_bounds-begin_file-count c = omega (arith, c.line_at-s.ensures)

pub slice_bounds-begin_file-start : goal.slice_bounds-begin_file-start
slice_bounds-begin_file-start c = omega (arith, c.line_at-s.ensures)

pub slice_bounds-begin_file-end : goal.slice_bounds-begin_file-end
slice_bounds-begin_file-end c = omega (arith, c.line_at-s.ensures)

pub shape_of-t-then-from-text : goal.shape_of-t-then-from-text
shape_of-t-then-from-text c = (returns-then-from-text c).kept

pub shape_of-t-in-Err : goal.shape_of-t-in-Err
shape_of-t-in-Err c = (returns-in-Err c).kept

pub shape_of-t-else-from-text : goal.shape_of-t-else-from-text
shape_of-t-else-from-text c = (returns-else-from-text c).kept
