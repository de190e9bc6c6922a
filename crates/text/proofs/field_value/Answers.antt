-- `text::field_value` meets its contract. The loop's invariant: the value so far is below 256 to the bytes read, and the rest counted behind it is the whole. Assumes nothing.
use native.Mathlib.Omega.{arith}
use borrow.Author.Rules.{rules}
use Rattle.text.proofs.ValueLaws.{valued_end, valued_next, next_fits}
use Rattle.text.proofs.field_value.Goals as goal

pub overflow_mul-acc : goal.overflow_mul-acc
overflow_mul-acc c =
    omega (arith, next_fits c.loop-b.b-index c.args.base c.loop-b.acc 0 (search rules) (search rules) c.loop-b.invariant.1 (omega arith))

pub overflow_add-acc : goal.overflow_add-acc
overflow_add-acc c = record { fits = next_fits _ _ _ _ (search rules) c.byte_value.ensures.1 c.loop-b.invariant.1 (omega arith) }

pub loop-b-preserved : goal.loop-b-preserved
loop-b-preserved c =
    valued_next _ _ _ _ _ _ (search rules) c.byte_value.ensures.1 c.byte_value.ensures.0 (search rules)
    c.loop-b.invariant

pub returns : goal.returns
returns c = valued_end _ _ _ _ _ (omega arith) c.loop-b.invariant
