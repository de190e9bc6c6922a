-- `fields::mark_word` meets its contract. The loop's invariant: the word is what the marks from i on make, and is below 2 to their number. Assumes nothing.
use mathlib.Core.Path.{◌≡◌, ap, ◌∙◌}
use Prim.Native.Nat.{ℕ, ◌-◌}
use lib.ListN.{get_or}
use Rattle.text.proofs.ValueLaws.{marked_none, marked_room, marked_fits, marked_next, marked_all}
use Rattle.fields.proofs.mark_word.Goals as goal

-- what was added is the mark's bit
bit : (c : goal.After-byte_value)
    → c.byte_value.result ≡ get_or c.args.marks.now (c.loop-i.i - 1) 0 - 48
bit c = c.byte_value.ensures.0 ∙ ap (λ (b : ℕ). b - 48) c.byte_at.ensures

pub overflow_mul-word : goal.overflow_mul-word
overflow_mul-word c = record { fits = marked_room _ _ _ c.loop-i-test.true c.loop-i.invariant }

pub overflow_add-word : goal.overflow_add-word
overflow_add-word c =
    record { fits = marked_fits _ _ _ _ c.requires c.loop-i-test.true (bit c) c.loop-i.invariant }

pub loop-i-preserved : goal.loop-i-preserved
loop-i-preserved c =
    marked_next _ _ _ _ c.requires c.loop-i-test.true (bit c) c.loop-i.invariant

pub returns : goal.returns
returns c = marked_all _ _ _ c.loop-i-test.false c.loop-i.invariant

pub loop-i-init : goal.loop-i-init
loop-i-init c = marked_none c.args.marks.now
