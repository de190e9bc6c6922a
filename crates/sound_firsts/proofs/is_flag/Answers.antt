-- `is_flag` meets its contract: 1 is the flag of what holds, and 0 of what does not. Assumes nothing.
use mathlib.Core.Path.{ap, sym}
use lib.Dec.{eqb}
use Rattle.iff_rules.specs.Rows.{flag}
use Rattle.sound_firsts.proofs.is_flag.Goals as goal

pub returns-then-b : goal.returns-then-b
returns-then-b c = ap (λ b. eqb c.args.word (flag b)) (sym c.if-b.true)

pub returns : goal.returns
returns c = ap (λ b. eqb c.args.word (flag b)) (sym c.if-b.false)
