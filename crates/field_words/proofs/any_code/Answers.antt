-- The first columns of the wildcard are the wildcard. Assumes nothing.
use mathlib.Core.Path.{ap, ◌∙◌}
use Rattle.iff.specs.Values.{code_of}
use Rattle.field_words.proofs.WildLaws.{wild_front, wild_length}
use Rattle.field_words.proofs.any_code.Goals as goal

pub code-requires : goal.code-requires
code-requires c = rw (wild_length c.args.width c.requires) c.requires.few

pub returns : goal.returns
returns c = c.code.ensures ∙ ap (λ l. code_of l) (wild_front _ c.requires)
