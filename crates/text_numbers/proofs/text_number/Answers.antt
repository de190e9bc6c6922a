-- `text_numbers::text_number` meets its contract: a text's number is counted byte by byte. Assumes nothing.
use mathlib.Core.Path.{◌∙◌}
use borrow.Author.Rules.{rules}
use Rattle.std.proofs.lemmas.Iterator.{YieldsList-from_slice}
use Rattle.std.proofs.lemmas.Iterator.Consumers.{fold_from_yields_List}
use Rattle.text_numbers.specs.Numbers.{next_number}
use Rattle.text_numbers.proofs.NumberLaws.{byte_by_byte}
use Rattle.text_numbers.proofs.text_number.Goals as goal

pub returns : goal.returns
returns c =
    let text = c.args.text.now in
    fold_from_yields_List _ next_number 0 _ c.fold.ensures.ran (YieldsList-from_slice text cc) (λ a x b q k. search rules)
    ∙ byte_by_byte text 0
