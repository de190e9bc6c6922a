-- `group_marks::pair_number` meets its contract: the words are mixed in in the definition's order. Assumes nothing.
use Prim.Native.Nat.{ℕ}
use mathlib.Core.Path.{◌≡◌, ap, ◌∙◌}
use Rattle.iff.specs.Words.{to_service}
use Rattle.group_marks.specs.Numbers.{stirred, row_number}
use Rattle.group_marks.proofs.pair_number.Goals as goal

pub returns : goal.returns
unfolding row_number
returns c =
    let row = c.args.row.now in
    let last : c.stir.result ≡ stirred c.stir-first.result (to_service row) = c.stir.ensures in
    last ∙ ap (λ (n : ℕ). stirred n (to_service row)) c.stir-first.ensures
