-- `group_marks::exception_number` meets its contract: the words are mixed in in the definition's order. Assumes nothing.
use Prim.Native.Nat.{ℕ}
use mathlib.Core.Path.{◌≡◌, ap, ◌∙◌}
use Rattle.iff.specs.Words.{from_mode, to_company, to_mode, exception_footnote}
use Rattle.group_marks.specs.Numbers.{stirred, row_number}
use Rattle.group_marks.proofs.exception_number.Goals as goal

pub returns : goal.returns
unfolding row_number
returns c =
    let row = c.args.row.now in
    let last : c.stir.result ≡ stirred c.stir-fourth.result (exception_footnote row) = c.stir.ensures in
    last
    ∙ ap (λ (n : ℕ). stirred n (exception_footnote row))
    (c.stir-fourth.ensures
    ∙ ap (λ (n : ℕ). stirred n (to_mode row))
    (c.stir-third.ensures
    ∙ ap (λ (n : ℕ). stirred n (to_company row))
    (c.stir-second.ensures ∙ ap (λ (n : ℕ). stirred n (from_mode row)) c.stir-first.ensures)))
