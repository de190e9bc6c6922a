-- The first line's record, and its CR LF. Assumes nothing.
use mathlib.Core.Path.{ap, ◌∙◌}
use Prim.Native.Nat.{ℕ, ◌+◌}
use borrow.Author.Rules.{rules}
use Rattle.edit_sizes.proofs.EditLaws.{first_record}
use Rattle.edit_sizes.proofs.first_length.Goals as goal

pub overflow_add-result : goal.overflow_add-result
overflow_add-result c =
    let l = first_record c.args.form in
    let e = c.record_length.ensures in
    search (rules, l.1, e)

pub returns : goal.returns
returns c = ap (λ (n : ℕ). n + 2) c.record_length.ensures ∙ (first_record c.args.form).0
