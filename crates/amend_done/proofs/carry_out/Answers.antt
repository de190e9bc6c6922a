-- `amend_done::carry_out` meets its contract: a refusal writes nothing, and a block replaces the rows it was judged to. Assumes nothing.
use Rattle.std.proofs.Common.{rules, ◌≡◌, Err}
use Rattle.amend_done.proofs.DoneLaws.{nothing_done, replaced}
use Rattle.amend_done.proofs.carry_out.Goals as goal

pub replace_block-requires : goal.replace_block-requires
replace_block-requires c =
    c.requires.replaces _ c.in_ok-edit.was

pub returns-in_err-edit : goal.returns-in_err-edit
returns-in_err-edit c =
    let a = c.args in
    let handed : c.from_residual.result ≡ Err c.in_err-edit.field-0.0 = search rules in
    rw handed (nothing_done a.judged a.form a.services a.block.now a.t.now _ _ c.in_err-edit.was)

pub returns : goal.returns
returns c =
    let a = c.args in
    replaced a.judged a.form a.services a.block.now a.t.now _ c.in_ok-edit.was _ c.replace_block.ensures
