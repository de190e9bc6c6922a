-- `blocks::check_block` meets its contract: each way out is one of the laws of a whole block. Assumes nothing.
use Rattle.std.proofs.Common.{rules, ◌≡◌, Err}
use mathlib.Core.Path.{sym, ◌∙◌}
use native.Mathlib.Omega.{arith}
use Prim.Native.Nat.{◌<◌}
use lib.ListN.{length}
use Rattle.blocks.proofs.WholeLaws.{empty_checked, held_checked, lines_read, last_checked}
use Rattle.blocks.proofs.check_block.Goals as goal

pub returns-then-block-eq0 : goal.returns-then-block-eq0
returns-then-block-eq0 c = empty_checked _ _ _ _ _ _ _ _ c.if-block-eq0.true

pub last_tests-requires : goal.last_tests-requires
last_tests-requires c =
    let some : 0 < length c.args.block.now = omega arith in
    lines_read _ _ _ _ _ _ _ _ some _ _ (sym c.read_stops.ensures ∙ c.in_ok-st.was)

pub returns-in_err-st : goal.returns-in_err-st
returns-in_err-st c =
    let some : 0 < length c.args.block.now = omega arith in
    let handed : c.from_residual.result ≡ Err c.in_err-st.field-0.0 = search rules in
    rw handed (held_checked _ _ _ _ _ _ _ _ some _ _ (sym c.read_stops.ensures ∙ c.in_err-st.was))

pub returns : goal.returns
returns c =
    let some : 0 < length c.args.block.now = omega arith in
    last_checked _ _ _ _ _ _ _ _ some _ _ (sym c.read_stops.ensures ∙ c.in_ok-st.was) _ c.last_tests.ensures
