-- `group_from` meets its contract: no two rows open a group with one key, and the group goes on to the next `#`. Assumes nothing.
use native.Mathlib.Omega.{arith}
use Rattle.store.proofs.FirstLaws.{used_fits, group_found, group_none}
use Rattle.store.proofs.group_from.Goals as goal

pub overflow_add-i : goal.overflow_add-i
overflow_add-i c =
    omega (arith, c.requires.2 _ c.in-Some.is, c.well_formed)

pub next_head-requires : goal.next_head-requires
next_head-requires c =
    let i = c.requires.2 _ c.in-Some.is in
    (c.row_width-w.ensures.some, omega arith, rw c.row_width-w.ensures.is (used_fits _ _ _ c.requires.0))

pub returns-in-Some : goal.returns-in-Some
returns-in-Some c key found =
    group_found c.args.file c.args.used c.args.t.now c.requires.0 key c.requires.1 c.args.row found _ c.in-Some.is _
    c.next_head.result c.row_width-w.ensures.is c.next_head.ensures

pub returns-in-None : goal.returns-in-None
returns-in-None c key found =
    group_none c.args.file c.args.used c.args.t.now c.requires.0 key c.requires.1 c.args.row found c.in-None.is
