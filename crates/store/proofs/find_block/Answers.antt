-- `find_block` meets its contract: the row of the service, and as many rows as it tells. Assumes nothing.
use native.Mathlib.Omega.{arith}
use Rattle.tables.proofs.Rows.{row_inside}
use Rattle.store.proofs.FirstLaws.{used_fits, found_inside, group_none}
use Rattle.store.proofs.BlockLaws.{has_blocks, block_fits, block_found}
use Rattle.store.proofs.find_block.Goals as goal

pub returns-in_default : goal.returns-in_default
returns-in_default c =
    group_none _ c.args.used c.args.t.now c.requires.0 c.args.key has_blocks _ c.find_at.ensures c.in_default.is

pub word_at-lines-requires : goal.word_at-lines-requires
word_at-lines-requires c =
    let a = c.args in (
      omega arith,
      row_inside _ _ a.used _ (found_inside _ a.used a.t.now c.requires.0 a.key _ c.find_at.ensures _ c.in-Some.is)
          (used_fits _ a.used a.t.now c.requires.0),
    )

pub overflow_add-to : goal.overflow_add-to
overflow_add-to c =
    let a = c.args in
    omega (
      arith,
      block_fits a.used a.t.now c.requires.0 a.key _ c.find_at.ensures _ c.in-Some.is c.requires.1 _ c.word_at-lines.ensures,
      c.well_formed,
    )

pub returns : goal.returns
returns c =
    let a = c.args in
    block_found a.used a.t.now c.requires.0 a.key _ c.find_at.ensures _ c.in-Some.is c.requires.1 _ c.word_at-lines.ensures
