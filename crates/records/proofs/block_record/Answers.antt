-- Each letter is its record's, and what is none of them is a stop. Assumes nothing.
use borrow.Author.Tests.{ne_eqb}
use Rattle.iff.specs.Columns.{block_record}
use Rattle.records.proofs.block_record.Goals as goal

pub returns-in-35 : goal.returns-in-35
unfolding block_record
returns-in-35 c = rw c.in-35.is

pub returns-in-37 : goal.returns-in-37
unfolding block_record
returns-in-37 c = rw c.in-37.is

pub returns-in-45 : goal.returns-in-45
unfolding block_record
returns-in-45 c = rw c.in-45.is

pub returns-in-38 : goal.returns-in-38
unfolding block_record
returns-in-38 c = rw c.in-38.is

pub returns-in-42 : goal.returns-in-42
unfolding block_record
returns-in-42 c = rw c.in-42.is

pub returns-in-43 : goal.returns-in-43
unfolding block_record
returns-in-43 c = rw c.in-43.is

pub returns-in-59 : goal.returns-in-59
unfolding block_record
returns-in-59 c = rw c.in-59.is

pub returns-in-63 : goal.returns-in-63
unfolding block_record
returns-in-63 c = rw c.in-63.is

pub returns-in_default : goal.returns-in_default
unfolding block_record
returns-in_default c = let r = c.in_default.in_default-own.rest in
    let q = r.0.0.0.0 in
    simp (
      ne_eqb _ _ q.0.0.0.1,
      ne_eqb _ _ q.0.0.1,
      ne_eqb _ _ q.0.1,
      ne_eqb _ _ q.1,
      ne_eqb _ _ r.0.0.0.1,
      ne_eqb _ _ r.0.0.1,
      ne_eqb _ _ r.0.1,
      ne_eqb _ _ r.1,
    )
