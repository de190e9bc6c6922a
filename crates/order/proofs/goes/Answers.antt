-- `order::goes` meets its contract: in an arm the stand is known, and the letter, or that it is none of the arm's letters. Assumes nothing.
use borrow.Author.Tests.{ne_eqb}
use Rattle.iff_rules.specs.Order.{goes}
use Rattle.order.proofs.goes.Goals as goal

pub returns-in-35 : goal.returns-in-35
unfolding goes
returns-in-35 c = rw (c.in-Start.is, c.in-35.is)

pub returns-in_default : goal.returns-in_default
unfolding goes
returns-in_default c = rw c.in-Start.is (simp (ne_eqb _ _ c.in_default.in_default-own.rest.1))

pub returns-in-37 : goal.returns-in-37
unfolding goes
returns-in-37 c = rw (c.in-Hash.is, c.in-37.is)

pub returns-in_default-letter : goal.returns-in_default-letter
unfolding goes
returns-in_default-letter c = rw c.in-Hash.is (simp (ne_eqb _ _ c.in_default-letter.in_default-letter-own.rest.1))

pub returns-in-37-letter : goal.returns-in-37-letter
unfolding goes
returns-in-37-letter c = rw (c.in-Percent.is, c.in-37-letter.is)

pub returns-in-45 : goal.returns-in-45
unfolding goes
returns-in-45 c = rw (c.in-Percent.is, c.in-45.is)

pub returns-in_default-letter-2 : goal.returns-in_default-letter-2
unfolding goes
returns-in_default-letter-2 c = rw c.in-Percent.is (simp (ne_eqb _ _ c.in_default-letter-2.in_default-letter-2-own.rest.0.1, ne_eqb _ _ c.in_default-letter-2.in_default-letter-2-own.rest.1))

pub returns-in-45-letter : goal.returns-in-45-letter
unfolding goes
returns-in-45-letter c = rw (c.in-Dash.is, c.in-45-letter.is)

pub returns-in-38 : goal.returns-in-38
unfolding goes
returns-in-38 c = rw (c.in-Dash.is, c.in-38.is)

pub returns-in_default-letter-3 : goal.returns-in_default-letter-3
unfolding goes
returns-in_default-letter-3 c = rw c.in-Dash.is (simp (ne_eqb _ _ c.in_default-letter-3.in_default-letter-3-own.rest.0.1, ne_eqb _ _ c.in_default-letter-3.in_default-letter-3-own.rest.1))

pub returns-in-38-letter : goal.returns-in-38-letter
unfolding goes
returns-in-38-letter c = rw (c.in-Ampersand.is, c.in-38-letter.is)

pub returns-in-42 : goal.returns-in-42
unfolding goes
returns-in-42 c = rw (c.in-Ampersand.is, c.in-42.is)

pub returns-in-62 : goal.returns-in-62
unfolding goes
returns-in-62 c = rw (c.in-Ampersand.is, c.in-62.is)

pub returns-in_default-letter-4 : goal.returns-in_default-letter-4
unfolding goes
returns-in_default-letter-4 c = rw c.in-Ampersand.is (simp (
  ne_eqb _ _ c.in_default-letter-4.in_default-letter-4-own.rest.0.0.1,
  ne_eqb _ _ c.in_default-letter-4.in_default-letter-4-own.rest.0.1,
  ne_eqb _ _ c.in_default-letter-4.in_default-letter-4-own.rest.1,
))

pub returns-in-42-letter : goal.returns-in-42-letter
unfolding goes
returns-in-42-letter c = rw (c.in-Asterisk.is, c.in-42-letter.is)

pub returns-in-62-letter : goal.returns-in-62-letter
unfolding goes
returns-in-62-letter c = rw (c.in-Asterisk.is, c.in-62-letter.is)

pub returns-in_default-letter-5 : goal.returns-in_default-letter-5
unfolding goes
returns-in_default-letter-5 c = rw c.in-Asterisk.is (simp (ne_eqb _ _ c.in_default-letter-5.in_default-letter-5-own.rest.0.1, ne_eqb _ _ c.in_default-letter-5.in_default-letter-5-own.rest.1))

pub returns-in-46 : goal.returns-in-46
unfolding goes
returns-in-46 c = rw (c.in-Stop.is, c.in-46.is)

pub returns-in-43 : goal.returns-in-43
unfolding goes
returns-in-43 c = rw (c.in-Stop.is, c.in-43.is)

pub returns-in-59 : goal.returns-in-59
unfolding goes
returns-in-59 c = rw (c.in-Stop.is, c.in-59.is)

pub returns-in-63 : goal.returns-in-63
unfolding goes
returns-in-63 c = rw (c.in-Stop.is, c.in-63.is)

pub returns-in-60 : goal.returns-in-60
unfolding goes
returns-in-60 c = rw (c.in-Stop.is, c.in-60.is)

pub returns-in_default-letter-6 : goal.returns-in_default-letter-6
unfolding goes
returns-in_default-letter-6 c = rw c.in-Stop.is (simp (
  ne_eqb _ _ c.in_default-letter-6.in_default-letter-6-own.rest.0.0.0.0.1,
  ne_eqb _ _ c.in_default-letter-6.in_default-letter-6-own.rest.0.0.0.1,
  ne_eqb _ _ c.in_default-letter-6.in_default-letter-6-own.rest.0.0.1,
  ne_eqb _ _ c.in_default-letter-6.in_default-letter-6-own.rest.0.1,
  ne_eqb _ _ c.in_default-letter-6.in_default-letter-6-own.rest.1,
))

pub returns-in-46-letter : goal.returns-in-46-letter
unfolding goes
returns-in-46-letter c = rw (c.in-Between.is, c.in-46-letter.is)

pub returns-in-43-letter : goal.returns-in-43-letter
unfolding goes
returns-in-43-letter c = rw (c.in-Between.is, c.in-43-letter.is)

pub returns-in-59-letter : goal.returns-in-59-letter
unfolding goes
returns-in-59-letter c = rw (c.in-Between.is, c.in-59-letter.is)

pub returns-in-60-letter : goal.returns-in-60-letter
unfolding goes
returns-in-60-letter c = rw (c.in-Between.is, c.in-60-letter.is)

pub returns-in_default-letter-7 : goal.returns-in_default-letter-7
unfolding goes
returns-in_default-letter-7 c = rw c.in-Between.is (simp (
  ne_eqb _ _ c.in_default-letter-7.in_default-letter-7-own.rest.0.0.0.1,
  ne_eqb _ _ c.in_default-letter-7.in_default-letter-7-own.rest.0.0.1,
  ne_eqb _ _ c.in_default-letter-7.in_default-letter-7-own.rest.0.1,
  ne_eqb _ _ c.in_default-letter-7.in_default-letter-7-own.rest.1,
))

pub returns-in-63-letter : goal.returns-in-63-letter
unfolding goes
returns-in-63-letter c = rw (c.in-Last.is, c.in-63-letter.is)

pub returns-in_default-letter-8 : goal.returns-in_default-letter-8
unfolding goes
returns-in_default-letter-8 c = rw c.in-Last.is (simp (ne_eqb _ _ c.in_default-letter-8.in_default-letter-8-own.rest.1))

pub returns-in-LastPlatform : goal.returns-in-LastPlatform
unfolding goes
returns-in-LastPlatform c = rw c.in-LastPlatform.is
