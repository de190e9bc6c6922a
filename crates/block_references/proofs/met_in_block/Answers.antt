-- `met_in_block` meets its contract: the letters stand in the definition's order. Assumes nothing.
use borrow.Author.Tests.{eq-eqb, ne_eqb}
use Rattle.iff_rules.specs.References.{met_in_block}
use Rattle.block_references.proofs.met_in_block.Goals as goal

pub returns-then-tag-eq-HASH : goal.returns-then-tag-eq-HASH
unfolding met_in_block
returns-then-tag-eq-HASH c k a = rw (eq-eqb _ _ c.if-tag-eq-HASH.true)

pub returns-then-tag-eq-PERCENT : goal.returns-then-tag-eq-PERCENT
unfolding met_in_block
returns-then-tag-eq-PERCENT c k a = rw (ne_eqb _ _ c.if-tag-eq-HASH.false, eq-eqb _ _ c.if-tag-eq-PERCENT.true, a.companies) c.names_at.ensures

pub returns-then-tag-eq-DASH : goal.returns-then-tag-eq-DASH
unfolding met_in_block
returns-then-tag-eq-DASH c k a =
    rw (
      ne_eqb _ _ c.if-tag-eq-HASH.false,
      ne_eqb _ _ c.if-tag-eq-PERCENT.false,
      eq-eqb _ _ c.if-tag-eq-DASH.true,
      a.footnotes,
    )
    c.names_at-then-tag-eq-DASH.ensures

pub returns-then-tag-eq-AMPERSAND : goal.returns-then-tag-eq-AMPERSAND
unfolding met_in_block
returns-then-tag-eq-AMPERSAND c k a =
    rw (
      ne_eqb _ _ c.if-tag-eq-HASH.false,
      ne_eqb _ _ c.if-tag-eq-PERCENT.false,
      ne_eqb _ _ c.if-tag-eq-DASH.false,
      eq-eqb _ _ c.if-tag-eq-AMPERSAND.true,
      a.modes,
    )
    c.names_at-then-tag-eq-AMPERSAND.ensures

pub returns-then-tag-eq-ASTERISK : goal.returns-then-tag-eq-ASTERISK
unfolding met_in_block
returns-then-tag-eq-ASTERISK c k a =
    rw (
      ne_eqb _ _ c.if-tag-eq-HASH.false,
      ne_eqb _ _ c.if-tag-eq-PERCENT.false,
      ne_eqb _ _ c.if-tag-eq-DASH.false,
      ne_eqb _ _ c.if-tag-eq-AMPERSAND.false,
      eq-eqb _ _ c.if-tag-eq-ASTERISK.true,
      a.footnotes,
    )
    c.names_at-then-tag-eq-ASTERISK.ensures

pub returns-then-tag-eq-QUESTION : goal.returns-then-tag-eq-QUESTION
unfolding met_in_block
returns-then-tag-eq-QUESTION c k a =
    rw (
      ne_eqb _ _ c.if-tag-eq-HASH.false,
      ne_eqb _ _ c.if-tag-eq-PERCENT.false,
      ne_eqb _ _ c.if-tag-eq-DASH.false,
      ne_eqb _ _ c.if-tag-eq-AMPERSAND.false,
      ne_eqb _ _ c.if-tag-eq-ASTERISK.false,
      eq-eqb _ _ c.if-tag-eq-QUESTION.true,
      a.footnotes,
    )
    c.names_at-then-tag-eq-QUESTION.ensures

pub returns : goal.returns
unfolding met_in_block
returns c k a =
    rw (
      ne_eqb _ _ c.if-tag-eq-HASH.false,
      ne_eqb _ _ c.if-tag-eq-PERCENT.false,
      ne_eqb _ _ c.if-tag-eq-DASH.false,
      ne_eqb _ _ c.if-tag-eq-AMPERSAND.false,
      ne_eqb _ _ c.if-tag-eq-ASTERISK.false,
      ne_eqb _ _ c.if-tag-eq-QUESTION.false,
      a.stations,
    )
    c.names_at-2.ensures
