-- Each file's rows. Assumes nothing.
use native.Mathlib.Omega.{arith}
use Rattle.iff.specs.declared.File.TheVariants.{Groups}
use Rattle.iff_rules.specs.Meaning.{group_meaning}
use Rattle.tables.proofs.Widths.{widths}
use Rattle.meanings.proofs.group_means.Goals as goal

pub zone_means-requires : goal.zone_means-requires
unfolding group_meaning
zone_means-requires c = omega (arith, (widths (Groups c.args.file)).wide, c.requires)

pub pair_means-requires : goal.pair_means-requires
unfolding group_meaning
pair_means-requires c = omega (arith, (widths (Groups c.args.file)).wide, c.requires)

pub returns-in-Timezone : goal.returns-in-Timezone
unfolding group_meaning
returns-in-Timezone c = rw c.in-Timezone.is c.zone_means.ensures

pub returns-in-Footnote : goal.returns-in-Footnote
unfolding group_meaning
returns-in-Footnote c = rw c.in-Footnote.is

pub returns-in-Changes : goal.returns-in-Changes
unfolding group_meaning
returns-in-Changes c = rw c.in-Changes.is c.pair_means.ensures

pub returns-in-Xfootnote : goal.returns-in-Xfootnote
unfolding group_meaning
returns-in-Xfootnote c = rw c.in-Xfootnote.is

pub returns-in-Xchanges : goal.returns-in-Xchanges
unfolding group_meaning
returns-in-Xchanges c = rw c.in-Xchanges.is
