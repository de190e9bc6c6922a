-- `met_in_group` meets its contract: of these files only CHANGES and XCHANGES name anything. Assumes nothing.
use mathlib.Core.Path.{ap, ◌∙◌}
use Rattle.iff.specs.Tables.{group_width}
use Rattle.iff_rules.specs.References.{met_in_group}
use Rattle.group_references.proofs.met_in_group.Goals as goal

pub met_change-requires : goal.met_change-requires
met_change-requires c = c.requires ∙ ap group_width c.in-Changes.is

pub met_exception-requires : goal.met_exception-requires
met_exception-requires c = c.requires ∙ ap group_width c.in-Xchanges.is

pub returns-in-Timezone : goal.returns-in-Timezone
unfolding met_in_group
returns-in-Timezone c k a = rw c.in-Timezone.is

pub returns-in-Footnote : goal.returns-in-Footnote
unfolding met_in_group
returns-in-Footnote c k a = rw c.in-Footnote.is

pub returns-in-Changes : goal.returns-in-Changes
returns-in-Changes c k a =
    rw c.in-Changes.is
    (c.met_change.ensures k (record { stations = a.stations; services = a.services }))

pub returns-in-Xfootnote : goal.returns-in-Xfootnote
unfolding met_in_group
returns-in-Xfootnote c k a = rw c.in-Xfootnote.is

pub returns-in-Xchanges : goal.returns-in-Xchanges
returns-in-Xchanges c k a =
    rw c.in-Xchanges.is
    (c.met_exception.ensures k (record { companies = a.companies; modes = a.modes; stations = a.stations; xfootnotes = a.xfootnotes }))
