-- `is_needed` meets its contract: in each arm the file is known. Assumes nothing.
use mathlib.Core.Path.{sym}
use Rattle.size_tests.proofs.is_needed.Goals as goal

pub returns-in-Delivery : goal.returns-in-Delivery
returns-in-Delivery c there h = rw c.in-Delivery.is

pub returns-in-Rows : goal.returns-in-Rows
returns-in-Rows c there h = rw c.in-Rows.is

pub returns-in-Timezone : goal.returns-in-Timezone
returns-in-Timezone c there h = rw (c.in-Groups.is, c.in-Timezone.is)

pub returns-in-Footnote : goal.returns-in-Footnote
returns-in-Footnote c there h = rw (c.in-Groups.is, c.in-Footnote.is)

pub returns-in-Changes : goal.returns-in-Changes
returns-in-Changes c there h = rw (c.in-Groups.is, c.in-Changes.is)

pub returns-in-Xfootnote : goal.returns-in-Xfootnote
returns-in-Xfootnote c there h = rw (c.in-Groups.is, c.in-Xfootnote.is) (sym h)

pub returns-in-Xchanges : goal.returns-in-Xchanges
returns-in-Xchanges c there h = rw (c.in-Groups.is, c.in-Xchanges.is)

pub returns-in-Timetbls : goal.returns-in-Timetbls
returns-in-Timetbls c there h = rw c.in-Timetbls.is
