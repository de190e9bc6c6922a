-- `group_order::ends_opened` meets its contract, file by file. Assumes nothing.
use Rattle.group_order.proofs.ends_opened.Goals as goal

pub returns-in-Timezone : goal.returns-in-Timezone
returns-in-Timezone c = rw c.in-Timezone.is

pub returns-in-Footnote : goal.returns-in-Footnote
returns-in-Footnote c = rw c.in-Footnote.is

pub returns-in-Changes : goal.returns-in-Changes
returns-in-Changes c = rw c.in-Changes.is

pub returns-in-Xfootnote : goal.returns-in-Xfootnote
returns-in-Xfootnote c = rw c.in-Xfootnote.is

pub returns-in-Xchanges : goal.returns-in-Xchanges
returns-in-Xchanges c = rw c.in-Xchanges.is
