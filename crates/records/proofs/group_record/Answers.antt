-- `records::group_record` meets its contract: each file's two records. Assumes nothing.
use Rattle.records.proofs.group_record.Goals as goal

pub returns-in-Timezone : goal.returns-in-Timezone
returns-in-Timezone c = rw c.in-Timezone.is c.headed.ensures

pub returns-in-Footnote : goal.returns-in-Footnote
returns-in-Footnote c = rw c.in-Footnote.is c.headed-in-Footnote.ensures

pub returns-in-Changes : goal.returns-in-Changes
returns-in-Changes c = rw c.in-Changes.is c.headed-in-Changes.ensures

pub returns-in-Xfootnote : goal.returns-in-Xfootnote
returns-in-Xfootnote c = rw c.in-Xfootnote.is c.headed-in-Xfootnote.ensures

pub returns-in-Xchanges : goal.returns-in-Xchanges
returns-in-Xchanges c = rw c.in-Xchanges.is c.headed-in-Xchanges.ensures
