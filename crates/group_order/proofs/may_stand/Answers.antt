-- `group_order::may_stand` meets its contract. What may stand behind the `#`, file by file. Assumes nothing.
use Rattle.group_order.proofs.may_stand.Goals as goal

pub returns-in-Timezone : goal.returns-in-Timezone
returns-in-Timezone c = rw c.in-Timezone.is c.is_sign.ensures

pub returns-in-Footnote : goal.returns-in-Footnote
returns-in-Footnote c = rw c.in-Footnote.is c.is_only_vector.ensures

pub returns-in-Changes : goal.returns-in-Changes
returns-in-Changes c = rw c.in-Changes.is

pub returns-in-Xfootnote : goal.returns-in-Xfootnote
returns-in-Xfootnote c = rw c.in-Xfootnote.is c.is_only_vector-in-Xfootnote.ensures

pub returns-in-Xchanges : goal.returns-in-Xchanges
returns-in-Xchanges c = rw c.in-Xchanges.is
