-- Each file's tag by its letter. Assumes nothing.
use Rattle.first_bytes.proofs.group_tag.Goals as goal

pub returns-in-Footnote : goal.returns-in-Footnote
returns-in-Footnote c = rw c.in-Footnote.is c.vector_tag.ensures

pub returns-in-Xfootnote : goal.returns-in-Xfootnote
returns-in-Xfootnote c = rw c.in-Xfootnote.is c.vector_tag-in-Xfootnote.ensures
