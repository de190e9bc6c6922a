-- `company_test` meets its contract. Assumes nothing.
use Rattle.references.proofs.company_test.Goals as goal

pub returns-then-names : goal.returns-then-names
returns-then-names c =
    rw (c.in-Ok.is, ← c.word_or_zero-own.ensures, ← c.names.ensures, c.if-names.true)

pub returns-else-names : goal.returns-else-names
returns-else-names c =
    rw (c.in-Ok.is, ← c.word_or_zero-own.ensures, ← c.names.ensures, c.if-names.false)
