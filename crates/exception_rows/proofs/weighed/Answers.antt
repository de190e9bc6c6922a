-- `weighed` meets its contract: the row's rank and its time. Assumes nothing.
use Rattle.exception_rows.proofs.weighed.Goals as goal

pub returns : goal.returns
returns c =
    rw (← c.from_keys-from.ensures, ← c.to_keys-to.ensures, ← c.word_at-time.ensures, ← c.rank.ensures) c.better.ensures
