-- The better of a row of XCHANGES and the best before it. Assumes nothing.
use Prim.Native.Nat.{ℕ, ◌≤◌, ◌<◌}
use mathlib.Core.Path.{◌≡◌}
use native.Mathlib.Omega.{arith}
use borrow.Author.Tests.{lt-ltb, le-ltb}
use Rattle.iff_desk.specs.Changing.{better}
use Rattle.iff_desk.specs.Card.{best_of}

module _ (highest longest rank time : ℕ) where
  pub higher_wins : highest < rank → better (best_of highest longest) rank time ≡ best_of rank time
  unfolding better
  higher_wins h = rw (lt-ltb highest rank h)

  pub lower_loses : rank < highest → better (best_of highest longest) rank time ≡ best_of highest longest
  unfolding better
  lower_loses h = rw (le-ltb highest rank (omega arith), lt-ltb rank highest h)

  pub longer_wins : rank ≡ highest → longest < time → better (best_of highest longest) rank time ≡ best_of rank time
  unfolding better
  longer_wins e h = rw (le-ltb highest rank (omega arith), le-ltb rank highest (omega arith), lt-ltb longest time h)

  pub shorter_loses : rank ≡ highest → time ≤ longest → better (best_of highest longest) rank time ≡ best_of highest longest
  unfolding better
  shorter_loses e h = rw (le-ltb highest rank (omega arith), le-ltb rank highest (omega arith), le-ltb longest time h)
