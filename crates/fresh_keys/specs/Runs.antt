-- What is remembered of the keys that came so far, so that a new one needs no search while they rise.
use Rattle.std.specs.Prelude.{ℕ, List, Bool, true, false, ◌&&◌, cond, ltb}
use Rattle.iff.specs.Refusals.{after}
use Rattle.fresh_keys.specs.declared.KeyRun.{KeyRun}

-- before the first key
abbrev pub no_keys : KeyRun
no_keys = record { any = false; rises = true; last = 0 }

-- the keys still rise where they did and the next is above the last; the first is above nothing
abbrev pub still_rises : KeyRun → ℕ → Bool
still_rises s k = cond s.any (s.rises && ltb s.last k) s.rises

abbrev pub step_run : KeyRun → ℕ → KeyRun
step_run s k = record { any = true; rises = still_rises s k; last = k }

-- after some keys
abbrev pub run_of : List ℕ → KeyRun
run_of ks = after step_run no_keys ks
