-- The tests of rows of XCHANGES.
use Rattle.std.specs.Prelude.{ℕ, List, Bool, ◌&&◌, cond, Option}
use Rattle.iff.specs.Tables.{Row}
use Rattle.iff.specs.Words.{exception_time, exception_footnote}
use Rattle.iff_desk.specs.Store.{marked, vector_of}
use Rattle.iff_desk.specs.Changing.{from_keys, to_keys, fits, rank, better}
use Rattle.iff_desk.specs.declared.Riding.{Riding}
use Rattle.iff_desk.specs.declared.Best.{Best}

-- a row of XCHANGES applies, with the vectors of some rows of XFOOTNOTE
abbrev pub applies_by : List Row → Riding → Riding → ℕ → Row → Bool
applies_by xf a b d r = fits (from_keys r) a && (fits (to_keys r) b && marked (vector_of xf (exception_footnote r)) d)

-- the better of a row and the best before it; and where the row applies alone
abbrev pub weigh : Option Best → Row → Option Best
weigh b r = better b (rank (from_keys r) (to_keys r)) (exception_time r)

abbrev pub best_with : (Row → Bool) → Option Best → Row → Option Best
best_with p b r = cond (p r) (weigh b r) b
