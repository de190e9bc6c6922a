-- A file's length against any limit: the paper's, or the check program's own.
use Rattle.std.specs.Prelude.{ℕ, leb}
use Rattle.iff.specs.declared.File.{File}
use Rattle.iff.specs.declared.Reason.TheVariants.{TooLong}
use Rattle.iff_rules.specs.Load.{fault_unless}
use Rattle.iff.specs.Refusals.{Verdict, at_place}

-- a file of at most so many bytes; with the paper's limit this is its `lengthVerdict`
abbrev pub length_within : ℕ → File → ℕ → Verdict
length_within most f n = fault_unless (leb n most) TooLong (at_place f 0 0)
