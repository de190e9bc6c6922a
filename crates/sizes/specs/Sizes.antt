-- The verdict over a delivery's sizes, and its three parts.
use Rattle.std.specs.Prelude.{ℕ, List, Bool, ltb, length}
use Rattle.iff.specs.Refusals.{or_else, Verdict}
use Rattle.iff.specs.Files.{PerFile, of, limit, per_file}
use Rattle.iff.specs.Lines.{lines}
use Rattle.iff.specs.declared.File.{File}
use Rattle.iff_rules.specs.Load.{absence_verdict, room_verdict, over_files}
use Rattle.size_tests.specs.Lengths.{length_within}

-- SIZES: "1, then 3, then 2, each over the files in order"
abbrev pub lengths_within : ℕ → PerFile ℕ → Verdict
lengths_within most L = over_files (λ f. length_within most f (of L f))

-- which files are there, by their lengths
abbrev pub there_by : PerFile ℕ → File → Bool
there_by L f = ltb 0 (of L f)

abbrev pub absences_verdict : PerFile ℕ → Verdict
absences_verdict L = over_files (absence_verdict (there_by L))

abbrev pub rooms_verdict : PerFile (List ℕ) → PerFile ℕ → Verdict
rooms_verdict F R = over_files (λ f. room_verdict f (length (lines (of F f))) (of R f))

abbrev pub lengths_of : PerFile (List ℕ) → PerFile ℕ
lengths_of F = per_file (λ f. length (of F f))

unfoldable pub sizes_verdict : PerFile (List ℕ) → PerFile ℕ → Verdict
sizes_verdict F R = or_else (or_else (lengths_within limit (lengths_of F)) (absences_verdict (lengths_of F))) (rooms_verdict F R)
