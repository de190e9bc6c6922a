-- Which files have groups whose rows marks tell apart.
use Rattle.std.specs.Prelude.{Bool, true, false}
use Rattle.iff.specs.declared.GroupFile.{GroupFile}
use Rattle.iff.specs.declared.GroupFile.TheVariants.{Timezone, Footnote, Changes, Xfootnote, Xchanges}

-- where a row shares its words with another or does not: periods overlap, and a footnote has one vector
abbrev pub told_by_marks : GroupFile → Bool
told_by_marks Timezone = false
told_by_marks Footnote = false
told_by_marks Changes = true
told_by_marks Xfootnote = false
told_by_marks Xchanges = true
