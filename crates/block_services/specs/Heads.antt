-- The service of a block.
use Rattle.std.specs.Prelude.{ℕ, List, true}
use Rattle.iff.specs.Words.{named}
use Rattle.iff.specs.declared.File.TheVariants.{Timetbls}
use Rattle.iff.specs.declared.Form.{Form}
use Rattle.iff_rules.specs.Rows.{row_of}

-- the first word after the tag of a line's row: of a `#`, its service
unfoldable pub head_word : Form → List ℕ → ℕ
head_word form body = named (row_of form Timetbls (record { body = body; ended = true }))
