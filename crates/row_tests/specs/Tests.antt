-- What the words of one row are asked.
use Rattle.std.specs.Prelude.{ℕ, Bool, ◌&&◌}
use Rattle.iff.specs.Columns.{fields_of}
use Rattle.iff.specs.Tables.{Row, tag}
use Rattle.iff.specs.declared.File.TheVariants.{Timetbls}
use Rattle.iff_rules.specs.Meaning.{block_meaning}
use Rattle.iff_rules.specs.References.{met_in_block}
use Rattle.iff_rules.specs.Rows.{Context}
use Rattle.iff_desk.specs.Sound.{shaped, own_words}

-- a row's words and what they name, after some stops
unfoldable pub row_tests : Context → ℕ → Row → Bool
row_tests c stops r = shaped (fields_of c.form Timetbls (tag r)) (own_words r) && (block_meaning stops r && met_in_block c r)
