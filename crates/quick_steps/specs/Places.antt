-- Where the lines of a block may stand, by how far the block has come.
use Rattle.std.specs.Prelude.{ℕ, cond, ltb, None, Option, Some}
use Rattle.iff.specs.declared.Stand.{Stand}
use Rattle.iff.specs.declared.Stand.TheVariants.{Start, Hash, Percent, Dash, Ampersand, Asterisk, Stop, Between, Last, LastPlatform}

abbrev pub place_in_block : Stand → ℕ
place_in_block Start = 0
place_in_block Hash = 1
place_in_block Percent = 2
place_in_block Dash = 3
place_in_block Ampersand = 4
place_in_block Asterisk = 5
place_in_block Stop = 6
place_in_block Between = 7
place_in_block Last = 8
place_in_block LastPlatform = 9

-- a record that may stand from one place to another
unfoldable pub goes_from : ℕ → ℕ → ℕ → Stand → Option Stand
goes_from place first last to = cond (ltb place first) None (cond (ltb last place) None (Some to))
