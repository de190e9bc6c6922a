-- A file's row width, with the bounds that the functions over rows ask of a width.
use Rattle.std.specs.Prelude.{ℕ, ◌<◌, ◌≡◌}
use Rattle.iff.specs.declared.File.{File}
use Rattle.iff.specs.Tables.{row_width}

pub record WidthOf (f : File) (w : ℕ) : Type 0 where
  pub is : w ≡ row_width f
  pub some : 0 < w
  pub few : w < 15
