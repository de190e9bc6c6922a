-- The paths of a folder's files.
use Rattle.std.specs.Prelude.{ℕ, List, ◌++◌}
use Rattle.iff.specs.Files.{file_name}
use Rattle.iff.specs.declared.File.{File}

-- the path of a file in a folder, whose own path is empty or ends in `/`
abbrev pub path_of : List ℕ → File → List ℕ
path_of folder f = folder ++ file_name f
