-- A folder's files, read by name. No contract can say what a call of the system opens or reads. Which call was made can be said, by two
-- marks: of what path an open file came, and of what open file some bytes. A mark says nothing of the bytes by itself, and any proof could
-- write its constructor. Only those of `open_at` and `read_from` do, each over a single call: every other promise has its marks from there.
use Rattle.std.specs.Prelude.{ℕ, ◌≡◌, Option, None, Some, List, [], take, IsUtf8}
use Rattle.std.specs.declared.fs.File.{File as OpenFile}
use Rattle.iff.specs.declared.File.{File}
use Rattle.name_puts.specs.Paths.{path_of}

-- the file is what opening the path for reading answered; what is not text is no path to the library, and opens nothing
pub data Opened (path : List ℕ) : Option OpenFile → Type 0 where
  opened_by_call : (file : Option OpenFile) → Opened path file
  not_text : (IsUtf8 path → ⊥) → Opened path None

-- the bytes are what was read of an open file into a buffer of that size, to its end or to the buffer's
pub data ReadFrom (file : OpenFile) (size : ℕ) (bytes : List ℕ) : Type 0 where
  read_by_call : ReadFrom file size bytes

-- what opening gives: nothing where nothing was opened
abbrev pub Given : Option OpenFile → ℕ → List ℕ → Type 0
Given (Some file) size bytes = ReadFrom file size bytes
Given None size bytes = bytes ≡ []

-- a path of 4,096 bytes or more is cut there, and no path of 4,096 bytes is opened
abbrev pub path_for : List ℕ → File → List ℕ
path_for folder f = take 4096 (path_of folder f)

-- the bytes of a file of a folder: read under its name, as far as a buffer of that size goes; none where it cannot be opened
pub record ReadAs (folder : List ℕ) (f : File) (size : ℕ) (bytes : List ℕ) : Type 0 where
  pub file : Option OpenFile
  pub opened : Opened (path_for folder f) file
  pub given : Given file size bytes
