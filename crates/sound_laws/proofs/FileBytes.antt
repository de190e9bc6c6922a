use mathlib.Core.List.{List}
use Prim.Native.Nat.{ℕ}
use Rattle.iff.specs.Files.{PerFile, of}
use Rattle.iff.specs.declared.File.{File}
use Rattle.text.proofs.PackLaws.{Each as EachByte}

-- WHAT IS ASSUMED: a file is made of bytes. A code is packed at 256 to a byte, and a number above 255 is an allowed byte to the definitions,
-- which have no other reason to say what the type of a lent `&[u8]` says.
pub record OfBytes (F : PerFile (List ℕ)) : Type 0 where
  pub below : (f : File) → EachByte 256 (of F f)
