-- A tag that is no byte is no record's letter. Assumes nothing.
use Prim.Native.Nat.{ℕ, ◌≤◌}
use mathlib.Core.Path.{◌≡◌, ap, sym, ◌∙◌}
use mathlib.Core.Bool.{Bool, cond}
use native.Mathlib.Omega.{arith}
use lib.Dec.{lit<}
use borrow.Author.Tests.{ne_eqb}
use Rattle.iff.specs.Bytes.{hash, percent, ampersand, asterisk, plus, dash, semicolon, question}
use Rattle.iff.specs.Columns.{on, group_record, block_record, record_of}
use Rattle.iff.specs.declared.GroupFile.{GroupFile}
use Rattle.iff.specs.declared.GroupFile.TheVariants.{Timezone, Footnote, Changes, Xfootnote, Xchanges}
use Rattle.iff.specs.declared.File.{File}
use Rattle.iff.specs.declared.File.TheVariants.{Groups, Timetbls}
use Rattle.iff.specs.declared.Record.{Record}
use Rattle.shapes.specs.Letters.{SameLetter}

pub no_byte : (tag : ℕ) → 256 ≤ tag → SameLetter tag 0
no_byte tag h = record { same = λ k some few. ne_eqb tag k (λ e. omega arith) ∙ sym (ne_eqb 0 k (λ e. omega arith)) }

module _ (x y : ℕ) (s : SameLetter x y) where
  headed : (a b : Record) → on x hash a b ≡ on y hash a b
  headed a b = ap (λ (t : Bool). cond t a b) (s.same hash (lit< tt) (lit< tt))

  group_letter : (f : GroupFile) → group_record f y ≡ group_record f x
  group_letter Timezone = sym (headed _ _)
  group_letter Footnote = sym (headed _ _)
  group_letter Changes = sym (headed _ _)
  group_letter Xfootnote = sym (headed _ _)
  group_letter Xchanges = sym (headed _ _)

  block_letter : block_record y ≡ block_record x
  unfolding block_record
  block_letter =
      rw (
        s.same hash (lit< tt) (lit< tt),
        s.same percent (lit< tt) (lit< tt),
        s.same dash (lit< tt) (lit< tt),
        s.same ampersand (lit< tt) (lit< tt),
        s.same asterisk (lit< tt) (lit< tt),
        s.same plus (lit< tt) (lit< tt),
        s.same semicolon (lit< tt) (lit< tt),
        s.same question (lit< tt) (lit< tt),
      )

  pub group_of : (f : GroupFile) (g : File) (r : Record) → g ≡ Groups f → r ≡ group_record f y → r ≡ record_of g x
  unfolding record_of
  group_of f g r e q = rw e (q ∙ group_letter f)

  pub block_of : (g : File) (r : Record) → g ≡ Timetbls → r ≡ block_record y → r ≡ record_of g x
  unfolding record_of
  block_of g r e q = rw e (q ∙ block_letter)
