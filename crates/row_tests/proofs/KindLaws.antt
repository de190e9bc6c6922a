-- The tests of a row by the kind of its record, over the row's words. Assumes nothing.
use Prim.Native.Nat.{ℕ}
use mathlib.Core.Path.{◌≡◌, refl}
use mathlib.Core.List.{[], ◌∷◌}
use mathlib.Core.Bool.{Bool, true, ◌&&◌}
use native.Mathlib.Omega.{arith}
use borrow.Author.Tests.{ne_eqb}
use lib.Dec.{eqb, ltb}
use lib.ListN.{length}
use Rattle.iff.specs.Bytes.{hash, percent, dash, ampersand, asterisk, plus, semicolon, question}
use Rattle.iff.specs.Lists.{all, any, has}
use Rattle.iff.specs.Columns.{record_fields, record_of, block_record, fields_of}
use Rattle.iff.specs.Values.{code_right, words_right, word_right}
use Rattle.iff.specs.Tables.{Row, word, tag, row_width}
use Rattle.iff.specs.declared.RowFile.TheVariants.{Company, Trnsmode, Stations}
use Rattle.iff.specs.declared.GroupFile.TheVariants.{Footnote}
use Rattle.iff.specs.declared.File.TheVariants.{Rows, Groups, Timetbls}
use Rattle.iff_rules.specs.Rows.{Context}
use Rattle.iff_rules.specs.Meaning.{block_meaning}
use Rattle.iff_rules.specs.References.{met_in_block}
use Rattle.iff_desk.specs.Sound.{shaped}
use Rattle.row_tests.specs.Tests.{row_tests}

-- a row word by word
abbrev pub seven_of : ℕ → Row → Row
seven_of x r = x ∷ word r 1 ∷ word r 2 ∷ word r 3 ∷ word r 4 ∷ word r 5 ∷ word r 6 ∷ []

pub seven : (r : Row) → length r ≡ row_width Timetbls → r ≡ seven_of (tag r) r
seven [] n = absurd (omega arith)
seven (a ∷ []) n = absurd (omega arith)
seven (a ∷ b ∷ []) n = absurd (omega arith)
seven (a ∷ b ∷ d ∷ []) n = absurd (omega arith)
seven (a ∷ b ∷ d ∷ e ∷ []) n = absurd (omega arith)
seven (a ∷ b ∷ d ∷ e ∷ f ∷ []) n = absurd (omega arith)
seven (a ∷ b ∷ d ∷ e ∷ f ∷ g ∷ []) n = absurd (omega arith)
seven (a ∷ b ∷ d ∷ e ∷ f ∷ g ∷ h ∷ []) n = refl
seven (a ∷ b ∷ d ∷ e ∷ f ∷ g ∷ h ∷ i ∷ r) n = absurd (omega arith)

-- four places that are not used
abbrev pub zeros : ℕ → ℕ → ℕ → ℕ → Bool
zeros a b d e = eqb 0 a && (eqb 0 b && (eqb 0 d && (eqb 0 e && true)))

module _ (c : Context) (stops : ℕ) (a b d e f n : ℕ) where
  abbrev row : ℕ → Row
  row x = x ∷ a ∷ b ∷ d ∷ e ∷ f ∷ n ∷ []

  abbrev tests : ℕ → Bool
  tests x = row_tests c stops (row x)

  pub service : tests hash ≡ ((ltb a 100000000 && true) && zeros 0 0 e f) && true
  unfolding row_tests shaped fields_of record_of block_record record_fields words_right word_right all block_meaning any met_in_block
  service = refl

  pub train : tests percent
      ≡ (((ltb a 1000 && (ltb b 100000 && true)) && zeros 0 0 0 f) && has a (c.keys (Rows Company)))
  unfolding row_tests shaped fields_of record_of block_record record_fields words_right word_right all block_meaning any met_in_block
  train = refl

  pub validity : tests dash ≡ (((ltb a 100000 && true) && zeros 0 0 e f) && has a (c.keys (Groups Footnote)))
  unfolding row_tests shaped fields_of record_of block_record record_fields words_right word_right all block_meaning any met_in_block
  validity = refl

  pub transport : tests ampersand ≡ (((code_right 4 a && true) && zeros 0 0 e f) && has a (c.keys (Rows Trnsmode)))
  unfolding row_tests shaped fields_of record_of block_record record_fields words_right word_right all block_meaning any met_in_block
  transport = refl

  pub attribute : tests asterisk
      ≡ (((code_right 4 a && (ltb e 100000 && true)) && zeros 0 0 0 f) && has e (c.keys (Groups Footnote)))
  unfolding row_tests shaped fields_of record_of block_record record_fields words_right word_right all block_meaning any met_in_block
  attribute = refl

  pub times : tests plus
      ≡ (((code_right 7 a && (ltb b 10000 && (ltb d 10000 && true))) && zeros 0 0 e f)
      && (block_meaning stops (row plus) && has a (c.keys (Rows Stations))))
  unfolding row_tests shaped fields_of record_of block_record record_fields words_right word_right all met_in_block
  times = refl

  pub passed : tests semicolon ≡ (((code_right 7 a && true) && zeros b d e f) && has a (c.keys (Rows Stations)))
  unfolding row_tests shaped fields_of record_of block_record record_fields words_right word_right all block_meaning any met_in_block
  passed = refl

  pub platform : tests question ≡ (((ltb a 100000 && true) && zeros b d e f) && has a (c.keys (Groups Footnote)))
  unfolding row_tests shaped fields_of record_of block_record record_fields words_right word_right all block_meaning any met_in_block
  platform = refl

  module _ (x : ℕ) (h1 : x ≡ hash → ⊥) (h2 : x ≡ percent → ⊥) (h3 : x ≡ dash → ⊥) (h4 : x ≡ ampersand → ⊥) (h5 : x ≡ asterisk → ⊥)
      (h6 : x ≡ plus → ⊥) (h7 : x ≡ semicolon → ⊥) (h8 : x ≡ question → ⊥) where
    pub plain : tests x
        ≡ (((code_right 7 a && (ltb b 10000 && true)) && zeros 0 d e f) && (block_meaning stops (row x) && has a (c.keys (Rows Stations))))
    unfolding row_tests shaped fields_of record_of block_record record_fields words_right word_right all met_in_block
    plain =
        rw (
          ne_eqb x hash h1,
          ne_eqb x percent h2,
          ne_eqb x dash h3,
          ne_eqb x ampersand h4,
          ne_eqb x asterisk h5,
          ne_eqb x plus h6,
          ne_eqb x semicolon h7,
          ne_eqb x question h8,
        )
