-- The tests of a first line's row, by what the code found. Assumes nothing.
use Prim.Native.Nat.{ℕ, suc, ◌≤◌, ◌<◌}
use mathlib.Core.Path.{◌≡◌, refl, ap, sym, ◌∙◌}
use mathlib.Core.List.{List, [], ◌∷◌}
use mathlib.Core.Bool.{Bool, true, false, ◌&&◌, not, and-true}
use native.Mathlib.Omega.{arith}
use lib.Dec.{eqb}
use lib.ListN.{length, take, drop}
use lib.Seq.{drop-cons}
use borrow.Author.Tests.{not-true, not-false}
use Rattle.std.specs.Prelude.{nat_eq}
use Rattle.std.specs.Cmp.Lexicographic.{pointwise}
use Rattle.iff.specs.Bytes.{at}
use Rattle.iff.specs.Lists.{all_of, all, all2, same}
use Rattle.iff.specs.Columns.{first_fields, record_fields}
use Rattle.iff.specs.Values.{word_right, words_right, word_count}
use Rattle.iff.specs.Tables.{Row, word, tag, keys_of, rising, all_zero}
use Rattle.iff.specs.Words.{rises}
use Rattle.iff.specs.declared.File.{File}
use Rattle.iff.specs.declared.File.TheVariants.{Timetbls}
use Rattle.iff.specs.declared.Form.{Form}
use Rattle.iff.specs.declared.Record.TheVariants.{FirstRecord}
use Rattle.iff_rules.specs.Rows.{flag, line_one}
use Rattle.iff_rules.specs.Meaning.{first_meaning}
use Rattle.iff_desk.specs.Sound.{shaped, sound_first}
use Rattle.sound_firsts.specs.Behind.{behind_right}

-- the kept words of a first line are a tag and four numbers, in every form
pub five_words : (form : Form) → suc (word_count (record_fields form FirstRecord)) ≤ 5
unfolding record_fields
five_words form = omega arith

pub kept_shape : (form : Form) (r : Row) → 5 ≤ length r → shaped (record_fields form FirstRecord) (take 5 r) ≡ words_right (drop 1 r) first_fields
unfolding record_fields shaped words_right word_right all
kept_shape form [] h = absurd (omega arith)
kept_shape form (a ∷ []) h = absurd (omega arith)
kept_shape form (a ∷ b ∷ []) h = absurd (omega arith)
kept_shape form (a ∷ b ∷ c ∷ []) h = absurd (omega arith)
kept_shape form (a ∷ b ∷ c ∷ d ∷ []) h = absurd (omega arith)
kept_shape form (a ∷ b ∷ c ∷ d ∷ e ∷ r) h = and-true _

-- the kept words are DELIVERY's
same_by_pairs : (s t : List ℕ) → pointwise nat_eq s t ≡ same s t
unfolding all2
same_by_pairs [] [] = refl
same_by_pairs [] (y ∷ t) = refl
same_by_pairs (x ∷ s) [] = refl
same_by_pairs (x ∷ s) (y ∷ t) = ap (λ (b : Bool). eqb x y && b) (same_by_pairs s t)

module _ (s t : List ℕ) (ne : Bool) (e : ne ≡ not (pointwise nat_eq s t)) where
  pub words_differ : ne ≡ true → same s t ≡ false
  words_differ q = sym (same_by_pairs s t) ∙ not-true _ (sym e ∙ q)

  pub words_same : ne ≡ false → same s t ≡ true
  words_same q = sym (same_by_pairs s t) ∙ not-false _ (sym e ∙ q)

-- what stands behind the flag
pub zeros_behind : (f : File) (r : Row) (b : Bool) → line_one f ≡ [] → b ≡ all_zero (drop 6 r) → b ≡ behind_right f r
unfolding behind_right all2
zeros_behind f r b e h = rw e h

pub line_is : (r : Row) → 6 < length r → same (take 1 (drop 6 r)) (1 ∷ []) ≡ eqb (word r 6) 1
unfolding all2
line_is r h = rw (drop-cons r 6 0 h, and-true)

pub number_behind : (r : Row) (b q : Bool) → 6 < length r → eqb (word r 6) 1 ≡ b → q ≡ (b && all_zero (drop 7 r)) → q ≡ behind_right Timetbls r
unfolding behind_right
number_behind r b q h e g = rw (line_is r h, e) g

-- the tests in turn: a row's verdict by what each of them says, as far as they are made
module _ (f : File) (delivery r : Row) (later : List Row) where
  pub first_by : (k s m d l z q : Bool) → eqb (tag r) at ≡ k → words_right (drop 1 r) first_fields ≡ s → first_meaning r ≡ m
      → same (take 5 r) (take 5 delivery) ≡ d
      → eqb (rises r) (flag (rising (keys_of f later))) ≡ l
      → behind_right f r ≡ z
      → q ≡ (k && (s && (m && (d && (l && z)))))
      → q ≡ sound_first f delivery r later
  unfolding sound_first all_of behind_right
  first_by k s m d l z q e g h i j o p = rw (and-true (all_zero (drop _ r)), e, g, h, i, j, o) p
