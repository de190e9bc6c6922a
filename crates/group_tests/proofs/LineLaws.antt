-- One line of a group: what its tests come to, by what the code found. Assumes nothing.
use Rattle.std.specs.Prelude.{Err, Ok}
use Prim.Native.Nat.{ℕ, zero, suc, ◌+◌, ◌-◌}
use mathlib.Core.Path.{◌≡◌, refl, ap, sym, ◌∙◌}
use mathlib.Core.List.{List, [], ◌∷◌}
use mathlib.Core.Bool.{Bool, true, false, ◌&&◌, not, and-true}
use native.Mathlib.Numerals.{add-one}
use native.Mathlib.Omega.{arith}
use borrow.Author.Tests.{eq-eqb, ne_eqb}
use lib.Dec.{eqb}
use lib.ListN.{length, drop}
use Rattle.iff.specs.Bytes.{hash}
use Rattle.iff.specs.Lists.{any, has}
use Rattle.iff.specs.Refusals.{or_test, first_test, unless, Test}
use Rattle.iff.specs.Lines.{Line, letter}
use Rattle.iff.specs.Columns.{group_record, fields_of}
use Rattle.iff.specs.Tables.{Row, tag, row_width}
use Rattle.iff.specs.Words.{named}
use Rattle.iff.specs.declared.GroupFile.{GroupFile}
use Rattle.iff.specs.declared.File.TheVariants.{Groups}
use Rattle.iff.specs.declared.Form.{Form}
use Rattle.iff.specs.declared.GroupStand.{GroupStand}
use Rattle.iff.specs.declared.Record.{Record}
use Rattle.iff.specs.declared.Reason.{Reason}
use Rattle.iff.specs.declared.Reason.TheVariants.{Layout, Value, Duplicate, Reference, Order}
use Rattle.iff_rules.specs.Order.{known_in_group, may_follow, group_tag}
use Rattle.iff_rules.specs.Rows.{Context}
use Rattle.iff_rules.specs.Meaning.{group_meaning}
use Rattle.iff_rules.specs.Unique.{fresh_key, fresh_in_group, clash}
use Rattle.iff_rules.specs.References.{met_in_group}
use Rattle.records.specs.Layouts.{layout_test}
use Rattle.records.specs.Facts.{LineRead}
use Rattle.records.proofs.FileLaws.{group_fields, group_put, row_tag, known_used}
use Rattle.keys.specs.Blocks.{block_of_rows, rows_between}
use Rattle.group_tests.specs.Tests.{place_test, group_row_test}
use Rattle.group_tests.specs.Facts.{RowMade}
use Rattle.open_groups.specs.Open.{open_rows}

-- THE ROW OF A LINE
-- a test that passes, after another
passes_first : (s t : Test) → Ok tt ≡ or_test s t → Ok tt ≡ s
passes_first (Ok _) t e = refl
passes_first (Err r) t e = e

pub fails_not : (r : Reason) → ◌≡◌ {A = Test} (Err r) (Ok tt) → ⊥
fails_not r e = let z : ◌≡◌ {A = ℕ} 0 1 = cc in omega arith

unless_true : (b : Bool) (r : Reason) → Ok tt ≡ unless b r → b ≡ true
unless_true true r e = refl
unless_true false r e = absurd (fails_not r (sym e))

fails_first : (s t : Test) (r : Reason) → s ≡ Err r → Err r ≡ or_test s t
fails_first s t r e = rw e

module _ (f : GroupFile) (form : Form) (s : GroupStand) (l : Line) (was is : List ℕ) (wide : length was ≡ row_width (Groups f)) where
  abbrev byte : Test
  byte = place_test f s (letter l)

  -- its first byte is refused
  pub place_fails : (p : Test) (r : Reason) → p ≡ byte → p ≡ Err r → RowMade f form s l was was (Err r)
  place_fails p r q h =
      record {
        test = fails_first byte (layout_test l (fields_of form (Groups f) (letter l))) r (sym q ∙ h);
        row = λ n. absurd (fails_not r n);
        used = λ n. absurd (fails_not r n);
        kept = refl;
      }

  byte_known : Ok tt ≡ byte → known_in_group f (letter l) ≡ true
  byte_known e =
      unless_true (known_in_group f (letter l)) Layout
      (passes_first (unless (known_in_group f (letter l)) Layout) (unless (may_follow f s (group_tag f (letter l))) Order) e)

  -- or not, and its layout is tested
  pub place_passes : (p t : Test) (kind : Record) (tagged : ℕ) → p ≡ byte → p ≡ Ok tt → kind ≡ group_record f (letter l)
      → tagged ≡ group_tag f (letter l) → LineRead form kind tagged l was is t → RowMade f form s l was is t
  place_passes p t kind tagged q h k g a =
      record {
        test = rw (sym q ∙ h, group_fields form f (letter l), ← k) a.test;
        row = λ n. a.row n ∙ rw (k, g, wide) (group_put form f l);
        used = λ n. ap (λ (x : ℕ). eqb x 0) (row_tag form (Groups f) l) ∙ known_used f (letter l) (byte_known (sym h ∙ q));
        kept = a.kept;
      }

-- THE ROWS OF THE OPEN GROUP
block_rest : (w : ℕ) (t : List ℕ) (i k : ℕ) → drop 1 (block_of_rows w t i k) ≡ block_of_rows w t (i + 1) (k - 1)
unfolding block_of_rows
block_rest w t i zero = refl
block_rest w t i (suc k) =
    let p : suc k - 1 ≡ k = omega arith in
    rw (p, add-one)

-- all but its `#`
open_rest : (f : GroupFile) (t : List ℕ) (rows size : ℕ)
    → drop 1 (open_rows f t rows size) ≡ rows_between (row_width (Groups f)) t (rows - size + 1) rows
open_rest f t rows size =
    let p : rows - (rows - size) - 1 ≡ rows - (rows - size + 1) = omega arith in
    block_rest (row_width (Groups f)) t (rows - size) (rows - (rows - size)) ∙ rw p

-- DUPLICATES
module _ (f : GroupFile) (r : Row) (keys : List ℕ) (b : Bool) where
  pub unique_key : tag r ≡ hash → b ≡ not (has (named r) keys) → (g : List Row) → b ≡ (fresh_key (Groups f) keys r && fresh_in_group f g r)
  unfolding fresh_key fresh_in_group
  unique_key h q g = rw (eq-eqb (tag r) hash h, and-true) q

  pub unique_other : (tag r ≡ hash → ⊥) → (t : List ℕ) (rows size : ℕ)
      → b ≡ not (any (clash f r) (rows_between (row_width (Groups f)) t (rows - size + 1) rows))
      → b ≡ (fresh_key (Groups f) keys r && fresh_in_group f (drop 1 (open_rows f t rows size)) r)
  unfolding fresh_key fresh_in_group
  unique_other h t rows size q = rw (ne_eqb (tag r) hash h, open_rest f t rows size) q

-- THE TESTS OF A ROW
module _ (c : Context) (f : GroupFile) (keys t : List ℕ) (rows size : ℕ) (r : Row) (m : Bool) (p : m ≡ group_meaning f r) where
  abbrev unique : Bool
  unique = fresh_key (Groups f) keys r && fresh_in_group f (drop 1 (open_rows f t rows size)) r

  abbrev due : Test
  due = group_row_test c f keys (open_rows f t rows size) r

  tests_are : first_test (unless m Value ∷ unless unique Duplicate ∷ unless (met_in_group c f r) Reference ∷ []) ≡ due
  unfolding group_row_test
  tests_are = rw p

  pub means_not : m ≡ false → Err Value ≡ due
  unfolding first_test
  means_not a = rw a at tests_are

  module _ (a : m ≡ true) (u : Bool) (q : u ≡ unique) where
    pub unique_not : u ≡ false → Err Duplicate ≡ due
    unfolding first_test
    unique_not b = rw (a, sym q ∙ b) at tests_are

    module _ (b : u ≡ true) (g : Bool) (s : g ≡ met_in_group c f r) where
      pub met_not : g ≡ false → Err Reference ≡ due
      unfolding first_test
      met_not d = rw (a, sym q ∙ b, sym s ∙ d) at tests_are

      pub row_passes : g ≡ true → Ok tt ≡ due
      unfolding first_test
      row_passes d = rw (a, sym q ∙ b, sym s ∙ d) at tests_are
