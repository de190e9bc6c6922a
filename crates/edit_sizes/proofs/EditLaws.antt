-- Laws of the sizes of an edited table: rows that stay and rows that give way. Assumes nothing.
use Rattle.std.specs.Prelude.{Ok}
use Prim.Native.Nat.{ℕ, zero, suc, ◌+◌, ◌-◌, ◌*◌, ◌/◌, ◌≤◌, ◌<◌}
use mathlib.Core.Path.{◌≡◌, refl, ap, sym, ◌∙◌}
use mathlib.Core.List.{List, [], ◌∷◌, ◌++◌}
use mathlib.Core.Bool.{Bool, true, false}
use native.Mathlib.Nat.{le-div_iff_mul-le}
use native.Mathlib.Omega.{arith}
use native.Mathlib.Numerals.{add-one}
use borrow.Author.Tests.{leb-true, leb-false, le-leb, lt-leb}
use lib.Dec.{leb}
use lib.ListN.{length}
use Rattle.iff.specs.Lists.{total}
use Rattle.iff.specs.Files.{limit}
use Rattle.iff.specs.Columns.{picture_from, fields_of, record_of, record_fields}
use Rattle.iff.specs.Lines.{lines}
use Rattle.iff.specs.Tables.{Row, tag, row_at, row_width}
use Rattle.iff.specs.declared.File.TheVariants.{Timetbls}
use Rattle.iff.specs.declared.Form.{Form}
use Rattle.iff.specs.declared.Reason.TheVariants.{TooLong, NoRoom}
use Rattle.iff.specs.declared.Record.{Record}
use Rattle.iff.specs.declared.Record.TheVariants.{FirstRecord}
use Rattle.iff_desk.specs.Sound.{row_size, first_size}
use Rattle.keys.specs.Blocks.{block_of_rows, rows_between}
use Rattle.walks.proofs.GroupLaws.{between_none, between_first}
use Rattle.row_sizes.proofs.LineLaws.{line_length}
use Rattle.edit_sizes.specs.Edits.{Editable, edited_bytes, sizes_verdict}
use Rattle.iff.specs.Refusals.{at_place, fault_at}

-- A FIRST LINE is a record like any other, of 58 columns
pub first_record : (form : Form) → (line_length form FirstRecord + 2 ≡ first_size) × (line_length form FirstRecord ≡ 58)
unfolding record_fields picture_from
first_record form = (refl, refl)

-- ROWS IN PARTS
module _ (w : ℕ) (t : List ℕ) where
  block_parts : (i a b : ℕ) → block_of_rows w t i (a + b) ≡ block_of_rows w t i a ++ block_of_rows w t (i + a) b
  unfolding block_of_rows
  block_parts i zero b =
      let y : 0 + b ≡ b = omega arith in
      let z : i + 0 ≡ i = omega arith in
      rw (y, z)
  block_parts i (suc a) b =
      let y : suc a + b ≡ suc (a + b) = omega arith in
      let z : i + suc a ≡ suc i + a = omega arith in
      rw (y, z) (ap (λ (rs : List Row). row_at w t i ∷ rs) (block_parts (suc i) a b))

  pub between_parts : (from i to : ℕ) → from ≤ i → i ≤ to → rows_between w t from to ≡ rows_between w t from i ++ rows_between w t i to
  between_parts from i to l h =
      let y : to - from ≡ (i - from) + (to - i) = omega arith in
      let z : from + (i - from) ≡ i = omega arith in
      rw y (block_parts from (i - from) (to - i) ∙ rw z)

total_append : (size : Row → ℕ) (xs ys : List Row) → total size (xs ++ ys) ≡ total size xs + total size ys
unfolding total
total_append size [] ys = omega arith
total_append size (x ∷ xs) ys = omega (arith, total_append size xs ys)

-- THE BYTES OF SOME ROWS
module _ (form : Form) (t : List ℕ) where
  abbrev pub size_between : ℕ → ℕ → ℕ
  size_between from to = total (row_size form Timetbls) (rows_between (row_width Timetbls) t from to)

  pub size_none : (i to : ℕ) → to ≤ i → size_between i to ≡ 0
  unfolding total
  size_none i to h = rw (between_none (row_width Timetbls) t i to h)

  size_parts : (from i to : ℕ) → from ≤ i → i ≤ to → size_between from to ≡ size_between from i + size_between i to
  size_parts from i to l h = rw (between_parts (row_width Timetbls) t from i to l h) (total_append (row_size form Timetbls) _ _)

  -- row i's line, as the code finds its length, and those behind it
  pub size_step : (i to n x : ℕ) (r : Record) → i < to → x ≡ tag (row_at (row_width Timetbls) t i) → r ≡ record_of Timetbls x → n ≡ line_length form r
      → size_between i to ≡ n + 2 + size_between (i + 1) to
  unfolding total fields_of
  size_step i to n x r h a b c = rw (between_first (row_width Timetbls) t i to h, add-one, c, b, a)

  -- rows that stay before and behind others are no longer than all
  module _ (used from to : ℕ) (e : Editable form t used from to) where
    pub stays : first_size + size_between 1 from + size_between to used ≤ limit
    stays = go from refl
      where
        all_parts : size_between 1 used ≡ size_between 1 to + size_between to used
        all_parts = size_parts 1 to used (omega (arith, e.some)) e.within

        go : (n : ℕ) → from ≡ n → first_size + size_between 1 from + size_between to used ≤ limit
        go zero q = omega (arith, size_none 1 from (omega arith), e.short, all_parts)
        go (suc n) q = omega (arith, size_parts 1 from to (omega arith) (omega (arith, e.some)), e.short, all_parts)

-- THE LOOP: the bytes so far and those of the rows left are all
pub record Adding (form : Form) (t : List ℕ) (from to bytes i : ℕ) : Type 0 where
  pub all : size_between form t from to ≡ bytes + size_between form t i to

-- TEST 1 by what is left of the limit
fits_left : (first before behind n : ℕ) → first + before + behind ≤ limit
    → leb n (limit - (first + before + behind)) ≡ leb (first + before + n + behind) limit
fits_left first before behind n h = go (leb n (limit - (first + before + behind))) refl
  where
    go : (b : Bool) → leb n (limit - (first + before + behind)) ≡ b → b ≡ leb (first + before + n + behind) limit
    go true e = sym (le-leb (first + before + n + behind) limit (omega (arith, leb-true n (limit - (first + before + behind)) e)))
    go false e =
        sym (lt-leb (first + before + n + behind) limit (omega (arith, leb-false n (limit - (first + before + behind)) e)))

pub fits_edited : (form : Form) (t : List ℕ) (used from to : ℕ) → Editable form t used from to → (first before behind n : ℕ)
    → first ≡ first_size → before ≡ size_between form t 1 from → behind ≡ size_between form t to used
    → leb n (limit - (first + before + behind)) ≡ leb (edited_bytes form t used from to n) limit
fits_edited form t used from to e first before behind n a b c =
    rw (a, b, c) (fits_left first_size (size_between form t 1 from) (size_between form t to used) n (stays form t used from to e))

-- TEST 2 by what is left of the room
pub room_left : (most from new behind : ℕ) → from + behind ≤ most → leb new (most - (from + behind)) ≡ leb (from + new + behind) most
room_left most from new behind h = go (leb new (most - (from + behind))) refl
  where
    go : (b : Bool) → leb new (most - (from + behind)) ≡ b → b ≡ leb (from + new + behind) most
    go true e = sym (le-leb (from + new + behind) most (omega (arith, leb-true new (most - (from + behind)) e)))
    go false e = sym (lt-leb (from + new + behind) most (omega (arith, leb-false new (most - (from + behind)) e)))

pub used_room : (used n : ℕ) → used * row_width Timetbls ≤ n → used ≤ n / row_width Timetbls
used_room used n h = (le-div_iff_mul-le {k = row_width Timetbls} {x = used} {y = n} (omega arith)).1 h

-- THE VERDICT
module _ (form : Form) (t : List ℕ) (used from to : ℕ) (b : List ℕ) (fits : Bool) (f : fits ≡ leb (edited_bytes form t used from to (length b)) limit) where
  pub too_long : fits ≡ false → fault_at TooLong (at_place Timetbls 0 0) ≡ sizes_verdict form t used from to b
  unfolding sizes_verdict
  too_long e = rw (sym f ∙ e)

  module _ (e : fits ≡ true) (n : ℕ) (m : n ≡ length (lines b)) (r : Bool) (g : r ≡ leb (from + n + (used - to)) (length t / row_width Timetbls)) where
    counted : r ≡ leb (from + length (lines b) + (used - to)) (length t / row_width Timetbls)
    counted = g ∙ ap (λ (k : ℕ). leb (from + k + (used - to)) (length t / row_width Timetbls)) m

    pub no_room : r ≡ false → fault_at NoRoom (at_place Timetbls 0 0) ≡ sizes_verdict form t used from to b
    unfolding sizes_verdict
    no_room q = rw (sym f ∙ e, sym counted ∙ q)

    pub sizes_fine : r ≡ true → Ok tt ≡ sizes_verdict form t used from to b
    unfolding sizes_verdict
    sizes_fine q = rw (sym f ∙ e, sym counted ∙ q)
