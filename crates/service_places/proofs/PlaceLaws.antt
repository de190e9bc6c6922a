-- A service's part of TIMETBLS is cut out of it at its first row. Assumes nothing.
use Rattle.std.specs.Prelude.{None, Option, Some}
use Prim.Native.Nat.{ℕ, suc, ◌+◌, ◌-◌, ◌*◌, ◌/◌, ◌≤◌, ◌<◌}
use mathlib.Core.Path.{◌≡◌, refl, ap, sym, ◌∙◌}
use mathlib.Core.List.{List, [], ◌∷◌, append-nil}
use mathlib.Core.Bool.{true, false}
use native.Mathlib.Nat.{sub-zero, le_trans, mul-le-mul_right, div-mul-le_self}
use native.Mathlib.Omega.{arith}
use native.Mathlib.Numerals.{add-one}
use lib.ListN.{length, get_or, take, drop, length-drop}
use lib.Seq.{drop-drop, length-take-le}
use Rattle.iff.specs.Lists.{front, has}
use Rattle.iff.specs.Tables.{Row, is_hash_row, row_width, row_at, fill, rows_up_to, rows_in, keys_of, first_row}
use Rattle.iff.specs.declared.File.TheVariants.{Timetbls}
use Rattle.tables.proofs.First.{any_found, first_passing}
use Rattle.std.specs.Option.{is_some}
use Rattle.tables.proofs.Keys.{has_keys}
use Rattle.tables.proofs.Rows.{rows_fewer, rows_most, rows_used}
use Rattle.tables.proofs.Filled.{joined_rows, rows_in_fill}
use Rattle.keys.specs.Blocks.{rows_between}
use Rattle.keys.specs.Lookup.{at_most}
use Rattle.keys.proofs.Among.{at_most_all, as_found}
use Rattle.keys.proofs.Blocks.{between_in_table, between_first}
use Rattle.store.specs.Found.{Stored, GroupAt}
use Rattle.store.specs.declared.Part.{Part}
use Rattle.store.proofs.OnceLaws.{found_first}
use Rattle.store.proofs.FirstLaws.{opens, group_from, group_first, rows_from_lem}
use Rattle.service_places.specs.Placed.{services_before, Placed}
use Rattle.service_places.proofs.BlockLaws.{first_at, Cut, cut_at, keys_few}

abbrev width : ℕ
width = row_width Timetbls

-- THE ROWS BEFORE a row that is in use, as a table of their own
module _ (t : List ℕ) (i : ℕ) (h : i ≤ length (rows_in Timetbls t)) where
  room_for : i ≤ length t / width
  room_for = omega (arith, rows_most width (length t / width) t)

  pub front_fits : i * width ≤ length t
  front_fits = le_trans (mul-le-mul_right width room_for) (div-mul-le_self (length t) width)

  front_rows : rows_up_to width i t ≡ take i (rows_in Timetbls t)
  front_rows = rows_fewer width (length t / width) i t room_for

  front_count : length (rows_up_to width i t) ≡ i
  front_count = ap length front_rows ∙ length-take-le i (rows_in Timetbls t) h

  front_filled : take (i * width) t ≡ fill width (i * width) (rows_up_to width i t)
  unfolding fill
  front_filled =
      let z : i * width - i * width ≡ 0 = omega arith in
      rw (front_count, z, append-nil) (sym (rw front_count at (joined_rows width i t)))

  front_between : rows_up_to width i t ≡ rows_between width t 0 i
  front_between = front_rows ∙ sym (between_in_table width t 0 i (omega arith) h ∙ rw sub-zero)

  pub rows_before_lem : rows_in Timetbls (take (i * width) t) ≡ rows_between width t 0 i
  rows_before_lem =
      ap (rows_in Timetbls) front_filled
      ∙ rows_in_fill width (omega arith) (i * width) (rows_up_to width i t) (rows_used width (omega arith) i t front_fits) (rw front_count (omega arith))
      ∙ front_between

  -- their services, counted there
  pub counted_before : (n : ℕ) → n ≡ length (keys_of Timetbls (rows_in Timetbls (take (i * width - 0) (drop 0 t))))
      → n + 1 ≡ suc (length (services_before t i))
  counted_before n e = ap (λ (k : ℕ). k + 1) e ∙ rw (sub-zero, rows_before_lem, add-one)

  pub services_few : length (services_before t i) ≤ i
  services_few = omega (arith, keys_few (rows_between width t 0 i), ap length front_between, front_count)

-- A SERVICE that is held, by the part of the table that was found
module _ (s used : ℕ) (t : List ℕ) (p : Part) (o : Stored Timetbls used t) (g : GroupAt Timetbls used t s p) where
  abbrev rows : List Row
  rows = rows_in Timetbls t

  named_found : has s (keys_of Timetbls rows) ≡ is_some (first_row (opens s) 0 rows)
  named_found = has_keys Timetbls s rows ∙ sym (any_found (opens s) 0 rows)

  part_rows : rows_between width t p.from p.to ≡ group_from 0 rows (first_row (opens s) 0 rows)
  part_rows = sym g.is ∙ group_first s 0 rows

  part_count : length (rows_between width t p.from p.to) ≡ p.to - p.from
  part_count =
      ap length (between_in_table width t p.from p.to g.inside.order (omega (arith, g.in_use, o.counted)))
      ∙ length-take-le (p.to - p.from) (drop p.from rows) (rw length-drop (omega (arith, g.in_use, o.counted)))

  -- no part, no service
  pub not_held : p.from ≡ p.to → has s (keys_of Timetbls rows) ≡ false
  not_held e = named_found ∙ go (first_row (opens s) 0 rows) (ap length part_rows)
    where
      go : (r : Option ℕ) → length (rows_between width t p.from p.to) ≡ length (group_from 0 rows r) → is_some r ≡ false
      go (Some i) q = absurd (omega (arith, part_count))
      go None q = refl

  pub held : p.from < p.to → has s (keys_of Timetbls rows) ≡ true
  held h = named_found ∙ go (first_row (opens s) 0 rows) (ap length part_rows)
    where
      go : (r : Option ℕ) → length (rows_between width t p.from p.to) ≡ length (group_from 0 rows r) → is_some r ≡ true
      go (Some i) q = refl
      go None q = absurd (omega (arith, part_count))

  module _ (h : p.from < p.to) where
    -- the part's first row names it, and is the first that does
    opens_here : (r : Option ℕ) → first_row (opens s) 0 rows ≡ r → rows_between width t p.from p.to ≡ group_from 0 rows r
        → opens s (row_at width t p.from) ≡ true
    opens_here (Some i) e q =
        let z : row_at width t p.from ∷ rows_between width t (suc p.from) p.to ≡ get_or rows (i - 0) [] ∷ front is_hash_row (drop (suc (i - 0)) rows)
        = sym (between_first width t p.from p.to h) ∙ q in
        let y : row_at width t p.from ≡ get_or rows (i - 0) [] = cc in
        rw y (first_passing (opens s) 0 rows i e).1.passes
    opens_here None e q = absurd (omega (arith, part_count, ap length q))

    in_use_lem : p.from < at_most used (length t / width)
    in_use_lem =
        let m : used ≤ length t / width = omega (arith, o.counted, rows_most width (length t / width) t) in
        omega (arith, at_most_all used (length t / width) m, g.in_use)

    first_here : first_row (opens s) 0 rows ≡ Some p.from
    first_here =
        sym (found_first Timetbls used t s o (Some p.from)
        (as_found Timetbls used t s p.from (record { inside = in_use_lem; names = opens_here (first_row (opens s) 0 rows) refl part_rows })))

    cut : Cut s rows p.from
    cut = cut_at s rows p.from (rw sub-zero at (first_at s 0 rows p.from first_here))

    behind_count : length (front is_hash_row (drop (suc p.from) rows)) ≡ p.to - suc p.from
    behind_count =
        let q : rows_between width t p.from p.to ≡ get_or rows (p.from - 0) [] ∷ front is_hash_row (drop (suc (p.from - 0)) rows)
        = part_rows ∙ ap (group_from 0 rows) first_here in
        let l : length (rows_between width t p.from p.to) ≡ suc (length (front is_hash_row (drop (suc p.from) rows)))
        = rw sub-zero at (ap length q) in
        omega (arith, part_count)

    before_here : rows_between width t 0 p.from ≡ take p.from rows
    before_here = between_in_table width t 0 p.from (omega arith) (omega (arith, g.in_use, o.counted)) ∙ rw sub-zero

    pub placed : Placed s used t p.from p.to
    placed =
        let z : suc p.from + (p.to - suc p.from) ≡ p.to = omega arith in
        record {
          place = rw before_here cut.place;
          before = cut.before ∙ sym before_here;
          behind = cut.behind ∙ rw (behind_count, drop-drop, z) (sym (rows_from_lem Timetbls used t o p.to g.in_use));
          seen = rw before_here cut.seen;
          new = rw before_here (has_keys Timetbls s (take p.from rows) ∙ cut.new);
        }
