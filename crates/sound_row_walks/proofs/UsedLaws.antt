-- The end of the rows in use, as a walk meets it: the room's end, or a row whose first word is 0. Assumes nothing.
use Prim.Native.Nat.{ℕ, suc, ◌+◌, ◌-◌, ◌/◌, ◌≤◌, ◌<◌}
use mathlib.Core.Path.{◌≡◌, ap, sym, ◌∙◌}
use mathlib.Core.List.{List, []}
use native.Mathlib.Nat.{le-div_iff_mul-le}
use native.Mathlib.Omega.{arith}
use lib.ListN.{length, length-drop}
use Rattle.iff.specs.Tables.{word, row_at, row_width, rows_in}
use Rattle.iff.specs.declared.File.TheVariants.{Timetbls}
use Rattle.tables.proofs.Rows.{rows_from_lem}
use Rattle.tables.proofs.Rest.{rest, rest_none, rest_unused, rest_row}
use Rattle.sound_row_walks.specs.Walk.{used_in, BlockAt}

abbrev pub room_of : List ℕ → ℕ
room_of t = length t / row_width Timetbls

module _ (t : List ℕ) (i : ℕ) (h : i ≤ used_in t) where
  abbrev room : ℕ
  room = room_of t

  -- the rows that are left are as many
  left : length (rest (row_width Timetbls) room t i) ≡ used_in t - i
  left = ap length (rows_from_lem (row_width Timetbls) room t i h) ∙ length-drop i (rows_in Timetbls t)

  none_left : rest (row_width Timetbls) room t i ≡ [] → used_in t ≤ i
  none_left e =
      let z : used_in t - i ≡ 0 = sym left ∙ ap length e in
      omega arith

  pub room_ends : room ≤ i → used_in t ≤ i
  room_ends m = none_left (rest_none (row_width Timetbls) room t i m)

  module _ (m : i < room) (tag : ℕ) (e : tag ≡ word (row_at (row_width Timetbls) t i) 0) where
    pub rows_end : tag ≡ 0 → used_in t ≤ i
    rows_end z = none_left (rest_unused (row_width Timetbls) room t i (omega arith) m (sym e ∙ z))

    pub row_used : (tag ≡ 0 → ⊥) → i < used_in t
    row_used n =
        let z : length (rest (row_width Timetbls) room t i) ≡ suc (length (rest (row_width Timetbls) room t (i + 1))) =
        ap length (rest_row (row_width Timetbls) room t i (omega arith) m (λ q. n (e ∙ q))) in
        omega (arith, left)

-- a walk through all rows of the room comes to its end, and not beyond
pub ends_at_room : (t : List ℕ) (from : ℕ) → BlockAt t from (used_in t) → (i : ℕ) → i ≤ used_in t → room_of t ≤ i → i ≡ room_of t
ends_at_room t from at i h m =
    let u : used_in t ≤ room_of t = (le-div_iff_mul-le {k = row_width Timetbls} {x = used_in t} {y = length t} (omega arith)).1 at.inside in
    omega arith
