-- The first row that passes, as the first of those that are kept, and as the head of its group. Assumes nothing.
use Rattle.std.specs.Prelude.{None, Option, Some}
use Prim.Native.Nat.{ℕ, suc, ◌+◌, ◌-◌, ◌*◌, ◌/◌, ◌≤◌, ◌<◌}
use mathlib.Core.Path.{◌≡◌, refl, ap, sym, ◌∙◌}
use mathlib.Core.List.{List, [], ◌∷◌}
use mathlib.Core.Bool.{Bool, true, false, ◌&&◌, cond}
use native.Mathlib.Nat.{sub-zero, zero-mul, le_trans, mul-le-mul_right, div-mul-le_self}
use native.Mathlib.Omega.{arith}
use native.Mathlib.Numerals.{add-one}
use lib.Dec.{eqb}
use lib.ListN.{length, get_or, drop, length-drop}
use lib.Seq.{take_all}
use Rattle.iff.specs.Bytes.{hash}
use Rattle.iff.specs.Files.{PerFile}
use Rattle.iff.specs.Lists.{Group, front, groups, kept}
use Rattle.iff.specs.Tables.{Row, is_hash_row, row_width, row_at, rows_in, keyed, key_tag, key_word, first_row}
use Rattle.iff.specs.Words.{named}
use Rattle.iff.specs.declared.RowFile.TheVariants.{Stations}
use Rattle.iff.specs.declared.File.{File}
use Rattle.iff.specs.declared.File.TheVariants.{Rows}
use Rattle.iff_rules.specs.Rows.{first_of}
use Rattle.iff_desk.specs.Store.{no_row, rows_of_groups, group_of, station_row}
use Rattle.tables.proofs.Rows.{row_inside, rows_most, row_is}
use Rattle.tables.proofs.First.{first_passing}
use Rattle.keys.specs.Blocks.{rows_between}
use Rattle.keys.specs.Lookup.{FoundRow}
use Rattle.keys.proofs.Blocks.{between_in_table}
use Rattle.walks.specs.Heads.{NextHead}
use Rattle.walks.proofs.GroupLaws.{between_none, between_first}
use Rattle.store.specs.Found.{Stored, HasGroups, row_or, GroupAt, RowFor}
use Rattle.store.proofs.OnceLaws.{found_first, no_more}

-- among rows: row i of them, counted from k, or none
abbrev row_from : ℕ → List Row → Option ℕ → Row
row_from k rs (Some i) = get_or rs (i - k) []
row_from k rs None = no_row

module _ (p : Row → Bool) where
  kept_first : (k : ℕ) (rs : List Row) → first_of (kept p rs) ≡ row_from k rs (first_row p k rs)
  unfolding kept first_row
  kept_first k [] = refl
  kept_first k (r ∷ rs) = go (p r) (kept_first (suc k) rs)
    where
      z : k - k ≡ 0
      z = omega arith

      later : (i : ℕ) → first_row p (suc k) rs ≡ Some i → get_or rs (i - suc k) [] ≡ get_or (r ∷ rs) (i - k) []
      later i e =
          let h = (first_passing p (suc k) rs i e).0 in
          let y : i - k ≡ suc (i - suc k) = omega arith in
          rw y

      moved : (o : Option ℕ) → first_row p (suc k) rs ≡ o → row_from (suc k) rs o ≡ row_from k (r ∷ rs) o
      moved (Some i) e = later i e
      moved None e = refl

      go : (b : Bool) → first_of (kept p rs) ≡ row_from (suc k) rs (first_row p (suc k) rs)
          → first_of (cond b (r ∷ kept p rs) (kept p rs)) ≡ row_from k (r ∷ rs) (cond b (Some k) (first_row p (suc k) rs))
      go true e = rw z
      go false e = e ∙ moved (first_row p (suc k) rs) refl

-- the group that the first row with a key opens
abbrev pub group_from : ℕ → List Row → Option ℕ → List Row
group_from k rs (Some i) = get_or rs (i - k) [] ∷ front is_hash_row (drop (suc (i - k)) rs)
group_from k rs None = []

module _ (key : ℕ) where
  abbrev pub opens : Row → Bool
  opens r = keyed hash 1 key r

  abbrev own : Group Row → Bool
  own g = eqb (named g.top) key

  abbrev groups_with : Bool → Row → List Row → List (Group Row)
  groups_with a r rs = cond a (record { top = r; rest = front is_hash_row rs } ∷ groups is_hash_row rs) (groups is_hash_row rs)

  pub group_first : (k : ℕ) (rs : List Row) → group_of key rs ≡ group_from k rs (first_row opens k rs)
  unfolding group_of groups kept first_row
  group_first k [] = refl
  group_first k (r ∷ rs) = go (is_hash_row r) (eqb (named r) key) refl (group_first (suc k) rs)
    where
      z : k - k ≡ 0
      z = omega arith

      moved : (o : Option ℕ) → first_row opens (suc k) rs ≡ o → group_from (suc k) rs o ≡ group_from k (r ∷ rs) o
      moved (Some i) e =
          let h = (first_passing opens (suc k) rs i e).0 in
          let y : i - k ≡ suc (i - suc k) = omega arith in
          rw y
      moved None e = refl

      go : (a b : Bool) → eqb (named r) key ≡ b → rows_of_groups (kept own (groups is_hash_row rs)) ≡ group_from (suc k) rs (first_row opens (suc k) rs)
          → rows_of_groups (kept own (groups_with a r rs)) ≡ group_from k (r ∷ rs) (cond (a && b) (Some k) (first_row opens (suc k) rs))
      go true true q e = rw (q, z)
      go true false q e = rw q (e ∙ moved (first_row opens (suc k) rs) refl)
      go false b q e = e ∙ moved (first_row opens (suc k) rs) refl

-- A TABLE of a sound store
module _ (f : File) (used : ℕ) (t : List ℕ) (s : Stored f used t) where
  -- its rows in use stand in it
  pub used_fits : used * row_width f ≤ length t
  used_fits =
      let m = rows_most (row_width f) (length t / row_width f) t in
      let u : used ≤ length t / row_width f = omega (arith, s.counted) in
      le_trans (mul-le-mul_right (row_width f) u) (div-mul-le_self (length t) (row_width f))

  -- the rows from one on
  pub rows_from_lem : (i : ℕ) → i ≤ used → rows_between (row_width f) t i used ≡ drop i (rows_in f t)
  rows_from_lem i h =
      between_in_table (row_width f) t i used h (omega (arith, s.counted))
      ∙ take_all (used - i) (drop i (rows_in f t)) (rw length-drop (omega (arith, s.counted)))

  module _ (key : ℕ) where
    -- the row of a key is in use
    pub found_inside : (o : Option ℕ) → FoundRow f used t key o → (i : ℕ) → o ≡ Some i → i < used
    found_inside o h i e = let k = h.found i e in omega (arith, k.inside, no_more used (length t / row_width f))

    pub row_of : (i : ℕ) → i < used → get_or (rows_in f t) (i - 0) [] ≡ row_at (row_width f) t i
    row_of i h = rw sub-zero (row_is (row_width f) (length t / row_width f) t i (omega (arith, s.counted)))

    module _ (g : HasGroups f) where
      pub own_group : (o : Option ℕ) → FoundRow f used t key o → group_of key (rows_in f t) ≡ group_from 0 (rows_in f t) o
      own_group o h =
          let e : o ≡ first_row (opens key) 0 (rows_in f t) = rw (g.tag, g.word) at (found_first f used t key s o h) in
          rw e (group_first key 0 (rows_in f t))

      pub group_found : (o : Option ℕ) → FoundRow f used t key o → (i : ℕ) → o ≡ Some i → (w r : ℕ) → w ≡ row_width f → NextHead w t (i + 1) used r
          → GroupAt f used t key (record { from = i; to = r })
      group_found o h i e w r v m =
          let l = found_inside o h i e in
          let a : i + 1 ≤ used = omega arith in
          let n : NextHead (row_width f) t (i + 1) used r = rw v at m in
          record {
            is = own_group o h ∙ ap (group_from 0 (rows_in f t)) e
                ∙ rw (row_of i l, sub-zero, ← add-one i, ← (rows_from_lem (i + 1) a), n.until, add-one)
                (sym (between_first (row_width f) t i r (omega (arith, n.low))));
            inside = record {
              order = omega (arith, n.low);
              fits = le_trans (mul-le-mul_right (row_width f) n.high) used_fits;
            };
            in_use = n.high;
          }

      pub group_none : (o : Option ℕ) → FoundRow f used t key o → o ≡ None → GroupAt f used t key (record { from = 0; to = 0 })
      group_none o h e =
          record {
            is = own_group o h ∙ ap (group_from 0 (rows_in f t)) e ∙ sym (between_none (row_width f) t 0 0 (omega arith));
            inside = record { order = omega arith; fits = rw zero-mul (omega arith) };
            in_use = omega arith;
          }

-- THE ROW OF A STATION
module _ (used : ℕ) (t : List ℕ) (s : Stored (Rows Stations) used t) (key : ℕ) where
  abbrev is_station : Row → Bool
  is_station r = keyed (key_tag (Rows Stations)) (key_word (Rows Stations)) key r

  station_of : (o : Option ℕ) → FoundRow (Rows Stations) used t key o → row_from 0 (rows_in (Rows Stations) t) o ≡ row_or (row_width (Rows Stations)) t o
  station_of (Some i) h = row_of (Rows Stations) used t s key i (found_inside (Rows Stations) used t s key (Some i) h i refl)
  station_of None h = refl

  pub station_found : (o : Option ℕ) → FoundRow (Rows Stations) used t key o → (R : PerFile (List Row)) → R.stations ≡ rows_in (Rows Stations) t
      → RowFor (row_width (Rows Stations)) t (station_row R key) o
  unfolding station_row
  station_found o h R e =
      let w = row_width (Rows Stations) in
      let q = found_first (Rows Stations) used t key s o h in
      record {
        is = ap (λ (rs : List Row). first_of (kept is_station rs)) e ∙ kept_first is_station 0 (rows_in (Rows Stations) t)
            ∙ ap (row_from 0 (rows_in (Rows Stations) t)) (sym q) ∙ station_of o h;
        stands = λ i y. row_inside w i used (length t) (found_inside (Rows Stations) used t s key o h i y) (used_fits (Rows Stations) used t s);
      }
