-- TIMETBLS in parts: its lines are a first line and blocks, its rows the first line's row and the blocks' rows; one block in the place of another
-- of the same service is one block's rows in the place of the other's. Laws over plain blocks. Assumes nothing.
use Prim.Native.Nat.{ℕ, zero, suc, ◌<◌}
use mathlib.Core.Path.{◌≡◌, refl, ap, sym, ◌∙◌}
use mathlib.Core.List.{List, [], ◌∷◌, ◌++◌, map, append_assoc}
use mathlib.Core.Bool.{Bool, true, false}
use native.Mathlib.Omega.{arith}
use lib.Dec.{eqb}
use lib.ListN.{length, get_or, take, drop, length-append}
use lib.Seq.{map-set_same}
use borrow.Author.Tests.{eqb-true}
use Rattle.iff.specs.Lists.{Group, front, groups, members, flat, any, all, position, total}
use Rattle.iff.specs.Lines.{Line, is_hash, size}
use Rattle.iff.specs.Tables.{Row, is_hash_row, keys_of}
use Rattle.iff.specs.Words.{named}
use Rattle.iff.specs.declared.File.TheVariants.{Timetbls}
use Rattle.iff.specs.declared.Form.{Form}
use Rattle.iff_rules.specs.Rows.{block_rows_from, block_rows, blocks_rows, as_block, stops_in, lines_in}
use Rattle.iff_rules.specs.Load.{service_of}
use Rattle.iff_laws.specs.TruthLaws.{both}
use Rattle.iff_laws.specs.Places.{no_group}
use Rattle.iff_desk.specs.Sound.{row_size}
use Rattle.iff_desk.specs.Parts.{is_one_block}
use Rattle.iff_desk.specs.Amend.{table_blocks, place_of, rows_before, rows_behind, amended_rows}
use Rattle.tables.proofs.Each.{Each}
use Rattle.block_rows.proofs.RowLaws.{rows_count, key_skips}
use Rattle.block_ends.proofs.GroupLaws.{front_closed}
use Rattle.sound_laws.proofs.PassLaws.{Opens, total_append}
use Rattle.sound_laws.proofs.PlainLaws.{Laid}
use Rattle.sound_laws.proofs.TimetblsLaws.{block_of, front_blocks, groups_blocks, keys_of_blocks, block_sizes}
use Rattle.amend_laws.proofs.GroupLists.{replaced, replaced_set, each_of_all, position_inside, position_passes}
use Rattle.amend_laws.proofs.NewBlock.{service_is, row_names}
use Rattle.amend_laws.proofs.EditedText.{Ended}

-- LISTS
module _ {A B : Type 0} (f : A → B) where
  pub take_map : (k : ℕ) (xs : List A) → take k (map f xs) ≡ map f (take k xs)
  take_map zero xs = refl
  take_map (suc k) [] = refl
  take_map (suc k) (x ∷ xs) = ap (λ (l : List B). f x ∷ l) (take_map k xs)

  pub drop_map : (k : ℕ) (xs : List A) → drop k (map f xs) ≡ map f (drop k xs)
  drop_map zero xs = refl
  drop_map (suc k) [] = refl
  drop_map (suc k) (x ∷ xs) = drop_map k xs

  position_map : (p : B → Bool) (q : A → Bool) (xs : List A) → Each (λ x. p (f x) ≡ q x) xs → position p (map f xs) ≡ position q xs
  unfolding position
  position_map p q [] u = refl
  position_map p q (x ∷ xs) u = rw (u.0, position_map p q xs u.1)

-- A BLOCK'S ROWS
module _ (form : Form) where
  top_names : (g : Group Line) → Opens is_hash g → named (block_of form g).top ≡ service_of form g
  top_names g u = row_names form g u.0 ∙ sym (service_is form g u.0)

  blocks_flat : (gs : List (Group Line)) → flat (map (block_of form) gs) ≡ blocks_rows form gs
  unfolding flat blocks_rows block_rows_from
  blocks_flat [] = refl
  blocks_flat (g ∷ gs) = ap (λ (rs : List Row). block_rows form g ++ rs) (blocks_flat gs)

  pub blocks_append : (fs gs : List (Group Line)) → blocks_rows form (fs ++ gs) ≡ blocks_rows form fs ++ blocks_rows form gs
  unfolding blocks_rows
  blocks_append [] gs = refl
  blocks_append (f ∷ fs) gs = rw (blocks_append fs gs, append_assoc)

  -- as many as lines, and they tell the lines' length
  pub blocks_count : (gs : List (Group Line)) → length (blocks_rows form gs) ≡ length (flat gs)
  unfolding blocks_rows flat
  blocks_count [] = refl
  blocks_count (g ∷ gs) =
      omega (
        arith,
        length-append (block_rows form g) (blocks_rows form gs),
        rows_count form (stops_in g) (lines_in g) 1 (members g),
        length-append g.rest (flat gs),
        blocks_count gs,
      )

  pub blocks_sizes : (gs : List (Group Line)) → Each (λ g. Each (Laid form Timetbls) (members g)) gs
      → total (row_size form Timetbls) (blocks_rows form gs) ≡ total size (flat gs)
  unfolding blocks_rows flat total
  blocks_sizes [] u = refl
  blocks_sizes (g ∷ gs) u =
      omega (
        arith,
        total_append (row_size form Timetbls) (block_rows form g) (blocks_rows form gs),
        block_sizes form (stops_in g) (lines_in g) 1 (members g) u.0,
        total_append size g.rest (flat gs),
        blocks_sizes gs u.1,
      )

-- A TABLE'S ROWS: the first line's, and the blocks'
module _ (form : Form) (r : Row) (gs : List (Group Line)) (plain : is_hash_row r ≡ false) (opens : Each (Opens is_hash) gs) where
  abbrev table_rows : List Row
  table_rows = r ∷ blocks_rows form gs

  front_is : front is_hash_row table_rows ≡ r ∷ []
  front_is = front_closed is_hash_row r (blocks_rows form gs) plain ∙ ap (λ (rs : List Row). r ∷ rs) (front_blocks form gs opens)

  blocks_are : table_blocks table_rows ≡ map (block_of form) gs
  unfolding groups
  blocks_are = rw plain (groups_blocks form gs opens)

  pub keys_are : keys_of Timetbls table_rows ≡ map (service_of form) gs
  keys_are = key_skips r (blocks_rows form gs) false plain refl ∙ keys_of_blocks form gs opens

  pub before_are : (k : ℕ) → rows_before k table_rows ≡ r ∷ blocks_rows form (take k gs)
  before_are k = rw (front_is, blocks_are, take_map (block_of form) k gs, blocks_flat form (take k gs))

  pub behind_are : (k : ℕ) → rows_behind k table_rows ≡ blocks_rows form (drop (suc k) gs)
  behind_are k = rw (blocks_are, drop_map (block_of form) (suc k) gs, blocks_flat form (drop (suc k) gs))

  pub place_is : (s : ℕ) → place_of s table_rows ≡ position (λ g. eqb (service_of form g) s) gs
  place_is s =
      ap (position (λ (g : Group Row). eqb (named g.top) s)) blocks_are
      ∙ position_map (block_of form) (λ g. eqb (named g.top) s) (λ g. eqb (service_of form g) s) gs (each_named gs opens)
    where
      each_named : (hs : List (Group Line)) → Each (Opens is_hash) hs
          → Each (λ g. eqb (named (block_of form g).top) s ≡ eqb (service_of form g) s) hs
      each_named [] u = tt
      each_named (g ∷ hs) u = (ap (λ (n : ℕ). eqb n s) (top_names form g u.0), each_named hs u.1)

  pub amended_are : (k : ℕ) (b : List ℕ) → amended_rows form k table_rows b ≡ r ∷ blocks_rows form (replaced k (as_block b) gs)
  unfolding blocks_rows
  amended_are k b = rw (before_are k, behind_are k, blocks_append form (take k gs) (as_block b ∷ drop (suc k) gs))

-- ONE BLOCK IN THE PLACE OF ANOTHER of the same service
module _ (form : Form) (s : ℕ) (gs : List (Group Line)) (held : any (λ g. eqb (service_of form g) s) gs ≡ true) where
  abbrev pub place : ℕ
  place = position (λ g. eqb (service_of form g) s) gs

  pub place_inside : place < length gs
  place_inside = position_inside (λ g. eqb (service_of form g) s) gs held

  pub place_names : service_of form (get_or gs place no_group) ≡ s
  place_names = eqb-true _ _ (position_passes (λ g. eqb (service_of form g) s) no_group gs held)

  pub services_kept : (g : Group Line) → service_of form g ≡ s → map (service_of form) (replaced place g gs) ≡ map (service_of form) gs
  services_kept g e =
      ap (map (service_of form)) (replaced_set place g gs place_inside)
      ∙ map-set_same (service_of form) gs place g no_group (e ∙ sym place_names)

-- A TEXT THAT IS ONE BLOCK: CR LF ends its lines
pub block_ends : (s : ℕ) (ls : List Line) → is_one_block s ls ≡ true → Each Ended ls
unfolding is_one_block
block_ends s [] e = tt
block_ends s (l ∷ ls) e = each_of_all (λ (x : Line). x.ended) (l ∷ ls) (both (all (λ (x : Line). x.ended) (l ∷ ls)) _ e).0
