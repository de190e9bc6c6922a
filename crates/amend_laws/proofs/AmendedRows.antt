-- THE ROWS OF AN AMENDED TABLE, over any rows: their blocks are those of before with the one replaced, nothing else has moved, the services are
-- the same in the same order, each row is in use, and there are as many as lines. Assumes nothing.
use Prim.Native.Nat.{ℕ, suc, ◌+◌, ◌<◌}
use mathlib.Core.Path.{◌≡◌, refl, ap, sym, ◌∙◌}
use mathlib.Core.List.{List, [], ◌∷◌, ◌++◌, map, map-map, append_assoc}
use mathlib.Core.Bool.{Bool, true, false, ◌||◌}
use native.Mathlib.Omega.{arith}
use lib.Dec.{eqb}
use lib.ListN.{length, get_or, take, drop, length-append}
use lib.Seq.{map-set_same}
use borrow.Author.Tests.{eqb-true, eqb-false}
use Rattle.iff.specs.Lists.{Group, front, members, flat, any, has}
use Rattle.iff.specs.Lines.{lines, is_hash}
use Rattle.iff.specs.Tables.{Row, is_hash_row, keys_of}
use Rattle.iff.specs.Words.{named}
use Rattle.iff.specs.declared.File.TheVariants.{Timetbls}
use Rattle.iff.specs.declared.Form.{Form}
use Rattle.iff_rules.specs.Rows.{block_rows, stops_in, lines_in, as_block}
use Rattle.iff_desk.specs.Amend.{table_blocks, place_of, rows_before, rows_behind, edited_lines, amended_rows}
use Rattle.tables.proofs.Each.{Each, each_append}
use Rattle.block_rows.proofs.RowLaws.{rows_count}
use Rattle.sound_laws.proofs.PassLaws.{Opens, groups_open, none_in_front, each_front, each_group}
use Rattle.amend_laws.proofs.GroupLists.{each_take, each_drop, each_flat, replaced, replaced_set}
use Rattle.amend_laws.proofs.GroupLists.{openers_kept, groups_replaced, front_replaced, position_inside, position_passes}
use Rattle.amend_laws.proofs.NewBlock.{new_block, rows_are, rows_open}

-- THE SERVICES of a table, in their order, are its blocks' numbers
abbrev pub service_in : Group Row → ℕ
service_in g = named g.top

pub keys_of_blocks : (rs : List Row) → keys_of Timetbls rs ≡ map service_in (table_blocks rs)
keys_of_blocks rs = ap (map named) (openers_kept is_hash_row rs) ∙ map-map named (λ g. g.top) (table_blocks rs)

-- a service that is there has its place among them
module _ (s : ℕ) where
  any_service : (gs : List (Group Row)) → has s (map service_in gs) ≡ true → any (λ g. eqb (service_in g) s) gs ≡ true
  unfolding any
  any_service [] e = e
  any_service (g ∷ gs) e = go (eqb s (service_in g)) (eqb (service_in g) s) refl refl e (any_service gs)
    where
      go : (a b : Bool) → eqb s (service_in g) ≡ a → eqb (service_in g) s ≡ b → (a || has s (map service_in gs)) ≡ true
          → (has s (map service_in gs) ≡ true → any (λ g. eqb (service_in g) s) gs ≡ true) → (b || any (λ g. eqb (service_in g) s) gs) ≡ true
      go a true p q e ih = refl
      go true false p q e ih = absurd (eqb-false (service_in g) s q (sym (eqb-true s (service_in g) p)))
      go false false p q e ih = ih e

  module _ (rs : List Row) (e : has s (keys_of Timetbls rs) ≡ true) where
    is_there_lem : any (λ g. eqb (service_in g) s) (table_blocks rs) ≡ true
    is_there_lem = any_service (table_blocks rs) (ap (has s) (sym (keys_of_blocks rs)) ∙ e)

    pub place_inside : place_of s rs < length (table_blocks rs)
    place_inside = position_inside (λ g. eqb (service_in g) s) (table_blocks rs) is_there_lem

    pub place_names : (d : Group Row) → service_in (get_or (table_blocks rs) (place_of s rs) d) ≡ s
    place_names d = eqb-true _ _ (position_passes (λ g. eqb (service_in g) s) d (table_blocks rs) is_there_lem)

-- ONE BLOCK IN THE PLACE OF ANOTHER
module _ (form : Form) (k : ℕ) (rs : List Row) (b : List ℕ) where
  pub in_parts : amended_rows form k rs b
      ≡ front is_hash_row rs ++ (flat (take k (table_blocks rs)) ++ (members (new_block form b) ++ flat (drop (suc k) (table_blocks rs))))
  in_parts =
      append_assoc (front is_hash_row rs) (flat (take k (table_blocks rs))) (block_rows form (as_block b) ++ rows_behind k rs)
      ∙ ap (λ (l : List Row). front is_hash_row rs ++ (flat (take k (table_blocks rs)) ++ (l ++ rows_behind k rs))) (rows_are form (as_block b))

  module _ (o : Opens is_hash (as_block b)) where
    -- the blocks: those of before, and the new one
    pub amended_blocks : table_blocks (amended_rows form k rs b) ≡ replaced k (new_block form b) (table_blocks rs)
    amended_blocks =
        ap table_blocks in_parts
        ∙ groups_replaced is_hash_row (front is_hash_row rs) k (new_block form b) (table_blocks rs) (none_in_front is_hash_row rs) (rows_open form (as_block b) o)
        (groups_open is_hash_row rs)

    -- what stands before the first
    pub amended_front : front is_hash_row (amended_rows form k rs b) ≡ front is_hash_row rs
    amended_front =
        ap (front is_hash_row) in_parts
        ∙ front_replaced is_hash_row (front is_hash_row rs) k (new_block form b) (table_blocks rs) (none_in_front is_hash_row rs) (rows_open form (as_block b) o)
        (groups_open is_hash_row rs)

    -- the services, where the new block names that of the old one
    pub amended_keys : (d : Group Row) → k < length (table_blocks rs) → service_in (new_block form b) ≡ service_in (get_or (table_blocks rs) k d)
        → keys_of Timetbls (amended_rows form k rs b) ≡ keys_of Timetbls rs
    amended_keys d h e =
        keys_of_blocks (amended_rows form k rs b)
        ∙ ap (map service_in) (amended_blocks ∙ replaced_set k (new_block form b) (table_blocks rs) h)
        ∙ map-set_same service_in (table_blocks rs) k (new_block form b) d e
        ∙ sym (keys_of_blocks rs)

  -- what each row has
  module _ (P : Row → Type 0) (u : Each P rs) where
    pub before_each : Each P (rows_before k rs)
    before_each =
        each_append P (front is_hash_row rs) (flat (take k (table_blocks rs))) (each_front is_hash_row P rs u)
        (each_flat P (take k (table_blocks rs)) (each_take (λ g. Each P (members g)) k (table_blocks rs) (each_group is_hash_row P rs u)))

    pub behind_each : Each P (rows_behind k rs)
    behind_each = each_flat P (drop (suc k) (table_blocks rs)) (each_drop (λ g. Each P (members g)) (suc k) (table_blocks rs) (each_group is_hash_row P rs u))

    pub amended_each : Each P (block_rows form (as_block b)) → Each P (amended_rows form k rs b)
    amended_each v =
        each_append P (rows_before k rs) (block_rows form (as_block b) ++ rows_behind k rs) before_each
        (each_append P (block_rows form (as_block b)) (rows_behind k rs) v behind_each)

  -- as many rows as lines
  pub amended_length : lines b ≡ members (as_block b) → length (amended_rows form k rs b) ≡ edited_lines k rs b
  amended_length e =
      let new : List Row = block_rows form (as_block b) in
      omega (
        arith,
        length-append (rows_before k rs) (new ++ rows_behind k rs),
        length-append new (rows_behind k rs),
        rows_count form (stops_in (as_block b)) (lines_in (as_block b)) 1 (members (as_block b)),
        ap length e,
      )
