-- SOUND ROWS OF TIMETBLS stay sound where a sound block of the same service replaces one and the edited text is not too long: the first line's row
-- and the services are the same, and every other block is as it was. Over plain variables. Assumes nothing.
use Prim.Native.Nat.{ℕ, suc, ◌+◌, ◌<◌, ◌≤◌}
use mathlib.Core.Path.{◌≡◌, refl, ap, sym, ◌∙◌}
use mathlib.Core.List.{List, [], ◌∷◌, ◌++◌}
use mathlib.Core.Bool.{Bool, true, false, false≢true}
use native.Mathlib.Omega.{arith}
use lib.Dec.{eqb}
use lib.ListN.{length, get_or, take, drop}
use borrow.Author.Tests.{le-leb}
use Rattle.iff.specs.Bytes.{hash}
use Rattle.iff.specs.Lists.{Group, front, groups, members, flat, all, any, total}
use Rattle.iff.specs.Files.{limit}
use Rattle.iff.specs.Lines.{is_hash}
use Rattle.iff.specs.Tables.{Row, is_hash_row, keys_of}
use Rattle.iff.specs.declared.File.{File}
use Rattle.iff.specs.declared.File.TheVariants.{Timetbls}
use Rattle.iff_rules.specs.Rows.{block_rows, as_block, Context}
use Rattle.iff_laws.specs.TruthLaws.{both, and_both}
use Rattle.iff_desk.specs.Sound.{distinct, empty, sound_first, sound_block, sound_timetbls, sound_rows, row_size, first_size}
use Rattle.iff_desk.specs.Amend.{table_blocks, rows_before, edited_length, amended_rows}
use Rattle.tables.proofs.Each.{each_append}
use Rattle.block_rows.proofs.RowLaws.{key_skips}
use Rattle.sound_laws.proofs.PassLaws.{all_hold, Opens, groups_open, total_append}
use Rattle.sound_facts.proofs.RowFacts.{first_row_lem, first_at, later_once, later_rows_lem}
use Rattle.amend_laws.proofs.GroupLists.{Passes, each_take, each_drop, each_of_all, all_of_each, replaced, groups_replaced, front_replaced}
use Rattle.amend_laws.proofs.NewBlock.{new_block, rows_are, rows_open}
use Rattle.amend_laws.proofs.AmendedRows.{service_in, in_parts, amended_keys}

-- a first line's row tells of the rows behind it only whether their keys rise
first_same : (f : File) (d r : Row) (rs qs : List Row) → keys_of f qs ≡ keys_of f rs → sound_first f d r rs ≡ true → sound_first f d r qs ≡ true
unfolding sound_first
first_same f d r rs qs e h = rw e h

no_rows : (rs : List Row) → empty rs ≡ true → rs ≡ []
no_rows [] e = refl
no_rows (r ∷ rs) e = absurd (false≢true e)

-- THE BLOCKS, one replaced
all_replaced : (p : Group Row → Bool) (k : ℕ) (g : Group Row) (gs : List (Group Row)) → all p gs ≡ true → p g ≡ true → all p (replaced k g gs) ≡ true
all_replaced p k g gs e q =
    let u = each_of_all p gs e in
    all_of_each p (replaced k g gs)
    (each_append (Passes p) (take k gs) (g ∷ drop (suc k) gs) (each_take (Passes p) k gs u) (q, each_drop (Passes p) (suc k) gs u))

module _ (c : Context) (d : Row) (k : ℕ) (r : Row) (rs : List Row) (e : sound_rows c d Timetbls (r ∷ rs) ≡ true) (b : List ℕ)
    (o : Opens is_hash (as_block b)) where
  abbrev blocks : List (Group Row)
  blocks = table_blocks (r ∷ rs)

  abbrev new : Group Row
  new = new_block c.form b

  -- the rows behind the first line's
  abbrev behind : List Row
  behind = flat (take k blocks) ++ (members new ++ flat (drop (suc k) blocks))

  no_hash : is_hash_row r ≡ false
  no_hash = ap (λ (x : ℕ). eqb x hash) (first_at c d Timetbls r rs e)

  was_right : (empty (front is_hash_row rs) ≡ true) × (all (sound_block c) (groups is_hash_row rs) ≡ true)
  unfolding sound_timetbls
  was_right = both _ _ (later_rows_lem c d Timetbls r rs e)

  first_alone_lem : front is_hash_row (r ∷ rs) ≡ r ∷ []
  unfolding front
  first_alone_lem = rw (no_hash, no_rows (front is_hash_row rs) was_right.0)

  blocks_right : all (sound_block c) blocks ≡ true
  unfolding groups
  blocks_right = rw no_hash was_right.1

  rows_split : amended_rows c.form k (r ∷ rs) b ≡ r ∷ behind
  rows_split = in_parts c.form k (r ∷ rs) b ∙ ap (λ (l : List Row). l ++ behind) first_alone_lem

  nothing_opens : any is_hash_row [] ≡ false
  unfolding any
  nothing_opens = refl

  behind_right_lem : sound_block c new ≡ true → sound_timetbls c behind ≡ true
  unfolding sound_timetbls
  behind_right_lem q =
      let p = rows_open c.form (as_block b) o in
      let u = groups_open is_hash_row (r ∷ rs) in
      and_both (ap empty (front_replaced is_hash_row [] k new blocks nothing_opens p u))
      (ap (all (sound_block c)) (groups_replaced is_hash_row [] k new blocks nothing_opens p u) ∙ all_replaced (sound_block c) k new blocks blocks_right q)

  module _ (g : Group Row) (inside : k < length blocks) (same : service_in new ≡ service_in (get_or blocks k g)) where
    keys_behind : keys_of Timetbls behind ≡ keys_of Timetbls rs
    keys_behind =
        sym (key_skips r behind (is_hash_row r) refl no_hash)
        ∙ ap (keys_of Timetbls) (sym rows_split)
        ∙ amended_keys c.form k (r ∷ rs) b o g inside same
        ∙ key_skips r rs (is_hash_row r) refl no_hash

    module _ (long : total (row_size c.form Timetbls) (block_rows c.form (as_block b)) ≡ length b)
        (short : edited_length c k (r ∷ rs) b ≤ limit) where
      sizes : first_size + total (row_size c.form Timetbls) behind ≤ limit
      sizes =
          let size : Row → ℕ = row_size c.form Timetbls in
          let f : total size (drop 1 (rows_before k (r ∷ rs))) ≡ total size (flat (take k blocks))
          = ap (λ (l : List Row). total size (drop 1 (l ++ flat (take k blocks)))) first_alone_lem in
          omega (
            arith,
            f,
            long,
            short,
            ap (total size) (rows_are c.form (as_block b)),
            total_append size (flat (take k blocks)) (members new ++ flat (drop (suc k) blocks)),
            total_append size (members new) (flat (drop (suc k) blocks)),
          )

      rows_right : sound_block c new ≡ true → sound_rows c d Timetbls (r ∷ behind) ≡ true
      unfolding sound_rows
      rows_right q =
          all_hold _ (
            first_same Timetbls d r rs behind keys_behind (first_row_lem c d Timetbls r rs e),
            (
              ap distinct keys_behind ∙ later_once c d Timetbls r rs e,
              (
                behind_right_lem q,
                (le-leb _ _ sizes, tt),
              ),
            ),
          )

-- THE ROWS, one block replaced
module _ (c : Context) (d : Row) (k : ℕ) (b : List ℕ) (o : Opens is_hash (as_block b)) (new : sound_block c (new_block c.form b) ≡ true)
    (long : total (row_size c.form Timetbls) (block_rows c.form (as_block b)) ≡ length b) (g : Group Row) where
  pub amended_right : (rs : List Row) → sound_rows c d Timetbls rs ≡ true → k < length (table_blocks rs)
      → service_in (new_block c.form b) ≡ service_in (get_or (table_blocks rs) k g) → edited_length c k rs b ≤ limit
      → sound_rows c d Timetbls (amended_rows c.form k rs b) ≡ true
  unfolding groups
  amended_right [] e inside same short = absurd (omega arith)
  amended_right (r ∷ rs) e inside same short =
      ap (sound_rows c d Timetbls) (rows_split c d k r rs e b o) ∙ rows_right c d k r rs e b o g inside same long short new
