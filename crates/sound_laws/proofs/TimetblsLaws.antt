-- TIMETBLS: lines without fault leave blocks of rows that are sound, services that are distinct, and their length. Assumes nothing.
use Rattle.std.specs.Prelude.{None, Ok, Some}
use Prim.Native.Nat.{ℕ, suc, ◌+◌}
use mathlib.Core.Path.{◌≡◌, refl, ap, sym, ◌∙◌}
use mathlib.Core.List.{List, [], ◌∷◌, ◌++◌, map}
use mathlib.Core.Bool.{Bool, true, false, ◌||◌, not, cond, false≢true}
use native.Mathlib.Omega.{arith}
use lib.Dec.{eqb}
use borrow.Author.Tests.{eqb-true, eq-eqb}
use Rattle.iff.specs.Bytes.{hash}
use Rattle.iff.specs.Lists.{Group, front, groups, members, any, has, total}
use Rattle.iff.specs.Refusals.{verdict_at, scan, after, at_place}
use Rattle.iff.specs.Lines.{Line, letter, is_hash, size}
use Rattle.iff.specs.Tables.{Row, tag, is_hash_row, keys_of}
use Rattle.iff.specs.declared.File.TheVariants.{Timetbls}
use Rattle.iff.specs.declared.Form.{Form}
use Rattle.iff.specs.declared.Stand.TheVariants.{Start, Hash}
use Rattle.iff_rules.specs.Order.{known_in_block, goes, is_goes, finished}
use Rattle.iff_rules.specs.Rows.{row_of, block_row, block_rows_from, block_rows, blocks_rows, blocks_of, stops_in, lines_in, Context}
use Rattle.iff_rules.specs.Unique.{fresh_key}
use Rattle.iff_rules.specs.Legs.{reach_of, legs}
use Rattle.iff_rules.specs.Load.{block_test, block_start, block_moves, block_next, block_verdict, timetbls_verdict, service_of}
use Rattle.iff_laws.specs.ScanLaws.{or_fine, cons_fine, unless_passes, verdict_fine}
use Rattle.iff_laws.specs.TruthLaws.{and_both}
use Rattle.iff_laws.proofs.MeetsLaws.{stray_none}
use Rattle.iff_laws.proofs.LineLaws.{Seven}
use Rattle.iff_laws.specs.Tests.{asked_in_block}
use Rattle.iff_desk.specs.Sound.{passes, followed_by, distinct, next_row, rows_start, sound_block_row, sound_block, sound_timetbls, empty, row_size}
use Rattle.tables.proofs.Each.{Each}
use Rattle.records.proofs.FileLaws.{row_tag}
use Rattle.legs.proofs.RowLaws.{tag_is, stops_same}
use Rattle.block_rows.proofs.RowLaws.{rows_count, keys_nil, block_keys_lem}
use Rattle.keys.proofs.Fills.{keys_append}
use Rattle.block_ends.proofs.GroupLaws.{groups_first, front_open}
use Rattle.sound_laws.proofs.PassLaws.{scan_passes, scan_each, total_append, all_hold, each_all, each_front, each_group, each_entry, Opens, groups_open}
use Rattle.sound_laws.proofs.BlockLaws.{block_size, block_seven, block_row_lem, rows_stand, counts_are}
use Rattle.sound_laws.proofs.PlainLaws.{InBytes, Laid}

-- A BLOCK'S ROWS
module _ (form : Form) where
  abbrev pub block_of : Group Line → Group Row
  block_of g = record { top = block_row form (stops_in g) (lines_in g) 1 g.top; rest = block_rows_from form (stops_in g) (lines_in g) 2 g.rest }

  pub none_open : (n k j : ℕ) (ls : List Line) → any is_hash ls ≡ false → any is_hash_row (block_rows_from form n k j ls) ≡ false
  unfolding any block_rows_from
  none_open n k j [] e = refl
  none_open n k j (l ∷ ls) e = rw (tag_is form n k j l) (go (is_hash l) e (none_open n k (suc j) ls))
    where
      go : (b : Bool) → (b || any is_hash ls) ≡ false → (any is_hash ls ≡ false → any is_hash_row (block_rows_from form n k (suc j) ls) ≡ false)
          → (b || any is_hash_row (block_rows_from form n k (suc j) ls)) ≡ false
      go true e ih = e
      go false e ih = ih e

  -- the groups of the rows are the blocks
  pub front_blocks : (gs : List (Group Line)) → Each (Opens is_hash) gs → front is_hash_row (blocks_rows form gs) ≡ []
  unfolding blocks_rows block_rows_from front
  front_blocks [] u = refl
  front_blocks (g ∷ gs) u =
      front_open is_hash_row (block_row form (stops_in g) (lines_in g) 1 g.top)
      (block_rows_from form (stops_in g) (lines_in g) 2 g.rest ++ blocks_rows form gs) (rw tag_is u.0.0)

  pub groups_blocks : (gs : List (Group Line)) → Each (Opens is_hash) gs → groups is_hash_row (blocks_rows form gs) ≡ map block_of gs
  unfolding blocks_rows block_rows_from groups
  groups_blocks [] u = refl
  groups_blocks (g ∷ gs) u =
      groups_first is_hash_row (block_row form (stops_in g) (lines_in g) 1 g.top) (block_rows_from form (stops_in g) (lines_in g) 2 g.rest)
      (blocks_rows form gs) (rw tag_is u.0.0) (none_open (stops_in g) (lines_in g) 2 g.rest u.0.1) (front_blocks gs u.1)
      ∙ ap (λ (rest : List (Group Row)). block_of g ∷ rest) (groups_blocks gs u.1)

  -- their keys are the services
  pub keys_of_blocks : (gs : List (Group Line)) → Each (Opens is_hash) gs → keys_of Timetbls (blocks_rows form gs) ≡ map (service_of form) gs
  unfolding blocks_rows
  keys_of_blocks [] u = keys_nil
  keys_of_blocks (g ∷ gs) u =
      keys_append Timetbls (block_rows form g) (blocks_rows form gs) ∙ rw (block_keys_lem form g u.0.0 u.0.1, keys_of_blocks gs u.1)

  -- they tell the lines' length
  pub block_sizes : (n k j : ℕ) (ls : List Line) → Each (Laid form Timetbls) ls → total (row_size form Timetbls) (block_rows_from form n k j ls) ≡ total size ls
  unfolding total block_rows_from
  block_sizes n k j [] u = refl
  block_sizes n k j (l ∷ ls) u = rw (block_size form n k j l u.0, block_sizes n k (suc j) ls u.1)

  blocks_sizes : (ls : List Line) → Each (Laid form Timetbls) ls
      → total (row_size form Timetbls) (blocks_rows form (blocks_of ls)) + total size (front is_hash ls) ≡ total size ls
  unfolding front groups blocks_rows total
  blocks_sizes [] u = refl
  blocks_sizes (l ∷ ls) u = go (is_hash l) (blocks_sizes ls u.1)
    where
      go : (b : Bool) → total (row_size form Timetbls) (blocks_rows form (blocks_of ls)) + total size (front is_hash ls) ≡ total size ls
          → total (row_size form Timetbls) (blocks_rows form (cond b (record { top = l; rest = front is_hash ls } ∷ groups is_hash ls) (groups is_hash ls)))
          + total size (cond b [] (l ∷ front is_hash ls)) ≡ size l + total size ls
      go true e =
          let g : Group Line = record { top = l; rest = front is_hash ls } in
          let s = block_sizes (stops_in g) (lines_in g) 1 (members g) (u.0, each_front is_hash (Laid form Timetbls) ls u.1) in
          omega (arith, e, s, total_append (row_size form Timetbls) (block_rows form g) (blocks_rows form (blocks_of ls)))
      go false e = omega (arith, e)

-- A BLOCK
starts_hash : (x : ℕ) → is_goes (goes Start x) ≡ true → x ≡ hash
unfolding goes
starts_hash x e = go (eqb x hash) refl e
  where
    go : (b : Bool) → eqb x hash ≡ b → is_goes (cond b (Some Hash) None) ≡ true → x ≡ hash
    go true q e = eqb-true x hash q
    go false q e = absurd (false≢true e)

module _ (c : Context) (seen : List ℕ) (o : ℕ) (g : Group Line) (bytes : Each InBytes (members g)) (e : block_verdict c seen o g ≡ Ok tt) where
  lines_fine : scan (λ st j l. verdict_at (at_place Timetbls o j) (block_test c seen st l)) block_next block_start 1 (members g) ≡ Ok tt
  unfolding block_verdict
  lines_fine = (cons_fine _ _ e).0

  ends : finished (after block_next block_start (members g)).stand ≡ true
  unfolding block_verdict
  ends = unless_passes _ _ (verdict_fine _ _ (cons_fine _ _ (cons_fine _ _ e).1).0)

  legs_meet : legs reach_of (block_rows c.form g) ≡ true
  unfolding block_verdict
  legs_meet = unless_passes _ _ (verdict_fine _ _ (cons_fine _ _ (cons_fine _ _ (cons_fine _ _ e).1).1).0)

  top_seven : Seven (asked_in_block c seen block_start g.top)
  unfolding scan
  top_seven =
      block_seven c seen block_start (at_place Timetbls o 1) g.top bytes.0
      (or_fine (verdict_at (at_place Timetbls o 1) (block_test c seen block_start g.top)) _ lines_fine).0

  top_hash : letter g.top ≡ hash
  top_hash = starts_hash (letter g.top) top_seven.is_here

  block_passes : passes (sound_block_row c) next_row rows_start (block_rows c.form g) ≡ true
  unfolding block_rows_from
  block_passes =
      scan_passes (λ st j l. verdict_at (at_place Timetbls o j) (block_test c seen st l)) block_next InBytes (sound_block_row c) next_row
      (λ st j. record { block = st; line = j }) (λ j l. block_row c.form (stops_in g) (lines_in g) j l)
      (λ j ls. block_rows_from c.form (stops_in g) (lines_in g) j ls)
      (record {
        none = λ j. refl;
        one_more = λ j x xs. refl;
        is_ok = λ st j l u q. block_row_lem c seen st (at_place Timetbls o j) l u q (stops_in g) (lines_in g) j;
        moves = λ st j l. λ i. record { block = block_moves st (sym (tag_is c.form (stops_in g) (lines_in g) j l) i); line = suc j };
      })
      block_start 1 (members g) bytes lines_fine

  pub block_sound : sound_block c (block_of c.form g) ≡ true
  unfolding sound_block block_rows_from
  block_sound =
      let h : is_hash g.top ≡ true = eq-eqb _ _ top_hash in
      let n = counts_are c.form (stops_in g) (lines_in g) 1 g.top h in
      all_hold _ (
        block_passes,
        (
          ap finished (rows_stand c.form (stops_in g) (lines_in g) 1 block_start (members g)) ∙ ends,
          (
            legs_meet,
            (
              eq-eqb _ _ (n.0 ∙ sym (rows_count c.form (stops_in g) (lines_in g) 1 (members g))),
              (eq-eqb _ _ (n.1 ∙ sym (stops_same c.form (stops_in g) (lines_in g) 1 (members g))), tt),
            ),
          ),
        ),
      )

  pub block_laid : Each (Laid c.form Timetbls) (members g)
  block_laid =
      scan_each _ _ InBytes (Laid c.form Timetbls)
      (λ st j l u q. (block_seven c seen st (at_place Timetbls o j) l u q).is_laid_out) block_start 1 (members g) bytes lines_fine

  -- its service is that of no block before
  block_fresh : not (has (service_of c.form g) seen) ≡ true
  unfolding fresh_key
  block_fresh =
      let z : tag (row_of c.form Timetbls g.top) ≡ hash = row_tag c.form Timetbls g.top ∙ top_hash in
      rw z at top_seven.is_fresh

-- THE FILE
module _ (c : Context) (ls : List Line) (bytes : Each InBytes ls) (e : timetbls_verdict c ls ≡ Ok tt) where
  pub no_stray : front is_hash ls ≡ []
  unfolding timetbls_verdict
  no_stray = stray_none Timetbls known_in_block (front is_hash ls) (cons_fine _ _ e).0

  pub blocks_fine : scan (λ seen o g. block_verdict c seen o g) (λ seen g. seen ++ (service_of c.form g ∷ [])) [] 1 (blocks_of ls) ≡ Ok tt
  unfolding timetbls_verdict
  blocks_fine = (cons_fine _ _ (cons_fine _ _ e).1).0

  pub block_bytes : Each (λ g. Each InBytes (members g)) (blocks_of ls)
  block_bytes = each_group is_hash InBytes ls bytes

  pub timetbls_sound_lem : sound_timetbls c (blocks_rows c.form (blocks_of ls)) ≡ true
  unfolding sound_timetbls
  timetbls_sound_lem =
      and_both (ap empty (front_blocks c.form (blocks_of ls) (groups_open is_hash ls)))
      (rw (groups_blocks c.form (blocks_of ls) (groups_open is_hash ls))
      (each_all (sound_block c) (block_of c.form) (blocks_of ls)
      (scan_each _ _ _ (λ g. sound_block c (block_of c.form g) ≡ true) (λ seen o g u q. block_sound c seen o g u q)
      [] 1 (blocks_of ls) block_bytes blocks_fine)))

  pub timetbls_distinct : distinct (keys_of Timetbls (blocks_rows c.form (blocks_of ls))) ≡ true
  unfolding distinct
  timetbls_distinct =
      rw (keys_of_blocks c.form (blocks_of ls) (groups_open is_hash ls))
      (scan_passes (λ seen o g. block_verdict c seen o g) (λ seen g. seen ++ (service_of c.form g ∷ [])) (λ g. Each InBytes (members g))
      (λ seen k. not (has k seen)) followed_by (λ seen o. seen) (λ o g. service_of c.form g) (λ o gs. map (service_of c.form) gs)
      (record {
        none = λ o. refl;
        one_more = λ o x xs. refl;
        is_ok = λ seen o g u q. block_fresh c seen o g u q;
        moves = λ seen o g. refl;
      })
      [] 1 (blocks_of ls) block_bytes blocks_fine)

  pub timetbls_sizes : total (row_size c.form Timetbls) (blocks_rows c.form (blocks_of ls)) ≡ total size ls
  unfolding total
  timetbls_sizes =
      let laid = each_entry is_hash (Laid c.form Timetbls) ls (rw no_stray tt)
      (scan_each _ _ _ (λ g. Each (Laid c.form Timetbls) (members g)) (λ seen o g u q. block_laid c seen o g u q)
      [] 1 (blocks_of ls) block_bytes blocks_fine) in
      omega (arith, blocks_sizes c.form ls laid, ap (total size) no_stray)
