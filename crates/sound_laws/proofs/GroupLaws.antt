-- A FILE OF GROUPS: lines without fault leave groups of rows that are sound, keys that are distinct, and their length. Assumes nothing.
use Rattle.std.specs.Prelude.{Ok}
use Prim.Native.Nat.{ℕ}
use mathlib.Core.Path.{◌≡◌, refl, ap, ◌∙◌}
use mathlib.Core.List.{List, [], ◌∷◌, ◌++◌, map}
use mathlib.Core.Bool.{Bool, true, false, not, cond}
use lib.Dec.{eqb}
use borrow.Author.Tests.{eqb-true}
use Rattle.iff.specs.Bytes.{hash}
use Rattle.iff.specs.Lists.{Group, front, groups, members, has, kept, total}
use Rattle.iff.specs.Refusals.{verdict_at, scan, after, at_place}
use Rattle.iff.specs.Lines.{Line, letter, is_hash, size}
use Rattle.iff.specs.Tables.{Row, tag, word, is_hash_row, keys_of}
use Rattle.iff.specs.Words.{named}
use Rattle.iff.specs.declared.GroupFile.{GroupFile}
use Rattle.iff.specs.declared.File.TheVariants.{Groups}
use Rattle.iff_rules.specs.Order.{known_in_group, may_follow, group_stand, may_end}
use Rattle.iff_rules.specs.Rows.{row_of, blocks_of, Context}
use Rattle.iff_rules.specs.Unique.{fresh_key, fresh_in_group}
use Rattle.iff_rules.specs.Load.{group_test, group_verdict, groups_verdict, Between, after_group}
use Rattle.iff_laws.specs.Places.{key_of}
use Rattle.iff_laws.specs.ScanLaws.{or_fine, cons_fine, unless_passes, verdict_fine}
use Rattle.iff_laws.specs.TruthLaws.{both, and_both}
use Rattle.iff_laws.proofs.MeetsLaws.{stray_none}
use Rattle.iff_desk.specs.Sound.{followed_by, distinct, sound_group_row, sound_group, sound_groups, empty, row_size}
use Rattle.tables.proofs.Each.{Each}
use Rattle.records.proofs.FileLaws.{row_tag}
use Rattle.sound_laws.proofs.PassLaws.{scan_passes, scan_each, each_all, each_group, each_entry, front_map, groups_map, group_to}
use Rattle.sound_laws.proofs.RowLaws.{group_hash, group_seven, group_row_lem}
use Rattle.sound_laws.proofs.PlainLaws.{InBytes, Laid, sizes_same}

module _ (c : Context) (f : GroupFile) where
  abbrev row : Line → Row
  row l = row_of c.form (Groups f) l

  -- a row opens a group where its line does
  opens_same : (l : Line) → is_hash_row (row l) ≡ is_hash l
  opens_same l = ap (λ (x : ℕ). eqb x hash) (row_tag c.form (Groups f) l) ∙ group_hash f (letter l)

  abbrev group_row : Group Line → Group Row
  group_row g = group_to is_hash is_hash_row row opens_same g

  -- A GROUP
  module _ (seen : List ℕ) (i : ℕ) (g : Group Line) (bytes : Each InBytes (members g)) (e : group_verdict c f seen i g ≡ Ok tt) where
    lines_fine : scan (λ earlier k l. verdict_at (at_place (Groups f) 0 k) (group_test c f seen earlier l)) (λ earlier l. earlier ++ (row l ∷ [])) [] i (members g)
        ≡ Ok tt
    unfolding group_verdict
    lines_fine = (cons_fine _ _ e).0

    ends : may_end f (group_stand (map row (members g))) ≡ true
    unfolding group_verdict
    ends = unless_passes _ _ (verdict_fine _ _ (cons_fine _ _ (cons_fine _ _ e).1).0)

    group_sound : sound_group c f (group_row g) ≡ true
    unfolding sound_group
    group_sound =
        and_both
        (scan_passes (λ earlier k l. verdict_at (at_place (Groups f) 0 k) (group_test c f seen earlier l)) (λ earlier l. earlier ++ (row l ∷ [])) InBytes
        (sound_group_row c f) followed_by (λ earlier k. earlier) (λ k l. row l) (λ k ls. map row ls)
        (record {
          none = λ k. refl;
          one_more = λ k x xs. refl;
          is_ok = λ earlier k l u q. group_row_lem c f seen earlier (at_place (Groups f) 0 k) l u q;
          moves = λ earlier k l. refl;
        })
        [] i (members g) bytes lines_fine)
        ends

    group_laid : Each (Laid c.form (Groups f)) (members g)
    group_laid =
        scan_each _ _ InBytes (Laid c.form (Groups f))
        (λ earlier k l u q. (group_seven c f seen earlier (at_place (Groups f) 0 k) l u q).is_laid_out) [] i (members g) bytes lines_fine

    -- its `#` is that of no group before
    group_fresh : not (has (key_of c.form f g) seen) ≡ true
    unfolding scan fresh_key may_follow group_stand after
    group_fresh =
        let first = (or_fine (verdict_at (at_place (Groups f) 0 i) (group_test c f seen [] g.top)) _ lines_fine).0 in
        let s = group_seven c f seen [] (at_place (Groups f) 0 i) g.top bytes.0 first in
        let z : tag (row g.top) ≡ hash = row_tag c.form (Groups f) g.top ∙ eqb-true _ _ s.is_here in
        let u = (both (fresh_key (Groups f) seen (row g.top)) (fresh_in_group f [] (row g.top)) s.is_fresh).0 in
        rw z at u

  -- THE FILE
  module _ (ls : List Line) (bytes : Each InBytes ls) (e : groups_verdict c f ls ≡ Ok tt) where
    no_stray : front is_hash ls ≡ []
    unfolding groups_verdict
    no_stray = stray_none (Groups f) (known_in_group f) (front is_hash ls) (cons_fine _ _ e).0

    groups_fine : scan (λ (b : Between) o g. group_verdict c f b.seen b.line g) (after_group c f) (record { seen = []; line = 2 }) 1 (blocks_of ls) ≡ Ok tt
    unfolding groups_verdict
    groups_fine = (cons_fine _ _ (cons_fine _ _ e).1).0

    group_bytes : Each (λ g. Each InBytes (members g)) (blocks_of ls)
    group_bytes = each_group is_hash InBytes ls bytes

    pub groups_sound : sound_groups c f (map row ls) ≡ true
    unfolding sound_groups
    groups_sound =
        and_both
        (ap empty (front_map is_hash is_hash_row row opens_same ls ∙ ap (map row) no_stray))
        (rw (groups_map is_hash is_hash_row row opens_same ls)
        (each_all (sound_group c f) group_row (blocks_of ls)
        (scan_each _ _ _ (λ g. sound_group c f (group_row g) ≡ true) (λ b o g u q. group_sound b.seen b.line g u q)
        (record { seen = []; line = 2 }) 1 (blocks_of ls) group_bytes groups_fine)))

    pub groups_sizes : total (row_size c.form (Groups f)) (map row ls) ≡ total size ls
    groups_sizes =
        sizes_same c.form (Groups f) ls
        (each_entry is_hash (Laid c.form (Groups f)) ls (rw no_stray tt)
        (scan_each _ _ _ (λ g. Each (Laid c.form (Groups f)) (members g)) (λ b o g u q. group_laid b.seen b.line g u q)
        (record { seen = []; line = 2 }) 1 (blocks_of ls) group_bytes groups_fine))

  -- the keys are those of the groups
  keys_of_groups : (ls : List Line) → keys_of (Groups f) (map row ls) ≡ map (key_of c.form f) (blocks_of ls)
  unfolding kept groups
  keys_of_groups [] = refl
  keys_of_groups (l ∷ ls) = rw (opens_same l) (go (is_hash l) (keys_of_groups ls))
    where
      go : (b : Bool) → keys_of (Groups f) (map row ls) ≡ map (key_of c.form f) (blocks_of ls)
          → map (λ (r : Row). word r 1) (cond b (row l ∷ kept is_hash_row (map row ls)) (kept is_hash_row (map row ls)))
          ≡ map (key_of c.form f) (cond b (record { top = l; rest = front is_hash ls } ∷ groups is_hash ls) (groups is_hash ls))
      go true q = ap (λ (ks : List ℕ). named (row l) ∷ ks) q
      go false q = q

  pub groups_distinct : (ls : List Line) → Each InBytes ls → groups_verdict c f ls ≡ Ok tt → distinct (keys_of (Groups f) (map row ls)) ≡ true
  unfolding distinct
  groups_distinct ls bytes e =
      rw (keys_of_groups ls)
      (scan_passes (λ (b : Between) o g. group_verdict c f b.seen b.line g) (after_group c f) (λ g. Each InBytes (members g))
      (λ seen k. not (has k seen)) followed_by (λ b o. b.seen) (λ o g. key_of c.form f g) (λ o gs. map (key_of c.form f) gs)
      (record {
        none = λ o. refl;
        one_more = λ o x xs. refl;
        is_ok = λ b o g u q. group_fresh b.seen b.line g u q;
        moves = λ b o g. refl;
      })
      (record { seen = []; line = 2 }) 1 (blocks_of ls) (group_bytes ls bytes e) (groups_fine ls bytes e))
