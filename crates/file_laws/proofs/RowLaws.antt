-- The rows that the lines of an accepted file leave are in use, and no more than its lines. Assumes nothing.
use Rattle.std.specs.Prelude.{Ok}
use Prim.Native.Nat.{ℕ, suc, ◌+◌, ◌/◌, ◌≤◌}
use mathlib.Core.Path.{◌≡◌, refl, ap}
use mathlib.Core.List.{List, [], ◌∷◌, map}
use mathlib.Core.Bool.{Bool, true, false, cond}
use native.Mathlib.Nat.{le-div_iff_mul-le}
use native.Mathlib.Omega.{arith}
use lib.Dec.{eqb}
use lib.ListN.{length, length-append}
use Rattle.iff.specs.Lists.{Group, front, groups, members}
use Rattle.iff.specs.Refusals.{scan, Verdict, at_place}
use Rattle.iff.specs.Lines.{Line, letter, is_hash}
use Rattle.iff.specs.Values.{words, field_words}
use Rattle.iff.specs.Tables.{row_width, padded, fill, keys_of}
use Rattle.iff.specs.declared.RowFile.{RowFile}
use Rattle.iff.specs.declared.GroupFile.{GroupFile}
use Rattle.iff.specs.declared.GroupFile.TheVariants.{Timezone, Footnote, Changes, Xfootnote, Xchanges}
use Rattle.iff.specs.declared.File.{File}
use Rattle.iff.specs.declared.File.TheVariants.{Delivery, Rows, Groups, Timetbls}
use Rattle.iff.specs.declared.Form.{Form}
use Rattle.iff_rules.specs.Order.{known_in_group, known_in_block, tag_of}
use Rattle.iff_rules.specs.Rows.{row_of, block_rows_from, block_rows, blocks_rows, blocks_of, stops_in, lines_in, first_row_of, later_rows, rows_of_lines, Context}
use Rattle.iff_rules.specs.Load.{group_test, group_verdict, groups_verdict, block_test, block_verdict, timetbls_verdict, stray_verdict, file_verdict, Between, block_start}
use Rattle.iff_laws.specs.ScanLaws.{or_fine, cons_fine, verdict_fine}
use Rattle.iff_laws.proofs.LineLaws.{line_passes}
use Rattle.iff_laws.proofs.MeetsLaws.{stray_none}
use Rattle.tables.proofs.Each.{Each, each_append}
use Rattle.tables.proofs.Rows.{Used}
use Rattle.tables.proofs.Widths.{widths}
use Rattle.records.proofs.FileLaws.{row_used, known_used, block_known_used}
use Rattle.legs.proofs.RowLaws.{tag_is}
use Rattle.block_rows.proofs.RowLaws.{block_row_length, rows_count}
use Rattle.keys.specs.Lookup.{keys_in}
use Rattle.keys.proofs.Fills.{keys_in_fill}

-- LINES THAT PASSED
-- what every entry of a scan without fault has
module _ {S A : Type 0} (test : S → ℕ → A → Verdict) (next : S → A → S) (P : A → Type 0) (h : (st : S) (i : ℕ) (x : A) → test st i x ≡ Ok tt → P x)
  where
    scan_each : (st : S) (i : ℕ) (xs : List A) → scan test next st i xs ≡ Ok tt → Each P xs
    unfolding scan
    scan_each st i [] e = tt
    scan_each st i (x ∷ xs) e =
        let p = or_fine (test st i x) _ e in
        (h st i x p.0, scan_each (next st x) (suc i) xs p.1)

-- what all lines of the groups have, and those before them
module _ (P : Line → Type 0) where
  abbrev InGroup : Group Line → Type 0
  InGroup g = Each P (members g)

  each_line : (ls : List Line) → Each P (front is_hash ls) → Each InGroup (groups is_hash ls) → Each P ls
  unfolding front groups
  each_line [] e g = tt
  each_line (l ∷ ls) e g = go (is_hash l) e g (each_line ls)
    where
      go : (b : Bool) → Each P (cond b [] (l ∷ front is_hash ls)) → Each InGroup (cond b (record { top = l; rest = front is_hash ls } ∷ groups is_hash ls) (groups is_hash ls))
          → (Each P (front is_hash ls) → Each InGroup (groups is_hash ls) → Each P ls) → P l × Each P ls
      go true e g ih = (g.0.0, ih g.0.1 g.1)
      go false e g ih = (e.0, ih e.1 g)

abbrev Known : (ℕ → Bool) → Line → Type 0
Known known l = known (letter l) ≡ true

none_before : (known : ℕ → Bool) (ls : List Line) → ls ≡ [] → Each (Known known) ls
none_before known ls e = rw e tt

module _ (c : Context) (f : GroupFile) where
  abbrev InFile : Line → Type 0
  InFile l = Known (known_in_group f) l

  group_known : (seen : List ℕ) (i : ℕ) (g : Group Line) → group_verdict c f seen i g ≡ Ok tt → Each InFile (members g)
  unfolding group_verdict group_test
  group_known seen i g e =
      scan_each _ _ InFile
      (λ earlier k l q. ((line_passes _).0 (verdict_fine (at_place (Groups f) 0 k) (group_test c f seen earlier l) q)).is_known)
      [] i (members g) (cons_fine _ _ e).0

  groups_known : (ls : List Line) → groups_verdict c f ls ≡ Ok tt → Each InFile ls
  unfolding groups_verdict
  groups_known ls e =
      let p = cons_fine (stray_verdict (Groups f) (known_in_group f) (front is_hash ls)) _ e in
      let q = cons_fine _ _ p.1 in
      each_line InFile ls (none_before (known_in_group f) (front is_hash ls) (stray_none (Groups f) (known_in_group f) (front is_hash ls) p.0))
      (scan_each _ _ (λ g. Each InFile (members g)) (λ (b : Between) o g r. group_known b.seen b.line g r)
      (record { seen = []; line = 2 }) 1 (blocks_of ls) q.0)

module _ (c : Context) where
  abbrev InBlocks : Line → Type 0
  InBlocks l = Known known_in_block l

  block_known : (seen : List ℕ) (o : ℕ) (g : Group Line) → block_verdict c seen o g ≡ Ok tt → Each InBlocks (members g)
  unfolding block_verdict block_test
  block_known seen o g e =
      scan_each _ _ InBlocks
      (λ st j l q. ((line_passes _).0 (verdict_fine (at_place Timetbls o j) (block_test c seen st l) q)).is_known)
      block_start 1 (members g) (cons_fine _ _ e).0

  blocks_known : (ls : List Line) → timetbls_verdict c ls ≡ Ok tt → Each (λ g. Each InBlocks (members g)) (blocks_of ls)
  unfolding timetbls_verdict
  blocks_known ls e =
      let p = cons_fine (stray_verdict Timetbls known_in_block (front is_hash ls)) _ e in
      let q = cons_fine _ _ p.1 in
      scan_each _ _ (λ g. Each InBlocks (members g)) (λ seen o g r. block_known seen o g r) [] 1 (blocks_of ls) q.0

-- ROWS
-- the first line's
group_first : (f : GroupFile) (b : Bool) (l : Line) → Used (row_width (Groups f)) (first_row_of (Groups f) b l)
unfolding first_row_of padded words field_words
group_first Timezone b l = (refl, refl)
group_first Footnote b l = (refl, refl)
group_first Changes b l = (refl, refl)
group_first Xfootnote b l = (refl, refl)
group_first Xchanges b l = (refl, refl)

first_used : (f : File) (b : Bool) (l : Line) → Used (row_width f) (first_row_of f b l)
unfolding first_row_of padded words field_words
first_used Delivery b l = (refl, refl)
first_used (Rows f) b l = (refl, refl)
first_used (Groups f) b l = group_first f b l
first_used Timetbls b l = (refl, refl)

-- a line's
abbrev Tagged : File → Line → Type 0
Tagged f l = eqb (tag_of f (letter l)) 0 ≡ false

mapped_used : (form : Form) (f : File) (ls : List Line) → Each (Tagged f) ls → Each (Used (row_width f)) (map (row_of form f) ls)
mapped_used form f [] u = tt
mapped_used form f (l ∷ ls) u = (row_used form f l u.0, mapped_used form f ls u.1)

mapped_length : (form : Form) (f : File) (ls : List Line) → length (map (row_of form f) ls) ≡ length ls
mapped_length form f [] = refl
mapped_length form f (l ∷ ls) = ap suc (mapped_length form f ls)

-- a block's
from_used : (form : Form) (n k j : ℕ) (ls : List Line) → Each (Known known_in_block) ls → Each (Used (row_width Timetbls)) (block_rows_from form n k j ls)
unfolding block_rows_from
from_used form n k j [] u = tt
from_used form n k j (l ∷ ls) u =
    ((block_row_length form n k j l, rw tag_is (block_known_used (letter l) u.0)), from_used form n k (suc j) ls u.1)

blocks_used : (form : Form) (gs : List (Group Line)) → Each (λ g. Each (Known known_in_block) (members g)) gs
    → Each (Used (row_width Timetbls)) (blocks_rows form gs)
unfolding blocks_rows
blocks_used form [] u = tt
blocks_used form (g ∷ gs) u =
    each_append (Used (row_width Timetbls)) (block_rows form g) (blocks_rows form gs)
    (from_used form (stops_in g) (lines_in g) 1 (members g) u.0) (blocks_used form gs u.1)

blocks_length : (form : Form) (ls : List Line) → length (blocks_rows form (blocks_of ls)) + length (front is_hash ls) ≡ length ls
unfolding front groups blocks_rows
blocks_length form [] = refl
blocks_length form (l ∷ ls) = go (is_hash l) (blocks_length form ls)
  where
    go : (b : Bool) → length (blocks_rows form (blocks_of ls)) + length (front is_hash ls) ≡ length ls
        → length (blocks_rows form (cond b (record { top = l; rest = front is_hash ls } ∷ groups is_hash ls) (groups is_hash ls)))
        + length (cond b [] (l ∷ front is_hash ls)) ≡ suc (length ls)
    go true e =
        let g : Group Line = record { top = l; rest = front is_hash ls } in
        omega (arith, e, length-append (block_rows form g) (blocks_rows form (blocks_of ls)), rows_count form (stops_in g) (lines_in g) 1 (members g))
    go false e = omega (arith, e)

-- A FILE'S ROWS
pub record Held (f : File) (form : Form) (ls : List Line) : Type 0 where
  pub used : Each (Used (row_width f)) (rows_of_lines form f ls)
  pub few_rows : length (rows_of_lines form f ls) ≤ length ls

module _ (form : Form) (f : File) (mapped : (ks : List Line) → later_rows form f ks ≡ map (row_of form f) ks) where
  held_lines : (l : Line) (ls : List Line) → Each (Tagged f) ls → Held f form (l ∷ ls)
  unfolding rows_of_lines
  held_lines l ls u =
      record {
        used = (first_used f _ l, rw (mapped ls) (mapped_used form f ls u));
        few_rows = rw (mapped ls) (omega (arith, mapped_length form f ls));
      }

held_none : (form : Form) (f : File) → Held f form []
unfolding rows_of_lines
held_none form f = record { used = tt; few_rows = omega arith }

every_tagged : (f : RowFile) (ls : List Line) → Each (Tagged (Rows f)) ls
every_tagged f [] = tt
every_tagged f (l ∷ ls) = (refl, every_tagged f ls)

pub held_rows : (form : Form) (f : RowFile) (ls : List Line) → Held (Rows f) form ls
held_rows form f [] = held_none form (Rows f)
held_rows form f (l ∷ ls) = held_lines form (Rows f) (λ ks. refl) l ls (every_tagged f ls)

known_tagged : (f : GroupFile) (ls : List Line) → Each (Known (known_in_group f)) ls → Each (Tagged (Groups f)) ls
known_tagged f [] u = tt
known_tagged f (l ∷ ls) u = (known_used f (letter l) u.0, known_tagged f ls u.1)

-- a group's rows and a block's keep a line's own letter, so the lines must have passed
module _ (form : Form) (c : Context) (header : List ℕ) where
  pub held_groups : (f : GroupFile) (ls : List Line) → file_verdict c header (Groups f) ls ≡ Ok tt → Held (Groups f) form ls
  unfolding file_verdict
  held_groups f [] e = held_none form (Groups f)
  held_groups f (l ∷ ls) e =
      held_lines form (Groups f) (λ ks. refl) l ls (known_tagged f ls (groups_known c f ls (cons_fine _ _ (cons_fine _ _ e).1).0))

  pub held_timetbls : (ls : List Line) → file_verdict c header Timetbls ls ≡ Ok tt → Held Timetbls form ls
  unfolding file_verdict rows_of_lines
  held_timetbls [] e = held_none form Timetbls
  held_timetbls (l ∷ ls) e =
      record {
        used = (first_used Timetbls _ l, blocks_used form (blocks_of ls) (blocks_known c ls (cons_fine _ _ (cons_fine _ _ e).1).0));
        few_rows = omega (arith, blocks_length form ls);
      }

-- what such a file's table names
pub keys_held : (f : File) (form : Form) (n : ℕ) (ls : List Line) → Held f form ls → length ls ≤ n / row_width f
    → keys_in f (fill (row_width f) n (rows_of_lines form f ls)) ≡ keys_of f (rows_of_lines form f ls)
keys_held f form n ls h r =
    let g : length (rows_of_lines form f ls) ≤ n / row_width f = omega (arith, h.few_rows) in
    keys_in_fill f n (rows_of_lines form f ls) h.used ((le-div_iff_mul-le (widths f).some).0 g)
