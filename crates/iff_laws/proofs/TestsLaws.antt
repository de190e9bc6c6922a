-- A load's verdict is the first fault of all tests in the paper's order: the key law, from which accepted and refused follow.
use Rattle.std.specs.Prelude.{ℕ, ◌+◌, ◌≡◌, Bool, true, false, cond, take, Ok, Option}
use Rattle.std.proofs.Math.Path.{refl, ap, sym}
use Rattle.std.proofs.Common.{◌∙◌, add-zero}
use mathlib.Core.List.{List, [], ◌∷◌, ◌++◌, map, append_assoc, append-nil}
use native.Mathlib.Omega.{arith}
use Rattle.std.proofs.Math.ListN.{length}
use Rattle.iff.specs.Lists.{Group, front, groups, members, total, kept, same}
use Rattle.iff.specs.Refusals.{first_test, verdict_at, first_fault, after, Verdict, at_place}
use Rattle.iff.specs.Files.{PerFile}
use Rattle.iff.specs.Lines.{Line, lines, letter, is_hash, no_line}
use Rattle.iff.specs.Tables.{Row}
use Rattle.iff.specs.declared.RowFile.{RowFile}
use Rattle.iff.specs.declared.RowFile.TheVariants.{Company, Country, Trnsmode, Stations}
use Rattle.iff.specs.declared.GroupFile.{GroupFile}
use Rattle.iff.specs.declared.GroupFile.TheVariants.{Timezone, Footnote, Changes, Xfootnote, Xchanges}
use Rattle.iff.specs.declared.File.{File}
use Rattle.iff.specs.declared.File.TheVariants.{Delivery, Rows, Groups, Timetbls}
use Rattle.iff.specs.declared.Reason.TheVariants.{Layout, Order, Legs}
use Rattle.iff.specs.declared.Stand.TheVariants.{Start}
use Rattle.iff.specs.declared.InBlock.{InBlock}
use Rattle.iff_rules.specs.Order.{line_test, stray_tests, known_in_group, known_in_block, finished, is_stop}
use Rattle.iff_rules.specs.Rows.{row_of, block_rows, blocks_of, rows_of_files, Context, context_of}
use Rattle.iff_rules.specs.Legs.{one, reach_of, legs}
use Rattle.iff_rules.specs.Load.{fault_unless, first_line_test, plain_test, group_test, block_test, block_start, block_moves, block_next, second, stray_verdict, Between, after_group, plain_verdict, group_verdict, groups_verdict, block_verdict, timetbls_verdict, later_verdict, file_verdict, delivery_verdict, contents_verdict, load_verdict}
use Rattle.iff_laws.specs.Places.{line_no, no_group, group_no, header_in, group_rows, key_of, keys_before, service_in, services_before, stands, standing, state_at}
use Rattle.iff_laws.specs.Tests.{test, seven_tests, asked_of_first, asked_of_row, asked_in_group, asked_in_block, along, second_line_tests, rows_tests, stray_line_tests, group_line_tests, group_tests, hash_line, groups_tests, block_line_tests, block_tests, blocks_tests, later_tests, file_tests, own_context, contents_tests, length_tests, absence_tests, room_tests, tests}
use Rattle.iff_laws.specs.ScanLaws.{turn, same_turn, last_turn, scan_along}
use Rattle.iff_laws.specs.TruthLaws.{one_more, same_self}
use Rattle.iff_laws.proofs.LineLaws.{seven_first}
use Rattle.iff.specs.declared.Place.{Place}

-- what a scan carries, at each place
after_lines : (es ls : List Line) → after (λ earlier l. earlier ++ (l ∷ [])) es ls ≡ es ++ ls
unfolding after
after_lines es [] = sym (append-nil es)
after_lines es (l ∷ ls) = after_lines (es ++ (l ∷ [])) ls ∙ append_assoc es (l ∷ []) ls

after_mapped : {A B : Type 0} (g : A → B) (es : List B) (xs : List A) → after (λ earlier x. earlier ++ (g x ∷ [])) es xs ≡ es ++ map g xs
unfolding after
after_mapped g es [] = sym (append-nil es)
after_mapped g es (x ∷ xs) = after_mapped g (es ++ (g x ∷ [])) xs ∙ append_assoc es (g x ∷ []) (map g xs)

after_block : (st : InBlock) (ls : List Line)
    → after block_next st ls ≡ record { stand = after stands st.stand ls; stops = st.stops + length (kept (λ l. is_stop (letter l)) ls) }
unfolding after kept block_moves
after_block st [] = λ i. record { stand = st.stand; stops = sym (add-zero st.stops) i }
after_block st (l ∷ ls) =
    let rest = kept (λ l. is_stop (letter l)) ls in
    let n : st.stops + one (is_stop (letter l)) + length rest ≡ st.stops + length (cond (is_stop (letter l)) (l ∷ rest) rest)
    = omega (arith, one_more (is_stop (letter l)) l rest) in
    after_block (block_next st l) ls ∙ (λ i. record { stand = after stands (stands st.stand l) ls; stops = n i })

from_start : (ls : List Line) → after block_next block_start ls ≡ standing ls
from_start ls =
    let k = length (kept (λ l. is_stop (letter l)) ls) in
    let n : 0 + k ≡ k = omega arith in
    after_block block_start ls ∙ (λ i. record { stand = after stands Start ls; stops = n i })

-- LINES WHERE NONE MAY STAND
second_first : (ls : List Line) → second ls ≡ first_fault (second_line_tests ls)
unfolding line_test first_test first_fault
second_first [] = refl
second_first (l ∷ ls) = refl

stray_found : (p : Option Place) (b : Bool) → verdict_at p (line_test (stray_tests b)) ≡ first_fault (test p b Layout ∷ test p false Order ∷ [])
unfolding line_test first_test first_fault
stray_found p true = refl
stray_found p false = refl

pub stray_first : (f : File) (known : ℕ → Bool) (ls : List Line) → stray_verdict f known ls ≡ first_fault (stray_line_tests f known ls)
unfolding first_fault
stray_first f known [] = refl
stray_first f known (l ∷ ls) = stray_found (at_place f 0 2) (known (letter l))

-- ROWS
module _ (c : Context) (f : RowFile) where
  pub rows_first : (ls : List Line) → plain_verdict c f ls ≡ first_fault (rows_tests c f ls)
  unfolding plain_verdict plain_test rows_tests
  rows_first ls =
      scan_along _ _ no_line [] 2 ls _
      (λ j h. ap (λ (es : List Line). verdict_at (at_place (Rows f) 0 (2 + j)) (plain_test c f es (line_no ls j))) (after_lines [] (take j ls))
      ∙ seven_first (at_place (Rows f) 0 (2 + j)) (asked_of_row c f (take j ls) (line_no ls j)))

-- GROUPS
module _ (c : Context) (f : GroupFile) where
  after_groups : (b : Between) (gs : List (Group Line))
      → after (after_group c f) b gs
      ≡ record { seen = b.seen ++ map (key_of c.form f) gs; line = b.line + total (λ g. length (members g)) gs }
  unfolding after total
  after_groups b [] = λ i. record { seen = sym (append-nil b.seen) i; line = sym (add-zero b.line) i }
  after_groups b (g ∷ gs) =
      let more = total (λ g. length (members g)) gs in
      let n : b.line + length (members g) + more ≡ b.line + (length (members g) + more) = omega arith in
      after_groups (after_group c f b g) gs
      ∙ (λ i. record { seen = append_assoc b.seen (key_of c.form f g ∷ []) (map (key_of c.form f) gs) i; line = n i })

  pub group_first : (seen : List ℕ) (i : ℕ) (g : Group Line) → group_verdict c f seen i g ≡ first_fault (group_tests c f seen i g)
  unfolding group_verdict group_test group_tests group_line_tests
  group_first seen i g =
      turn _ _ _
      (scan_along _ _ no_line [] i (members g) _
      (λ j h.
      ap (λ (es : List Row). verdict_at (at_place (Groups f) 0 (i + j)) (group_test c f seen es (line_no (members g) j)))
      (after_mapped (row_of c.form (Groups f)) [] (take j (members g)))
      ∙ seven_first (at_place (Groups f) 0 (i + j)) (asked_in_group c f seen (group_rows c.form f (take j (members g))) (line_no (members g) j))))
      refl

  pub groups_first : (ls : List Line) → groups_verdict c f ls ≡ first_fault (groups_tests c f ls)
  unfolding groups_verdict groups_tests
  groups_first ls =
      turn _ _ _ (stray_first (Groups f) (known_in_group f) (front is_hash ls))
      (last_turn _
      (scan_along _ _ no_group (record { seen = []; line = 2 }) 1 (blocks_of ls) _
      (λ k h.
      ap (λ (b : Between). group_verdict c f b.seen b.line (group_no (blocks_of ls) k))
      (after_groups (record { seen = []; line = 2 }) (take k (blocks_of ls)))
      ∙ group_first (keys_before c.form f (blocks_of ls) k) (hash_line (blocks_of ls) k) (group_no (blocks_of ls) k))))

-- BLOCKS
module _ (c : Context) where
  pub block_first : (seen : List ℕ) (o : ℕ) (g : Group Line) → block_verdict c seen o g ≡ first_fault (block_tests c seen o g)
  unfolding block_verdict block_test block_tests block_line_tests
  block_first seen o g =
      turn _ _ _
      (scan_along _ _ no_line block_start 1 (members g) _
      (λ j h.
      ap (λ (st : InBlock). verdict_at (at_place Timetbls o (1 + j)) (block_test c seen st (line_no (members g) j))) (from_start (take j (members g)))
      ∙ seven_first (at_place Timetbls o (1 + j)) (asked_in_block c seen (state_at g j) (line_no (members g) j))))
      (ap
      (λ (st : InBlock).
      first_fault
      (fault_unless (finished st.stand) Order (at_place Timetbls o (length (members g)))
      ∷ fault_unless (legs reach_of (block_rows c.form g)) Legs (at_place Timetbls o 1)
      ∷ []))
      (from_start (members g)))

  pub blocks_first : (ls : List Line) → timetbls_verdict c ls ≡ first_fault (blocks_tests c ls)
  unfolding timetbls_verdict blocks_tests
  blocks_first ls =
      turn _ _ _ (stray_first Timetbls known_in_block (front is_hash ls))
      (last_turn _
      (scan_along _ _ no_group [] 1 (blocks_of ls) _
      (λ k h.
      ap (λ (seen : List ℕ). block_verdict c seen (1 + k) (group_no (blocks_of ls) k)) (after_mapped (service_in c.form) [] (take k (blocks_of ls)))
      ∙ block_first (services_before c.form (blocks_of ls) k) (1 + k) (group_no (blocks_of ls) k))))

  -- FILES: no line, no fault
  pub later_none : (f : File) → first_fault (later_tests c f []) ≡ Ok tt
  unfolding rows_tests groups_tests blocks_tests along front groups first_fault
  later_none Delivery = refl
  later_none (Rows f) = refl
  later_none (Groups f) = refl
  later_none Timetbls = refl

  first_line_first : (header : List ℕ) (f : File) (l : Line)
      → verdict_at (at_place f 0 1) (first_line_test (same l.body header) l) ≡ first_fault (seven_tests (at_place f 0 1) (asked_of_first header l))
  unfolding first_line_test
  first_line_first header f l = seven_first (at_place f 0 1) (asked_of_first header l)

  pub file_first : (header : List ℕ) (f : File) → ((ls : List Line) → later_verdict c f ls ≡ first_fault (later_tests c f ls))
      → (ls : List Line) → file_verdict c header f ls ≡ first_fault (file_tests c header f ls)
  unfolding file_verdict file_tests
  file_first header f later [] = sym (later_none f)
  file_first header f later (l ∷ ls) = turn _ _ _ (first_line_first header f l) (last_turn _ (later ls))

  pub delivery_first : (ls : List Line) → delivery_verdict ls ≡ first_fault (file_tests c (line_no ls 0).body Delivery ls)
  unfolding delivery_verdict file_tests
  delivery_first [] = sym (later_none Delivery)
  delivery_first (l ∷ ls) =
      turn _ _ _
      (ap (λ (b : Bool). verdict_at (at_place Delivery 0 1) (first_line_test b l)) (sym (same_self l.body)) ∙ first_line_first l.body Delivery l)
      (last_turn _ (second_first ls))

pub contents_first : (F : PerFile (List ℕ)) → contents_verdict (own_context F) (rows_of_files F) F ≡ first_fault (contents_tests F)
unfolding contents_verdict contents_tests
contents_first F =
    let c = own_context F in
    let h = header_in F in
    turn _ _ _ (delivery_first c (lines F.delivery))
    (turn _ _ _ (file_first c h (Rows Company) (rows_first c Company) (lines F.company))
    (same_turn _ _ _
    (turn _ _ _ (file_first c h (Rows Country) (rows_first c Country) (lines F.country))
    (turn _ _ _ (file_first c h (Rows Trnsmode) (rows_first c Trnsmode) (lines F.trnsmode))
    (turn _ _ _ (file_first c h (Groups Timezone) (groups_first c Timezone) (lines F.timezone))
    (turn _ _ _ (file_first c h (Rows Stations) (rows_first c Stations) (lines F.stations))
    (turn _ _ _ (file_first c h (Groups Footnote) (groups_first c Footnote) (lines F.footnote))
    (turn _ _ _ (file_first c h Timetbls (blocks_first c) (lines F.timetbls))
    (turn _ _ _ (file_first c h (Groups Changes) (groups_first c Changes) (lines F.changes))
    (turn _ _ _ (file_first c h (Groups Xfootnote) (groups_first c Xfootnote) (lines F.xfootnote))
    (turn _ _ _ (file_first c h (Groups Xchanges) (groups_first c Xchanges) (lines F.xchanges))
    refl)))))))))))

four : (us vs ws xs : List Verdict) (v : Verdict)
    → v ≡ first_fault xs → first_fault (first_fault us ∷ first_fault vs ∷ first_fault ws ∷ v ∷ []) ≡ first_fault (us ++ (vs ++ (ws ++ xs)))
four us vs ws xs v e = turn _ us _ refl (turn _ vs _ refl (turn _ ws xs refl (last_turn xs e)))

-- THE KEY LAW
pub load_first : (F : PerFile (List ℕ)) (R : PerFile ℕ) → load_verdict F R ≡ first_fault (tests F R)
unfolding load_verdict context_of tests length_tests absence_tests room_tests
load_first F R = four (length_tests F) (absence_tests F) (room_tests F R) (contents_tests F) _ (contents_first F)
