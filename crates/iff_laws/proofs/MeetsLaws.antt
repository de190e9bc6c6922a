-- LAW: a delivery is accepted exactly when it meets document 01; otherwise the answer names the first fault. Assumes nothing.
use Rattle.std.specs.Prelude.{ℕ, zero, suc, ◌+◌, ◌<◌, ◌≡◌, ◌↔◌, Bool, true, false, cond, length, get_or, take, drop, leb, ltb, Err, Ok, Option}
use Rattle.std.proofs.Math.Path.{refl, ap₂}
use Rattle.std.proofs.Common.{ap, sym, ◌∙◌, true≢false, arith}
use mathlib.Core.List.{List, [], ◌∷◌, map}
use Rattle.std.proofs.lemmas.Bool.{false≢true}
use borrow.Author.Tests.{leb-true, le-leb, ltb-true, lt-ltb}
use Rattle.iff.specs.Lists.{Group, front, members}
use Rattle.iff.specs.Refusals.{unless, first_fault, fine, answer, Verdict, accepted_with, at_place, fault_at}
use Rattle.iff.specs.Files.{PerFile, of, in_order, needed, limit}
use Rattle.iff.specs.Lines.{Line, lines, is_hash}
use Rattle.iff.specs.Tables.{Row, room}
use Rattle.iff.specs.Words.{own_company}
use Rattle.iff.proofs.Faults.{same_reason, same_place, same_days, same_services}
use Rattle.iff.specs.declared.RowFile.{RowFile}
use Rattle.iff.specs.declared.RowFile.TheVariants.{Company, Country, Trnsmode, Stations}
use Rattle.iff.specs.declared.GroupFile.{GroupFile}
use Rattle.iff.specs.declared.GroupFile.TheVariants.{Timezone, Footnote, Changes, Xfootnote, Xchanges}
use Rattle.iff.specs.declared.File.{File}
use Rattle.iff.specs.declared.File.TheVariants.{Delivery, Rows, Groups, Timetbls}
use Rattle.iff.specs.declared.Reason.{Reason}
use Rattle.iff.specs.declared.Reason.TheVariants.{TooLong, NoRoom, Absent}
use Rattle.iff_rules.specs.Order.{known_in_group, known_in_block}
use Rattle.iff_rules.specs.Rows.{blocks_of, rows_of_files, first_of, context_of}
use Rattle.iff_rules.specs.References.{names}
use Rattle.iff_rules.specs.Load.{stray_verdict, load_verdict, load_answer}
use Rattle.iff_laws.specs.Places.{line_no, group_no, form_in, context_in, header_in, group_rows, keys_before, services_before, state_at}
use Rattle.iff_laws.specs.Meets.{FirstLineMeets, GroupMeets, BlockMeets, RowsMeet, GroupsMeet, BlocksMeet, LaterMeet, FileMeets, Meets, days_written, services_written, AcceptedAs}
use Rattle.iff_laws.specs.Tests.{test, first_line_tests, second_line_tests, rows_tests, stray_line_tests, group_line_tests, group_tests, hash_line, groups_tests, block_line_tests, block_tests, blocks_tests, later_tests, file_tests, own_context, tests_of, in_turn, contents_tests, length_tests, there, absence_tests, room_tests, tests, FirstFault}
use Rattle.iff_laws.specs.ScanLaws.{unless_passes, verdict_fine, first_one, append_fine, fine_append, cons_fine, fine_cons, first_fault_lem, along_fine, fine_along}
use Rattle.iff_laws.specs.ReferenceLaws.{says_company}
use Rattle.iff_laws.proofs.LegLaws.{legs_exactly}
use Rattle.iff_laws.specs.AnswerLaws.{days_written_lem, services_written_lem}
use Rattle.iff_laws.proofs.LineLaws.{seven_fine, first_line_exactly, row_exactly, group_line_exactly, block_line_exactly}
use Rattle.iff_laws.proofs.TestsLaws.{stray_first, load_first}
use Rattle.iff.specs.declared.Place.{Place}

-- A TEST at a place
holds : (p : Option Place) (b : Bool) (r : Reason) → test p b r ≡ Ok tt → b ≡ true
holds p b r e = unless_passes b r (verdict_fine p (unless b r) e)

held : (p : Option Place) {b : Bool} (r : Reason) → b ≡ true → test p b r ≡ Ok tt
held p r e = rw e

-- LINES where none may stand
no_stray_line : (f : File) (known : ℕ → Bool) (ls : List Line) → first_fault (stray_line_tests f known ls) ≡ Ok tt → ls ≡ []
no_stray_line f known [] e = refl
no_stray_line f known (l ∷ ls) e = absurd (false≢true (holds _ _ _ (cons_fine _ _ (cons_fine _ _ e).1).0))

none_stray : (f : File) (known : ℕ → Bool) {ls : List Line} → ls ≡ [] → first_fault (stray_line_tests f known ls) ≡ Ok tt
unfolding first_fault
none_stray f known e = rw e

pub stray_none : (f : File) (known : ℕ → Bool) (ls : List Line) → stray_verdict f known ls ≡ Ok tt → ls ≡ []
stray_none f known ls e = no_stray_line f known ls (sym (stray_first f known ls) ∙ e)

no_second : (ls : List Line) → first_fault (second_line_tests ls) ≡ Ok tt → ls ≡ []
no_second [] e = refl
no_second (l ∷ ls) e = absurd (false≢true (holds _ _ _ (cons_fine _ _ e).0))

none_second : {ls : List Line} → ls ≡ [] → first_fault (second_line_tests ls) ≡ Ok tt
unfolding first_fault
none_second e = rw e

-- ROWS, GROUPS AND BLOCKS
module _ (D : PerFile (List Row)) (f : RowFile) where
  rows_meet : (ls : List Line) → first_fault (rows_tests (context_in D) f ls) ≡ Ok tt → RowsMeet D f ls
  unfolding rows_tests
  rows_meet ls e j h = (row_exactly D f (take j ls) (line_no ls j)).0 ((seven_fine _ _).0 (along_fine _ _ e j h))

  meet_rows : (ls : List Line) → RowsMeet D f ls → first_fault (rows_tests (context_in D) f ls) ≡ Ok tt
  unfolding rows_tests
  meet_rows ls m = fine_along _ _ (λ j h. (seven_fine _ _).1 ((row_exactly D f (take j ls) (line_no ls j)).1 (m j h)))

module _ (D : PerFile (List Row)) (f : GroupFile) where
  group_meets : (seen : List ℕ) (i : ℕ) (g : Group Line) → first_fault (group_tests (context_in D) f seen i g) ≡ Ok tt → GroupMeets D f seen g
  unfolding group_tests group_line_tests
  group_meets seen i g e =
      let z = append_fine (group_line_tests (context_in D) f seen i g) _ e in
      record {
        every_line = λ j h.
            (group_line_exactly D f seen (group_rows (form_in D) f (take j (members g))) (line_no (members g) j)).0
            ((seven_fine _ _).0 (along_fine _ _ z.0 j h));
        ended = holds _ _ _ (cons_fine _ _ z.1).0;
      }

  meets_group : (seen : List ℕ) (i : ℕ) (g : Group Line) → GroupMeets D f seen g → first_fault (group_tests (context_in D) f seen i g) ≡ Ok tt
  unfolding group_tests group_line_tests
  meets_group seen i g m =
      fine_append _ _
      (fine_along _ _
      (λ j h.
      (seven_fine _ _).1
      ((group_line_exactly D f seen (group_rows (form_in D) f (take j (members g))) (line_no (members g) j)).1 (m.every_line j h))))
      (first_one _ ∙ held _ _ m.ended)

  groups_meet : (ls : List Line) → first_fault (groups_tests (context_in D) f ls) ≡ Ok tt → GroupsMeet D f ls
  unfolding groups_tests
  groups_meet ls e =
      let z = append_fine (stray_line_tests (Groups f) (known_in_group f) (front is_hash ls)) _ e in
      record {
        no_stray = no_stray_line (Groups f) (known_in_group f) _ z.0;
        every_group = λ k h.
            group_meets (keys_before (form_in D) f (blocks_of ls) k) (hash_line (blocks_of ls) k) (group_no (blocks_of ls) k)
            (along_fine _ _ z.1 k h);
      }

  meet_groups : (ls : List Line) → GroupsMeet D f ls → first_fault (groups_tests (context_in D) f ls) ≡ Ok tt
  unfolding groups_tests
  meet_groups ls m =
      fine_append _ _ (none_stray (Groups f) (known_in_group f) m.no_stray)
      (fine_along _ _
      (λ k h. meets_group (keys_before (form_in D) f (blocks_of ls) k) (hash_line (blocks_of ls) k) (group_no (blocks_of ls) k) (m.every_group k h)))

module _ (D : PerFile (List Row)) where
  block_meets : (seen : List ℕ) (o : ℕ) (g : Group Line) → first_fault (block_tests (context_in D) seen o g) ≡ Ok tt → BlockMeets D seen g
  unfolding block_tests block_line_tests
  block_meets seen o g e =
      let z = append_fine (block_line_tests (context_in D) seen o g) _ e in
      let y = cons_fine _ _ z.1 in
      record {
        every_line = λ j h. (block_line_exactly D seen (state_at g j) (line_no (members g) j)).0 ((seven_fine _ _).0 (along_fine _ _ z.0 j h));
        ended = holds _ _ _ y.0;
        every_leg = (legs_exactly _).0 (holds _ _ _ (cons_fine _ _ y.1).0);
      }

  meets_block : (seen : List ℕ) (o : ℕ) (g : Group Line) → BlockMeets D seen g → first_fault (block_tests (context_in D) seen o g) ≡ Ok tt
  unfolding block_tests block_line_tests
  meets_block seen o g m =
      fine_append _ _
      (fine_along _ _ (λ j h. (seven_fine _ _).1 ((block_line_exactly D seen (state_at g j) (line_no (members g) j)).1 (m.every_line j h))))
      (fine_cons _ _ (held _ _ m.ended) (first_one _ ∙ held _ _ ((legs_exactly _).1 m.every_leg)))

  blocks_meet : (ls : List Line) → first_fault (blocks_tests (context_in D) ls) ≡ Ok tt → BlocksMeet D ls
  unfolding blocks_tests
  blocks_meet ls e =
      let z = append_fine (stray_line_tests Timetbls known_in_block (front is_hash ls)) _ e in
      record {
        no_stray = no_stray_line Timetbls known_in_block _ z.0;
        every_block = λ k h.
            block_meets (services_before (form_in D) (blocks_of ls) k) (1 + k) (group_no (blocks_of ls) k) (along_fine _ _ z.1 k h);
      }

  meet_blocks : (ls : List Line) → BlocksMeet D ls → first_fault (blocks_tests (context_in D) ls) ≡ Ok tt
  unfolding blocks_tests
  meet_blocks ls m =
      fine_append _ _ (none_stray Timetbls known_in_block m.no_stray)
      (fine_along _ _
      (λ k h. meets_block (services_before (form_in D) (blocks_of ls) k) (1 + k) (group_no (blocks_of ls) k) (m.every_block k h)))

  -- A FILE
  later_meet : (f : File) (ls : List Line) → first_fault (later_tests (context_in D) f ls) ≡ Ok tt → LaterMeet D f ls
  later_meet Delivery ls e = no_second ls e
  later_meet (Rows f) ls e = rows_meet D f ls e
  later_meet (Groups f) ls e = groups_meet D f ls e
  later_meet Timetbls ls e = blocks_meet ls e

  meet_later : (f : File) (ls : List Line) → LaterMeet D f ls → first_fault (later_tests (context_in D) f ls) ≡ Ok tt
  meet_later Delivery ls m = none_second m
  meet_later (Rows f) ls m = meet_rows D f ls m
  meet_later (Groups f) ls m = meet_groups D f ls m
  meet_later Timetbls ls m = meet_blocks ls m

  module _ (header : List ℕ) (f : File) where
    first_meets : (ls : List Line) → first_fault (first_line_tests header f ls) ≡ Ok tt → 0 < length ls → FirstLineMeets header (line_no ls 0)
    first_meets [] e h = absurd (omega arith)
    first_meets (l ∷ ls) e h = (first_line_exactly header l).0 ((seven_fine _ _).0 e)

    meets_first : (ls : List Line) → (0 < length ls → FirstLineMeets header (line_no ls 0)) → first_fault (first_line_tests header f ls) ≡ Ok tt
    unfolding first_fault
    meets_first [] m = refl
    meets_first (l ∷ ls) m = (seven_fine (at_place f 0 1) _).1 ((first_line_exactly header l).1 (m (omega arith)))

    file_meets : (ls : List Line) → first_fault (file_tests (context_in D) header f ls) ≡ Ok tt → FileMeets D header f ls
    unfolding file_tests
    file_meets ls e =
        let z = append_fine _ _ e in
        record { first_line_lem = first_meets ls z.0; later_lines = later_meet f (drop 1 ls) z.1 }

    meets_file : (ls : List Line) → FileMeets D header f ls → first_fault (file_tests (context_in D) header f ls) ≡ Ok tt
    unfolding file_tests
    meets_file ls m = fine_append _ _ (meets_first ls m.first_line_lem) (meet_later f (drop 1 ls) m.later_lines)

-- THE ELEVEN FILES: what holds at every place of their order holds of every file
abbrev file_no : ℕ → File
file_no i = get_or in_order i Delivery

every_file_of : (P : File → Type 0) → ((i : ℕ) → i < 11 → P (file_no i)) → (f : File) → P f
every_file_of P m Delivery = m 0 (omega arith)
every_file_of P m (Rows Company) = m 1 (omega arith)
every_file_of P m (Rows Country) = m 2 (omega arith)
every_file_of P m (Rows Trnsmode) = m 3 (omega arith)
every_file_of P m (Groups Timezone) = m 4 (omega arith)
every_file_of P m (Rows Stations) = m 5 (omega arith)
every_file_of P m (Groups Footnote) = m 6 (omega arith)
every_file_of P m Timetbls = m 7 (omega arith)
every_file_of P m (Groups Changes) = m 8 (omega arith)
every_file_of P m (Groups Xfootnote) = m 9 (omega arith)
every_file_of P m (Groups Xchanges) = m 10 (omega arith)

-- the tests of some files in turn
turns_fine : (t : File → List Verdict) (fs : List File) → first_fault (in_turn t fs) ≡ Ok tt
    → (i : ℕ) → i < length fs → first_fault (t (get_or fs i Delivery)) ≡ Ok tt
turns_fine t [] e i h = absurd (omega arith)
turns_fine t (f ∷ fs) e zero h = (append_fine (t f) (in_turn t fs) e).0
turns_fine t (f ∷ fs) e (suc i) h = turns_fine t fs (append_fine (t f) (in_turn t fs) e).1 i (omega arith)

fine_turns : (t : File → List Verdict) (fs : List File) → ((f : File) → first_fault (t f) ≡ Ok tt) → first_fault (in_turn t fs) ≡ Ok tt
unfolding first_fault
fine_turns t [] m = refl
fine_turns t (f ∷ fs) m = fine_append (t f) (in_turn t fs) (m f) (fine_turns t fs m)

-- one question of each, at no line
abbrev asked : (File → Bool) → Reason → List File → List Verdict
asked b r fs = map (λ f. test (at_place f 0 0) (b f) r) fs

asked_fine : (b : File → Bool) (r : Reason) (fs : List File) → first_fault (asked b r fs) ≡ Ok tt
    → (i : ℕ) → i < length fs → b (get_or fs i Delivery) ≡ true
asked_fine b r [] e i h = absurd (omega arith)
asked_fine b r (f ∷ fs) e zero h = holds _ _ _ (cons_fine _ (asked b r fs) e).0
asked_fine b r (f ∷ fs) e (suc i) h = asked_fine b r fs (cons_fine _ (asked b r fs) e).1 i (omega arith)

fine_asked : (b : File → Bool) (r : Reason) (fs : List File) → ((f : File) → b f ≡ true) → first_fault (asked b r fs) ≡ Ok tt
unfolding first_fault
fine_asked b r [] m = refl
fine_asked b r (f ∷ fs) m = fine_cons _ (asked b r fs) (held (at_place f 0 0) r (m f)) (fine_asked b r fs m)

all_asked : (b : File → Bool) (r : Reason) → first_fault (asked b r in_order) ≡ Ok tt → (f : File) → b f ≡ true
all_asked b r e = every_file_of (λ f. b f ≡ true) (asked_fine b r in_order e)

-- needed and there
need_there : (n : Bool) (k : ℕ) → cond n (ltb 0 k) true ≡ true → n ≡ true → 0 < k
need_there true k e q = ltb-true _ _ e
need_there false k e q = absurd (false≢true q)

there_need : (n : Bool) (k : ℕ) → (n ≡ true → 0 < k) → cond n (ltb 0 k) true ≡ true
there_need true k m = lt-ltb _ _ (m refl)
there_need false k m = refl

-- THE CONTENTS
abbrev company_named : PerFile (List ℕ) → Bool
company_named F = names (own_context F) (Rows Company) (own_company (first_of (rows_of_files F).delivery))

abbrev Faultless : PerFile (List ℕ) → File → Type 0
Faultless F f = first_fault (tests_of F f) ≡ Ok tt

record Contents (F : PerFile (List ℕ)) : Type 0 where
  files : (f : File) → Faultless F f
  looked_up : company_named F ≡ true

-- DELIVERY, COMPANY and the nine others
by_place : (P : File → Type 0) → P Delivery → P (Rows Company) → ((i : ℕ) → i < 9 → P (get_or (drop 2 in_order) i Delivery))
    → (i : ℕ) → i < 11 → P (file_no i)
by_place P d c m zero h = d
by_place P d c m (suc zero) h = c
by_place P d c m (suc (suc i)) h = m i (omega arith)

contents_fine : (F : PerFile (List ℕ)) → first_fault (contents_tests F) ≡ Ok tt → Contents F
unfolding contents_tests
contents_fine F e =
    let d = append_fine (tests_of F Delivery) _ e in
    let c = append_fine (tests_of F (Rows Company)) _ d.1 in
    let y = cons_fine _ _ c.1 in
    record {
      files =
          every_file_of (Faultless F) (by_place (Faultless F) d.0 c.0 (turns_fine (tests_of F) (drop 2 in_order) y.1));
      looked_up = holds _ _ _ y.0;
    }

fine_contents : (F : PerFile (List ℕ)) → Contents F → first_fault (contents_tests F) ≡ Ok tt
unfolding contents_tests
fine_contents F m =
    fine_append _ _ (m.files Delivery)
    (fine_append _ _ (m.files (Rows Company))
    (fine_cons _ _ (held _ _ m.looked_up) (fine_turns (tests_of F) (drop 2 in_order) m.files)))

module _ (F : PerFile (List ℕ)) (R : PerFile ℕ) where
  abbrev short_enough : File → Bool
  short_enough f = leb (length (of F f)) limit

  abbrev there_if_needed : File → Bool
  there_if_needed f = cond (needed (there F) f) (there F f) true

  abbrev room_enough : File → Bool
  room_enough f = leb (length (lines (of F f))) (room f (of R f))

  tests_meet : first_fault (tests F R) ≡ Ok tt → Meets F R
  unfolding tests length_tests absence_tests room_tests
  tests_meet e =
      let x = append_fine (length_tests F) _ e in
      let y = append_fine (absence_tests F) _ x.1 in
      let z = append_fine (room_tests F R) (contents_tests F) y.1 in
      let w = contents_fine F z.1 in
      record {
        short = λ f. leb-true _ _ (all_asked short_enough TooLong x.0 f);
        there = λ f. need_there _ (length (of F f)) (all_asked there_if_needed Absent y.0 f);
        roomy = λ f. leb-true _ _ (all_asked room_enough NoRoom z.0 f);
        every_file = λ f. file_meets (rows_of_files F) (header_in F) f (lines (of F f)) (w.files f);
        company = (says_company (rows_of_files F) _).0 w.looked_up;
      }

  meet_tests : Meets F R → first_fault (tests F R) ≡ Ok tt
  unfolding tests length_tests absence_tests room_tests
  meet_tests m =
      fine_append (length_tests F) _ (fine_asked short_enough TooLong in_order (λ f. le-leb _ _ (m.short f)))
      (fine_append (absence_tests F) _ (fine_asked there_if_needed Absent in_order (λ f. there_need _ (length (of F f)) (m.there f)))
      (fine_append (room_tests F R) (contents_tests F) (fine_asked room_enough NoRoom in_order (λ f. le-leb _ _ (m.roomy f)))
      (fine_contents F
      (record {
        files = λ f. meets_file (rows_of_files F) (header_in F) f (lines (of F f)) (m.every_file f);
        looked_up = (says_company (rows_of_files F) _).1 m.company;
      }))))

  -- THE LAW: no fault exactly when the delivery meets document 01
  pub fine_exactly : (load_verdict F R ≡ Ok tt) ↔ Meets F R
  fine_exactly = (λ e. tests_meet (sym (load_first F R) ∙ e), λ m. load_first F R ∙ meet_tests m)

  -- a fault exactly when it is the first
  pub fault_exactly : (r : Reason) (p : Option Place) → (load_verdict F R ≡ fault_at r p) ↔ FirstFault F R r p
  fault_exactly r p = (
    λ e. (first_fault_lem (tests F R) r p).0 (sym (load_first F R) ∙ e),
    λ f. load_first F R ∙ (first_fault_lem (tests F R) r p).1 f,
  )

  -- the answer, with what the text has written
  answers_written : load_answer F R ≡ answer (load_verdict F R) (days_written F) (services_written F)
  unfolding load_answer context_of
  answers_written = ap₂ (answer (load_verdict F R)) (days_written_lem F) (services_written_lem F)

  -- ACCEPTED EXACTLY WHEN IT MEETS DOCUMENT 01, with its days and its services
  pub accepted_exactly : (days services : ℕ) → (load_answer F R ≡ accepted_with days services) ↔ AcceptedAs F R days services
  accepted_exactly days services = (λ e. go (load_verdict F R) refl (sym answers_written ∙ e), λ m. answers_written ∙ back m)
    where
      go : (v : Verdict) → load_verdict F R ≡ v → answer v (days_written F) (services_written F) ≡ accepted_with days services → AcceptedAs F R days services
      go (Ok _) q e = record { meets = fine_exactly.0 q; its_days = sym (same_days e); its_services = sym (same_services e) }
      go (Err fault) q e = absurd (let z : ◌≡◌ {A = ℕ} 0 1 = cc in omega arith)

      back : AcceptedAs F R days services → answer (load_verdict F R) (days_written F) (services_written F) ≡ accepted_with days services
      back m = rw (fine_exactly.1 m.meets, m.its_days, m.its_services)

  -- OTHERWISE THE ANSWER NAMES THE FIRST FAULT
  pub refused_exactly : (r : Reason) (p : Option Place) → (load_answer F R ≡ fault_at r p) ↔ FirstFault F R r p
  refused_exactly r p = (λ e. go (load_verdict F R) refl (sym answers_written ∙ e), λ f. answers_written ∙ back f)
    where
      go : (v : Verdict) → load_verdict F R ≡ v → answer v (days_written F) (services_written F) ≡ fault_at r p → FirstFault F R r p
      go (Ok _) q e = absurd (let z : ◌≡◌ {A = ℕ} 0 1 = cc in omega arith)
      go (Err fault) q e = (fault_exactly r p).0 (q ∙ cc)

      back : FirstFault F R r p → answer (load_verdict F R) (days_written F) (services_written F) ≡ fault_at r p
      back f = rw ((fault_exactly r p).1 f)

  -- a delivery that meets document 01 has no fault; one that does not has a first fault, and only one
  pub meets_faultless : {r : Reason} {p : Option Place} → Meets F R → FirstFault F R r p → ⊥
  meets_faultless {r} {p} m f = true≢false (ap fine (sym (fine_exactly.1 m) ∙ (fault_exactly r p).1 f))

  pub else_fault : (Meets F R → ⊥) → (r : Reason) × (p : Option Place) × FirstFault F R r p
  else_fault m = go (load_verdict F R) refl
    where
      go : (v : Verdict) → load_verdict F R ≡ v → (r : Reason) × (p : Option Place) × FirstFault F R r p
      go (Ok _) q = absurd (m (fine_exactly.0 q))
      go (Err fault) q = (fault.reason, fault.place, (fault_exactly fault.reason fault.place).0 q)

  pub one_first_fault : {r r' : Reason} {p p' : Option Place} → FirstFault F R r p → FirstFault F R r' p' → (r ≡ r') × (p ≡ p')
  one_first_fault {r} {r'} {p} {p'} f g =
      let e : fault_at r p ≡ fault_at r' p' = sym ((fault_exactly r p).1 f) ∙ (fault_exactly r' p').1 g in
      (same_reason e, same_place e)
