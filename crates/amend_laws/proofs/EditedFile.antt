-- TIMETBLS, accepted, with one block in the place of its service's lines: the edited text's lines, its length, its verdict and its rows, told by
-- the rows of the text as it was. Assumes that the bytes are bytes, and nothing else.
use Rattle.std.specs.Prelude.{Ok}
use Prim.Native.Nat.{ℕ, suc, ◌+◌, ◌<◌}
use mathlib.Core.Path.{◌≡◌, refl, ap, sym, ◌∙◌}
use mathlib.Core.List.{List, [], ◌∷◌, ◌++◌, map}
use mathlib.Core.Bool.{true, false}
use native.Mathlib.Omega.{arith}
use lib.Dec.{eqb}
use lib.ListN.{length, get_or, take, drop, length-append}
use lib.Seq.{split_at, length-take-le}
use borrow.Author.Tests.{eqb-true, eq-eqb, ltb-true, lt-ltb}
use Rattle.iff.specs.Bytes.{at}
use Rattle.iff.specs.Lists.{Group, front, groups, members, flat, any, total, same, has}
use Rattle.iff.specs.Refusals.{verdict_at, scan, at_place}
use Rattle.iff.specs.Lines.{Line, lines, text, letter, is_hash}
use Rattle.iff.specs.Columns.{first_fields, picture, fits}
use Rattle.iff.specs.Tables.{Row, is_hash_row, keys_of, rising, padded}
use Rattle.iff.specs.declared.File.TheVariants.{Timetbls}
use Rattle.iff_rules.specs.Order.{known_in_block}
use Rattle.iff_rules.specs.Rows.{blocks_rows, blocks_of, as_block, first_row_of, rows_of_lines, Context}
use Rattle.iff_rules.specs.Load.{first_line_test, stray_verdict, block_verdict, service_of, timetbls_verdict, file_verdict}
use Rattle.iff_laws.specs.ScanLaws.{verdict_fine, first_one, cons_fine}
use Rattle.iff_laws.specs.TruthLaws.{says_any, any_map}
use Rattle.iff_laws.proofs.LineLaws.{line_passes}
use Rattle.iff_laws.specs.Places.{no_group}
use Rattle.iff_desk.specs.Parts.{is_one_block}
use Rattle.iff_desk.specs.Amend.{place_of, edited_length, edited_lines, amended_rows, edited}
use Rattle.text.proofs.PictureLaws.{and_left}
use Rattle.text.proofs.PackLaws.{Each as EachByte}
use Rattle.tables.proofs.Each.{Each}
use Rattle.block_ends.proofs.GroupLaws.{front_closed}
use Rattle.sound_laws.proofs.PassLaws.{scan_each, each_group, each_entry, groups_open, Opens}
use Rattle.sound_laws.proofs.PlainLaws.{InBytes, Laid}
use Rattle.sound_laws.proofs.TextLaws.{lines_bytes, some_lines}
use Rattle.sound_laws.proofs.TimetblsLaws.{no_stray, blocks_fine, block_bytes, block_laid, keys_of_blocks}
use Rattle.sound_laws.proofs.FileLaws.{FirstFine, file_fine, first_size_lem}
use Rattle.amend_laws.proofs.GroupLists.{replaced, flat_replaced, each_flat, each_take, each_drop, front_flat, groups_flat, replaced_open}
use Rattle.amend_laws.proofs.NewBlock.{OneBlock, one_block, service_is}
use Rattle.amend_laws.proofs.EditedText.{Ended, Whole, lines_whole, lines_between, length_between, append_bytes, text_bytes}
use Rattle.amend_laws.proofs.EditedVerdicts.{past_fine, scan_replaced}
use Rattle.amend_laws.proofs.EditedBlocks.{take_map, block_ends, blocks_count, blocks_sizes, keys_are, before_are, behind_are, place_is, amended_are, place, place_inside, place_names, services_kept}

-- WHAT AN AMENDMENT TELLS BY A TABLE'S ROWS of the text that it stands for: the tests 1 and 2, the verdict, the rows and the services
pub record Told (c : Context) (header : List ℕ) (rs : List Row) (s : ℕ) (b u : List ℕ) : Type 0 where
  pub there : 0 < length u
  pub long : edited_length c (place_of s rs) rs b ≡ length u
  pub many : edited_lines (place_of s rs) rs b ≡ length (lines u)
  pub judged : block_verdict c (take (place_of s rs) (keys_of Timetbls rs)) (suc (place_of s rs)) (as_block b) ≡ file_verdict c header Timetbls (lines u)
  pub rows : amended_rows c.form (place_of s rs) rs b ≡ rows_of_lines c.form Timetbls (lines u)
  pub services : keys_of Timetbls (rows_of_lines c.form Timetbls (lines u)) ≡ keys_of Timetbls rs

-- a key of some entries is the key of one of them
has_any : {A : Type 0} (d : A) (key : A → ℕ) (s : ℕ) (xs : List A) → has s (map key xs) ≡ true → any (λ x. eqb (key x) s) xs ≡ true
has_any d key s xs e =
    let z = (says_any d (λ x. eqb s (key x)) xs).0 (sym (any_map (eqb s) key xs) ∙ e) in
    (says_any d (λ x. eqb (key x) s) xs).1
    (record { which = z.which; inside = z.inside; has_it = eq-eqb _ _ (sym (eqb-true s (key (get_or xs z.which d)) z.has_it)) })

module _ (c : Context) (header : List ℕ) (t : List ℕ) (l : Line) (ls : List Line) (is : lines t ≡ l ∷ ls) (bytes : Each InBytes (l ∷ ls))
    (e : file_verdict c header Timetbls (l ∷ ls) ≡ Ok tt) where
  -- THE TEXT AS IT WAS
  abbrev gs : List (Group Line)
  gs = blocks_of ls

  first_fine : FirstFine header l
  first_fine = (file_fine c header Timetbls (λ ks q. q) (l ∷ ls) e).0

  later_fine : timetbls_verdict c ls ≡ Ok tt
  later_fine = (file_fine c header Timetbls (λ ks q. q) (l ∷ ls) e).1

  first_passes : verdict_at (at_place Timetbls 0 1) (first_line_test (same l.body header) l) ≡ Ok tt
  unfolding file_verdict
  first_passes = (cons_fine _ _ e).0

  not_hash : is_hash l ≡ false
  unfolding first_line_test
  not_hash =
      let s = (line_passes _).0 (verdict_fine (at_place Timetbls 0 1) (first_line_test (same l.body header) l) first_passes) in
      let z : letter l ≡ at = eqb-true _ _ s.is_here in
      rw z

  opens : Each (Opens is_hash) gs
  opens = groups_open is_hash ls

  front_is : front is_hash (l ∷ ls) ≡ l ∷ []
  front_is = front_closed is_hash l ls not_hash ∙ ap (λ (ks : List Line). l ∷ ks) (no_stray c ls bytes.1 later_fine)

  groups_are : groups is_hash (l ∷ ls) ≡ gs
  unfolding groups
  groups_are = rw not_hash

  laid : Each (λ g. Each (Laid c.form Timetbls) (members g)) gs
  laid =
      scan_each _ _ _ (λ g. Each (Laid c.form Timetbls) (members g)) (λ seen o g u q. block_laid c seen o g u q)
      [] 1 gs (block_bytes c ls bytes.1 later_fine) (blocks_fine c ls bytes.1 later_fine)

  ended : Each Ended (l ∷ ls)
  ended = (
    and_left l.ended (fits l.body (picture first_fields)) first_fine.lays,
    each_ended ls (each_entry is_hash (Laid c.form Timetbls) ls (rw (no_stray c ls bytes.1 later_fine) tt) laid),
  )
    where
      each_ended : (ks : List Line) → Each (Laid c.form Timetbls) ks → Each Ended ks
      each_ended [] u = tt
      each_ended (k ∷ ks) u = (and_left k.ended _ u.0, each_ended ks u.1)

  whole : Each Whole (l ∷ ls)
  whole = lines_whole (l ∷ ls) t is ended

  of_groups_lem : (P : Line → Type 0) → Each P ls → Each (λ g. Each P (members g)) gs
  of_groups_lem P u = each_group is_hash P ls u

  -- its first line's row
  abbrev r : Row
  r = first_row_of Timetbls (rising (keys_of Timetbls (blocks_rows c.form gs))) l

  plain : is_hash_row r ≡ false
  unfolding first_row_of padded
  plain = refl

  -- WITH ONE BLOCK in the place of its service's lines
  module _ (s : ℕ) (b : List ℕ) (o : OneBlock s b) (ends : Each Ended (lines b)) (held : any (λ g. eqb (service_of c.form g) s) gs ≡ true) where
    names_it : service_of c.form (as_block b) ≡ s
    names_it = service_is c.form (as_block b) o.opens.0 ∙ o.number_is

    abbrev k : ℕ
    k = place c.form s gs held

    abbrev xs : List Line
    xs = l ∷ flat (take k gs)

    abbrev ys : List Line
    ys = flat (drop (suc k) gs)

    abbrev hs : List (Group Line)
    hs = replaced k (as_block b) gs

    edited_is : edited c.form t s b ≡ text xs ++ (b ++ text ys)
    unfolding edited
    edited_is = rw (is, front_is, groups_are)

    xs_each : (P : Line → Type 0) → Each P (l ∷ ls) → Each P xs
    xs_each P u = (u.0, each_flat P (take k gs) (each_take (λ g. Each P (members g)) k gs (of_groups_lem P u.1)))

    ys_each : (P : Line → Type 0) → Each P (l ∷ ls) → Each P ys
    ys_each P u = each_flat P (drop (suc k) gs) (each_drop (λ g. Each P (members g)) (suc k) gs (of_groups_lem P u.1))

    edited_lines_lem : lines (edited c.form t s b) ≡ l ∷ flat hs
    edited_lines_lem =
        ap lines edited_is
        ∙ lines_between xs ys b (xs_each Whole whole) ends (ys_each Whole whole)
        ∙ ap (λ (ks : List Line). l ∷ (flat (take k gs) ++ (ks ++ ys))) o.is
        ∙ ap (λ (ks : List Line). l ∷ ks) (flat_replaced k (as_block b) gs)

    edited_bytes_lem : EachByte 256 b → EachByte 256 (edited c.form t s b)
    edited_bytes_lem p =
        rw edited_is
        (append_bytes (text xs) (b ++ text ys) (text_bytes xs (xs_each InBytes bytes))
        (append_bytes b (text ys) p (text_bytes ys (ys_each InBytes bytes))))

    -- its verdict is the block's
    new_opens : Each (Opens is_hash) hs
    unfolding any
    new_opens = replaced_open is_hash [] k (as_block b) gs refl o.opens opens

    blocks_verdict_lem : scan (λ seen n g. block_verdict c seen n g) (λ seen g. seen ++ (service_of c.form g ∷ [])) [] 1 hs
        ≡ block_verdict c (map (service_of c.form) (take k gs)) (suc k) (as_block b)
    blocks_verdict_lem =
        let old : Group Line = get_or gs k no_group in
        let h : k < length gs = place_inside c.form s gs held in
        let m : 1 + length (take k gs) ≡ suc k = omega (arith, length-take-le k gs (omega arith)) in
        scan_replaced (λ seen n g. block_verdict c seen n g) (service_of c.form) old (as_block b)
        (names_it ∙ sym (place_names c.form s gs held)) [] 1 (take k gs) (drop (suc k) gs)
        (ap (scan (λ seen n g. block_verdict c seen n g) (λ seen g. seen ++ (service_of c.form g ∷ [])) [] 1) (sym (split_at gs k no_group h))
        ∙ blocks_fine c ls bytes.1 later_fine)
        ∙ ap (λ (n : ℕ). block_verdict c (map (service_of c.form) (take k gs)) n (as_block b)) m

    new_verdict_lem : timetbls_verdict c (flat hs) ≡ block_verdict c (map (service_of c.form) (take k gs)) (suc k) (as_block b)
    unfolding timetbls_verdict
    new_verdict_lem =
        past_fine (stray_verdict Timetbls known_in_block (front is_hash (flat hs))) _ (ap (stray_verdict Timetbls known_in_block) (front_flat is_hash hs new_opens))
        ∙ first_one _
        ∙ ap (scan (λ seen n g. block_verdict c seen n g) (λ seen g. seen ++ (service_of c.form g ∷ [])) [] 1) (groups_flat is_hash hs new_opens)
        ∙ blocks_verdict_lem

    edited_verdict : file_verdict c header Timetbls (lines (edited c.form t s b))
        ≡ block_verdict c (map (service_of c.form) (take k gs)) (suc k) (as_block b)
    unfolding file_verdict
    edited_verdict = ap (file_verdict c header Timetbls) edited_lines_lem ∙ past_fine _ _ first_passes ∙ first_one _ ∙ new_verdict_lem

    -- its rows
    services_same : keys_of Timetbls (blocks_rows c.form hs) ≡ keys_of Timetbls (blocks_rows c.form gs)
    services_same =
        keys_of_blocks c.form hs new_opens ∙ services_kept c.form s gs held (as_block b) names_it ∙ sym (keys_of_blocks c.form gs opens)

    edited_rows : rows_of_lines c.form Timetbls (lines (edited c.form t s b)) ≡ r ∷ blocks_rows c.form hs
    unfolding rows_of_lines
    edited_rows =
        ap (rows_of_lines c.form Timetbls) edited_lines_lem
        ∙ ap (λ (ps : List (Group Line)). first_row_of Timetbls (rising (keys_of Timetbls (blocks_rows c.form ps))) l ∷ blocks_rows c.form ps)
        (groups_flat is_hash hs new_opens)
        ∙ ap (λ (ks : List ℕ). first_row_of Timetbls (rising ks) l ∷ blocks_rows c.form hs) services_same

    -- told by the rows as they were
    abbrev rs : List Row
    rs = r ∷ blocks_rows c.form gs

    placed : place_of s rs ≡ k
    placed = place_is c.form r gs plain opens s

    told_length : edited_length c k rs b ≡ length (edited c.form t s b)
    unfolding total
    told_length =
        let p = blocks_sizes c.form (take k gs) (each_take (λ g. Each (Laid c.form Timetbls) (members g)) k gs laid) in
        let q = blocks_sizes c.form (drop (suc k) gs) (each_drop (λ g. Each (Laid c.form Timetbls) (members g)) (suc k) gs laid) in
        rw (before_are c.form r gs plain opens k, behind_are c.form r gs plain opens k, edited_is)
        (omega (arith, p, q, first_size_lem header Timetbls l bytes.0 first_fine, length_between xs ys b (xs_each Whole whole) ends (ys_each Whole whole)))

    told_lines : edited_lines k rs b ≡ length (lines (edited c.form t s b))
    told_lines =
        let p = blocks_count c.form (take k gs) in
        let q = blocks_count c.form (drop (suc k) gs) in
        let m : length (lines (edited c.form t s b)) ≡ length (xs ++ (lines b ++ ys)) =
        ap length (ap lines edited_is ∙ lines_between xs ys b (xs_each Whole whole) ends (ys_each Whole whole)) in
        rw (before_are c.form r gs plain opens k, behind_are c.form r gs plain opens k)
        (omega (arith, p, q, m, length-append xs (lines b ++ ys), length-append (lines b) ys))

    told_by_rows : Told c header rs s b (edited c.form t s b)
    told_by_rows =
        record {
          there = omega (arith, sym told_length);
          long = rw placed told_length;
          many = rw placed told_lines;
          judged = rw (placed, keys_are c.form r gs plain opens, take_map (service_of c.form) k gs) (sym edited_verdict);
          rows = rw (placed, amended_are c.form r gs plain opens k b) (sym edited_rows);
          services =
              ap (keys_of Timetbls) edited_rows ∙ keys_are c.form r hs plain new_opens
              ∙ services_kept c.form s gs held (as_block b) names_it ∙ sym (keys_are c.form r gs plain opens);
        }

-- THE LAW of the file: an accepted TIMETBLS of bytes, one block, and a service that is held
module _ (c : Context) (header t : List ℕ) (bytes : EachByte 256 t) (some : 0 < length t) (e : file_verdict c header Timetbls (lines t) ≡ Ok tt) (s : ℕ)
    (b : List ℕ) (one : is_one_block s (lines b) ≡ true) (held : has s (keys_of Timetbls (rows_of_lines c.form Timetbls (lines t))) ≡ true) where
  abbrev Edited : List Line → Type 0
  Edited ks = Told c header (rows_of_lines c.form Timetbls ks) s b (edited c.form t s b) × (EachByte 256 b → EachByte 256 (edited c.form t s b))

  by_lines : (ks : List Line) → lines t ≡ ks → 0 < length ks → Each InBytes ks → file_verdict c header Timetbls ks ≡ Ok tt
      → has s (keys_of Timetbls (rows_of_lines c.form Timetbls ks)) ≡ true → Edited ks
  unfolding rows_of_lines
  by_lines [] q n u e h = absurd (omega arith)
  by_lines (l ∷ ls) q n u e h =
      let k = keys_are c.form (r c header t l ls q u e) (blocks_of ls) (plain c header t l ls q u e) (opens c header t l ls q u e) in
      let g = has_any no_group (service_of c.form) s (blocks_of ls) (ap (has s) (sym k) ∙ h) in
      let o = one_block s b one in
      let v = block_ends s (lines b) one in
      (told_by_rows c header t l ls q u e s b o v g, edited_bytes_lem c header t l ls q u e s b o v g)

  edited_file : Edited (lines t)
  edited_file = by_lines (lines t) refl (ltb-true 0 _ (some_lines t ∙ lt-ltb 0 _ some)) (lines_bytes t bytes) e held

  pub told : Told c header (rows_of_lines c.form Timetbls (lines t)) s b (edited c.form t s b)
  told = edited_file.0

  pub still_bytes : EachByte 256 b → EachByte 256 (edited c.form t s b)
  still_bytes = edited_file.1
