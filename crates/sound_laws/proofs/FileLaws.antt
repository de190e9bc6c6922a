-- A FILE without fault leaves rows that are sound: the first line's, and those behind it, by the kind of file. Assumes nothing.
use Rattle.std.specs.Prelude.{Ok, Option}
use Prim.Native.Nat.{ℕ, suc, ◌+◌, ◌-◌, ◌≤◌, ◌<◌}
use mathlib.Core.Path.{◌≡◌, refl, ap, sym, ◌∙◌}
use mathlib.Core.List.{List, [], ◌∷◌, ◌++◌, append_assoc}
use mathlib.Core.Bool.{Bool, true, false≢true}
use native.Mathlib.Omega.{arith}
use lib.Dec.{eqb}
use lib.ListN.{length, get_or, take, drop, replicate}
use borrow.Author.Tests.{eq-eqb, le-leb}
use Rattle.iff.specs.Bytes.{at}
use Rattle.iff.specs.Lists.{all, all2, same, total, kept}
use Rattle.iff.specs.Files.{limit}
use Rattle.iff.specs.Refusals.{verdict_at, at_place}
use Rattle.iff.specs.Lines.{Line, size, no_line}
use Rattle.iff.specs.Columns.{first_fields, picture, column, fits, laid}
use Rattle.iff.specs.Values.{readable, words, field_words, words_right}
use Rattle.iff.specs.Words.{rises}
use Rattle.iff.specs.Tables.{Row, tag, row_width, padded, all_zero, keys_of, rising}
use Rattle.iff.specs.declared.GroupFile.{GroupFile}
use Rattle.iff.specs.declared.GroupFile.TheVariants.{Timezone, Footnote, Changes, Xfootnote, Xchanges}
use Rattle.iff.specs.declared.File.{File}
use Rattle.iff.specs.declared.File.TheVariants.{Delivery, Rows, Groups, Timetbls}
use Rattle.iff.specs.declared.Form.{Form}
use Rattle.iff_rules.specs.Order.{line_test, stray_tests}
use Rattle.iff_rules.specs.Rows.{first_row_of, later_rows, rows_of_lines, flag, line_one, first_of, Context}
use Rattle.iff_rules.specs.Meaning.{first_meaning}
use Rattle.iff_rules.specs.Load.{first_line_test, second, delivery_verdict, later_verdict, file_verdict}
use Rattle.iff_laws.specs.ScanLaws.{cons_fine, verdict_fine}
use Rattle.iff_laws.specs.TruthLaws.{both, same_equal, same_self}
use Rattle.iff_laws.proofs.LineLaws.{line_passes}
use Rattle.iff_desk.specs.Sound.{passes, distinct, sound_first, sound_later, row_size, first_size, sound_rows}
use Rattle.text.proofs.PictureLaws.{and_left, and_right, same_length}
use Rattle.tables.proofs.Each.{Each}
use Rattle.sound_laws.proofs.WordLaws.{line_words_lem}
use Rattle.sound_laws.proofs.PassLaws.{all_hold}
use Rattle.sound_laws.proofs.PlainLaws.{InBytes, plain_sound, plain_distinct, plain_sizes}
use Rattle.sound_laws.proofs.GroupLaws.{groups_sound, groups_distinct, groups_sizes}
use Rattle.sound_laws.proofs.TimetblsLaws.{timetbls_sound_lem, timetbls_distinct, timetbls_sizes}
use Rattle.iff.specs.declared.Place.{Place}

-- A FIRST LINE that passed, in a delivery whose first line is `header`
pub record FirstFine (header : List ℕ) (l : Line) : Type 0 where
  pub lays : laid l first_fields ≡ true
  pub as_delivery : l.body ≡ header
  pub reads : readable l.body first_fields ≡ true
  pub means : first_meaning (first_row_of Delivery true l) ≡ true

first_fine : (header : List ℕ) (b : Bool) (p : Option Place) (l : Line) → (b ≡ true → l.body ≡ header)
    → verdict_at p (first_line_test b l) ≡ Ok tt → FirstFine header l
unfolding first_line_test
first_fine header b p l same e =
    let s = (line_passes _).0 (verdict_fine p (first_line_test b l) e) in
    let v = both (readable l.body first_fields) (first_meaning (first_row_of Delivery true l)) s.is_valued in
    record { lays = s.is_laid_out; as_delivery = same s.is_as_first; reads = v.0; means = v.1 }

-- what its row keeps of the line
abbrev pub first_words : List ℕ → List ℕ
first_words body = at ∷ words 0 body first_fields

-- the derived words behind them
group_ends : (f : GroupFile) (b : Bool) (l : Line)
    → (same (take (length (line_one (Groups f))) (drop 6 (first_row_of (Groups f) b l))) (line_one (Groups f)) ≡ true)
    × (all_zero (drop (6 + length (line_one (Groups f))) (first_row_of (Groups f) b l)) ≡ true)
unfolding first_row_of padded words field_words all all2
group_ends Timezone b l = (refl, refl)
group_ends Footnote b l = (refl, refl)
group_ends Changes b l = (refl, refl)
group_ends Xfootnote b l = (refl, refl)
group_ends Xchanges b l = (refl, refl)

first_ends : (f : File) (b : Bool) (l : Line)
    → (same (take (length (line_one f)) (drop 6 (first_row_of f b l))) (line_one f) ≡ true)
    × (all_zero (drop (6 + length (line_one f)) (first_row_of f b l)) ≡ true)
unfolding first_row_of padded words field_words all all2
first_ends Delivery b l = (refl, refl)
first_ends (Rows f) b l = (refl, refl)
first_ends (Groups f) b l = group_ends f b l
first_ends Timetbls b l = (refl, refl)

module _ (header : List ℕ) (f : File) (l : Line) (bytes : InBytes l) (p : FirstFine header l) where
  first_right : (b : Bool) → words_right (drop 1 (first_row_of f b l)) first_fields ≡ true
  unfolding first_row_of padded
  first_right b =
      let tail : List ℕ = flag b ∷ line_one f in
      let zeros : List ℕ = replicate (row_width f - suc (length (words 0 l.body first_fields ++ tail))) 0 in
      ap (λ (ws : List ℕ). words_right ws first_fields) (append_assoc (words 0 l.body first_fields) tail zeros)
      ∙ line_words_lem l.body bytes first_fields refl (and_right l.ended _ p.lays) p.reads 0 (tail ++ zeros)

  first_means : (b : Bool) → first_meaning (first_row_of f b l) ≡ true
  unfolding first_meaning first_row_of padded words field_words
  first_means b = p.means

  first_same : (b : Bool) (delivery : Row) → take 5 delivery ≡ first_words header → same (take 5 (first_row_of f b l)) (take 5 delivery) ≡ true
  unfolding first_row_of padded words field_words
  first_same b delivery e = rw (e, ← p.as_delivery) (same_self (first_words l.body))

  first_tag : (b : Bool) → eqb (tag (first_row_of f b l)) at ≡ true
  unfolding first_row_of padded
  first_tag b = refl

  first_rises : (b : Bool) → rises (first_row_of f b l) ≡ flag b
  unfolding first_row_of padded words field_words
  first_rises b = refl

  first_sound : (delivery : Row) → take 5 delivery ≡ first_words header → (later : List Row)
      → sound_first f delivery (first_row_of f (rising (keys_of f later)) l) later ≡ true
  unfolding sound_first
  first_sound delivery e later =
      let b = rising (keys_of f later) in
      let z = first_ends f b l in
      all_hold _ (
        first_tag b,
        (
          first_right b,
          (
            first_means b,
            (
              first_same b delivery e,
              (
                eq-eqb _ _ (first_rises b),
                (
                  z.0,
                  (z.1, tt),
                ),
              ),
            ),
          ),
        ),
      )

  pub first_size_lem : first_size ≡ size l
  first_size_lem =
      let n : length l.body ≡ length (picture first_fields) = same_length column l.body (picture first_fields) (and_right l.ended _ p.lays) in
      rw (n, and_left l.ended (fits l.body (picture first_fields)) p.lays)

-- THE LINES BEHIND IT: a file's verdict on them; DELIVERY has none
abbrev pub LaterFine : Context → File → List Line → Type 0
LaterFine c Delivery ls = ls ≡ []
LaterFine c (Rows f) ls = later_verdict c (Rows f) ls ≡ Ok tt
LaterFine c (Groups f) ls = later_verdict c (Groups f) ls ≡ Ok tt
LaterFine c Timetbls ls = later_verdict c Timetbls ls ≡ Ok tt

pub record LaterSound (c : Context) (f : File) (ls : List Line) : Type 0 where
  pub sound_rows_lem : sound_later c f (later_rows c.form f ls) ≡ true
  pub apart : distinct (keys_of f (later_rows c.form f ls)) ≡ true
  pub sizes : total (row_size c.form f) (later_rows c.form f ls) ≡ total size ls

pub later_sound : (c : Context) (f : File) (ls : List Line) → Each InBytes ls → LaterFine c f ls → LaterSound c f ls
unfolding distinct passes kept total
later_sound c Delivery ls u e = record { sound_rows_lem = refl; apart = refl; sizes = ap (total size) (sym e) }
later_sound c (Rows f) ls u e =
    record { sound_rows_lem = plain_sound c f ls u e; apart = plain_distinct c f ls u e; sizes = plain_sizes c f ls u e }
later_sound c (Groups f) ls u e =
    record { sound_rows_lem = groups_sound c f ls u e; apart = groups_distinct c f ls u e; sizes = groups_sizes c f ls u e }
later_sound c Timetbls ls u e =
    record { sound_rows_lem = timetbls_sound_lem c ls u e; apart = timetbls_distinct c ls u e; sizes = timetbls_sizes c ls u e }

-- THE FILE; an absent one has no lines and no rows
abbrev pub FileFine : Context → List ℕ → File → List Line → Type 0
FileFine c header f [] = Unit {0}
FileFine c header f (l ∷ ls) = FirstFine header l × LaterFine c f ls

pub rows_sound : (c : Context) (header : List ℕ) (delivery : Row) → take 5 delivery ≡ first_words header → (f : File) (ls : List Line)
    → Each InBytes ls → FileFine c header f ls → total size ls ≤ limit → sound_rows c delivery f (rows_of_lines c.form f ls) ≡ true
unfolding sound_rows rows_of_lines total
rows_sound c header delivery d f [] u p h = refl
rows_sound c header delivery d f (l ∷ ls) u p h =
    let r = later_sound c f ls u.1 p.1 in
    let n : first_size + total (row_size c.form f) (later_rows c.form f ls) ≤ limit
    = omega (arith, h, r.sizes, first_size_lem header f l u.0 p.0) in
    all_hold _ (
      first_sound header f l u.0 p.0 delivery d (later_rows c.form f ls),
      (
        r.apart,
        (
          r.sound_rows_lem,
          (le-leb _ _ n, tt),
        ),
      ),
    )

-- what the verdicts say
no_second : (ls : List Line) → second ls ≡ Ok tt → ls ≡ []
no_second [] e = refl
no_second (l ∷ ls) e = absurd (false≢true ((line_passes (stray_tests true)).0 (verdict_fine (at_place Delivery 0 2) (line_test (stray_tests true)) e)).is_here)

pub delivery_fine : (c : Context) (ls : List Line) → delivery_verdict ls ≡ Ok tt → FileFine c (get_or ls 0 no_line).body Delivery ls
unfolding delivery_verdict
delivery_fine c [] e = tt
delivery_fine c (l ∷ ls) e =
    let z = cons_fine _ _ e in
    (first_fine l.body true _ l (λ q. refl) z.0, no_second ls (cons_fine _ _ z.1).0)

module _ (c : Context) (header : List ℕ) (f : File) (later : (ls : List Line) → later_verdict c f ls ≡ Ok tt → LaterFine c f ls) where
  pub file_fine : (ls : List Line) → file_verdict c header f ls ≡ Ok tt → FileFine c header f ls
  unfolding file_verdict
  file_fine [] e = tt
  file_fine (l ∷ ls) e =
      let z = cons_fine _ _ e in
      (first_fine header _ _ l (same_equal l.body header) z.0, later ls (cons_fine _ _ z.1).0)

-- DELIVERY's row has its first line's words
pub delivery_words_lem : (form : Form) (ls : List Line) → 0 < length ls
    → take 5 (first_of (rows_of_lines form Delivery ls)) ≡ first_words (get_or ls 0 no_line).body
unfolding rows_of_lines first_row_of padded words field_words
delivery_words_lem form [] h = absurd (omega arith)
delivery_words_lem form (l ∷ ls) h = refl

-- and depends on no form
pub delivery_formless : (form other : Form) (ls : List Line) → rows_of_lines form Delivery ls ≡ rows_of_lines other Delivery ls
unfolding rows_of_lines
delivery_formless form other [] = refl
delivery_formless form other (l ∷ ls) = refl
