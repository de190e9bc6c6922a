-- Refusal 1, and soundness of file lengths, which no case of a few lines shows: laws about lengths. "A load tests 1 .. over the files in order."
use Prim.{Unit, tt}
use Rattle.std.specs.Prelude.{ℕ, ◌+◌, ◌<◌, ◌≡◌, refl, List, [], ◌∷◌, ◌++◌, map, Bool, true, false, length, replicate, leb}
use Rattle.std.proofs.Common.{ap, ◌∙◌}
use Rattle.std.proofs.Math.Bool.{and-false}
use Rattle.std.proofs.lemmas.Bool.{lt-leb}
use Rattle.iff.specs.Lists.{all, all_of, total}
use Rattle.iff.specs.Refusals.{or_else, first_fault, answer, Verdict, at_place, fault_at}
use Rattle.iff.specs.Files.{PerFile, of, in_order, limit}
use Rattle.iff.specs.declared.File.{File}
use Rattle.iff.specs.declared.RowFile.TheVariants.{Company, Country, Trnsmode, Stations}
use Rattle.iff.specs.declared.GroupFile.TheVariants.{Timezone, Footnote, Changes, Xfootnote, Xchanges}
use Rattle.iff.specs.declared.File.TheVariants.{Delivery, Rows, Groups, Timetbls}
use Rattle.iff.specs.declared.Reason.TheVariants.{TooLong}
use Rattle.iff.specs.Lines.{lines}
use Rattle.iff.specs.Tables.{Row}
use Rattle.iff_rules.specs.Rows.{rows_of_files, Context, context_of, first_of}
use Rattle.iff_rules.specs.References.{names}
use Rattle.iff_rules.specs.Load.{length_verdict, present_in, absence_verdict, room_verdict, over_files, contents_verdict, load_verdict, load_answer}
use Rattle.iff_rules.specs.Load.{load_table}
use Rattle.iff_desk.specs.Sound.{rows_of_tables, row_size, first_size, sound_rows, sound_table, sound}
use Rattle.iff_desk.specs.Parts.{is_one_block}
use Rattle.iff_desk.specs.Amend.{place_of, edited_length, amend_verdict}

-- "A file is at most 268,435,455 bytes."
abbrev pub within : PerFile (List ℕ) → File → Bool
within F f = leb (length (of F f)) limit

-- some files are
abbrev pub Within : PerFile (List ℕ) → List File → Type 0
Within F [] = Unit {0}
Within F (f ∷ fs) = (within F f ≡ true) × Within F fs

lengths : PerFile (List ℕ) → List File → Verdict
lengths F fs = first_fault (map (λ f. length_verdict f (length (of F f))) fs)

first_too_long : (F : PerFile (List ℕ)) (earlier : List File) (f : File) (later : List File)
    → Within F earlier → within F f ≡ false → lengths F (earlier ++ (f ∷ later)) ≡ fault_at TooLong (at_place f 0 0)
unfolding lengths first_fault
first_too_long F [] f later w long = rw long
first_too_long F (g ∷ gs) f later w long = rw w.0 (first_too_long F gs f later w.1 long)

-- the first file that is too long is refused 1 at 0, 0, whatever the rest holds
pub too_long : (F : PerFile (List ℕ)) (R : PerFile ℕ) (earlier : List File) (f : File) (later : List File)
    → in_order ≡ earlier ++ (f ∷ later) → Within F earlier → within F f ≡ false → load_verdict F R ≡ fault_at TooLong (at_place f 0 0)
unfolding lengths first_fault load_verdict
too_long F R earlier f later e w long =
    ap
    (λ (v : Verdict). or_else v
    (first_fault
    (over_files (absence_verdict (present_in F))
    ∷ over_files (λ f. room_verdict f (length (lines (of F f))) (of R f))
    ∷ contents_verdict (context_of (rows_of_files F)) (rows_of_files F) F
    ∷ [])))
    (ap (lengths F) e ∙ first_too_long F earlier f later w long)

pub too_long_answer : (F : PerFile (List ℕ)) (R : PerFile ℕ) (earlier : List File) (f : File) (later : List File)
    → in_order ≡ earlier ++ (f ∷ later) → Within F earlier → within F f ≡ false → load_answer F R ≡ fault_at TooLong (at_place f 0 0)
unfolding load_answer
too_long_answer F R earlier f later e w long =
    ap
    (λ (v : Verdict). answer v (context_of (rows_of_files F)).form.days (length ((context_of (rows_of_files F)).keys Timetbls)))
    (too_long F R earlier f later e w long)

-- "A refused load zeroes every table"
pub too_long_table : (F : PerFile (List ℕ)) (R : PerFile ℕ) (earlier : List File) (f : File) (later : List File)
    → in_order ≡ earlier ++ (f ∷ later) → Within F earlier → within F f ≡ false → (g : File) → load_table g F R ≡ replicate (of R g) 0
unfolding load_table
too_long_table F R earlier f later e w long g = rw (too_long F R earlier f later e w long)

-- the same of the numbers: longer than the limit
pub longer : (F : PerFile (List ℕ)) (f : File) → limit < length (of F f) → within F f ≡ false
longer F f h = lt-leb (length (of F f)) limit h

-- DELIVERY
pub delivery_too_long : (F : PerFile (List ℕ)) (R : PerFile ℕ) → limit < length F.delivery → load_verdict F R ≡ fault_at TooLong (at_place Delivery 0 0)
delivery_too_long F R h =
    too_long F R [] Delivery
    (Rows Company ∷ Rows Country ∷ Rows Trnsmode ∷ Groups Timezone ∷ Rows Stations ∷ Groups Footnote ∷ Timetbls ∷ Groups Changes
    ∷ Groups Xfootnote ∷ Groups Xchanges ∷ [])
    refl tt (longer F Delivery h)

-- TIMETBLS, the seven before it within the bound
abbrev before_timetbls : List File
before_timetbls =
    Delivery ∷ Rows Company ∷ Rows Country ∷ Rows Trnsmode ∷ Groups Timezone ∷ Rows Stations ∷ Groups Footnote ∷ []

pub timetbls_too_long : (F : PerFile (List ℕ)) (R : PerFile ℕ)
    → Within F before_timetbls
    → limit < length F.timetbls → load_verdict F R ≡ fault_at TooLong (at_place Timetbls 0 0)
timetbls_too_long F R w h =
    too_long F R
    before_timetbls
    Timetbls
    (Groups Changes ∷ Groups Xfootnote ∷ Groups Xchanges ∷ [])
    refl w (longer F Timetbls h)

-- AN AMENDMENT: "then as a load of the edited text: 1 and 2 over TIMETBLS", after 16, 11 and 12
pub amendment_too_long : (T : PerFile (List ℕ)) (s : ℕ) (b : List ℕ)
    → sound T ≡ true → is_one_block s (lines b) ≡ true → names (context_of (rows_of_tables T)) Timetbls s ≡ true
    → limit < edited_length (context_of (rows_of_tables T)) (place_of s (rows_of_tables T).timetbls) (rows_of_tables T).timetbls b
    → amend_verdict T s b ≡ fault_at TooLong (at_place Timetbls 0 0)
unfolding amend_verdict first_fault
amendment_too_long T s b ok one there h =
    let R = rows_of_tables T in
    rw (ok, one, there, lt-leb (edited_length (context_of R) (place_of s R.timetbls) R.timetbls b) limit h)

-- SOUNDNESS: "rows meet every rule here on kept fields and file length". Rows that stand for a longer file are not sound, whatever else they hold
one_not : (p : File → Bool) (earlier : List File) (f : File) (later : List File) → p f ≡ false → all p (earlier ++ (f ∷ later)) ≡ false
unfolding all
one_not p [] f later e = rw e
one_not p (g ∷ gs) f later e = rw (one_not p gs f later e, and-false)

abbrev file_size : Context → File → List Row → ℕ
file_size c f rs = first_size + total (row_size c.form f) rs

rows_too_long : (c : Context) (delivery : Row) (f : File) (r : Row) (rs : List Row) → limit < file_size c f rs
    → sound_rows c delivery f (r ∷ rs) ≡ false
unfolding sound_rows all_of
rows_too_long c delivery f r rs h = rw (lt-leb (file_size c f rs) limit h, and-false, and-false, and-false)

table_too_long : (T : PerFile (List ℕ)) (f : File) (r : Row) (rs : List Row) → of (rows_of_tables T) f ≡ (r ∷ rs)
    → limit < file_size (context_of (rows_of_tables T)) f rs → sound_table (context_of (rows_of_tables T)) (rows_of_tables T) f (of T f) ≡ false
unfolding sound_table all_of
table_too_long T f r rs e h =
    rw (
      ap (sound_rows (context_of (rows_of_tables T)) (first_of (rows_of_tables T).delivery) f) e
          ∙ rows_too_long (context_of (rows_of_tables T)) (first_of (rows_of_tables T).delivery) f r rs h,
      and-false,
    )

pub tables_too_long : (T : PerFile (List ℕ)) (earlier : List File) (f : File) (later : List File) → in_order ≡ earlier ++ (f ∷ later)
    → (r : Row) (rs : List Row) → of (rows_of_tables T) f ≡ (r ∷ rs) → limit < file_size (context_of (rows_of_tables T)) f rs → sound T ≡ false
unfolding sound
tables_too_long T earlier f later i r rs e h =
    let R = rows_of_tables T in
    let p : File → Bool = λ g. sound_table (context_of R) R g (of T g) in
    let q : all p in_order ≡ false = ap (all p) i ∙ one_not p earlier f later (table_too_long T f r rs e h) in
    rw q

-- TIMETBLS
pub timetbls_not_sound : (T : PerFile (List ℕ)) (r : Row) (rs : List Row) → (rows_of_tables T).timetbls ≡ (r ∷ rs)
    → limit < file_size (context_of (rows_of_tables T)) Timetbls rs → sound T ≡ false
timetbls_not_sound T r rs e h = tables_too_long T before_timetbls Timetbls (Groups Changes ∷ Groups Xfootnote ∷ Groups Xchanges ∷ []) refl r rs e h
