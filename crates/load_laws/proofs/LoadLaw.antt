-- A LOAD: what its parts say makes what it promises. Assumes nothing.
use Rattle.std.specs.Prelude.{Err, Ok}
use Prim.Native.Nat.{ℕ, zero, suc, ◌-◌, ◌*◌, ◌≤◌}
use mathlib.Core.Path.{◌≡◌, refl, ap, sym, ◌∙◌}
use mathlib.Core.List.{List, [], ◌∷◌}
use mathlib.Core.Bool.{Bool, true, false, cond, false≢true}
use native.Mathlib.Omega.{arith}
use borrow.Author.Tests.{leb-true}
use lib.Dec.{leb}
use lib.ListN.{length, get_or, replicate, length-replicate}
use Rattle.iff.specs.Refusals.{or_else, first_fault, fine, answer, Answer, Verdict, at_place}
use Rattle.iff.specs.Files.{PerFile, of, per_file, eleven, limit}
use Rattle.iff.specs.Lines.{Line, lines}
use Rattle.iff.specs.Columns.{form424}
use Rattle.iff.specs.Days.{span}
use Rattle.iff.specs.Values.{words, field_words}
use Rattle.iff.specs.Tables.{Row, row_width, room, padded, joined, fill, keys_of}
use Rattle.iff.specs.Words.{own_company, first_day, last_day}
use Rattle.iff.specs.declared.RowFile.{RowFile}
use Rattle.iff.specs.declared.RowFile.TheVariants.{Company, Country, Trnsmode, Stations}
use Rattle.iff.specs.declared.GroupFile.{GroupFile}
use Rattle.iff.specs.declared.GroupFile.TheVariants.{Timezone, Footnote, Changes, Xfootnote, Xchanges}
use Rattle.iff.specs.declared.File.{File}
use Rattle.iff.specs.declared.File.TheVariants.{Delivery, Rows, Groups, Timetbls}
use Rattle.iff.specs.declared.Form.{Form}
use Rattle.iff.specs.declared.Reason.TheVariants.{NoRoom}
use Rattle.iff_rules.specs.Rows.{first_row_of, rows_of_lines, form_of, first_of, delivery_rows, rows_of_files, Context, context_of}
use Rattle.iff_rules.specs.Load.{fault_unless, room_verdict, over_files, company_verdict, file_verdict, contents_verdict, load_verdict, load_answer, filled, load_table}
use Rattle.keys.specs.Lookup.{keys_in, keys_among}
use Rattle.keys.proofs.Among.{keys_counted}
use Rattle.reading.specs.Reading.{Ready, head_line}
use Rattle.iff_laws.specs.Outcomes.{Loaded}
use Rattle.iff_laws.specs.ScanLaws.{or_fine, cons_fine, or_nothing}
use Rattle.first_files.specs.Firsts.{Seven, seven, FirstsReady, FirstsRead}
use Rattle.first_files.specs.declared.FirstFiles.{FirstFiles}
use Rattle.last_files.specs.Lasts.{Four, four, LastsReady, LastsRead}
use Rattle.last_files.specs.declared.LastFiles.{LastFiles}
use Rattle.sizes.specs.Sizes.{sizes_verdict, lengths_within, absences_verdict, lengths_of}
use Rattle.sizes.proofs.SizeLaws.{step, last}
use Rattle.clearing.specs.Cleared.{Cleared, settled, Settled}
use Rattle.file_laws.proofs.RowLaws.{Held, held_rows, held_groups, held_timetbls, keys_held}
use Rattle.file_laws.proofs.ContextLaws.{Keys, asking, asked, advance, back, delivery_back, rows_back, groups_back, rows_said, groups_said, blocks_said, said_for}

-- SIZES: after them each file has room in its table
fine_is : (v : Verdict) → fine v ≡ true → v ≡ Ok tt
fine_is (Ok _) e = refl
fine_is (Err fault) e = absurd (false≢true e)

-- what holds of the first fault of a list holds of each entry
none_at : (vs : List Verdict) → first_fault vs ≡ Ok tt → (i : ℕ) → get_or vs i (Ok tt) ≡ Ok tt
none_at [] e i = refl
none_at (v ∷ vs) e zero = (cons_fine v vs e).0
none_at (v ∷ vs) e (suc i) = none_at vs (cons_fine v vs e).1 i

module _ (v : File → Verdict) (e : over_files v ≡ Ok tt) where
  rows_fine : (f : RowFile) → v (Rows f) ≡ Ok tt
  rows_fine Company = none_at _ e 1
  rows_fine Country = none_at _ e 2
  rows_fine Trnsmode = none_at _ e 3
  rows_fine Stations = none_at _ e 5

  groups_fine : (f : GroupFile) → v (Groups f) ≡ Ok tt
  groups_fine Timezone = none_at _ e 4
  groups_fine Footnote = none_at _ e 6
  groups_fine Changes = none_at _ e 8
  groups_fine Xfootnote = none_at _ e 9
  groups_fine Xchanges = none_at _ e 10

  each_fine : (f : File) → v f ≡ Ok tt
  each_fine Delivery = none_at _ e 0
  each_fine (Rows f) = rows_fine f
  each_fine (Groups f) = groups_fine f
  each_fine Timetbls = none_at _ e 7

room_fits : (f : File) (n m : ℕ) → room_verdict f n m ≡ Ok tt → n ≤ room f m
room_fits f n m e = go (leb n (room f m)) refl e
  where
    go : (b : Bool) → leb n (room f m) ≡ b → fault_unless b NoRoom (at_place f 0 0) ≡ Ok tt → n ≤ room f m
    go true q e = leb-true n (room f m) q
    go false q e = absurd (false≢true (ap fine e))

-- every file has room in its table
abbrev pub Fit : PerFile (List ℕ) → PerFile ℕ → Type 0
Fit F R = (f : File) → length (lines (of F f)) ≤ room f (of R f)

pub roomy : (F : PerFile (List ℕ)) (R : PerFile ℕ) (v : Verdict) → v ≡ sizes_verdict F R → fine v ≡ true → Fit F R
unfolding sizes_verdict
roomy F R v e g f =
    let sized = or_else (lengths_within limit (lengths_of F)) (absences_verdict (lengths_of F)) in
    room_fits f _ _ (each_fine (λ k. room_verdict k (length (lines (of F k))) (of R k)) (or_fine sized _ (sym e ∙ fine_is v g)).1 f)

-- a cleared table is ready for its file
ready : (f : File) (text t z : List ℕ) → z ≡ replicate (length t) 0 → length (lines text) ≤ room f (length t) → Ready f text z
ready f text t z e h =
    let n : length z ≡ length t = rw (e, length-replicate) in
    record { cleared = e ∙ rw n; room = rw n h }

-- DELIVERY: the words of its row stand at the front of its table
zero_word : (m k : ℕ) → ◌≡◌ {A = ℕ} (get_or (replicate m 0) k 0) 0
zero_word zero k = refl
zero_word (suc m) zero = refl
zero_word (suc m) (suc k) = zero_word m k

module _ (n : ℕ) where
  abbrev delivery_table : List Line → List ℕ
  delivery_table ls = fill (row_width Delivery) n (rows_of_lines (form424 0) Delivery ls)

  abbrev delivery_row : List Line → Row
  delivery_row ls = first_of (rows_of_lines (form424 0) Delivery ls)

  company_word : (ls : List Line) → own_company (delivery_table ls) ≡ own_company (delivery_row ls)
  unfolding rows_of_lines fill joined first_row_of padded words field_words
  company_word [] = zero_word (n - 0 * 6) 1
  company_word (l ∷ ls) = refl

  first_word : (ls : List Line) → first_day (delivery_table ls) ≡ first_day (delivery_row ls)
  unfolding rows_of_lines fill joined first_row_of padded words field_words
  first_word [] = zero_word (n - 0 * 6) 2
  first_word (l ∷ ls) = refl

  last_word : (ls : List Line) → last_day (delivery_table ls) ≡ last_day (delivery_row ls)
  unfolding rows_of_lines fill joined first_row_of padded words field_words
  last_word [] = zero_word (n - 0 * 6) 3
  last_word (l ∷ ls) = refl

  form_there : (ls : List Line) → form_of (delivery_table ls) ≡ form_of (delivery_row ls)
  unfolding form_of
  form_there ls = λ i. form424 (span (first_word ls i) (last_word ls i))

same_rows : (form : Form) (ls : List Line) → rows_of_lines form Delivery ls ≡ rows_of_lines (form424 0) Delivery ls
unfolding rows_of_lines
same_rows form [] = refl
same_rows form (l ∷ ls) = refl

-- AT THE END
answer_same : (v : Verdict) (d e s t : ℕ) → (fine v ≡ true → d ≡ e) → (fine v ≡ true → s ≡ t) → answer v d s ≡ answer v e t
answer_same (Ok _) d e s t p q = rw (p refl, q refl)
answer_same (Err fault) d e s t p q = refl

final : (f : File) (v : Verdict) (b a : List ℕ) (n : ℕ) (rows : List Row) → b ≡ settled v a → (fine v ≡ true → a ≡ fill (row_width f) n rows)
    → length a ≡ n
    → b ≡ cond (fine v) (filled f n rows) (replicate n 0)
unfolding filled
final f (Ok _) b a n rows p h k = p ∙ h refl
final f (Err fault) b a n rows p h k = p ∙ rw k

four_first : (a b c x : Verdict) → first_fault (a ∷ b ∷ c ∷ x ∷ []) ≡ or_else (or_else (or_else a b) c) x
unfolding first_fault
four_first (Ok _) (Ok _) (Ok _) x = or_nothing x
four_first (Ok _) (Ok _) (Err fault) x = refl
four_first (Ok _) (Err fault) c x = refl
four_first (Err fault) b c x = refl

later : (v : Verdict) {r : Verdict} (x : Verdict) → r ≡ or_else v x → fine r ≡ true → x ≡ Ok tt
later (Ok _) x e g = sym e ∙ fine_is _ g
later (Err fault) x e g = absurd (false≢true (rw e at g))

-- A VALUE FOR EACH FILE is the value of each file
module _ {A : Type 0} (v : File → A) where
  of_rows_lem : (f : RowFile) → of (per_file v) (Rows f) ≡ v (Rows f)
  of_rows_lem Company = refl
  of_rows_lem Country = refl
  of_rows_lem Trnsmode = refl
  of_rows_lem Stations = refl

  of_groups_lem : (f : GroupFile) → of (per_file v) (Groups f) ≡ v (Groups f)
  of_groups_lem Timezone = refl
  of_groups_lem Footnote = refl
  of_groups_lem Changes = refl
  of_groups_lem Xfootnote = refl
  of_groups_lem Xchanges = refl

  of_each : (f : File) → of (per_file v) f ≡ v f
  of_each Delivery = refl
  of_each (Rows f) = of_rows_lem f
  of_each (Groups f) = of_groups_lem f
  of_each Timetbls = refl

-- TESTS IN TURN, each of which holds where the next does
abbrev Falling : List Bool → Type 0
Falling [] = Unit {0}
Falling (p ∷ []) = Unit {0}
Falling (p ∷ q ∷ qs) = (q ≡ true → p ≡ true) × Falling (q ∷ qs)

falls : (ps : List Bool) → Falling ps → (i j : ℕ) → i ≤ j → suc j ≤ length ps → get_or ps j true ≡ true → get_or ps i true ≡ true
falls [] f i j h k g = refl
falls (p ∷ []) f zero zero h k g = g
falls (p ∷ []) f zero (suc j) h k g = absurd (omega arith)
falls (p ∷ []) f (suc i) j h k g = refl
falls (p ∷ q ∷ qs) f zero zero h k g = g
falls (p ∷ q ∷ qs) f zero (suc j) h k g = f.0 (falls (q ∷ qs) f.1 zero j (omega arith) (omega arith) g)
falls (p ∷ q ∷ qs) f (suc i) zero h k g = absurd (omega arith)
falls (p ∷ q ∷ qs) f (suc i) (suc j) h k g = falls (q ∷ qs) f.1 i j (omega arith) (omega arith) g

-- THE FIRST SEVEN FILES AND THE LAST FOUR
abbrev firsts_of : PerFile (List ℕ) → Seven (List ℕ)
firsts_of v = seven v.delivery v.company v.country v.trnsmode v.timezone v.stations v.footnote

abbrev lasts_of : PerFile (List ℕ) → Four (List ℕ)
lasts_of v = four v.timetbls v.changes v.xfootnote v.xchanges

-- BEFORE THEY ARE READ: where every file has room and the tables are cleared, each table is ready for its file
module _ (F t z : PerFile (List ℕ)) (fits : Fit F (per_file (λ f. length (of t f))))
    (c : Cleared t.delivery t.company t.country t.trnsmode t.timezone t.stations
    t.footnote t.timetbls t.changes t.xfootnote t.xchanges
    z.delivery z.company z.country z.trnsmode z.timezone z.stations
    z.footnote z.timetbls z.changes z.xfootnote z.xchanges) where
  ready_at : (f : File) → of z f ≡ replicate (length (of t f)) 0 → Ready f (of F f) (of z f)
  ready_at f e = ready f (of F f) (of t f) (of z f) e (rw (← (of_each (λ g. length (of t g)) f)) (fits f))

  pub firsts_ready : FirstsReady (firsts_of F) (firsts_of z)
  firsts_ready =
      record {
        delivery = ready_at Delivery c.c1;
        company = ready_at (Rows Company) c.c2;
        country = ready_at (Rows Country) c.c3;
        trnsmode = ready_at (Rows Trnsmode) c.c4;
        timezone = ready_at (Groups Timezone) c.c5;
        stations = ready_at (Rows Stations) c.c6;
        footnote = ready_at (Groups Footnote) c.c7;
      }

  pub lasts_ready : LastsReady (lasts_of F) (lasts_of z)
  lasts_ready =
      record {
        timetbls = ready_at Timetbls c.c8;
        changes = ready_at (Groups Changes) c.c9;
        xfootnote = ready_at (Groups Xfootnote) c.c10;
        xchanges = ready_at (Groups Xchanges) c.c11;
      }

-- no fault after the first, so none before them
pub firsts_back : {header : List ℕ} {F : Seven (List ℕ)} {v : Verdict} {z a : Seven (List ℕ)} {r : FirstFiles} → FirstsRead header F v z a r
    → fine r.verdict ≡ true
    → fine v ≡ true
firsts_back d g =
    let stations = rows_back d.places (groups_back d.footnotes g) in
    let countries = rows_back d.countries (rows_back d.modes (groups_back d.zones stations)) in
    delivery_back d.delivered (rows_back d.companies (back d.after_company _ d.named countries))

-- THE WHOLE: eleven files F, tables at entry t, cleared z, read a, at exit b; the verdict on their sizes
module _ (F t z a b : PerFile (List ℕ)) (v0 : Verdict) (header : List ℕ) (firsts : FirstFiles) (lasts : LastFiles) (r : Answer) where
  abbrev R : PerFile ℕ
  R = per_file (λ f. length (of t f))

  -- the form that DELIVERY's first line gives, and the keys of all files
  abbrev D : Form
  D = form_of (first_of (delivery_rows F.delivery))

  abbrev C : Context
  C = context_of (rows_of_files F)

  -- what is known after each call
  pub record Steps : Type 0 where
    pub sizes : v0 ≡ sizes_verdict F R
    pub cleared :
        Cleared t.delivery t.company t.country t.trnsmode t.timezone t.stations
        t.footnote t.timetbls t.changes t.xfootnote t.xchanges
        z.delivery z.company z.country z.trnsmode z.timezone z.stations
        z.footnote z.timetbls z.changes z.xfootnote z.xchanges
    pub head : header ≡ (head_line F.delivery).body
    pub first : FirstsRead header (firsts_of F) v0 (firsts_of z) (firsts_of a) firsts
    pub last :
        LastsRead firsts.form header a.company a.trnsmode a.stations a.footnote (lasts_of F) firsts.verdict
        (lasts_of z) (lasts_of a) lasts
    pub settles :
        Settled lasts.verdict a.delivery a.company a.country a.trnsmode a.timezone a.stations
        a.footnote a.timetbls a.changes a.xfootnote a.xchanges
        b.delivery b.company b.country b.trnsmode b.timezone b.stations
        b.footnote b.timetbls b.changes b.xfootnote b.xchanges
    pub answers : r ≡ answer lasts.verdict firsts.form.days lasts.services

  module _ (s : Steps) where
    -- the verdict after each step, the form, and the rows and services of TIMETBLS
    abbrev v1 : Verdict
    v1 = s.first.after_delivery

    abbrev v2 : Verdict
    v2 = s.first.after_company

    abbrev v3 : Verdict
    v3 = s.first.after_named

    abbrev v4 : Verdict
    v4 = s.first.after_country

    abbrev v5 : Verdict
    v5 = s.first.after_trnsmode

    abbrev v6 : Verdict
    v6 = s.first.after_timezone

    abbrev v7 : Verdict
    v7 = s.first.after_stations

    abbrev v8 : Verdict
    v8 = firsts.verdict

    abbrev v9 : Verdict
    v9 = s.last.after_timetbls

    abbrev v10 : Verdict
    v10 = s.last.after_changes

    abbrev v11 : Verdict
    v11 = s.last.after_xfootnote

    abbrev v12 : Verdict
    v12 = lasts.verdict

    abbrev form : Form
    form = firsts.form

    abbrev rows : ℕ
    rows = s.last.rows

    abbrev services : ℕ
    services = lasts.services

    -- the verdicts before and after each file
    abbrev before : PerFile Verdict
    before = eleven v0 v1 v3 v4 v5 v6 v7 v8 v9 v10 v11

    abbrev after : PerFile Verdict
    after = eleven v1 v2 v4 v5 v6 v7 v8 v9 v10 v11 v12

    -- the verdict that is due to a file
    abbrev Due : File → Verdict
    Due f = file_verdict C header f (lines (of F f))

    -- what the reader of a file has said and left, whatever keys it was lent; and what was done to the table before and after it
    record ReadBy (f : File) : Type 0 where
      keys : Keys
      said : of after f ≡ or_else (of before f) (file_verdict (asking form keys) header f (lines (of F f)))
      table : fine (of after f) ≡ true → of a f ≡ fill (row_width f) (length (of z f)) (rows_of_lines form f (lines (of F f)))
      kept : length (of a f) ≡ length (of z f)
      emptied : of z f ≡ replicate (length (of t f)) 0
      ended : of b f ≡ settled v12 (of a f)

    -- the rows and the keys of each file, and its room
    abbrev rows_of : File → List Row
    rows_of f = rows_of_lines D f (lines (of F f))

    own_keys : (f : File) → C.keys f ≡ keys_of f (rows_of f)
    unfolding context_of
    own_keys f = ap (keys_of f) (of_each rows_of f)

    room_of : (f : File) → of R f ≡ length (of t f)
    room_of f = of_each (λ g. length (of t g)) f

    abbrev Filled : File → Type 0
    Filled f = of a f ≡ fill (row_width f) (length (of t f)) (rows_of f)

    module _ (f : File) (d : ReadBy f) where
      long : length (of z f) ≡ length (of t f)
      long = rw (d.emptied, length-replicate)

      filled_by : form ≡ D → fine (of after f) ≡ true → Filled f
      filled_by p g = d.table g ∙ rw (long, p)

      keys_by : form ≡ D → fine (of after f) ≡ true → Held f D (lines (of F f)) → Fit F R → keys_in f (of a f) ≡ C.keys f
      keys_by p g h k =
          ap (keys_in f) (filled_by p g) ∙ (keys_held f D (length (of t f)) (lines (of F f)) h (rw (← (room_of f)) (k f)) ∙ sym (own_keys f))

      due_by : (fine (of before f) ≡ true → form ≡ C.form) → (fine (of before f) ≡ true → asked f (of d.keys) ≡ asked f C.keys)
          → of after f ≡ or_else (of before f) (Due f)
      due_by p q = said_for C f form d.keys header (of F f) (of before f) d.said p q

      left_by : v12 ≡ load_verdict F R → (fine v12 ≡ true → Filled f) → of b f ≡ load_table f F R
      unfolding load_table
      left_by e h =
          rw (← e, room_of f, of_each rows_of f) (final f v12 (of b f) (of a f) (length (of t f)) (rows_of f) d.ended h (d.kept ∙ long))

    -- THE READERS, file by file
    rows_read : (f : RowFile) → ReadBy (Rows f)
    rows_read Company =
        let d = s.first.companies in
        record { keys = _; said = rows_said d; table = d.table; kept = d.kept; emptied = s.cleared.c2; ended = s.settles.s2 }
    rows_read Country =
        let d = s.first.countries in
        record { keys = _; said = rows_said d; table = d.table; kept = d.kept; emptied = s.cleared.c3; ended = s.settles.s3 }
    rows_read Trnsmode =
        let d = s.first.modes in
        record { keys = _; said = rows_said d; table = d.table; kept = d.kept; emptied = s.cleared.c4; ended = s.settles.s4 }
    rows_read Stations =
        let d = s.first.places in
        record { keys = _; said = rows_said d; table = d.table; kept = d.kept; emptied = s.cleared.c6; ended = s.settles.s6 }

    groups_read : (f : GroupFile) → ReadBy (Groups f)
    groups_read Timezone =
        let d = s.first.zones in
        record { keys = _; said = groups_said d; table = d.table; kept = d.kept; emptied = s.cleared.c5; ended = s.settles.s5 }
    groups_read Footnote =
        let d = s.first.footnotes in
        record { keys = _; said = groups_said d; table = d.table; kept = d.kept; emptied = s.cleared.c7; ended = s.settles.s7 }
    groups_read Changes =
        let d = s.last.changed in
        record { keys = _; said = groups_said d; table = d.table; kept = d.kept; emptied = s.cleared.c9; ended = s.settles.s9 }
    groups_read Xfootnote =
        let d = s.last.marked in
        record { keys = _; said = groups_said d; table = d.table; kept = d.kept; emptied = s.cleared.c10; ended = s.settles.s10 }
    groups_read Xchanges =
        let d = s.last.excepted in
        record { keys = _; said = groups_said d; table = d.table; kept = d.kept; emptied = s.cleared.c11; ended = s.settles.s11 }

    blocks_read : ReadBy Timetbls
    blocks_read =
        let d = s.last.blocks in
        record { keys = _; said = blocks_said d; table = d.table; kept = d.kept; emptied = s.cleared.c8; ended = s.settles.s8 }

    -- NO FAULT NOW, SO NONE BEFORE: the verdicts in turn
    abbrev turns : List Bool
    turns =
        fine v0 ∷ fine v1 ∷ fine v2 ∷ fine v3 ∷ fine v4 ∷ fine v5 ∷ fine v6 ∷ fine v7 ∷ fine v8 ∷ fine v9 ∷ fine v10 ∷ fine v11 ∷ fine v12 ∷ []

    one_back : (f : File) → ReadBy f → fine (of after f) ≡ true → fine (of before f) ≡ true
    one_back f d g = back (of before f) _ d.said g

    each_back : Falling turns
    each_back = (
      back v0 _ s.first.delivered.verdict,
      (
        one_back (Rows Company) (rows_read Company),
        (
          back v2 _ s.first.named,
          (
            one_back (Rows Country) (rows_read Country),
            (
              one_back (Rows Trnsmode) (rows_read Trnsmode),
              (
                one_back (Groups Timezone) (groups_read Timezone),
                (
                  one_back (Rows Stations) (rows_read Stations),
                  (
                    one_back (Groups Footnote) (groups_read Footnote),
                    (
                      one_back Timetbls blocks_read,
                      (
                        one_back (Groups Changes) (groups_read Changes),
                        (
                          one_back (Groups Xfootnote) (groups_read Xfootnote),
                          (one_back (Groups Xchanges) (groups_read Xchanges), tt),
                        ),
                      ),
                    ),
                  ),
                ),
              ),
            ),
          ),
        ),
      ),
    )

    -- from verdict j back to verdict i
    to : (i j : ℕ) → leb i j ≡ true → leb j 12 ≡ true → get_or turns j true ≡ true → get_or turns i true ≡ true
    to i j h k g = falls turns each_back i j (leb-true i j h) (omega (arith, leb-true j 12 k)) g

    -- DELIVERY: its row gives the form, and the sizes were right
    fits : fine v1 ≡ true → Fit F R
    fits g = roomy F R v0 s.sizes (to 0 1 refl refl g)

    form_right : fine v1 ≡ true → form ≡ D
    form_right g = s.first.formed ∙ ap form_of (s.first.delivered.table g) ∙ form_there (length z.delivery) (lines F.delivery)

    context_form : D ≡ C.form
    unfolding context_of
    context_form = ap (λ (rs : List Row). form_of (first_of rs)) (sym (same_rows D (lines F.delivery)))

    form_is : fine v1 ≡ true → form ≡ C.form
    form_is g = form_right g ∙ context_form

    -- WHAT IS DUE to each file in turn, and the keys that later files ask for
    abbrev right : ℕ → Type 0
    right j = get_or turns j true ≡ true

    row_keys_lem : (f : RowFile) → fine v1 ≡ true → fine (of after (Rows f)) ≡ true → keys_in (Rows f) (of a (Rows f)) ≡ C.keys (Rows f)
    row_keys_lem f h g = keys_by (Rows f) (rows_read f) (form_right h) g (held_rows D f (lines (of F (Rows f)))) (fits h)

    group_keys_lem : (f : GroupFile) → fine v1 ≡ true → fine (of after (Groups f)) ≡ true
        → of after (Groups f) ≡ or_else (of before (Groups f)) (Due (Groups f))
        → keys_in (Groups f) (of a (Groups f)) ≡ C.keys (Groups f)
    group_keys_lem f h g e =
        keys_by (Groups f) (groups_read f) (form_right h) g (held_groups D C header f (lines (of F (Groups f))) (later (of before (Groups f)) _ e g))
        (fits h)

    due_company : v2 ≡ or_else v1 (Due (Rows Company))
    due_company = due_by (Rows Company) (rows_read Company) form_is (λ g. refl)

    companies : right 2 → keys_in (Rows Company) a.company ≡ C.keys (Rows Company)
    companies g = row_keys_lem Company (to 1 2 refl refl g) g

    -- DELIVERY's company
    due_named : v3 ≡ or_else v2 (company_verdict C (rows_of_files F).delivery)
    due_named =
        advance v2 _ _ s.first.named
        (λ g.
        let row = company_word (length z.delivery) (lines F.delivery) in
        rw (companies g, s.first.delivered.table (to 1 2 refl refl g), row, same_rows D (lines F.delivery)))

    due_country : v4 ≡ or_else v3 (Due (Rows Country))
    due_country = due_by (Rows Country) (rows_read Country) (λ g. form_is (to 1 3 refl refl g)) (λ g. refl)

    due_trnsmode : v5 ≡ or_else v4 (Due (Rows Trnsmode))
    due_trnsmode = due_by (Rows Trnsmode) (rows_read Trnsmode) (λ g. form_is (to 1 4 refl refl g)) (λ g. refl)

    modes : right 5 → keys_in (Rows Trnsmode) a.trnsmode ≡ C.keys (Rows Trnsmode)
    modes g = row_keys_lem Trnsmode (to 1 5 refl refl g) g

    due_timezone : v6 ≡ or_else v5 (Due (Groups Timezone))
    due_timezone = due_by (Groups Timezone) (groups_read Timezone) (λ g. form_is (to 1 5 refl refl g)) (λ g. refl)

    due_stations : v7 ≡ or_else v6 (Due (Rows Stations))
    unfolding rows_read context_of
    due_stations =
        due_by (Rows Stations) (rows_read Stations) (λ g. form_is (to 1 6 refl refl g))
        (λ g.
        let countries = row_keys_lem Country (to 1 6 refl refl g) (to 4 6 refl refl g) in
        rw (countries, group_keys_lem Timezone (to 1 6 refl refl g) g due_timezone))

    places : right 7 → keys_in (Rows Stations) a.stations ≡ C.keys (Rows Stations)
    places g = row_keys_lem Stations (to 1 7 refl refl g) g

    due_footnote : v8 ≡ or_else v7 (Due (Groups Footnote))
    due_footnote = due_by (Groups Footnote) (groups_read Footnote) (λ g. form_is (to 1 7 refl refl g)) (λ g. refl)

    due_timetbls : v9 ≡ or_else v8 (Due Timetbls)
    unfolding blocks_read context_of
    due_timetbls =
        due_by Timetbls blocks_read (λ g. form_is (to 1 8 refl refl g))
        (λ g.
        let footnotes = group_keys_lem Footnote (to 1 8 refl refl g) g due_footnote in
        rw (companies (to 2 8 refl refl g), modes (to 5 8 refl refl g), places (to 7 8 refl refl g), footnotes))

    running : right 9 → keys_in Timetbls a.timetbls ≡ C.keys Timetbls
    running g =
        let h = to 1 9 refl refl g in
        keys_by Timetbls blocks_read (form_right h) g (held_timetbls D C header (lines F.timetbls) (later v8 _ due_timetbls g)) (fits h)

    -- services are looked up in the rows that were counted
    looked_up : right 9 → keys_among Timetbls rows a.timetbls ≡ C.keys Timetbls
    looked_up g = keys_counted Timetbls a.timetbls rows (s.last.counted g).rows ∙ running g

    due_changes : v10 ≡ or_else v9 (Due (Groups Changes))
    unfolding groups_read context_of
    due_changes =
        due_by (Groups Changes) (groups_read Changes) (λ g. form_is (to 1 9 refl refl g)) (λ g. rw (places (to 7 9 refl refl g), looked_up g))

    due_xfootnote : v11 ≡ or_else v10 (Due (Groups Xfootnote))
    due_xfootnote = due_by (Groups Xfootnote) (groups_read Xfootnote) (λ g. form_is (to 1 10 refl refl g)) (λ g. refl)

    due_xchanges : v12 ≡ or_else v11 (Due (Groups Xchanges))
    unfolding groups_read context_of
    due_xchanges =
        due_by (Groups Xchanges) (groups_read Xchanges) (λ g. form_is (to 1 11 refl refl g))
        (λ g.
        let footnotes = group_keys_lem Xfootnote (to 1 11 refl refl g) g due_xfootnote in
        rw (companies (to 2 11 refl refl g), modes (to 5 11 refl refl g), places (to 7 11 refl refl g), footnotes))

    -- the contents, in order
    contents : v12 ≡ or_else v0 (contents_verdict C (rows_of_files F) F)
    unfolding contents_verdict
    contents =
        rw (← s.head)
        (sym
        (step v0 _ _ s.first.delivered.verdict
        ∙ step v1 _ _ due_company
        ∙ step v2 _ _ due_named
        ∙ step v3 _ _ due_country
        ∙ step v4 _ _ due_trnsmode
        ∙ step v5 _ _ due_timezone
        ∙ step v6 _ _ due_stations
        ∙ step v7 _ _ due_footnote
        ∙ step v8 _ _ due_timetbls
        ∙ step v9 _ _ due_changes
        ∙ step v10 _ _ due_xfootnote
        ∙ step v11 _ _ due_xchanges
        ∙ last v12))

    verdict_is : v12 ≡ load_verdict F R
    unfolding load_verdict sizes_verdict
    verdict_is = contents ∙ ap (λ (x : Verdict). or_else x (contents_verdict C (rows_of_files F) F)) s.sizes ∙ sym (four_first _ _ _ _)

    services_are : fine v12 ≡ true → services ≡ length (C.keys Timetbls)
    services_are g = let h = to 9 12 refl refl g in (s.last.counted h).services ∙ ap length (running h)

    answers_are : r ≡ load_answer F R
    unfolding load_answer
    answers_are =
        s.answers
        ∙ answer_same v12 form.days C.form.days services (length (C.keys Timetbls))
        (λ g. ap (λ (x : Form). x.days) (form_is (to 1 12 refl refl g))) services_are
        ∙ rw verdict_is

    -- THE TABLES AT EXIT
    rows_right : (f : RowFile) → fine v12 ≡ true → fine (of after (Rows f)) ≡ true
    rows_right Company g = to 2 12 refl refl g
    rows_right Country g = to 4 12 refl refl g
    rows_right Trnsmode g = to 5 12 refl refl g
    rows_right Stations g = to 7 12 refl refl g

    groups_right : (f : GroupFile) → fine v12 ≡ true → fine (of after (Groups f)) ≡ true
    groups_right Timezone g = to 6 12 refl refl g
    groups_right Footnote g = to 8 12 refl refl g
    groups_right Changes g = to 10 12 refl refl g
    groups_right Xfootnote g = to 11 12 refl refl g
    groups_right Xchanges g = g

    left_of : (f : File) (d : ReadBy f) → (fine v12 ≡ true → fine (of after f) ≡ true) → of b f ≡ load_table f F R
    left_of f d h = left_by f d verdict_is (λ g. filled_by f d (form_right (to 1 12 refl refl g)) (h g))

    delivery_left : b.delivery ≡ load_table Delivery F R
    unfolding load_table
    delivery_left =
        let m : length z.delivery ≡ length t.delivery = rw (s.cleared.c1, length-replicate) in
        rw (← verdict_is)
        (final Delivery v12 b.delivery a.delivery (length t.delivery) (rows_of Delivery) s.settles.s1
        (λ g. s.first.delivered.table (to 1 12 refl refl g) ∙ rw (m, same_rows D (lines F.delivery))) (s.first.delivered.kept ∙ m))

    left : (f : File) → of b f ≡ load_table f F R
    left Delivery = delivery_left
    left (Rows f) = left_of (Rows f) (rows_read f) (rows_right f)
    left (Groups f) = left_of (Groups f) (groups_read f) (groups_right f)
    left Timetbls = left_of Timetbls blocks_read (λ g. to 9 12 refl refl g)

    pub loaded : Loaded F R r b
    loaded = record { answers = answers_are; leaves = left }
