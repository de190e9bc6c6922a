-- ELEVEN TABLES, TIMETBLS another one: what the rules ask of them depends on its services alone, and the other ten are as sound as they were.
-- Assumes nothing.
use Prim.Native.Nat.{ℕ, ◌*◌, ◌<◌}
use mathlib.Core.Path.{◌≡◌, refl, ap, sym, ◌∙◌}
use mathlib.Core.List.{List, [], ◌∷◌}
use mathlib.Core.Bool.{Bool, true, cond}
use lib.Dec.{ltb}
use lib.ListN.{length, drop}
use borrow.Author.Tests.{lt-ltb}
use Rattle.iff.specs.Lists.{all, all_of}
use Rattle.iff.specs.Files.{PerFile, of, eleven, in_order, needed}
use Rattle.iff.specs.Tables.{Row, row_width, rows_in, all_zero, keys_of}
use Rattle.iff.specs.Words.{own_company}
use Rattle.iff.specs.declared.RowFile.{RowFile}
use Rattle.iff.specs.declared.RowFile.TheVariants.{Company, Country, Trnsmode, Stations}
use Rattle.iff.specs.declared.GroupFile.{GroupFile}
use Rattle.iff.specs.declared.GroupFile.TheVariants.{Timezone, Footnote, Changes, Xfootnote, Xchanges}
use Rattle.iff.specs.declared.File.{File}
use Rattle.iff.specs.declared.File.TheVariants.{Delivery, Rows, Groups, Timetbls}
use Rattle.iff_rules.specs.Rows.{form_of, first_of, Context, context_of}
use Rattle.iff_rules.specs.References.{names}
use Rattle.iff_laws.specs.TruthLaws.{both}
use Rattle.iff_desk.specs.Sound.{rows_of_tables, held_in, sound_rows, sound_table, sound}
use Rattle.sound_laws.proofs.PassLaws.{all_hold}
use Rattle.sound_laws.proofs.SoundLaws.{sound_by}
use Rattle.sound_facts.proofs.RowFacts.{one_of}
use Rattle.sound_facts.proofs.SoundFacts.{table_sound}

-- the other ten as they are
abbrev pub with_timetbls : {A : Type 0} → PerFile A → A → PerFile A
with_timetbls T t =
    eleven T.delivery T.company T.country T.trnsmode T.timezone T.stations T.footnote t T.changes T.xfootnote T.xchanges

pub rows_with : (T : PerFile (List ℕ)) (t : List ℕ) → rows_of_tables (with_timetbls T t) ≡ with_timetbls (rows_of_tables T) (rows_in Timetbls t)
rows_with T t = refl

-- what holds of two values for each file: the same one twice, and of TIMETBLS' two
module _ {A : Type 0} (T : PerFile A) (t : A) (P : File → A → A → Type 0) (same : (f : File) (x : A) → P f x x) where
  with_rows : (f : RowFile) → P (Rows f) (of (with_timetbls T t) (Rows f)) (of T (Rows f))
  with_rows Company = same (Rows Company) T.company
  with_rows Country = same (Rows Country) T.country
  with_rows Trnsmode = same (Rows Trnsmode) T.trnsmode
  with_rows Stations = same (Rows Stations) T.stations

  with_groups : (f : GroupFile) → P (Groups f) (of (with_timetbls T t) (Groups f)) (of T (Groups f))
  with_groups Timezone = same (Groups Timezone) T.timezone
  with_groups Footnote = same (Groups Footnote) T.footnote
  with_groups Changes = same (Groups Changes) T.changes
  with_groups Xfootnote = same (Groups Xfootnote) T.xfootnote
  with_groups Xchanges = same (Groups Xchanges) T.xchanges

  pub with_each : P Timetbls t T.timetbls → (f : File) → P f (of (with_timetbls T t) f) (of T f)
  with_each own Delivery = same Delivery T.delivery
  with_each own (Rows f) = with_rows f
  with_each own (Groups f) = with_groups f
  with_each own Timetbls = own

-- WHAT THE RULES ASK: the form of the lines and each file's keys, and which tables hold rows
module _ (R : PerFile (List Row)) (rs : List Row) where
  pub same_context : keys_of Timetbls rs ≡ keys_of Timetbls R.timetbls → context_of (with_timetbls R rs) ≡ context_of R
  unfolding context_of
  same_context e =
      let k = with_each R rs (λ f x y. keys_of f x ≡ keys_of f y) (λ f x. refl) e in
      λ i. record { form = form_of (first_of R.delivery); keys = λ f. k f i }

  same_held : ltb 0 (length rs) ≡ ltb 0 (length R.timetbls) → held_in (with_timetbls R rs) ≡ held_in R
  same_held e = let k = with_each R rs (λ f x y. ltb 0 (length x) ≡ ltb 0 (length y)) (λ f x. refl) e in λ i f. k f i

-- ONE TABLE, of some rows
abbrev table_by : Context → (File → Bool) → Row → File → List Row → List ℕ → Bool
table_by c there d f rs t =
    all_of (cond (needed there f) (there f) true ∷ sound_rows c d f rs ∷ all_zero (drop (length rs * row_width f) t) ∷ [])

-- ELEVEN SOUND TABLES, and another TIMETBLS of sound rows with the same services
module _ (T : PerFile (List ℕ)) (t : List ℕ) (was : sound T ≡ true)
    (keys : keys_of Timetbls (rows_in Timetbls t) ≡ keys_of Timetbls (rows_in Timetbls T.timetbls))
    (some : 0 < length (rows_in Timetbls t)) where
  abbrev R : PerFile (List Row)
  R = rows_of_tables T

  abbrev Q : PerFile (List Row)
  Q = with_timetbls R (rows_in Timetbls t)

  context : context_of Q ≡ context_of R
  context = same_context R (rows_in Timetbls t) keys

  was_held : held_in R Timetbls ≡ true
  unfolding sound_table
  was_held = one_of _ (table_sound T was Timetbls) 0

  held : held_in Q ≡ held_in R
  held = same_held R (rows_in Timetbls t) (lt-ltb _ _ some ∙ sym was_held)

  abbrev SoundIn : File → Type 0
  SoundIn f = sound_table (context_of Q) Q f (of (with_timetbls T t) f) ≡ true

  not_written : (f : File) → of Q f ≡ of R f → of (with_timetbls T t) f ≡ of T f → SoundIn f
  unfolding sound_table
  not_written f p q = (λ i. table_by (context i) (held i) (first_of R.delivery) f (p i) (q i)) ∙ table_sound T was f

  module _ (rows : sound_rows (context_of R) (first_of R.delivery) Timetbls (rows_in Timetbls t) ≡ true)
      (zeros : all_zero (drop (length (rows_in Timetbls t) * row_width Timetbls) t) ≡ true) where
    written : SoundIn Timetbls
    unfolding sound_table
    written =
        (λ i. table_by (context i) (held i) (first_of R.delivery) Timetbls (rows_in Timetbls t) t) ∙ all_hold _ (was_held, (rows, (zeros, tt)))

    tables : (f : File) → SoundIn f
    tables Delivery = not_written Delivery refl refl
    tables (Rows f) =
        not_written (Rows f) (with_rows R (rows_in Timetbls t) (λ g x y. x ≡ y) (λ g x. refl) f) (with_rows T t (λ g x y. x ≡ y) (λ g x. refl) f)
    tables (Groups f) =
        not_written (Groups f) (with_groups R (rows_in Timetbls t) (λ g x y. x ≡ y) (λ g x. refl) f) (with_groups T t (λ g x y. x ≡ y) (λ g x. refl) f)
    tables Timetbls = written

    company_named_lem : names (context_of Q) (Rows Company) (own_company (first_of R.delivery)) ≡ true
    unfolding sound
    company_named_lem =
        ap (λ c. names c (Rows Company) (own_company (first_of R.delivery))) context
        ∙ (both (all (λ f. sound_table (context_of R) R f (of T f)) in_order) _ was).1

    pub sound_with_lem : sound (with_timetbls T t) ≡ true
    sound_with_lem = sound_by (with_timetbls T t) Q (rows_with T t) tables company_named_lem
