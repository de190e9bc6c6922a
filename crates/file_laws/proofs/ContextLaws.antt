-- What a file's verdict asks of the other files, and no more: so a table that is not yet read may stand for it. Assumes nothing.
use Rattle.std.specs.Prelude.{Err, Ok}
use Prim.Native.Nat.{ℕ}
use mathlib.Core.Path.{◌≡◌, refl, sym, ◌∙◌}
use mathlib.Core.List.{List, [], ◌∷◌}
use mathlib.Core.Bool.{true}
use Rattle.iff.specs.Refusals.{or_else, fine, Verdict}
use Rattle.iff.specs.Files.{PerFile, of, eleven}
use Rattle.iff.specs.Lines.{Line, lines}
use Rattle.iff.specs.declared.RowFile.{RowFile}
use Rattle.iff.specs.declared.RowFile.TheVariants.{Company, Country, Trnsmode, Stations}
use Rattle.iff.specs.declared.GroupFile.{GroupFile}
use Rattle.iff.specs.declared.GroupFile.TheVariants.{Timezone, Footnote, Changes, Xfootnote, Xchanges}
use Rattle.iff.specs.declared.File.{File}
use Rattle.iff.specs.declared.File.TheVariants.{Delivery, Rows, Groups, Timetbls}
use Rattle.iff.specs.declared.Form.{Form}
use Rattle.iff_rules.specs.References.{met_by_row, met_in_group, met_in_block}
use Rattle.iff_rules.specs.Rows.{Context}
use Rattle.iff_rules.specs.Load.{plain_test, plain_verdict, group_test, group_verdict, groups_verdict, block_test, block_verdict, timetbls_verdict, delivery_verdict, file_verdict}
use Rattle.keys.specs.Lookup.{keys_in, keys_among}
use Rattle.references.specs.Agree.{BlockKeys, StationKeys, GroupKeys}
use Rattle.reading.specs.Reading.{FileRead, DeliveryRead}

abbrev pub Keys : Type 0
Keys = PerFile (List ℕ)

-- a context by the keys of each file
abbrev pub asking : Form → Keys → Context
asking form K = record { form = form; keys = of K }

abbrev nothing : Keys
nothing = eleven [] [] [] [] [] [] [] [] [] [] []

-- the keys that a file asks for, and none of the others
abbrev asked_by_rows : RowFile → (File → List ℕ) → Keys
asked_by_rows Company k = nothing
asked_by_rows Country k = nothing
asked_by_rows Trnsmode k = nothing
asked_by_rows Stations k = eleven [] [] (k (Rows Country)) [] (k (Groups Timezone)) [] [] [] [] [] []

abbrev asked_by_groups : GroupFile → (File → List ℕ) → Keys
asked_by_groups Timezone k = nothing
asked_by_groups Footnote k = nothing
asked_by_groups Changes k = eleven [] [] [] [] [] (k (Rows Stations)) [] (k Timetbls) [] [] []
asked_by_groups Xfootnote k = nothing
asked_by_groups Xchanges k = eleven [] (k (Rows Company)) [] (k (Rows Trnsmode)) [] (k (Rows Stations)) [] [] [] (k (Groups Xfootnote)) []

abbrev pub asked : File → (File → List ℕ) → Keys
asked Delivery k = nothing
asked (Rows f) k = asked_by_rows f k
asked (Groups f) k = asked_by_groups f k
asked Timetbls k = eleven [] (k (Rows Company)) [] (k (Rows Trnsmode)) [] (k (Rows Stations)) (k (Groups Footnote)) [] [] [] []

-- they are all that its verdict depends on
module _ (c : Context) (h : List ℕ) where
  abbrev Only : File → List Line → Type 0
  Only f ls = file_verdict c h f ls ≡ file_verdict (asking c.form (asked f c.keys)) h f ls

  none_asked : (f : File) → Only f []
  unfolding file_verdict
  none_asked f = refl

  rows_ask : (f : RowFile) (l : Line) (ls : List Line) → Only (Rows f) (l ∷ ls)
  unfolding file_verdict plain_verdict plain_test met_by_row
  rows_ask Company l ls = refl
  rows_ask Country l ls = refl
  rows_ask Trnsmode l ls = refl
  rows_ask Stations l ls = refl

  groups_ask : (f : GroupFile) (l : Line) (ls : List Line) → Only (Groups f) (l ∷ ls)
  unfolding file_verdict groups_verdict group_verdict group_test met_in_group
  groups_ask Timezone l ls = refl
  groups_ask Footnote l ls = refl
  groups_ask Changes l ls = refl
  groups_ask Xfootnote l ls = refl
  groups_ask Xchanges l ls = refl

  blocks_ask : (l : Line) (ls : List Line) → Only Timetbls (l ∷ ls)
  unfolding file_verdict timetbls_verdict block_verdict block_test met_in_block
  blocks_ask l ls = refl

  delivery_asks : (l : Line) (ls : List Line) → Only Delivery (l ∷ ls)
  unfolding file_verdict
  delivery_asks l ls = refl

  asks_only : (f : File) (ls : List Line) → Only f ls
  asks_only f [] = none_asked f
  asks_only Delivery (l ∷ ls) = delivery_asks l ls
  asks_only (Rows f) (l ∷ ls) = rows_ask f l ls
  asks_only (Groups f) (l ∷ ls) = groups_ask f l ls
  asks_only Timetbls (l ∷ ls) = blocks_ask l ls

-- so two contexts that have the same of them give the same verdict
pub same_verdict : (c d : Context) (h : List ℕ) (f : File) (ls : List Line) → c.form ≡ d.form → asked f c.keys ≡ asked f d.keys
    → file_verdict c h f ls ≡ file_verdict d h f ls
same_verdict c d h f ls p q = asks_only c h f ls ∙ (λ i. file_verdict (asking (p i) (q i)) h f ls) ∙ sym (asks_only d h f ls)

-- a verdict handed on, and what is asked only where there was no fault before
pub advance : (v : Verdict) {r : Verdict} (x y : Verdict) → r ≡ or_else v x → (fine v ≡ true → x ≡ y) → r ≡ or_else v y
advance (Ok _) x y e h = e ∙ h refl
advance (Err fault) x y e h = e

pub back : (v : Verdict) {r : Verdict} (x : Verdict) → r ≡ or_else v x → fine r ≡ true → fine v ≡ true
back (Ok _) x e g = refl
back (Err fault) x e g = rw e at g

pub delivery_back : {text : List ℕ} {v : Verdict} {was is : List ℕ} {r : Verdict} → DeliveryRead text v was is r → fine r ≡ true → fine v ≡ true
delivery_back {text} {v} d g = back v (delivery_verdict (lines text)) d.verdict g

-- WHAT EACH READER SAYS, for a context that has the keys of the tables lent to it
abbrev row_keys : List ℕ → List ℕ → Keys
row_keys cy zo = eleven [] [] (keys_in (Rows Country) cy) [] (keys_in (Groups Timezone) zo) [] [] [] [] [] []

abbrev group_keys : ℕ → List ℕ → List ℕ → List ℕ → List ℕ → List ℕ → Keys
group_keys n co mo st se xf =
    eleven [] (keys_in (Rows Company) co) [] (keys_in (Rows Trnsmode) mo) [] (keys_in (Rows Stations) st) [] (keys_among Timetbls n se) []
    (keys_in (Groups Xfootnote) xf) []

abbrev block_keys : List ℕ → List ℕ → List ℕ → List ℕ → Keys
block_keys co mo st fo =
    eleven [] (keys_in (Rows Company) co) [] (keys_in (Rows Trnsmode) mo) [] (keys_in (Rows Stations) st) (keys_in (Groups Footnote) fo) [] [] [] []

module _ {form : Form} {h text : List ℕ} {v : Verdict} {was is : List ℕ} {r : Verdict} where
  module _ {f : RowFile} {cy zo : List ℕ} where
    pub rows_said : FileRead (Rows f) form (λ c. StationKeys c cy zo) h text v was is r
        → r ≡ or_else v (file_verdict (asking form (row_keys cy zo)) h (Rows f) (lines text))
    rows_said d = d.verdict (asking form (row_keys cy zo)) refl (record { countries = refl; zones = refl })

    pub rows_back : FileRead (Rows f) form (λ c. StationKeys c cy zo) h text v was is r → fine r ≡ true → fine v ≡ true
    rows_back d g = back v _ (rows_said d) g

  module _ {f : GroupFile} {n : ℕ} {co mo st se xf : List ℕ} where
    pub groups_said : FileRead (Groups f) form (λ c. GroupKeys c n co mo st se xf) h text v was is r
        → r ≡ or_else v (file_verdict (asking form (group_keys n co mo st se xf)) h (Groups f) (lines text))
    groups_said d =
        d.verdict (asking form (group_keys n co mo st se xf)) refl
        (record { companies = refl; modes = refl; stations = refl; services = refl; xfootnotes = refl })

    pub groups_back : FileRead (Groups f) form (λ c. GroupKeys c n co mo st se xf) h text v was is r → fine r ≡ true → fine v ≡ true
    groups_back d g = back v _ (groups_said d) g

  module _ {co mo st fo : List ℕ} where
    pub blocks_said : FileRead Timetbls form (λ c. BlockKeys c co mo st fo) h text v was is r
        → r ≡ or_else v (file_verdict (asking form (block_keys co mo st fo)) h Timetbls (lines text))
    blocks_said d =
        d.verdict (asking form (block_keys co mo st fo)) refl (record { companies = refl; modes = refl; stations = refl; footnotes = refl })

    pub blocks_back : FileRead Timetbls form (λ c. BlockKeys c co mo st fo) h text v was is r → fine r ≡ true → fine v ≡ true
    blocks_back d g = back v _ (blocks_said d) g

-- the same for another context, where it has what the file asks for
pub said_for : (c : Context) (f : File) (form : Form) (K : Keys) (h text : List ℕ) (v : Verdict) {r : Verdict}
    → r ≡ or_else v (file_verdict (asking form K) h f (lines text)) → (fine v ≡ true → form ≡ c.form)
    → (fine v ≡ true → asked f (of K) ≡ asked f c.keys)
    → r ≡ or_else v (file_verdict c h f (lines text))
said_for c f form K h text v e p q = advance v _ _ e (λ g. same_verdict (asking form K) c h f (lines text) (p g) (q g))
