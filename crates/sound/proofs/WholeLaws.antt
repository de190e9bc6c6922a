-- Soundness put together again: a chain of tests over the files, and the parts of the whole. Assumes nothing.
use Rattle.std.specs.Prelude.{None, Some}
use Prim.Native.Nat.{ℕ, suc, ◌+◌, ◌≤◌, ◌<◌}
use mathlib.Core.Path.{◌≡◌, refl, ap, sym, ◌∙◌}
use mathlib.Core.List.{List, [], ◌∷◌}
use mathlib.Core.Bool.{Bool, true, false, ◌&&◌, cond, and-true, and-false, false≢true}
use native.Mathlib.Omega.{arith}
use borrow.Author.Tests.{le-ltb, lt-ltb, ltb-true, ltb-false}
use lib.Dec.{ltb, leb}
use lib.ListN.{length, get_or, drop}
use Rattle.iff.specs.Lists.{all, all_of, total, has}
use Rattle.iff.specs.Files.{PerFile, of, in_order, limit}
use Rattle.iff.specs.Columns.{form424}
use Rattle.iff.specs.Days.{span}
use Rattle.iff.specs.Words.{own_company, first_day, last_day}
use Rattle.iff.specs.Tables.{Row, rows_in, keys_of}
use Rattle.iff.specs.declared.RowFile.TheVariants.{Company, Country, Trnsmode, Stations}
use Rattle.iff.specs.declared.GroupFile.TheVariants.{Timezone, Footnote, Changes, Xfootnote, Xchanges}
use Rattle.iff.specs.declared.File.{File}
use Rattle.iff.specs.declared.File.TheVariants.{Delivery, Rows, Groups, Timetbls}
use Rattle.iff.specs.declared.Form.{Form}
use Rattle.iff_rules.specs.Rows.{Context, context_of, first_of, form_of}
use Rattle.iff_rules.specs.References.{names}
use Rattle.iff_desk.specs.Sound.{sound, sound_table, sound_rows, sound_first, sound_later, distinct, row_size, first_size, rows_of_tables, held_in}
use Rattle.keys.specs.Lookup.{keys_in}
use Rattle.keys.proofs.Among.{keys_counted}
use Rattle.references.specs.Agree.{StationKeys, GroupKeysAmong, BlockKeysAmong}
use Rattle.sound.specs.declared.UsedRows.{UsedRows}
use Rattle.slots.specs.Slots.{Index}
use Rattle.walks.proofs.TableLaws.{tag_first}
use Rattle.sound_row_walks.proofs.UsedLaws.{room_ends, rows_end, row_used}
use Rattle.sound_frames.specs.Frames.{framed_rows, framed}
use Rattle.sound_behind.specs.Behind.{behind}
use Rattle.sound.specs.Whole.{Counted, there, all_there, but_timetbls, all_framed, all_behind, timetbls_sound, SoundTold}

-- A CHAIN OF TESTS, each of which hands a refusal on, is the test of all but TIMETBLS
back : (b x r s : Bool) → r ≡ (b && x) → (r && s) ≡ (b && (x && s))
back true x r s e = ap (λ y. y && s) e
back false x r s e = ap (λ y. y && s) e

pub in_order_lem : (p : File → Bool) (b1 b2 b3 b4 b5 b6 b7 b8 b9 b10 : Bool)
    → b1 ≡ p Delivery
    → b2 ≡ (b1 && p (Rows Company))
    → b3 ≡ (b2 && p (Rows Country))
    → b4 ≡ (b3 && p (Rows Trnsmode))
    → b5 ≡ (b4 && p (Groups Timezone))
    → b6 ≡ (b5 && p (Rows Stations))
    → b7 ≡ (b6 && p (Groups Footnote))
    → b8 ≡ (b7 && p (Groups Changes))
    → b9 ≡ (b8 && p (Groups Xfootnote))
    → b10 ≡ (b9 && p (Groups Xchanges))
    → b10 ≡ all (but_timetbls p) in_order
unfolding all
in_order_lem p b1 b2 b3 b4 b5 b6 b7 b8 b9 b10 e1 e2 e3 e4 e5 e6 e7 e8 e9 e10 =
    sym (and-true b10)
    ∙ back b9 (p (Groups Xchanges)) b10 _ e10
    ∙ back b8 (p (Groups Xfootnote)) b9 _ e9
    ∙ back b7 (p (Groups Changes)) b8 _ e8
    ∙ back b6 (p (Groups Footnote)) b7 _ e7
    ∙ back b5 (p (Rows Stations)) b6 _ e6
    ∙ back b4 (p (Groups Timezone)) b5 _ e5
    ∙ back b3 (p (Rows Trnsmode)) b4 _ e4
    ∙ back b2 (p (Rows Country)) b3 _ e3
    ∙ back b1 (p (Rows Company)) b2 _ e2
    ∙ ap (λ b. b && all (but_timetbls p) (drop 1 in_order)) e1

-- WHICH TABLES ARE THERE, by their rows counted
abbrev pub by_counts : UsedRows → Bool → Bool
by_counts u timetbls =
    (ltb 0 u.delivery && (ltb 0 u.company && ltb 0 u.country))
    && ((ltb 0 u.trnsmode && (ltb 0 u.timezone && ltb 0 u.stations))
    && (ltb 0 u.footnote && (timetbls && cond (ltb 0 u.xchanges) (ltb 0 u.xfootnote) true)))

three_then : (a b c s : Bool) → ((a && (b && c)) && s) ≡ (a && (b && (c && s)))
three_then true true c s = refl
three_then true false c s = refl
three_then false b c s = refl

last_three : (a b : Bool) → cond a b true ≡ (true && (cond a b true && (true && true)))
last_three true b = sym (and-true b)
last_three false b = refl

pub counts_there : (T : PerFile (List ℕ)) (u : UsedRows) → Counted T u → (b : Bool) → b ≡ ltb 0 (length (rows_in Timetbls T.timetbls))
    → by_counts u b ≡ all_there (rows_of_tables T)
unfolding all_there all
counts_there T u k b m =
    let h : File → Bool = held_in (rows_of_tables T) in
    rw (k.delivery, k.company, k.country, k.trnsmode, k.timezone, k.stations, k.footnote, m, k.xfootnote, k.xchanges)
    (three_then (h Delivery) (h (Rows Company)) (h (Rows Country)) _
    ∙ ap (λ s. h Delivery && (h (Rows Company) && (h (Rows Country) && s)))
    (three_then (h (Rows Trnsmode)) (h (Groups Timezone)) (h (Rows Stations)) _
    ∙ ap (λ s. h (Rows Trnsmode) && (h (Groups Timezone) && (h (Rows Stations) && (h (Groups Footnote) && (h Timetbls && s)))))
    (last_three (h (Groups Xchanges)) (h (Groups Xfootnote)))))

-- TIMETBLS has rows where there is room for one and its first word is not 0
module _ (t : List ℕ) where
  pub no_room : length t < 7 → false ≡ ltb 0 (length (rows_in Timetbls t))
  no_room h = sym (le-ltb 0 _ (room_ends t 0 (omega arith) (omega arith)))

  pub by_first_word : 7 ≤ length t → ltb 0 (get_or t 0 0) ≡ ltb 0 (length (rows_in Timetbls t))
  by_first_word h = go (ltb 0 (get_or t 0 0)) refl
    where
      go : (b : Bool) → ltb 0 (get_or t 0 0) ≡ b → ltb 0 (get_or t 0 0) ≡ ltb 0 (length (rows_in Timetbls t))
      go true e =
          let some = ltb-true 0 (get_or t 0 0) e in
          e ∙ sym (lt-ltb 0 _ (row_used t 0 (omega arith) (omega arith) (get_or t 0 0) (tag_first Timetbls t) (λ z. omega (arith, some))))
      go false e =
          let none = ltb-false 0 (get_or t 0 0) e in
          e ∙ sym (le-ltb 0 _ (rows_end t 0 (omega arith) (omega arith) (get_or t 0 0) (tag_first Timetbls t) (omega (arith, none))))

-- DELIVERY has its first line alone
pub one_row : (c : Context) (rs : List Row) → ltb (length rs) 2 ≡ behind c Delivery rs
unfolding behind
one_row c [] = refl
one_row c (r ∷ []) = refl
one_row c (r ∷ s ∷ rs) = le-ltb (suc (suc (length rs))) 2 (omega arith)

-- THE WHOLE
of_rows_lem : (T : PerFile (List ℕ)) (f : File) → of (rows_of_tables T) f ≡ rows_in f (of T f)
of_rows_lem T Delivery = refl
of_rows_lem T (Rows Company) = refl
of_rows_lem T (Rows Country) = refl
of_rows_lem T (Rows Trnsmode) = refl
of_rows_lem T (Rows Stations) = refl
of_rows_lem T (Groups Timezone) = refl
of_rows_lem T (Groups Footnote) = refl
of_rows_lem T (Groups Changes) = refl
of_rows_lem T (Groups Xfootnote) = refl
of_rows_lem T (Groups Xchanges) = refl
of_rows_lem T Timetbls = refl

parts_of : (n a d l s z : Bool) → (n && ((a && (d && (l && (s && true)))) && (z && true))) ≡ (n && (((a && (d && s)) && z) && l))
parts_of n a d true s z = rw (and-true s, and-true z, and-true ((a && (d && s)) && z))
parts_of n a d false s z = rw (and-false d, and-false a, and-false ((a && (d && s)) && z))

and_four : (a b c d : Bool) → ((a && b) && (c && d)) ≡ ((a && c) && (b && d))
and_four true true c d = refl
and_four true false true d = refl
and_four true false false d = refl
and_four false b c d = refl

all_both : (p q : File → Bool) (fs : List File) → all (λ f. p f && q f) fs ≡ (all p fs && all q fs)
unfolding all
all_both p q [] = refl
all_both p q (f ∷ fs) = ap (λ b. (p f && q f) && b) (all_both p q fs) ∙ and_four (p f) (q f) (all p fs) (all q fs)

-- one table: there where it is needed, its frame, and its rows behind the first line's
module _ (c : Context) (R : PerFile (List Row)) (f : File) (t : List ℕ) where
  rows_parted : (rs : List Row) (n z : Bool)
      → all_of (n ∷ sound_rows c (first_of R.delivery) f rs ∷ z ∷ [])
      ≡ (n && ((framed_rows c.form (first_of R.delivery) f rs && z) && behind c f rs))
  unfolding all_of sound_rows framed_rows behind
  rows_parted [] n z = ap (λ b. n && b) (and-true z ∙ sym (and-true z))
  rows_parted (r ∷ rs) n z =
      parts_of n (sound_first f (first_of R.delivery) r rs) (distinct (keys_of f rs)) (sound_later c f rs)
      (leb (first_size + total (row_size c.form f) rs) limit) z

  table_parted : of R f ≡ rows_in f t
      → sound_table c R f t ≡ (there R f && (framed c.form (first_of R.delivery) f t && behind c f (rows_in f t)))
  unfolding sound_table framed
  table_parted e = rw e (rows_parted (rows_in f t) _ _)

all_same : (p q : File → Bool) (fs : List File) → ((f : File) → p f ≡ q f) → all p fs ≡ all q fs
unfolding all
all_same p q [] e = refl
all_same p q (f ∷ fs) e = rw (e f, all_same p q fs e)

-- one of the files asked for before the others
over : (a x s r : Bool) → r ≡ (x && s) → (a && r) ≡ (x && (a && s))
over true x s r e = e
over false x s r e = sym (and-false x)

apart : (p : File → Bool) → all p in_order ≡ (p Timetbls && all (but_timetbls p) in_order)
unfolding all
apart p =
    let x = p Timetbls in
    over (p Delivery) x _ _
    (over (p (Rows Company)) x _ _
    (over (p (Rows Country)) x _ _
    (over (p (Rows Trnsmode)) x _ _
    (over (p (Groups Timezone)) x _ _ (over (p (Rows Stations)) x _ _ (over (p (Groups Footnote)) x _ _ refl))))))

both_apart : (p q : File → Bool)
    → all (λ f. p f && q f) in_order ≡ ((p Timetbls && q Timetbls) && (all (but_timetbls p) in_order && all (but_timetbls q) in_order))
both_apart p q =
    apart (λ f. p f && q f)
    ∙ ap (λ b. (p Timetbls && q Timetbls) && b)
    (all_same (but_timetbls (λ f. p f && q f)) (λ f. but_timetbls p f && but_timetbls q f) in_order but_both
    ∙ all_both (but_timetbls p) (but_timetbls q) in_order)
  where
    but_both : (f : File) → but_timetbls (λ g. p g && q g) f ≡ (but_timetbls p f && but_timetbls q f)
    but_both Delivery = refl
    but_both (Rows f) = refl
    but_both (Groups f) = refl
    but_both Timetbls = refl

-- all of them, and DELIVERY's company
pub whole : (T : PerFile (List ℕ))
    → sound T
    ≡ ((all_there (rows_of_tables T)
    && (timetbls_sound (context_of (rows_of_tables T)) (context_of (rows_of_tables T)).form (first_of (rows_in Delivery T.delivery)) T.timetbls
    && (all_framed (context_of (rows_of_tables T)).form (first_of (rows_in Delivery T.delivery)) T && all_behind (context_of (rows_of_tables T)) T)))
    && names (context_of (rows_of_tables T)) (Rows Company) (own_company (first_of (rows_in Delivery T.delivery))))
unfolding sound all_there all_framed all_behind
whole T =
    let R = rows_of_tables T in
    let c = context_of R in
    ap (λ b. b && names c (Rows Company) (own_company (first_of (rows_in Delivery T.delivery))))
    (all_same _ _ in_order (λ f. table_parted c R f (of T f) (of_rows_lem T f))
    ∙ all_both (there R) (λ f. framed c.form (first_of R.delivery) f (of T f) && behind c f (rows_in f (of T f))) in_order
    ∙ ap (λ b. all (there R) in_order && b)
    (both_apart (λ f. framed c.form (first_of R.delivery) f (of T f)) (λ f. behind c f (rows_in f (of T f)))))

-- WHAT ROWS NAME is looked up among the rows counted
pub station_keys : (T : PerFile (List ℕ)) → StationKeys (context_of (rows_of_tables T)) T.country T.timezone
unfolding context_of
station_keys T = record { countries = refl; zones = refl }

pub group_keys_lem : (T : PerFile (List ℕ)) (u : UsedRows) → Counted T u → (services : ℕ) → services ≡ length (rows_in Timetbls T.timetbls)
    → GroupKeysAmong (context_of (rows_of_tables T))
    (record { companies = u.company; modes = u.trnsmode; stations = u.stations; services = services; xfootnotes = u.xfootnote })
    T.company T.trnsmode T.stations T.timetbls T.xfootnote
unfolding context_of
group_keys_lem T u k services m =
    record {
      companies = sym (keys_counted (Rows Company) T.company u.company k.company);
      modes = sym (keys_counted (Rows Trnsmode) T.trnsmode u.trnsmode k.trnsmode);
      stations = sym (keys_counted (Rows Stations) T.stations u.stations k.stations);
      services = sym (keys_counted Timetbls T.timetbls services m);
      xfootnotes = sym (keys_counted (Groups Xfootnote) T.xfootnote u.xfootnote k.xfootnote);
    }

pub block_keys_lem : (T : PerFile (List ℕ)) (u : UsedRows) → Counted T u
    → BlockKeysAmong (context_of (rows_of_tables T))
    (record { companies = u.company; modes = u.trnsmode; stations = u.stations; footnotes = u.footnote })
    T.company T.trnsmode T.stations T.footnote
unfolding context_of
block_keys_lem T u k =
    record {
      companies = sym (keys_counted (Rows Company) T.company u.company k.company);
      modes = sym (keys_counted (Rows Trnsmode) T.trnsmode u.trnsmode k.trnsmode);
      stations = sym (keys_counted (Rows Stations) T.stations u.stations k.stations);
      footnotes = sym (keys_counted (Groups Footnote) T.footnote u.footnote k.footnote);
    }

-- THE ANSWER, test by test
and_left : (a b : Bool) → (a && b) ≡ true → a ≡ true
and_left true b e = refl
and_left false b e = absurd (false≢true e)

module _ (T : PerFile (List ℕ)) where
  pub not_there : all_there (rows_of_tables T) ≡ false → false ≡ sound T
  not_there e = sym (whole T ∙ rw e)

  -- DELIVERY has rows where all that is needed is there
  pub delivery_held : all_there (rows_of_tables T) ≡ true → 0 < length (rows_in Delivery T.delivery)
  unfolding all_there all
  delivery_held e = ltb-true 0 (length (rows_in Delivery T.delivery)) (and_left _ _ e)

  -- so has TIMETBLS
  pub timetbls_held : all_there (rows_of_tables T) ≡ true → 0 < length (rows_in Timetbls T.timetbls)
  unfolding all_there
  timetbls_held e =
      ltb-true 0 (length (rows_in Timetbls T.timetbls)) (and_left _ _ (sym (apart (there (rows_of_tables T))) ∙ e))

  module _ (first : Row) (d : first ≡ first_of (rows_in Delivery T.delivery)) where
    module _ (form : Form) (g : form ≡ form_of first) (t : all_there (rows_of_tables T) ≡ true) where
      same_form : (context_of (rows_of_tables T)).form ≡ form
      unfolding context_of
      same_form = sym (g ∙ ap form_of d)

      pub form_is : form ≡ (context_of (rows_of_tables T)).form
      form_is = sym same_form

      whole_by : sound T
          ≡ ((all_there (rows_of_tables T)
          && (timetbls_sound (context_of (rows_of_tables T)) form first T.timetbls && (all_framed form first T && all_behind (context_of (rows_of_tables T)) T)))
          && names (context_of (rows_of_tables T)) (Rows Company) (own_company first))
      whole_by = whole T ∙ rw (same_form, ← d)

      pub not_framed : all_framed form first T ≡ false → false ≡ sound T
      not_framed e = sym (whole_by ∙ rw (t, e, and-false))

      pub not_timetbls : timetbls_sound (context_of (rows_of_tables T)) form first T.timetbls ≡ false → false ≡ sound T
      not_timetbls m = sym (whole_by ∙ rw (t, m))

      pub not_behind : all_behind (context_of (rows_of_tables T)) T ≡ false → false ≡ sound T
      not_behind f = sym (whole_by ∙ rw (t, f, and-false, and-false))

      pub by_company : all_framed form first T ≡ true → timetbls_sound (context_of (rows_of_tables T)) form first T.timetbls ≡ true
          → all_behind (context_of (rows_of_tables T)) T ≡ true → has (own_company first) (keys_in (Rows Company) T.company) ≡ sound T
      unfolding context_of
      by_company e m f = sym (whole_by ∙ rw (t, m, e, f))

-- WHAT IS TOLD, with slots that are `ps` at the end
module _ (T : PerFile (List ℕ)) (ps : List ℕ) where
  pub unsound : false ≡ sound T → SoundTold T ps None
  unsound e = record { says = e; services = λ q. absurd (let z : ◌≡◌ {A = ℕ} 0 1 = cc in omega arith) }

  module _ (e : true ≡ sound T) where
    pub hinted : SoundTold T ps (Some false)
    hinted = record { says = e; services = λ q. let z : false ≡ true = cc in absurd (false≢true z) }

    -- they were an index before, and stayed as they were
    pub indexed : (told : Bool) (qs : List ℕ) → ps ≡ qs
        → (told ≡ true → Index Timetbls T.timetbls (length (rows_in Timetbls T.timetbls)) (length qs) qs) → SoundTold T ps (Some told)
    indexed told qs same i = record { says = e; services = λ q. let z : told ≡ true = cc in rw same (i z) }

-- a form by its first line
pub form_span : (r : Row) (days : ℕ) → days ≡ span (first_day r) (last_day r) → form424 days ≡ form_of r
unfolding form_of
form_span r days e = ap form424 e
