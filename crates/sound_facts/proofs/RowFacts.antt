-- What sound rows of one table are: no key twice, and numbers of as many digits as their columns. Assumes nothing.
use Prim.Native.Nat.{ℕ, zero, suc, ◌+◌, ◌^◌, ◌≤◌, ◌<◌}
use mathlib.Core.Path.{◌≡◌, refl, ap, sym, ◌∙◌}
use mathlib.Core.List.{List, [], ◌∷◌}
use mathlib.Core.Bool.{Bool, true, false, ◌||◌, cond, true≢false}
use native.Mathlib.Omega.{arith}
use borrow.Author.Tests.{eqb-true, ltb-true, leb-true}
use lib.Dec.{eqb, leb, lit≤}
use lib.ListN.{length, get_or, drop}
use lib.Seq.{get_or-drop, drop-drop}
use Rattle.iff.specs.Bytes.{hash, at, plus, dash}
use Rattle.iff.specs.Lists.{Group, front, groups, members, all, all_of, kept, total}
use Rattle.iff.specs.Files.{limit}
use Rattle.iff.specs.Columns.{Field, picture_from, fields_of, record_fields, record_of, period_fields, station_fields, exception_fields}
use Rattle.iff.specs.Days.{day_of, day_is, period, span, longest}
use Rattle.iff.specs.Values.{word_at, word_right, words_of, words_right}
use Rattle.iff.specs.Tables.{Row, tag, is_hash_row, letterless, key_tag, key_word, keys_of, keyed}
use Rattle.iff.specs.Words.{named, hours, change_time, exception_time, first_day, last_day, line_count, stop_count}
use Rattle.iff.specs.declared.RowFile.TheVariants.{Stations}
use Rattle.iff.specs.declared.GroupFile.{GroupFile}
use Rattle.iff.specs.declared.GroupFile.TheVariants.{Timezone, Xchanges}
use Rattle.iff.specs.declared.File.{File}
use Rattle.iff.specs.declared.File.TheVariants.{Delivery, Rows, Groups, Timetbls}
use Rattle.iff.specs.declared.GroupStand.{GroupStand}
use Rattle.iff.specs.declared.GroupStand.TheVariants.{Opening, Opened, Going}
use Rattle.iff.specs.declared.Form.{Form}
use Rattle.iff_rules.specs.Rows.{Context, first_of}
use Rattle.iff_rules.specs.Order.{may_follow, may_end, group_stand, group_moves, is_period}
use Rattle.iff_rules.specs.Legs.{stops_of}
use Rattle.iff_rules.specs.Meaning.{first_meaning}
use Rattle.iff_laws.specs.TruthLaws.{both}
use Rattle.iff_desk.specs.Sound.{passes, followed_by, distinct, shaped, empty, row_size, first_size}
use Rattle.iff_desk.specs.Sound.{sound_first, sound_plain_row, sound_plain, sound_group_row, sound_group, sound_groups, sound_block, sound_timetbls}
use Rattle.iff_desk.specs.Sound.{sound_later, sound_rows}
use Rattle.iff_desk.specs.Store.{rows_of_groups, group_of, holds, period_of}
use Rattle.tables.proofs.Each.{Each}
use Rattle.walks.proofs.PassLaws.{after_last}

-- a test of several, by its number
pub one_of : (bs : List Bool) → all_of bs ≡ true → (i : ℕ) → get_or bs i true ≡ true
unfolding all_of
one_of [] e i = refl
one_of (b ∷ bs) e zero = (both b (all_of bs) e).0
one_of (b ∷ bs) e (suc i) = one_of bs (both b (all_of bs) e).1 i

-- A FIRST LINE'S ROW names nothing and opens no group
pub at_no_key : (f : File) → eqb at (key_tag f) ≡ false
at_no_key Delivery = refl
at_no_key (Rows f) = refl
at_no_key (Groups f) = refl
at_no_key Timetbls = refl

-- and neither does a row of zeros
pub zero_no_key : (f : File) → eqb 0 (key_tag f) ≡ false
zero_no_key Delivery = refl
zero_no_key (Rows f) = refl
zero_no_key (Groups f) = refl
zero_no_key Timetbls = refl

first_tag : (f : File) (d r : Row) (rs : List Row) → sound_first f d r rs ≡ true → tag r ≡ at
unfolding sound_first
first_tag f d r rs e = eqb-true (tag r) at (one_of _ e 0)

first_meaning_lem : (f : File) (d r : Row) (rs : List Row) → sound_first f d r rs ≡ true → first_meaning r ≡ true
unfolding sound_first
first_meaning_lem f d r rs e = one_of _ e 2

-- the parts of sound rows
module _ (c : Context) (d : Row) (f : File) (r : Row) (rs : List Row) (e : sound_rows c d f (r ∷ rs) ≡ true) where
  pub first_row_lem : sound_first f d r rs ≡ true
  unfolding sound_rows
  first_row_lem = one_of _ e 0

  pub first_at : tag r ≡ at
  first_at = first_tag f d r rs first_row_lem

  pub later_once : distinct (keys_of f rs) ≡ true
  unfolding sound_rows
  later_once = one_of _ e 1

  pub later_rows_lem : sound_later c f rs ≡ true
  unfolding sound_rows
  later_rows_lem = one_of _ e 2

  pub later_keys : keys_of f (r ∷ rs) ≡ keys_of f rs
  unfolding kept
  later_keys = rw (first_at, at_no_key f)

  pub later_groups : groups is_hash_row (r ∷ rs) ≡ groups is_hash_row rs
  unfolding groups
  later_groups = rw first_at

  later_stations : (key : ℕ) → kept (keyed letterless (key_word f) key) (r ∷ rs) ≡ kept (keyed letterless (key_word f) key) rs
  unfolding kept
  later_stations key = rw first_at

-- KEYS
pub keys_once_lem : (c : Context) (d : Row) (f : File) (rs : List Row) → sound_rows c d f rs ≡ true → distinct (keys_of f rs) ≡ true
unfolding distinct passes kept
keys_once_lem c d f [] e = refl
keys_once_lem c d f (r ∷ rs) e = ap distinct (later_keys c d f r rs e) ∙ later_once c d f r rs e

-- LENGTHS: the lines that the rows stand for are no longer than a file may be
pub rows_short : (c : Context) (d : Row) (f : File) (rs : List Row) → sound_rows c d f rs ≡ true
    → first_size + total (row_size c.form f) (drop 1 rs) ≤ limit
unfolding sound_rows total picture_from
rows_short c d f [] e = lit≤ tt
rows_short c d f (r ∷ rs) e = leb-true _ _ (one_of _ e 3)

-- DAYS
no_span : (last : ℕ) → span 0 last ≡ 0
unfolding span day_of day_is
no_span last = refl

pub days_few : (c : Context) (d : Row) (f : File) (rs : List Row) → sound_rows c d f rs ≡ true → span (first_day (first_of rs)) (last_day (first_of rs)) ≤ longest
unfolding first_meaning
days_few c d f [] e = omega (arith, no_span 0)
days_few c d f (r ∷ rs) e =
    let m = first_meaning_lem f d r rs (first_row_lem c d f r rs e) in
    leb-true _ _ (both (period (first_day r) (last_day r)) (leb (span (first_day r) (last_day r)) longest) m).1

-- WORDS: one field of a row at a time
words_step : (r : List ℕ) (f : Field) (fs : List Field) → words_right r (f ∷ fs) ≡ true
    → (word_right f.class f.width r ≡ true) × (words_right (drop (words_of f.class) r) fs ≡ true)
unfolding words_right
words_step r f fs e = both _ _ e

shaped_words : (fs : List Field) (r : Row) → shaped fs r ≡ true → words_right (drop 1 r) fs ≡ true
unfolding shaped
shaped_words fs r e = (both _ _ e).0

-- HOURS of a period: the second field
period_hours : (form : Form) (r : Row) → eqb (tag r) hash ≡ false → shaped (fields_of form (Groups Timezone) (tag r)) r ≡ true → hours r < 100
unfolding fields_of record_of record_fields word_right
period_hours form r n e =
    let w : words_right (drop 1 r) period_fields ≡ true = shaped_words period_fields r (rw n at e) in
    let x = (words_step _ _ _ w).1 in
    let y : word_at (drop 0 (drop 1 r)) 0 < 10 ^ 2 = ltb-true _ _ (words_step _ _ _ x).0 in
    let z : word_at (drop 0 (drop 1 r)) 0 ≡ hours r = simp (drop-drop, get_or-drop) in
    omega arith

-- A STATION'S change time: the third field
station_time : (form : Form) (r : Row) → shaped (fields_of form (Rows Stations) (tag r)) r ≡ true → change_time r < 100
unfolding fields_of record_of record_fields word_right
station_time form r e =
    let w : words_right (drop 1 r) station_fields ≡ true = shaped_words station_fields r e in
    let x = (words_step _ _ _ (words_step _ _ _ w).1).1 in
    let y : word_at (drop 1 (drop 1 (drop 1 r))) 0 < 10 ^ 2 = ltb-true _ _ (words_step _ _ _ x).0 in
    let z : word_at (drop 1 (drop 1 (drop 1 r))) 0 ≡ change_time r = simp (drop-drop, get_or-drop) in
    omega arith

-- AN EXCEPTION'S time: the sixth field
exception_time_lem : (form : Form) (r : Row) → eqb (tag r) hash ≡ false → shaped (fields_of form (Groups Xchanges) (tag r)) r ≡ true → exception_time r < 1000
unfolding fields_of record_of record_fields word_right
exception_time_lem form r n e =
    let w : words_right (drop 1 r) exception_fields ≡ true = shaped_words exception_fields r (rw n at e) in
    let a = (words_step _ _ _ (words_step _ _ _ w).1).1 in
    let x = (words_step _ _ _ (words_step _ _ _ (words_step _ _ _ a).1).1).1 in
    let left = drop 1 (drop 1 (drop 1 (drop 1 (drop 0 (drop 1 r))))) in
    let y : word_at left 0 < 10 ^ 3 = ltb-true _ _ (words_step _ _ _ x).0 in
    let z : word_at left 0 ≡ exception_time r = simp (drop-drop, get_or-drop) in
    omega arith

-- EACH ROW: of those kept, the first, or none
pub first_kept : (Q : Row → Type 0) → Q [] → (p : Row → Bool) (rs : List Row) → Each Q rs → Q (first_of (kept p rs))
unfolding kept
first_kept Q z p [] u = z
first_kept Q z p (r ∷ rs) u = go (p r) (first_kept Q z p rs u.1)
  where
    go : (b : Bool) → Q (first_of (kept p rs)) → Q (first_of (cond b (r ∷ kept p rs) (kept p rs)))
    go true h = u.0
    go false h = h

-- ROWS OF STATIONS
plain_each : (c : Context) (count : ℕ) (rs : List Row) → passes (sound_plain_row c Stations) (λ count r. suc count) count rs ≡ true
    → Each (λ r. change_time r < 100) rs
unfolding passes sound_plain_row
plain_each c count [] e = tt
plain_each c count (r ∷ rs) e =
    let b = both _ _ e in
    (station_time c.form r (one_of _ b.0 1), plain_each c (suc count) rs b.1)

pub station_times : (c : Context) (d : Row) (rs : List Row) → sound_rows c d (Rows Stations) rs ≡ true → (key : ℕ)
    → change_time (first_of (kept (keyed (key_tag (Rows Stations)) (key_word (Rows Stations)) key) rs)) < 100
unfolding sound_plain kept
station_times c d [] e key = omega arith
station_times c d (r ∷ rs) e key =
    rw (later_stations c d (Rows Stations) r rs e key)
    (first_kept (λ r. change_time r < 100) (omega arith) (keyed letterless (key_word (Rows Stations)) key) rs
    (plain_each c 0 rs (later_rows_lem c d (Rows Stations) r rs e)))

-- ROWS OF A GROUP behind its `#`
stands_on : (rs : List Row) (r : Row) → group_stand (followed_by rs r) ≡ group_moves (group_stand rs)
unfolding group_stand
stands_on rs r = after_last (λ s r. group_moves s) Opening rs r

-- what such a row is told by: where the group stands, and its shape
abbrev Behind : Context → GroupFile → (Row → Type 0) → Type 0
Behind c f Q = (s : GroupStand) (r : Row) → may_follow f (group_moves s) (tag r) ≡ true → shaped (fields_of c.form (Groups f) (tag r)) r ≡ true → Q r

-- what holds of the rows of every group that passes a test holds of those of the group of any key
module _ (test : Group Row → Bool) (P : List Row → Type 0) (none : P []) (each : (g : Group Row) → test g ≡ true → P (members g)) where
  groups_key : (key : ℕ) (gs : List (Group Row)) → all test gs ≡ true → P (rows_of_groups (kept (λ g. eqb (named g.top) key) gs))
  unfolding all kept
  groups_key key [] e = none
  groups_key key (g ∷ gs) e =
      let b = both _ _ e in
      go (eqb (named g.top) key) (each g b.0) (groups_key key gs b.1)
    where
      go : (b : Bool) → P (members g) → P (rows_of_groups (kept (λ g. eqb (named g.top) key) gs))
          → P (rows_of_groups (cond b (g ∷ kept (λ g. eqb (named g.top) key) gs) (kept (λ g. eqb (named g.top) key) gs)))
      go true h u = h
      go false h u = u

-- and of a sound file with groups it may be the rows behind the `#`
module _ (c : Context) (f : GroupFile) (P : List Row → Type 0) (none : P []) (each : (g : Group Row) → sound_group c f g ≡ true → P g.rest) where
  pub key_group : (d : Row) (rs : List Row) → sound_rows c d (Groups f) rs ≡ true → (key : ℕ) → P (drop 1 (group_of key rs))
  unfolding group_of groups kept sound_groups
  key_group d [] e key = none
  key_group d (r ∷ rs) e key =
      let l = later_rows_lem c d (Groups f) r rs e in
      rw (later_groups c d (Groups f) r rs e)
      (groups_key (sound_group c f) (λ rs. P (drop 1 rs)) none each key (groups is_hash_row rs)
      (both (empty (front is_hash_row rs)) (all (sound_group c f) (groups is_hash_row rs)) l).1)

-- A SERVICE'S BLOCK, by what its `#` row tells: its lines and its stops
abbrev pub ToldBlock : List Row → Type 0
ToldBlock rs = (length rs ≡ line_count (first_of rs)) × (stops_of rs ≡ stop_count (first_of rs))

module _ (c : Context) where
  none_told : ToldBlock []
  unfolding kept
  none_told = (refl, refl)

  block_told : (g : Group Row) → sound_block c g ≡ true → ToldBlock (members g)
  unfolding sound_block
  block_told g e = (sym (eqb-true _ _ (one_of _ e 3)), sym (eqb-true _ _ (one_of _ e 4)))

  pub key_block : (d : Row) (rs : List Row) → sound_rows c d Timetbls rs ≡ true → (key : ℕ) → ToldBlock (group_of key rs)
  unfolding group_of groups kept sound_timetbls
  key_block d [] e key = none_told
  key_block d (r ∷ rs) e key =
      let l = later_rows_lem c d Timetbls r rs e in
      rw (later_groups c d Timetbls r rs e)
      (groups_key (sound_block c) ToldBlock none_told block_told key (groups is_hash_row rs)
      (both (empty (front is_hash_row rs)) (all (sound_block c) (groups is_hash_row rs)) l).1)

module _ (c : Context) (f : GroupFile) (Q : Row → Type 0) (q : Behind c f Q) where
  behind_each : (earlier : List Row) (x : Row) (rs : List Row) → passes (sound_group_row c f) followed_by (followed_by earlier x) rs ≡ true → Each Q rs
  unfolding passes sound_group_row
  behind_each earlier x [] e = tt
  behind_each earlier x (r ∷ rs) e =
      let b = both _ _ e in (
        q (group_stand earlier) r (rw (stands_on earlier x) at (one_of _ b.0 0)) (one_of _ b.0 1),
        behind_each (followed_by earlier x) r rs b.1,
      )

  behind_first : (top : Row) (rs : List Row) → passes (sound_group_row c f) followed_by [] (top ∷ rs) ≡ true → Each Q rs
  unfolding passes
  behind_first top rs e =
      behind_each [] top rs (both (sound_group_row c f [] top) (passes (sound_group_row c f) followed_by (followed_by [] top) rs) e).1

  pub group_each : (g : Group Row) → sound_group c f g ≡ true → Each Q g.rest
  unfolding sound_group
  group_each g e =
      behind_first g.top g.rest
      (both (passes (sound_group_row c f) followed_by [] (members g)) (may_end f (group_stand (members g))) e).0

  -- of the group of any key
  pub key_each : (d : Row) (rs : List Row) → sound_rows c d (Groups f) rs ≡ true → (key : ℕ) → Each Q (drop 1 (group_of key rs))
  key_each d rs e key = key_group c f (Each Q) tt group_each d rs e key

-- a period's row has no other tag than its two letters, and an exception's opens no group
module _ (k : ℕ) (n : eqb plus k ≡ false) (m : eqb dash k ≡ false) where
  no_other : (x : ℕ) → is_period x ≡ true → eqb x k ≡ false
  no_other x e = go (eqb x plus) (eqb x dash) refl refl e
    where
      go : (a b : Bool) → eqb x plus ≡ a → eqb x dash ≡ b → (a || b) ≡ true → eqb x k ≡ false
      go true b p q e = rw (eqb-true x plus p, n)
      go false true p q e = rw (eqb-true x dash q, m)
      go false false p q e = absurd (true≢false (sym e))

  pub period_follows : (s : GroupStand) (x : ℕ) → may_follow Timezone (group_moves s) x ≡ true → eqb x k ≡ false
  unfolding may_follow
  period_follows Opening x e = no_other x e
  period_follows Opened x e = no_other x e
  period_follows Going x e = no_other x e

exception_follows : (s : GroupStand) (x : ℕ) → may_follow Xchanges (group_moves s) x ≡ true → eqb x hash ≡ false
unfolding may_follow
exception_follows Opening x e = rw (eqb-true x dash e)
exception_follows Opened x e = rw (eqb-true x dash e)
exception_follows Going x e = rw (eqb-true x dash e)

pub period_few : (c : Context) (d : Row) (rs : List Row) → sound_rows c d (Groups Timezone) rs ≡ true → (zone day : ℕ) → hours (period_of rs zone day) < 100
unfolding period_of
period_few c d rs e zone day =
    first_kept (λ r. hours r < 100) (omega arith) (holds day) (drop 1 (group_of zone rs))
    (key_each c Timezone (λ r. hours r < 100) (λ s r m h. period_hours c.form r (period_follows hash refl refl s (tag r) m) h) d rs e zone)

pub exceptions_few : (c : Context) (d : Row) (rs : List Row) → sound_rows c d (Groups Xchanges) rs ≡ true → (station : ℕ)
    → Each (λ r. exception_time r < 1000) (drop 1 (group_of station rs))
exceptions_few c d rs e station =
    key_each c Xchanges (λ r. exception_time r < 1000) (λ s r m h. exception_time_lem c.form r (exception_follows s (tag r) m) h) d rs e station
