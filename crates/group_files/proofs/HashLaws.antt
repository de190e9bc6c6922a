-- What a file of groups knows of its `#`: it tags a row, names a key, and opens a group. Assumes nothing.
use Prim.Native.Nat.{ℕ}
use mathlib.Core.Path.{◌≡◌, refl, ap, ◌∙◌}
use mathlib.Core.List.{List, [], ◌∷◌, ◌++◌}
use mathlib.Core.Bool.{Bool, true, false, ◌&&◌, cond}
use lib.Dec.{eqb}
use Rattle.iff.specs.Bytes.{hash, at}
use Rattle.iff.specs.Refusals.{first_test, unless, after}
use Rattle.iff.specs.Lines.{Line, letter, is_hash}
use Rattle.iff.specs.Columns.{fields_of, laid}
use Rattle.iff.specs.Values.{readable}
use Rattle.iff.specs.Tables.{Row, tag, letterless}
use Rattle.iff.specs.declared.GroupFile.{GroupFile}
use Rattle.iff.specs.declared.GroupFile.TheVariants.{Timezone, Footnote, Changes, Xfootnote, Xchanges}
use Rattle.iff.specs.declared.File.TheVariants.{Groups}
use Rattle.iff.specs.declared.Form.{Form}
use Rattle.iff.specs.declared.GroupStand.{GroupStand}
use Rattle.iff.specs.declared.GroupStand.TheVariants.{Opening}
use Rattle.iff.specs.declared.Reason.TheVariants.{Layout, Value, Duplicate, Reference, Order}
use Rattle.iff_rules.specs.Order.{line_test, stray_tests, known_in_group, group_tag, may_follow, group_moves, group_stand}
use Rattle.iff_rules.specs.Rows.{row_of, Context}
use Rattle.iff_rules.specs.Meaning.{group_meaning}
use Rattle.iff_rules.specs.Unique.{fresh_key, fresh_in_group}
use Rattle.iff_rules.specs.References.{met_in_group}
use Rattle.iff_rules.specs.Load.{group_test}
use Rattle.records.proofs.FileLaws.{row_tag}

-- TAGS
vector_hash : (a b : Bool) → eqb (cond a hash (cond b at letterless)) hash ≡ a
vector_hash true b = refl
vector_hash false true = refl
vector_hash false false = refl

-- a tag is `#` where the letter is
hash_tag : (f : GroupFile) (x : ℕ) → eqb (group_tag f x) hash ≡ eqb x hash
hash_tag Timezone x = refl
hash_tag Footnote x = vector_hash (eqb x hash) (eqb x at)
hash_tag Changes x = refl
hash_tag Xfootnote x = vector_hash (eqb x hash) (eqb x at)
hash_tag Xchanges x = refl

-- so a row is one that names a key
pub row_hash : (f : GroupFile) (form : Form) (l : Line) → eqb (tag (row_of form (Groups f) l)) hash ≡ is_hash l
row_hash f form l = ap (λ (t : ℕ). eqb t hash) (row_tag form (Groups f) l) ∙ hash_tag f (letter l)

-- KEYS
-- a row that names nothing is fresh among any keys
fresh_later : (f : GroupFile) (form : Form) (l : Line) (seen : List ℕ) → is_hash l ≡ false → fresh_key (Groups f) seen (row_of form (Groups f) l) ≡ true
unfolding fresh_key
fresh_later f form l seen h = rw (row_hash f form l ∙ h)

-- so the keys of earlier groups are asked for at a `#` alone
pub any_keys : (c : Context) (f : GroupFile) (seen other : List ℕ) (g : List Row) (l : Line) → is_hash l ≡ false
    → group_test c f seen g l ≡ group_test c f other g l
unfolding group_test
any_keys c f seen other g l h =
    let p : fresh_key (Groups f) seen (row_of c.form (Groups f) l) ≡ true = fresh_later f c.form l seen h in
    let q : fresh_key (Groups f) other (row_of c.form (Groups f) l) ≡ true = fresh_later f c.form l other h in
    rw (p, q)

-- WHERE A GROUP STANDS
pub stand_none : group_stand [] ≡ Opening
unfolding group_stand after
stand_none = refl

-- after one row more
stands_on : (s : GroupStand) (rs : List Row) (r : Row)
    → after (λ s r. group_moves s) s (rs ++ (r ∷ [])) ≡ group_moves (after (λ s r. group_moves s) s rs)
unfolding after
stands_on s [] r = refl
stands_on s (q ∷ rs) r = stands_on (group_moves s) rs r

pub stand_next : (rs : List Row) (r : Row) → group_stand (rs ++ (r ∷ [])) ≡ group_moves (group_stand rs)
unfolding group_stand
stand_next rs r = stands_on Opening rs r

-- a line of no group is refused as a stray line is
stray : (n l v m x r : Bool)
    → first_test
    (unless n Layout ∷ unless false Order ∷ unless l Layout ∷ unless true Value ∷ unless (v && m) Value ∷ unless x Duplicate
    ∷ unless r Reference ∷ [])
    ≡ line_test (stray_tests n)
unfolding first_test line_test
stray true l v m x r = refl
stray false l v m x r = refl

pub stray_line : (c : Context) (f : GroupFile) (seen : List ℕ) (l : Line) → is_hash l ≡ false
    → group_test c f seen [] l ≡ line_test (stray_tests (known_in_group f (letter l)))
unfolding group_test line_test may_follow
stray_line c f seen l h =
    let q : eqb (group_tag f (letter l)) hash ≡ false = hash_tag f (letter l) ∙ h in
    rw (stand_none, q)
    (stray
    (known_in_group f (letter l))
    (laid l (fields_of c.form (Groups f) (letter l)))
    (readable l.body (fields_of c.form (Groups f) (letter l)))
    (group_meaning f (row_of c.form (Groups f) l))
    (fresh_key (Groups f) seen (row_of c.form (Groups f) l) && fresh_in_group f [] (row_of c.form (Groups f) l))
    (met_in_group c f (row_of c.form (Groups f) l)))
