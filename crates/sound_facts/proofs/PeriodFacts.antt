-- "Periods of one zone do not overlap", in sound tables: one of them at most holds a day, so it is the zone's period on that day. Assumes nothing.
use Rattle.std.specs.Prelude.{None, Option, Some}
use Prim.Native.Nat.{ℕ, zero, suc, ◌<◌}
use mathlib.Core.Path.{◌≡◌, refl, ap, sym, ◌∙◌}
use mathlib.Core.List.{List, [], ◌∷◌, ◌++◌}
use mathlib.Core.Bool.{Bool, true, false, ◌&&◌, ◌||◌, not, cond, true≢false}
use native.Mathlib.Omega.{arith}
use borrow.Author.Tests.{leb-true, le-leb, not-true}
use lib.Dec.{eqb, leb}
use lib.ListN.{length, get_or, drop}
use Rattle.iff.specs.Bytes.{hash}
use Rattle.iff.specs.Lists.{Group, members, any, kept}
use Rattle.iff.specs.Days.{day_of, in_turn, within}
use Rattle.iff.specs.Tables.{Row, tag}
use Rattle.iff.specs.Words.{period_first, period_last}
use Rattle.iff.specs.declared.GroupFile.TheVariants.{Timezone}
use Rattle.iff.specs.declared.File.TheVariants.{Groups}
use Rattle.iff_rules.specs.Rows.{Context, first_of}
use Rattle.iff_rules.specs.Order.{may_end, group_stand}
use Rattle.iff_rules.specs.Unique.{overlap, fresh_in_group}
use Rattle.iff_laws.specs.TruthLaws.{both}
use Rattle.iff_desk.specs.Sound.{passes, followed_by, sound_group_row, sound_group, sound_rows}
use Rattle.iff_desk.specs.Store.{no_row, group_of, holds, period_of, is_there}
use Rattle.tables.proofs.Each.{Each}
use Rattle.sound_facts.proofs.RowFacts.{one_of, key_group, group_each, key_each, period_follows}

-- PERIODS THAT SHARE A DAY overlap
in_both : (a b c d : Option ℕ) (day : ℕ) → within a (Some day) b ≡ true → within c (Some day) d ≡ true → (in_turn a d && in_turn c b) ≡ true
in_both (Some a) (Some b) (Some c) (Some d) day p q =
    let x = both (leb a day) (leb day b) p in
    let y = both (leb c day) (leb day d) q in
    rw (le-leb a d (omega (arith, leb-true a day x.0, leb-true day d y.1)), le-leb c b (omega (arith, leb-true c day y.0, leb-true day b x.1)))
in_both (Some a) (Some b) (Some c) None day p q = absurd (true≢false (sym q))
in_both (Some a) (Some b) None d day p q = absurd (true≢false (sym q))
in_both (Some a) None c d day p q = absurd (true≢false (sym p))
in_both None b c d day p q = absurd (true≢false (sym p))

shared : (day : ℕ) (x r : Row) → holds day x ≡ true → holds day r ≡ true → overlap x r ≡ true
unfolding holds
shared day x r p q = in_both (day_of (period_first x)) (day_of (period_last x)) (day_of (period_first r)) (day_of (period_last r)) day p q

-- ROWS OF WHICH NO TWO OVERLAP
abbrev Apart : List Row → Type 0
Apart [] = Unit {0}
Apart (r ∷ rs) = Each (λ x. overlap x r ≡ false) rs × Apart rs

each_at : (Q : Row → Type 0) (rs : List Row) → Each Q rs → (i : ℕ) → i < length rs → Q (get_or rs i no_row)
each_at Q [] u i h = absurd (omega arith)
each_at Q (x ∷ rs) u zero h = u.0
each_at Q (x ∷ rs) u (suc i) h = each_at Q rs u.1 i (omega arith)

-- the one that holds a day is the first that does
alone : (day : ℕ) (rs : List Row) → Apart rs → (i : ℕ) → i < length rs → holds day (get_or rs i no_row) ≡ true
    → first_of (kept (holds day) rs) ≡ get_or rs i no_row
unfolding kept
alone day [] a i h e = absurd (omega arith)
alone day (r ∷ rs) a zero h e = rw e
alone day (r ∷ rs) a (suc i) h e = go (holds day r) refl (alone day rs a.1 i (omega arith) e)
  where
    go : (b : Bool) → holds day r ≡ b → first_of (kept (holds day) rs) ≡ get_or rs i no_row
        → first_of (cond b (r ∷ kept (holds day) rs) (kept (holds day) rs)) ≡ get_or rs i no_row
    go true p q = absurd (true≢false (sym (shared day (get_or rs i no_row) r e p) ∙ each_at (λ x. overlap x r ≡ false) rs a.0 i (omega arith)))
    go false p q = q

-- A SOUND ZONE'S PERIODS
neither : (a b : Bool) → (a || b) ≡ false → (a ≡ false) × (b ≡ false)
neither true b e = absurd (true≢false e)
neither false b e = (refl, e)

any_last : (p : Row → Bool) (es : List Row) (r : Row) → any p (es ++ (r ∷ [])) ≡ false → (any p es ≡ false) × (p r ≡ false)
unfolding any
any_last p [] r e = (refl, (neither (p r) false e).0)
any_last p (x ∷ es) r e =
    let n = neither (p x) (any p (es ++ (r ∷ []))) e in
    let m = any_last p es r n.1 in
    (rw (n.0, m.0), m.1)

each_split : (es : List Row) (r : Row) (rs : List Row) → Each (λ x. any (overlap x) (es ++ (r ∷ [])) ≡ false) rs
    → Each (λ x. any (overlap x) es ≡ false) rs × Each (λ x. overlap x r ≡ false) rs
each_split es r [] u = (tt, tt)
each_split es r (x ∷ rs) u =
    let a = any_last (overlap x) es r u.0 in
    let b = each_split es r rs u.1 in
    ((a.0, b.0), (a.1, b.1))

module _ (c : Context) where
  -- each is told apart from those before it
  apart_on : (top : Row) (es rs : List Row) → Each (λ r. eqb (tag r) hash ≡ false) rs
      → passes (sound_group_row c Timezone) followed_by (top ∷ es) rs ≡ true → Each (λ x. any (overlap x) es ≡ false) rs × Apart rs
  unfolding passes sound_group_row fresh_in_group
  apart_on top es [] u e = (tt, tt)
  apart_on top es (r ∷ rs) u e =
      let b = both _ _ e in
      let n = apart_on top (es ++ (r ∷ [])) rs u.1 b.1 in
      let m = each_split es r rs n.0 in
      let f : not (any (overlap r) es) ≡ true = rw u.0 at (one_of _ b.0 3) in
      ((not-true _ f, m.0), (m.1, n.1))

  group_apart : (g : Group Row) → sound_group c Timezone g ≡ true → Apart g.rest
  unfolding sound_group passes
  group_apart g e =
      let p = (both (passes (sound_group_row c Timezone) followed_by [] (members g)) (may_end Timezone (group_stand (members g))) e).0 in
      (apart_on g.top [] g.rest (group_each c Timezone (λ r. eqb (tag r) hash ≡ false) (λ s r m h. period_follows hash refl refl s (tag r) m) g e)
      (both (sound_group_row c Timezone [] g.top) (passes (sound_group_row c Timezone) followed_by (followed_by [] g.top) g.rest) p).1).1

  -- the period that holds a day, wherever it stands among the zone's, is the zone's period on that day
  pub period_alone : (d : Row) (rs : List Row) → sound_rows c d (Groups Timezone) rs ≡ true → (zone day i : ℕ)
      → i < length (drop 1 (group_of zone rs)) → holds day (get_or (drop 1 (group_of zone rs)) i no_row) ≡ true
      → period_of rs zone day ≡ get_or (drop 1 (group_of zone rs)) i no_row
  unfolding period_of
  period_alone d rs e zone day i h k =
      alone day (drop 1 (group_of zone rs)) (key_group c Timezone Apart tt group_apart d rs e zone) i h k

  -- and a period that stands among a zone's is there
  pub period_there : (d : Row) (rs : List Row) → sound_rows c d (Groups Timezone) rs ≡ true → (zone i : ℕ) → i < length (drop 1 (group_of zone rs))
      → is_there (get_or (drop 1 (group_of zone rs)) i no_row) ≡ true
  period_there d rs e zone i h =
      each_at (λ r. is_there r ≡ true) (drop 1 (group_of zone rs))
      (key_each c Timezone (λ r. is_there r ≡ true) (λ s r m k. ap not (period_follows 0 refl refl s (tag r) m)) d rs e zone) i h
