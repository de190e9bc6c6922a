-- Laws of days: the table of months is small and rises, the closed form counts the days of the years, a day's number and a span are small.
-- Assumes nothing.
use Rattle.std.specs.Prelude.{None, Option, Some}
use Prim.Native.Nat.{ℕ, zero, suc, ◌+◌, ◌-◌, ◌*◌, ◌/◌, ◌%◌, ◌≤◌, ◌<◌}
use mathlib.Core.Path.{◌≡◌, refl, ◌∙◌}
use mathlib.Core.Bool.{Bool, true, false, cond, ◌&&◌}
use mathlib.Core.List.{List, [], ◌∷◌}
use native.Mathlib.Numerals.{add-one}
use native.Mathlib.Omega.{arith}
use lib.Dec.{eqb, ltb, leb}
use lib.ListN.{get_or, length}
use borrow.Author.Tests.{eqb-true, eqb-false, ltb-true, ltb-false, leb-true, le-leb}
use Rattle.iff.specs.Days.{
  leap_year,
  months,
  days_before,
  days_in,
  year_days,
  years_before,
  day_is,
  day_of,
  in_turn,
  period,
  span_of,
  span,
  within,
  in_period,
  since,
  day_in,
}

-- two tests that both hold
both : (a b : Bool) → a && b ≡ true → (a ≡ true) × (b ≡ true)
both true b e = (refl, e)
both false b e = let z : ◌≡◌ {A = ℕ} 0 1 = cc in absurd (omega arith)

-- a list whose entries rise, from at least n to at most m
abbrev rising : ℕ → List ℕ → ℕ → Bool
rising n [] m = leb n m
rising n (x ∷ l) m = leb n x && rising x l m

rising_top : (n : ℕ) (l : List ℕ) (m : ℕ) → rising n l m ≡ true → n ≤ m
rising_top n [] m t = leb-true n m t
rising_top n (x ∷ l) m t =
    let h = both (leb n x) (rising x l m) t in
    omega (arith, leb-true n x h.0, rising_top x l m h.1)

rising_small : (n : ℕ) (l : List ℕ) (m : ℕ) → rising n l m ≡ true → (k : ℕ) → get_or l k 0 ≤ m
rising_small n [] m t k = omega arith
rising_small n (x ∷ l) m t zero = rising_top x l m (both (leb n x) (rising x l m) t).1
rising_small n (x ∷ l) m t (suc k) = rising_small x l m (both (leb n x) (rising x l m) t).1 k

rising_next : (n : ℕ) (l : List ℕ) (m : ℕ) → rising n l m ≡ true → (k : ℕ) → suc k < length l → get_or l k 0 ≤ get_or l (suc k) 0
rising_next n [] m t k h = absurd (omega arith)
rising_next n (x ∷ []) m t k h = absurd (omega arith)
rising_next n (x ∷ y ∷ l) m t zero h =
    leb-true x y (both (leb x y) (rising y l m) (both (leb n x) (rising x (y ∷ l) m) t).1).0
rising_next n (x ∷ y ∷ l) m t (suc k) h = rising_next x (y ∷ l) m (both (leb n x) (rising x (y ∷ l) m) t).1 k (omega arith)

pub month_small : (m : ℕ) → get_or months m 0 ≤ 334
month_small = rising_small 0 months 334 refl

pub before_small : (m : ℕ) (leap : Bool) → days_before m leap ≤ 335
unfolding days_before
before_small m leap = go (ltb m 2) leap (month_small m)
  where
    go : (a b : Bool)
        → get_or months m 0 ≤ 334
        → cond a (get_or months m 0) (cond b (get_or months m 0 + 1) (get_or months m 0)) ≤ 335
    go true b h = omega arith
    go false true h = omega arith
    go false false h = omega arith

pub before_rises : (m : ℕ) (leap : Bool) → m < 11 → days_before m leap ≤ days_before (m + 1) leap
unfolding days_before
before_rises m leap h =
    go (ltb m 2) (ltb (m + 1) 2) leap refl refl (rw add-one (rising_next 0 months 334 refl m (omega arith)))
  where
    go : (a b d : Bool)
        → ltb m 2 ≡ a
        → ltb (m + 1) 2 ≡ b
        → get_or months m 0 ≤ get_or months (m + 1) 0
        → cond a (get_or months m 0) (cond d (get_or months m 0 + 1) (get_or months m 0))
        ≤ cond b (get_or months (m + 1) 0) (cond d (get_or months (m + 1) 0 + 1) (get_or months (m + 1) 0))
    go true true d p q r = omega arith
    go true false true p q r = omega arith
    go true false false p q r = omega arith
    go false true true p q r = absurd (omega (arith, ltb-false m 2 p, ltb-true (m + 1) 2 q))
    go false true false p q r = omega arith
    go false false true p q r = omega arith
    go false false false p q r = omega arith

pub in_small : (m : ℕ) (leap : Bool) → days_in m leap ≤ 335
unfolding days_in
in_small m leap = go (eqb m 11)
  where
    go : (b : Bool) → cond b 31 (days_before (m + 1) leap - days_before m leap) ≤ 335
    go true = omega arith
    go false = omega (arith, before_small (m + 1) leap)

-- the days of k years from 1600 on: a day more for each fourth year and for each four hundredth, one fewer for each hundredth
abbrev pub closed : ℕ → ℕ
closed k = k * 365 + (k + 3) / 4 + (k + 399) / 400 - (k + 99) / 100

-- one year on, a count of fourths, hundreds or four hundreds goes up by one where the year is one of them, and stays where it is not
up4 : (k : ℕ) → (1600 + k) % 4 ≡ 0 → (suc k + 3) / 4 ≡ (k + 3) / 4 + 1
up4 k h = omega arith

stay4 : (k : ℕ) → ((1600 + k) % 4 ≡ 0 → ⊥) → (suc k + 3) / 4 ≡ (k + 3) / 4 + 0
stay4 k h = omega arith

up100 : (k : ℕ) → (1600 + k) % 100 ≡ 0 → (suc k + 99) / 100 ≡ (k + 99) / 100 + 1
up100 k h = omega arith

stay100 : (k : ℕ) → ((1600 + k) % 100 ≡ 0 → ⊥) → (suc k + 99) / 100 ≡ (k + 99) / 100 + 0
stay100 k h = omega arith

up400 : (k : ℕ) → (1600 + k) % 400 ≡ 0 → (suc k + 399) / 400 ≡ (k + 399) / 400 + 1
up400 k h = omega arith

stay400 : (k : ℕ) → ((1600 + k) % 400 ≡ 0 → ⊥) → (suc k + 399) / 400 ≡ (k + 399) / 400 + 0
stay400 k h = omega arith

fourths : (y : ℕ) → y % 100 ≡ 0 → y % 4 ≡ 0
fourths y h = omega arith

hundreds : (y : ℕ) → y % 400 ≡ 0 → y % 100 ≡ 0
hundreds y h = omega arith

fewer : (k : ℕ) → (k + 99) / 100 ≤ (k + 3) / 4
fewer k = omega arith

-- the counts f, h and q of fourths, hundreds and four hundreds go up by f₁, h₁ and q₁; n is 1 where the year is a leap year
year : (k f h q f₁ h₁ q₁ n : ℕ) {f' h' q' : ℕ}
    → f' ≡ f + f₁
    → h' ≡ h + h₁
    → q' ≡ q + q₁
    → f₁ + q₁ ≡ h₁ + n
    → h ≤ f
    → suc k * 365 + f' + q' - h' ≡ k * 365 + f + q - h + (365 + n)
year k f h q f₁ h₁ q₁ n a b c d e = omega arith

step : (k : ℕ) (a b d : Bool)
    → eqb ((1600 + k) % 4) 0 ≡ a
    → eqb ((1600 + k) % 100) 0 ≡ b
    → eqb ((1600 + k) % 400) 0 ≡ d
    → closed (suc k) ≡ closed k + year_days (cond a (cond b d true) false)
unfolding year_days
step k true true true p q r =
    year k _ _ _ 1 1 1 1 (up4 k (eqb-true _ _ p)) (up100 k (eqb-true _ _ q)) (up400 k (eqb-true _ _ r)) refl (fewer k)
step k true true false p q r =
    year k _ _ _ 1 1 0 0 (up4 k (eqb-true _ _ p)) (up100 k (eqb-true _ _ q)) (stay400 k (eqb-false _ _ r)) refl (fewer k)
step k true false d p q r =
    let n : (1600 + k) % 400 ≡ 0 → ⊥ = λ z. eqb-false _ _ q (hundreds (1600 + k) z) in
    year k _ _ _ 1 0 0 1 (up4 k (eqb-true _ _ p)) (stay100 k (eqb-false _ _ q)) (stay400 k n) refl (fewer k)
step k false b d p q r =
    let n : (1600 + k) % 100 ≡ 0 → ⊥ = λ z. eqb-false _ _ p (fourths (1600 + k) z) in
    year k _ _ _ 0 0 0 0 (stay4 k (eqb-false _ _ p)) (stay100 k n) (stay400 k (λ z. n (hundreds (1600 + k) z))) refl (fewer k)

pub counted : (k : ℕ) → closed k ≡ years_before k
unfolding years_before leap_year
counted zero = refl
counted (suc k) = step k _ _ _ refl refl refl ∙ rw (counted k)

-- the years to 9999 are fewer than 8400
pub years_small : (k : ℕ) → k < 8400 → years_before k < 3100000
years_small k h = omega (arith, counted k)

-- a day's number is small, so that sums with it fit
pub day_small : (n d : ℕ) → day_of n ≡ Some d → d < 3200000
unfolding day_of day_is
day_small n d e =
    go
    (n / 1000000)
    (n / 10000 % 100)
    (n % 10000)
    (omega arith)
    (ltb (n % 10000) 1600)
    (eqb (n / 10000 % 100) 0)
    (ltb 12 (n / 10000 % 100))
    (eqb (n / 1000000) 0)
    _
    refl
    e
  where
    go : (x m y : ℕ)
        → y < 10000
        → (a b c f g : Bool)
        → ltb (days_in (m - 1) (leap_year y)) x ≡ g
        → cond
        a
        None
        (cond
        b
        None
        (cond
        c
        None
        (cond
        f
        None
        (cond g None (Some (years_before (y - 1600) + days_before (m - 1) (leap_year y) + (x - 1)))))))
        ≡ Some d
        → d < 3200000
    go x m y h true b c f g p e = let z : ◌≡◌ {A = ℕ} 0 1 = cc in omega arith
    go x m y h false true c f g p e = let z : ◌≡◌ {A = ℕ} 0 1 = cc in omega arith
    go x m y h false false true f g p e = let z : ◌≡◌ {A = ℕ} 0 1 = cc in omega arith
    go x m y h false false false true g p e = let z : ◌≡◌ {A = ℕ} 0 1 = cc in omega arith
    go x m y h false false false false true p e = let z : ◌≡◌ {A = ℕ} 0 1 = cc in omega arith
    go x m y h false false false false false p e =
        let z : years_before (y - 1600) + days_before (m - 1) (leap_year y) + (x - 1) ≡ d = cc in
        omega (
          arith,
          years_small (y - 1600) (omega arith),
          before_small (m - 1) (leap_year y),
          in_small (m - 1) (leap_year y),
          ltb-false (days_in (m - 1) (leap_year y)) x p,
        )

pub span_small : (first last : ℕ) → span first last ≤ 3200000
unfolding span
span_small first last = go (day_of first) (day_of last) refl
  where
    go : (a b : Option ℕ) → day_of last ≡ b → span_of a b ≤ 3200000
    go (Some a) (Some b) e = omega (arith, day_small last b e)
    go (Some a) None e = omega arith
    go None b e = omega arith

-- a period has a day
pub period_span : (first last : ℕ) → period first last ≡ true → 0 < span first last
unfolding period span
period_span first last = go (day_of first) (day_of last)
  where
    go : (a b : Option ℕ) → in_turn a b ≡ true → 0 < span_of a b
    go (Some a) (Some b) e = omega (arith, leb-true a b e)
    go (Some a) None e = let z : ◌≡◌ {A = ℕ} 0 1 = cc in omega arith
    go None b e = let z : ◌≡◌ {A = ℕ} 0 1 = cc in omega arith

-- a span has a day only where its first is not after its last
pub span_period : (first last : ℕ) → 0 < span first last → period first last ≡ true
unfolding period span
span_period first last = go (day_of first) (day_of last)
  where
    go : (a b : Option ℕ) → 0 < span_of a b → in_turn a b ≡ true
    go (Some a) (Some b) h = le-leb a b (omega arith)
    go (Some a) None h = absurd (omega arith)
    go None b h = absurd (omega arith)

-- what lies in a period makes it one
pub in_period_lem : (first date last : ℕ) → in_period first date last ≡ true → period first last ≡ true
unfolding in_period period
in_period_lem first date last = go (day_of first) (day_of date) (day_of last)
  where
    go : (a d b : Option ℕ) → within a d b ≡ true → in_turn a b ≡ true
    go (Some a) (Some d) (Some b) e =
        let h = both (leb a d) (leb d b) e in
        le-leb a b (omega (arith, leb-true a d h.0, leb-true d b h.1))
    go (Some a) (Some d) None e = e
    go (Some a) None b e = let z : ◌≡◌ {A = ℕ} 0 1 = cc in absurd (omega arith)
    go None d b e = e

-- the place of a day in a period is one of the period's places
pub day_in_span : (first date last : ℕ) → in_period first date last ≡ true → day_in first date < span first last
unfolding in_period day_in span
day_in_span first date last = go (day_of first) (day_of date) (day_of last)
  where
    go : (a d b : Option ℕ) → within a d b ≡ true → since a d < span_of a b
    go (Some a) (Some d) (Some b) e =
        let h = both (leb a d) (leb d b) e in
        omega (arith, leb-true a d h.0, leb-true d b h.1)
    go (Some a) (Some d) None e = let z : ◌≡◌ {A = ℕ} 0 1 = cc in omega arith
    go (Some a) None b e = let z : ◌≡◌ {A = ℕ} 0 1 = cc in omega arith
    go None d b e = let z : ◌≡◌ {A = ℕ} 0 1 = cc in omega arith
