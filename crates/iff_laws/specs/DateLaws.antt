-- A day tells its date: two dates that are the same day are the same number DDMMYYYY. So "same service and date" may be asked of days.
use Rattle.std.specs.Prelude.{ℕ, zero, suc, ◌+◌, ◌-◌, ◌*◌, ◌/◌, ◌%◌, ◌≤◌, ◌<◌, ◌≡◌, refl, List, Bool, true, false, cond, ◌&&◌, eqb, ltb, leb, None, Option, Some}
use Rattle.std.proofs.Common.{ap, ap₂, sym, ◌∙◌, subst, arith, eqb-true, eq-eqb, ne_eqb, ltb-false, leb-true}
use Rattle.std.proofs.lemmas.Bool.{false≢true, eqb-false}
use Rattle.iff.specs.Files.{PerFile}
use Rattle.iff.specs.Tables.{Row}
use Rattle.iff.specs.Days.{leap_year, days_before, days_in, year_days, years_before, day_is, day_of, within, in_period, since, day_in}
use Rattle.iff_desk.specs.Store.{first_day, last_day, is_valid, day_number, day_on, number_on}
use Rattle.iff_laws.specs.TruthLaws.{both}

-- MONTHS, counted from 0
-- what is asked of each number below n, as one test that computes
abbrev below : ℕ → (ℕ → Bool) → Bool
below zero p = true
below (suc n) p = p n && below n p

-- and then each number below n has it
each_below : (n : ℕ) (p : ℕ → Bool) → below n p ≡ true → (i : ℕ) → i < n → p i ≡ true
each_below zero p e i h = absurd (omega arith)
each_below (suc n) p e i h = let z = both (p n) (below n p) e in go (eqb i n) refl z.0 (each_below n p z.1 i)
  where
    go : (b : Bool) → eqb i n ≡ b → p n ≡ true → (i < n → p i ≡ true) → p i ≡ true
    go true q last rest = ap p (eqb-true i n q) ∙ last
    go false q last rest = let z : i ≡ n → ⊥ = eqb-false i n q in rest (omega arith)

-- the days before the end of a month
abbrev through : Bool → ℕ → ℕ
through leap m = days_before m leap + days_in m leap

-- month j is over before month m begins
abbrev is_over : Bool → ℕ → ℕ → Bool
is_over leap m j = leb (through leap j) (days_before m leap)

all_over : (leap : Bool) → below 12 (λ m. below m (is_over leap m)) ≡ true
unfolding days_before days_in
all_over true = refl
all_over false = refl

month_over : (leap : Bool) (j m : ℕ) → j < m → m < 12 → through leap j ≤ days_before m leap
month_over leap j m h k = leb-true _ _ (each_below m (is_over leap m) (each_below 12 (λ m. below m (is_over leap m)) (all_over leap) m k) j h)

-- month m is over when its year is
abbrev is_in_year : Bool → ℕ → Bool
is_in_year leap m = leb (through leap m) (year_days leap)

all_in_year : (leap : Bool) → below 12 (is_in_year leap) ≡ true
unfolding days_before days_in year_days
all_in_year true = refl
all_in_year false = refl

month_in_year : (leap : Bool) (m : ℕ) → m < 12 → through leap m ≤ year_days leap
month_in_year leap m h = leb-true _ _ (each_below 12 (is_in_year leap) (all_in_year leap) m h)

-- YEARS
-- the year after begins when the days of a year are over
year_end : (y : ℕ) → 1600 ≤ y → years_before (suc (y - 1600)) ≡ years_before (y - 1600) + year_days (leap_year y)
unfolding years_before
year_end y h = let z : 1600 + (y - 1600) ≡ y = omega arith in ap (λ (x : ℕ). years_before (y - 1600) + year_days (leap_year x)) z

-- so a year is over before a later one begins
year_over : (j k : ℕ) → j < k → years_before (suc j) ≤ years_before k
unfolding years_before
year_over j zero h = absurd (omega arith)
year_over j (suc k) h = go (eqb j k) refl (year_over j k)
  where
    go : (b : Bool) → eqb j k ≡ b → (j < k → years_before (suc j) ≤ years_before k) → years_before (suc j) ≤ years_before (suc k)
    go true q rest = let z : years_before (suc j) ≡ years_before (suc k) = ap (λ (x : ℕ). years_before (suc x)) (eqb-true j k q) in omega arith
    go false q rest = let z : j ≡ k → ⊥ = eqb-false j k q in omega (arith, rest (omega arith))

-- DATES: day d, month m and year y, all as written, are day n
record IsDate (d m y n : ℕ) : Type 0 where
  year : 1600 ≤ y
  month : 0 < m
  month_top : m ≤ 12
  day : 0 < d
  day_top : d ≤ days_in (m - 1) (leap_year y)
  number : years_before (y - 1600) + days_before (m - 1) (leap_year y) + (d - 1) ≡ n

-- what is a day was not refused
not_refused : (b : Bool) (x : Option ℕ) {n : ℕ} → cond b None x ≡ Some n → (b ≡ false) × (x ≡ Some n)
not_refused true x e = let z : ◌≡◌ {A = ℕ} 0 1 = cc in absurd (omega arith)
not_refused false x e = (refl, e)

-- so it passed all that is asked of a date
is_date : (d m y n : ℕ) → day_is d m y ≡ Some n → IsDate d m y n
unfolding day_is
is_date d m y n e =
    let a = not_refused (ltb y 1600) _ e in
    let b = not_refused (eqb m 0) _ a.1 in
    let f = not_refused (ltb 12 m) _ b.1 in
    let g = not_refused (eqb d 0) _ f.1 in
    let h = not_refused (ltb (days_in (m - 1) (leap_year y)) d) _ g.1 in
    let m0 : m ≡ 0 → ⊥ = eqb-false m 0 b.0 in
    let d0 : d ≡ 0 → ⊥ = eqb-false d 0 g.0 in
    record {
      year = omega (arith, ltb-false y 1600 a.0);
      month = omega arith;
      month_top = omega (arith, ltb-false 12 m f.0);
      day = omega arith;
      day_top = omega (arith, ltb-false (days_in (m - 1) (leap_year y)) d h.0);
      number = cc;
    }

-- a day is not in a later year too
one_year : {d m y e k x n : ℕ} → IsDate d m y n → IsDate e k x n → y < x → ⊥
one_year {m = m} {y = y} {x = x} a b h =
    omega (
      arith,
      month_in_year (leap_year y) (m - 1) (omega arith),
      year_end y a.year,
      year_over (y - 1600) (x - 1600) (omega arith),
    )

-- so its year is one
same_year : {d m y e k x n : ℕ} → IsDate d m y n → IsDate e k x n → y ≡ x
same_year {y = y} {x = x} a b =
    let not_later : y < x → ⊥ = one_year a b in
    let not_earlier : x < y → ⊥ = one_year b a in
    omega arith

-- nor in a later month of its year
one_month : {d m y e k n : ℕ} → IsDate d m y n → IsDate e k y n → m < k → ⊥
one_month {m = m} {y = y} {k = k} a b h = omega (arith, month_over (leap_year y) (m - 1) (k - 1) (omega arith) (omega arith))

-- so its month is one
same_month : {d m y e k n : ℕ} → IsDate d m y n → IsDate e k y n → m ≡ k
same_month {m = m} {k = k} a b =
    let not_later : m < k → ⊥ = one_month a b in
    let not_earlier : k < m → ⊥ = one_month b a in
    omega arith

-- nor is it another day of its month
same_day : {d m y e n : ℕ} → IsDate d m y n → IsDate e m y n → d ≡ e
same_day a b = omega arith

-- so all three are one
same_written : {d m y e k x n : ℕ} → IsDate d m y n → IsDate e k x n → (d ≡ e) × (m ≡ k) × (y ≡ x)
same_written {m = m} {y = y} {e = e} {k = k} {n = n} a b =
    let year = same_year a b in
    let c : IsDate e k y n = subst (λ (z : ℕ). IsDate e k z n) (sym year) b in
    let month = same_month a c in
    (same_day a (subst (λ (z : ℕ). IsDate e z y n) (sym month) c), month, year)

-- what stands before the year is the day and the month
day_month : (a : ℕ) → a / 10000 ≡ a / 1000000 * 100 + a / 10000 % 100
day_month a = omega arith

-- day, month and year are all that is written
all_written : (a b : ℕ) → a / 1000000 ≡ b / 1000000 → a / 10000 % 100 ≡ b / 10000 % 100 → a % 10000 ≡ b % 10000 → a ≡ b
all_written a b d m y = whole (day_month a ∙ (ap₂ (λ (i j : ℕ). i * 100 + j) d m ∙ sym (day_month b))) y
  where
    whole : a / 10000 ≡ b / 10000 → a % 10000 ≡ b % 10000 → a ≡ b
    whole p q = omega arith

-- A DAY TELLS ITS DATE
pub day_tells_date : (a b n : ℕ) → day_of a ≡ Some n → day_of b ≡ Some n → a ≡ b
unfolding day_of
day_tells_date a b n p q = let z = same_written (is_date _ _ _ n p) (is_date _ _ _ n q) in all_written a b z.0 z.1 z.2

-- a date of validity is the day that it is counted as
pub day_counted : (R : PerFile (List Row)) (date : ℕ) → is_valid R date ≡ true → day_of date ≡ Some (number_on R (day_on R date))
unfolding in_period day_in
day_counted R date = go (day_of (first_day R)) (day_of date) (day_of (last_day R))
  where
    go : (a d b : Option ℕ) → within a d b ≡ true → d ≡ Some (day_number a + since a d)
    go (Some a) (Some d) (Some b) e = ap Some (omega (arith, leb-true a d (both (leb a d) (leb d b) e).0))
    go (Some a) (Some d) None e = absurd (false≢true e)
    go (Some a) None b e = absurd (false≢true e)
    go None d b e = absurd (false≢true e)

-- "same service and date": dates of validity are the same exactly where their days, counted from the first day, are
pub same_day_same_date : (R : PerFile (List Row)) (a b : ℕ) → is_valid R a ≡ true → is_valid R b ≡ true
    → eqb (day_on R a) (day_on R b) ≡ eqb a b
same_day_same_date R a b p q = go (eqb a b) refl
  where
    go : (e : Bool) → eqb a b ≡ e → eqb (day_on R a) (day_on R b) ≡ e
    go true e = eq-eqb _ _ (ap (day_on R) (eqb-true a b e))
    go false e =
        ne_eqb _ _
        (λ z. eqb-false a b e (day_tells_date a b _ (day_counted R a p) (day_counted R b q ∙ ap (λ (d : ℕ). Some (number_on R d)) (sym z))))
