-- The rules' references are met exactly when some row of the named file has the key.
use Rattle.std.specs.Prelude.{ℕ, ◌≡◌, refl, Bool, true, ◌&&◌, ◌||◌, eqb}
use mathlib.Core.List.{List, [], ◌∷◌, map}
use Rattle.std.proofs.Math.Bool.{false}
use Rattle.std.proofs.Common.{true≢false, arith, eqb-true, eq-eqb, ne_eqb}
use Rattle.std.proofs.lemmas.Bool.{eqb-false}
use Rattle.iff.specs.Bytes.{hash, percent, dash, ampersand, asterisk, question}
use Rattle.iff.specs.Lists.{any, has, kept}
use Rattle.iff.specs.Files.{PerFile}
use Rattle.iff.specs.Tables.{Row, tag, letterless}
use Rattle.iff.specs.Words.{named, company_number, short_name, attribute_footnote, station_country, station_zone, from_service, to_service, from_company, from_mode, to_company, to_mode, exception_footnote}
use Rattle.iff.specs.declared.RowFile.{RowFile}
use Rattle.iff.specs.declared.RowFile.TheVariants.{Company, Country, Trnsmode, Stations}
use Rattle.iff.specs.declared.GroupFile.{GroupFile}
use Rattle.iff.specs.declared.GroupFile.TheVariants.{Timezone, Footnote, Changes, Xfootnote, Xchanges}
use Rattle.iff.specs.declared.File.TheVariants.{Rows, Groups, Timetbls}
use Rattle.iff_rules.specs.References.{any_company, any_mode, names, met_by_row, met_in_block, met_pair, met_company, met_mode, met_exception, met_in_group}
use Rattle.iff_laws.specs.Places.{context_in}
use Rattle.iff_laws.specs.Propositions.{Keyed, IsCompany, IsMode, IsCountry, IsZone, IsStation, IsService, IsFootnote, IsXfootnote, RowRefers, BlockRefers, PairRefers, ExceptionRefers, GroupRefers}
use Rattle.iff_laws.specs.TruthLaws.{Says, says_eq, says_true, says_and, says_unless, says_cond, says_as, says_by, both, and_both, says_any, any_kept}

-- a key is among the keys of a file exactly when a row of it has that key
pub says_keyed : (t : ℕ) (w : Row → ℕ) (rs : List Row) (key : ℕ) → Says (has key (map w (kept (λ r. eqb (tag r) t) rs))) (Keyed t w rs key)
says_keyed t w rs key =
    says_as (says_by (any_kept (eqb key) w (λ r. eqb (tag r) t) rs) (says_any [] (λ r. eqb (tag r) t && eqb key (w r)) rs))
    (λ s.
    let z = both _ _ s.has_it in
    record { which = s.which; inside = s.inside; tagged = eqb-true _ _ z.0; its_key = eqb-true _ _ z.1 })
    (λ k. record { which = k.which; inside = k.inside; has_it = and_both (eq-eqb _ _ k.tagged) (eq-eqb _ _ k.its_key) })

-- a number is none of some
not_or : (a : Bool) {b : Bool} → (a || b) ≡ false → (a ≡ false) × (b ≡ false)
not_or true e = absurd (true≢false e)
not_or false e = (refl, e)

none_first : (x k : ℕ) (ks : List ℕ) → has x (k ∷ ks) ≡ false → (x ≡ k → ⊥) × (has x ks ≡ false)
unfolding any
none_first x k ks e = let z = not_or (eqb x k) e in (eqb-false x k z.0, z.1)

first_none : (x k : ℕ) (ks : List ℕ) → (x ≡ k → ⊥) → has x ks ≡ false → has x (k ∷ ks) ≡ false
unfolding any
first_none x k ks n e = rw (ne_eqb x k n, e)

none : (x : ℕ) → has x [] ≡ false
unfolding any
none x = refl

module _ (D : PerFile (List Row)) where
  pub says_company : (key : ℕ) → Says (names (context_in D) (Rows Company) key) (IsCompany D key)
  says_company key = says_keyed letterless company_number D.company key

  says_mode : (key : ℕ) → Says (names (context_in D) (Rows Trnsmode) key) (IsMode D key)
  says_mode key = says_keyed letterless named D.trnsmode key

  says_country : (key : ℕ) → Says (names (context_in D) (Rows Country) key) (IsCountry D key)
  says_country key = says_keyed letterless named D.country key

  says_zone : (key : ℕ) → Says (names (context_in D) (Groups Timezone) key) (IsZone D key)
  says_zone key = says_keyed hash named D.timezone key

  says_station : (key : ℕ) → Says (names (context_in D) (Rows Stations) key) (IsStation D key)
  says_station key = says_keyed letterless short_name D.stations key

  says_service : (key : ℕ) → Says (names (context_in D) Timetbls key) (IsService D key)
  says_service key = says_keyed hash named D.timetbls key

  says_footnote : (key : ℕ) → Says (names (context_in D) (Groups Footnote) key) (IsFootnote D key)
  says_footnote key = says_keyed hash named D.footnote key

  says_xfootnote : (key : ℕ) → Says (names (context_in D) (Groups Xfootnote) key) (IsXfootnote D key)
  says_xfootnote key = says_keyed hash named D.xfootnote key

  -- A ROW
  pub row_refers : (f : RowFile) (r : Row) → Says (met_by_row (context_in D) f r) (RowRefers D f r)
  unfolding met_by_row
  row_refers Company r = says_true
  row_refers Country r = says_true
  row_refers Trnsmode r = says_true
  row_refers Stations r =
      says_as (says_and (says_country (station_country r)) (says_zone (station_zone r)))
      (λ z. record { country = z.0; zone = z.1 }) (λ m. (m.country, m.zone))

  -- A RECORD OF A BLOCK
  pub block_refers : (r : Row) → Says (met_in_block (context_in D) r) (BlockRefers D r)
  unfolding met_in_block
  block_refers r =
      says_as
      (says_cond (says_eq (tag r) hash) says_true
      (says_cond (says_eq (tag r) percent) (says_company (named r))
      (says_cond (says_eq (tag r) dash) (says_footnote (named r))
      (says_cond (says_eq (tag r) ampersand) (says_mode (named r))
      (says_cond (says_eq (tag r) asterisk) (says_footnote (attribute_footnote r))
      (says_cond (says_eq (tag r) question) (says_footnote (named r))
      (says_station (named r))))))))
      (λ z.
      record {
        train = λ e. (z.1 (λ h. omega arith)).0 e;
        validity = λ e. ((z.1 (λ h. omega arith)).1 (λ h. omega arith)).0 e;
        transport = λ e. (((z.1 (λ h. omega arith)).1 (λ h. omega arith)).1 (λ h. omega arith)).0 e;
        attribute = λ e. ((((z.1 (λ h. omega arith)).1 (λ h. omega arith)).1 (λ h. omega arith)).1 (λ h. omega arith)).0 e;
        platform = λ e.
            (((((z.1 (λ h. omega arith)).1 (λ h. omega arith)).1 (λ h. omega arith)).1 (λ h. omega arith)).1 (λ h. omega arith)).0 e;
        stop = λ e.
            let a = none_first _ _ _ e in
            let b = none_first _ _ _ a.1 in
            let c = none_first _ _ _ b.1 in
            let d = none_first _ _ _ c.1 in
            let f = none_first _ _ _ d.1 in
            let g = none_first _ _ _ f.1 in
            (((((z.1 a.0).1 b.0).1 c.0).1 d.0).1 f.0).1 g.0;
      })
      (λ m. (
        λ h. tt,
        λ a. (
          m.train,
          λ b. (
            m.validity,
            λ c. (
              m.transport,
              λ d. (
                m.attribute,
                λ f. (
                  m.platform,
                  λ g.
                      m.stop (six (tag r) a b c d f g),
                ),
              ),
            ),
          ),
        ),
      ))
    where
      six : (x : ℕ) → (x ≡ hash → ⊥) → (x ≡ percent → ⊥) → (x ≡ dash → ⊥) → (x ≡ ampersand → ⊥) → (x ≡ asterisk → ⊥) → (x ≡ question → ⊥)
          → has x (hash ∷ percent ∷ dash ∷ ampersand ∷ asterisk ∷ question ∷ []) ≡ false
      six x a b c d f g =
          first_none _ _ _ a (first_none _ _ _ b (first_none _ _ _ c (first_none _ _ _ d (first_none _ _ _ f (first_none _ _ [] g (none x))))))

  -- A ROW OF A GROUP
  pair_refers : (r : Row) → Says (met_pair (context_in D) r) (PairRefers D r)
  pair_refers r =
      says_as (says_and (says_service (from_service r)) (says_service (to_service r)))
      (λ z. record { from = z.0; to = z.1 }) (λ m. (m.from, m.to))

  company_or_any_lem : (key : ℕ) → Says (met_company (context_in D) key) ((key ≡ any_company → ⊥) → IsCompany D key)
  company_or_any_lem key = says_unless (says_eq key any_company) (says_company key)

  mode_or_any : (key : ℕ) → Says (met_mode (context_in D) key) ((key ≡ any_mode → ⊥) → IsMode D key)
  mode_or_any key = says_unless (says_eq key any_mode) (says_mode key)

  exception_refers : (r : Row) → Says (met_exception (context_in D) r) (ExceptionRefers D r)
  exception_refers r =
      says_as
      (says_and (company_or_any_lem (from_company r))
      (says_and (mode_or_any (from_mode r))
      (says_and (company_or_any_lem (to_company r))
      (says_and (mode_or_any (to_mode r)) (says_xfootnote (exception_footnote r))))))
      (λ z.
      record {
        from_company_lem = z.0;
        from_mode_lem = z.1.0;
        to_company_lem = z.1.1.0;
        to_mode_lem = z.1.1.1.0;
        footnote = z.1.1.1.1;
      })
      (λ m. (m.from_company_lem, (m.from_mode_lem, (m.to_company_lem, (m.to_mode_lem, m.footnote)))))

  pub group_refers : (f : GroupFile) (r : Row) → Says (met_in_group (context_in D) f r) (GroupRefers D f r)
  unfolding met_in_group
  group_refers Timezone r = says_true
  group_refers Footnote r = says_true
  group_refers Changes r =
      says_as (says_cond (says_eq (tag r) hash) (says_station (named r)) (pair_refers r))
      (λ z. record { station = z.0; later = z.1 }) (λ m. (m.station, m.later))
  group_refers Xfootnote r = says_true
  group_refers Xchanges r =
      says_as (says_cond (says_eq (tag r) hash) (says_station (named r)) (exception_refers r))
      (λ z. record { station = z.0; later = z.1 }) (λ m. (m.station, m.later))
