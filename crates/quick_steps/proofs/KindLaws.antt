-- A record that is told to be right by its kind passes the tests of a block's line. Assumes nothing.
use Prim.Native.Nat.{ℕ, ◌<◌}
use mathlib.Core.Path.{◌≡◌, refl, ap, ◌∙◌}
use mathlib.Core.List.{List, [], ◌∷◌}
use mathlib.Core.Bool.{Bool, true, false, ◌&&◌, ◌||◌, false≢true}
use borrow.Author.Tests.{eqb-true}
use lib.Dec.{eqb, ltb}
use lib.ListN.{get_or}
use Rattle.iff.specs.Bytes.{hash, percent, dash, ampersand, asterisk, plus, dot, semicolon, less, greater, question}
use Rattle.iff.specs.Lists.{has, any}
use Rattle.iff.specs.Columns.{service_fields, number_fields, validity_fields, transport_fields, attribute_fields, stop_fields, interval_fields, passed_fields}
use Rattle.iff.specs.Columns.{platform_fields}
use Rattle.iff.specs.Times.{is_time, interval}
use Rattle.iff.specs.Tables.{Row}
use Rattle.iff.specs.declared.Form.{Form}
use Rattle.iff.specs.declared.RowFile.TheVariants.{Company, Trnsmode, Stations}
use Rattle.iff.specs.declared.GroupFile.TheVariants.{Footnote}
use Rattle.iff.specs.declared.File.{File}
use Rattle.iff.specs.declared.File.TheVariants.{Rows, Groups}
use Rattle.iff_rules.specs.Order.{is_stop}
use Rattle.iff_rules.specs.Rows.{Context}
use Rattle.iff_rules.specs.Meaning.{most_stops, block_meaning}
use Rattle.iff_rules.specs.References.{met_in_block}
use Rattle.keys.specs.Lookup.{keys_among}
use Rattle.references.specs.declared.BlockCounts.{BlockCounts}
use Rattle.references.specs.Agree.{BlockKeysAmong}
use Rattle.quick_words.specs.declared.Words.{Words}
use Rattle.quick_words.specs.Told.{Told, Tested, Seen}
use Rattle.quick_words.proofs.SeenLaws.{seen_service, seen_train, seen_validity, seen_transport, seen_attribute, seen_greater, seen_dot, seen_less}
use Rattle.quick_words.proofs.SeenLaws.{seen_plus, seen_passed, seen_platform}
use Rattle.quick_steps.specs.Steps.{Passing}
use Rattle.quick_steps.proofs.LineLaws.{passing}

-- one of some letters, or one of the others
one_of : (P : ℕ → Type 0) (x k : ℕ) (ks : List ℕ) → has x (k ∷ ks) ≡ true → P k → (has x ks ≡ true → P x) → P x
unfolding any
one_of P x k ks h p f = go (eqb x k) refl h
  where
    go : (b : Bool) → eqb x k ≡ b → (b || has x ks) ≡ true → P x
    go true e q = rw (eqb-true x k e) p
    go false e q = f q

none_of : {A : Type 0} (x : ℕ) → has x [] ≡ true → A
unfolding any
none_of x h = absurd (false≢true h)

-- a stop that is no interval
plain_stop : (P : ℕ → Type 0) (x : ℕ) → is_stop x ≡ true → (x ≡ plus → ⊥) → (x ≡ greater → P x) → (x ≡ dot → P x) → (x ≡ less → P x) → P x
plain_stop P x h n a b d =
    one_of (λ y. x ≡ y → P x) x greater (dot ∷ plus ∷ less ∷ []) h a
    (λ h. one_of (λ y. x ≡ y → P x) x dot (plus ∷ less ∷ []) h b
    (λ h. one_of (λ y. x ≡ y → P x) x plus (less ∷ []) h (λ e. absurd (n e))
    (λ h. one_of (λ y. x ≡ y → P x) x less [] h d (none_of x)))) refl

module _ (form : Form) (counts : BlockCounts) (co mo st fo b : List ℕ) (at n k stops : ℕ) (r : Words) (some : 0 < r.width) (x : ℕ)
    (head : x ≡ get_or b at 0) where
  abbrev row : Row
  row = x ∷ r.one ∷ r.two ∷ r.three ∷ r.four ∷ 0 ∷ 0 ∷ []

  abbrev Passes : Type 0
  Passes = Passing form counts co mo st fo b at x n k stops r

  -- its times and what it names, as the rules ask for them
  by_kind : Seen form b at x n k r → (means : Bool) → block_meaning stops row ≡ means → means ≡ true
      → (f : File) (ks : List ℕ) (key : ℕ) → ((c : Context) → met_in_block c row ≡ has key (c.keys f))
      → ((c : Context) → BlockKeysAmong c counts co mo st fo → c.keys f ≡ ks) → has key ks ≡ true → Passes
  by_kind s means m y f ks key g a h = passing form counts co mo st fo b at x n k stops r s (m ∙ y) (λ c e. g c ∙ ap (has key) (a c e) ∙ h)

  pub service_passes : x ≡ hash → Told b at service_fields n (k ∷ n ∷ []) r → Passes
  unfolding block_meaning met_in_block any
  service_passes e d = passing form counts co mo st fo b at x n k stops r (seen_service b at n k r some x head form e d) (rw e) (λ c g. rw e)

  pub train_passes : x ≡ percent → Tested b at (number_fields 7) n true (Rows Company) counts.companies co r.one r → Passes
  unfolding block_meaning met_in_block any
  train_passes e d =
      by_kind (seen_train b at n k r some x head form e d.told) true (rw e) d.timed
      (Rows Company) (keys_among (Rows Company) counts.companies co) r.one (λ c. rw e) (λ c g. g.companies) d.met

  pub validity_passes : x ≡ dash → Tested b at validity_fields n true (Groups Footnote) counts.footnotes fo r.one r → Passes
  unfolding block_meaning met_in_block any
  validity_passes e d =
      by_kind (seen_validity b at n k r some x head form e d.told) true (rw e) d.timed
      (Groups Footnote) (keys_among (Groups Footnote) counts.footnotes fo) r.one (λ c. rw e) (λ c g. g.footnotes) d.met

  pub transport_passes : x ≡ ampersand → Tested b at transport_fields n true (Rows Trnsmode) counts.modes mo r.one r → Passes
  unfolding block_meaning met_in_block any
  transport_passes e d =
      by_kind (seen_transport b at n k r some x head form e d.told) true (rw e) d.timed
      (Rows Trnsmode) (keys_among (Rows Trnsmode) counts.modes mo) r.one (λ c. rw e) (λ c g. g.modes) d.met

  pub attribute_passes : x ≡ asterisk → Tested b at attribute_fields n true (Groups Footnote) counts.footnotes fo r.four r → Passes
  unfolding block_meaning met_in_block any
  attribute_passes e d =
      by_kind (seen_attribute b at n k r some x head form e d.told) true (rw e) d.timed
      (Groups Footnote) (keys_among (Groups Footnote) counts.footnotes fo) r.four (λ c. rw e) (λ c g. g.footnotes) d.met

  pub interval_passes : x ≡ plus → Tested b at interval_fields n (ltb stops most_stops && interval r.two r.three) (Rows Stations) counts.stations st r.one r → Passes
  unfolding block_meaning met_in_block any
  interval_passes e d =
      by_kind (seen_plus b at n k r some x head form e d.told) (ltb stops most_stops && interval r.two r.three) (rw e) d.timed
      (Rows Stations) (keys_among (Rows Stations) counts.stations st) r.one (λ c. rw e) (λ c g. g.stations) d.met

  pub passed_passes : x ≡ semicolon → Tested b at passed_fields n true (Rows Stations) counts.stations st r.one r → Passes
  unfolding block_meaning met_in_block any
  passed_passes e d =
      by_kind (seen_passed b at n k r some x head form e d.told) true (rw e) d.timed
      (Rows Stations) (keys_among (Rows Stations) counts.stations st) r.one (λ c. rw e) (λ c g. g.stations) d.met

  pub platform_passes : x ≡ question → Tested b at platform_fields n true (Groups Footnote) counts.footnotes fo r.one r → Passes
  unfolding block_meaning met_in_block any
  platform_passes e d =
      by_kind (seen_platform b at n k r some x head form e d.told) true (rw e) d.timed
      (Groups Footnote) (keys_among (Groups Footnote) counts.footnotes fo) r.one (λ c. rw e) (λ c g. g.footnotes) d.met

  -- `>`, `.` and `<`
  plain_passes : (y : ℕ) → x ≡ y → (is_stop y ≡ true) × (eqb y plus ≡ false) → ((c : Context) → met_in_block c row ≡ has r.one (c.keys (Rows Stations)))
      → Seen form b at x n k r
      → Tested b at stop_fields n (ltb stops most_stops && is_time r.two) (Rows Stations) counts.stations st r.one r → Passes
  unfolding block_meaning
  plain_passes y e p g s d =
      by_kind s (ltb stops most_stops && is_time r.two) (rw (e, p.0, p.1)) d.timed
      (Rows Stations) (keys_among (Rows Stations) counts.stations st) r.one g (λ c g. g.stations) d.met

  pub stop_passes : is_stop x ≡ true → (x ≡ plus → ⊥)
      → Tested b at stop_fields n (ltb stops most_stops && is_time r.two) (Rows Stations) counts.stations st r.one r → Passes
  unfolding met_in_block any
  stop_passes h p d =
      plain_stop (λ y. Passes) x h p
      (λ e. plain_passes greater e (refl, refl) (λ c. rw e) (seen_greater b at n k r some x head form e d.told) d)
      (λ e. plain_passes dot e (refl, refl) (λ c. rw e) (seen_dot b at n k r some x head form e d.told) d)
      (λ e. plain_passes less e (refl, refl) (λ c. rw e) (seen_less b at n k r some x head form e d.told) d)
