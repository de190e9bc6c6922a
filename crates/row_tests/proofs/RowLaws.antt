-- What each kind's tests say of a row. Assumes nothing.
use Prim.Native.Nat.{ℕ}
use mathlib.Core.Path.{◌≡◌, refl, ap, sym, ◌∙◌}
use mathlib.Core.List.{List}
use mathlib.Core.Bool.{Bool, true, ◌&&◌, and-true}
use lib.Dec.{ltb}
use lib.ListN.{length}
use Rattle.iff.specs.Bytes.{hash, percent, dash, ampersand, asterisk, plus, semicolon, question}
use Rattle.iff.specs.Lists.{has}
use Rattle.iff.specs.Values.{code_right}
use Rattle.iff.specs.Tables.{Row, word, tag, row_width}
use Rattle.iff.specs.declared.RowFile.TheVariants.{Company, Trnsmode, Stations}
use Rattle.iff.specs.declared.GroupFile.TheVariants.{Footnote}
use Rattle.iff.specs.declared.File.TheVariants.{Rows, Groups, Timetbls}
use Rattle.iff_rules.specs.Rows.{Context}
use Rattle.iff_rules.specs.Meaning.{block_meaning}
use Rattle.row_tests.specs.Tests.{row_tests}
use Rattle.row_tests.proofs.KindLaws.{seven_of, seven, zeros, service, train, validity, transport, attribute, times, passed, platform, plain}

-- KINDS: what the tests of a kind found is what the tests of a row say, in a context whose keys are those that were looked up
module _ (c : Context) (stops : ℕ) (r : Row) (n : length r ≡ row_width Timetbls) where
  by_words : (x : ℕ) → tag r ≡ x → row_tests c stops r ≡ row_tests c stops (seven_of x r)
  by_words x e = ap (row_tests c stops) (seven r n) ∙ ap (λ (y : ℕ). row_tests c stops (seven_of y r)) e

  -- its words, its unused places, its times, and what it names
  found : (words rest zs means ms there b : Bool) (ks : List ℕ) (x : ℕ) → rest ≡ zs → means ≡ ms → has x ks ≡ there
      → b ≡ ((words && rest) && (means && has x ks)) → b ≡ ((words && zs) && (ms && there))
  found words rest zs means ms there b ks x e f g h =
      h ∙ ap (λ (q : Bool). (words && q) && (means && has x ks)) e ∙ ap (λ (q : Bool). (words && zs) && (q && has x ks)) f
      ∙ ap (λ (q : Bool). (words && zs) && (ms && q)) g

  pub service_row : tag r ≡ hash → (z : Bool) → z ≡ zeros 0 0 (word r 4) (word r 5) → (b : Bool)
      → b ≡ ((ltb (word r 1) 100000000 && true) && z) → b ≡ row_tests c stops r
  service_row t z e b h =
      h ∙ ap (λ (q : Bool). (ltb (word r 1) 100000000 && true) && q) e
      ∙ sym (by_words hash t ∙ service c stops (word r 1) (word r 2) (word r 3) (word r 4) (word r 5) (word r 6) ∙ and-true _)

  pub train_row : tag r ≡ percent → (z : Bool) → z ≡ zeros 0 0 0 (word r 5) → (ks : List ℕ) → c.keys (Rows Company) ≡ ks → (b : Bool)
      → b ≡ (((ltb (word r 1) 1000 && (ltb (word r 2) 100000 && true)) && z) && has (word r 1) ks) → b ≡ row_tests c stops r
  train_row t z e ks k b h =
      found ((ltb (word r 1) 1000 && (ltb (word r 2) 100000 && true))) z (zeros 0 0 0 (word r 5)) true true (has (word r 1) (c.keys (Rows Company)))
      b ks (word r 1) e refl (ap (has (word r 1)) (sym k)) h
      ∙ sym (by_words percent t ∙ train c stops (word r 1) (word r 2) (word r 3) (word r 4) (word r 5) (word r 6))

  pub validity_row : tag r ≡ dash → (z : Bool) → z ≡ zeros 0 0 (word r 4) (word r 5) → (ks : List ℕ) → c.keys (Groups Footnote) ≡ ks → (b : Bool)
      → b ≡ (((ltb (word r 1) 100000 && true) && z) && has (word r 1) ks) → b ≡ row_tests c stops r
  validity_row t z e ks k b h =
      found ((ltb (word r 1) 100000 && true)) z (zeros 0 0 (word r 4) (word r 5)) true true (has (word r 1) (c.keys (Groups Footnote))) b ks
      (word r 1) e refl (ap (has (word r 1)) (sym k)) h
      ∙ sym (by_words dash t ∙ validity c stops (word r 1) (word r 2) (word r 3) (word r 4) (word r 5) (word r 6))

  pub transport_row : tag r ≡ ampersand → (z : Bool) → z ≡ zeros 0 0 (word r 4) (word r 5) → (ks : List ℕ) → c.keys (Rows Trnsmode) ≡ ks → (b : Bool)
      → b ≡ (((code_right 4 (word r 1) && true) && z) && has (word r 1) ks) → b ≡ row_tests c stops r
  transport_row t z e ks k b h =
      found ((code_right 4 (word r 1) && true)) z (zeros 0 0 (word r 4) (word r 5)) true true (has (word r 1) (c.keys (Rows Trnsmode))) b ks
      (word r 1) e refl (ap (has (word r 1)) (sym k)) h
      ∙ sym (by_words ampersand t ∙ transport c stops (word r 1) (word r 2) (word r 3) (word r 4) (word r 5) (word r 6))

  pub attribute_row : tag r ≡ asterisk → (z : Bool) → z ≡ zeros 0 0 0 (word r 5) → (ks : List ℕ) → c.keys (Groups Footnote) ≡ ks → (b : Bool)
      → b ≡ (((code_right 4 (word r 1) && (ltb (word r 4) 100000 && true)) && z) && has (word r 4) ks) → b ≡ row_tests c stops r
  attribute_row t z e ks k b h =
      found ((code_right 4 (word r 1) && (ltb (word r 4) 100000 && true))) z (zeros 0 0 0 (word r 5)) true true
      (has (word r 4) (c.keys (Groups Footnote))) b ks (word r 4) e refl (ap (has (word r 4)) (sym k)) h
      ∙ sym (by_words asterisk t ∙ attribute c stops (word r 1) (word r 2) (word r 3) (word r 4) (word r 5) (word r 6))

  pub passed_row : tag r ≡ semicolon → (z : Bool) → z ≡ zeros (word r 2) (word r 3) (word r 4) (word r 5) → (ks : List ℕ)
      → c.keys (Rows Stations) ≡ ks → (b : Bool)
      → b ≡ (((code_right 7 (word r 1) && true) && z) && has (word r 1) ks) → b ≡ row_tests c stops r
  passed_row t z e ks k b h =
      found ((code_right 7 (word r 1) && true)) z (zeros (word r 2) (word r 3) (word r 4) (word r 5)) true true
      (has (word r 1) (c.keys (Rows Stations))) b ks (word r 1) e refl (ap (has (word r 1)) (sym k)) h
      ∙ sym (by_words semicolon t ∙ passed c stops (word r 1) (word r 2) (word r 3) (word r 4) (word r 5) (word r 6))

  pub platform_row : tag r ≡ question → (z : Bool) → z ≡ zeros (word r 2) (word r 3) (word r 4) (word r 5) → (ks : List ℕ)
      → c.keys (Groups Footnote) ≡ ks → (b : Bool)
      → b ≡ (((ltb (word r 1) 100000 && true) && z) && has (word r 1) ks) → b ≡ row_tests c stops r
  platform_row t z e ks k b h =
      found ((ltb (word r 1) 100000 && true)) z (zeros (word r 2) (word r 3) (word r 4) (word r 5)) true true
      (has (word r 1) (c.keys (Groups Footnote))) b ks (word r 1) e refl (ap (has (word r 1)) (sym k)) h
      ∙ sym (by_words question t ∙ platform c stops (word r 1) (word r 2) (word r 3) (word r 4) (word r 5) (word r 6))

  -- the times of a row that is a stop
  by_time_lem : (x : ℕ) → tag r ≡ x → block_meaning stops r ≡ block_meaning stops (seven_of x r)
  by_time_lem x e = ap (block_meaning stops) (seven r n) ∙ ap (λ (y : ℕ). block_meaning stops (seven_of y r)) e

  pub interval_row : tag r ≡ plus → (z : Bool) → z ≡ zeros 0 0 (word r 4) (word r 5) → (m : Bool) → m ≡ block_meaning stops r → (ks : List ℕ)
      → c.keys (Rows Stations) ≡ ks → (b : Bool)
      → b ≡ (((code_right 7 (word r 1) && (ltb (word r 2) 10000 && (ltb (word r 3) 10000 && true))) && z) && (m && has (word r 1) ks))
      → b ≡ row_tests c stops r
  interval_row t z e m f ks k b h =
      found (code_right 7 (word r 1) && (ltb (word r 2) 10000 && (ltb (word r 3) 10000 && true))) z (zeros 0 0 (word r 4) (word r 5)) m
      (block_meaning stops (seven_of plus r)) (has (word r 1) (c.keys (Rows Stations))) b ks (word r 1)
      e (f ∙ by_time_lem plus t) (ap (has (word r 1)) (sym k)) h
      ∙ sym (by_words plus t ∙ times c stops (word r 1) (word r 2) (word r 3) (word r 4) (word r 5) (word r 6))

  module _ (h1 : tag r ≡ hash → ⊥) (h2 : tag r ≡ percent → ⊥) (h3 : tag r ≡ dash → ⊥) (h4 : tag r ≡ ampersand → ⊥)
      (h5 : tag r ≡ asterisk → ⊥) (h6 : tag r ≡ plus → ⊥) (h7 : tag r ≡ semicolon → ⊥) (h8 : tag r ≡ question → ⊥) where
    pub plain_row : (z : Bool) → z ≡ zeros 0 (word r 3) (word r 4) (word r 5) → (m : Bool) → m ≡ block_meaning stops r → (ks : List ℕ)
        → c.keys (Rows Stations) ≡ ks → (b : Bool)
        → b ≡ (((code_right 7 (word r 1) && (ltb (word r 2) 10000 && true)) && z) && (m && has (word r 1) ks)) → b ≡ row_tests c stops r
    plain_row z e m f ks k b h =
        found (code_right 7 (word r 1) && (ltb (word r 2) 10000 && true)) z (zeros 0 (word r 3) (word r 4) (word r 5)) m
        (block_meaning stops (seven_of (tag r) r)) (has (word r 1) (c.keys (Rows Stations))) b ks (word r 1)
        e (f ∙ by_time_lem (tag r) refl) (ap (has (word r 1)) (sym k)) h
        ∙ sym (by_words (tag r) refl ∙ plain c stops (word r 1) (word r 2) (word r 3) (word r 4) (word r 5) (word r 6) (tag r) h1 h2 h3 h4 h5 h6 h7 h8)
