-- Laws of records that are told by their fields: one for each record, over the columns from `at` up to `end`; and of what they name. Assumes nothing.
use Rattle.std.specs.Prelude.{None, Option, Some}
use Prim.Native.Nat.{ℕ, ◌+◌, ◌-◌, ◌<◌}
use mathlib.Core.Path.{◌≡◌, refl, sym, ◌∙◌}
use mathlib.Core.List.{List, [], ◌∷◌}
use mathlib.Core.Bool.{Bool, true, false, ◌&&◌, false≢true}
use native.Mathlib.Omega.{arith}
use lib.Dec.{ltb}
use lib.ListN.{take, drop}
use borrow.Author.Tests.{eq-eqb, ne_eqb, lt-ltb}
use Rattle.iff.specs.Lists.{all, has}
use Rattle.iff.specs.Columns.{picture, picture_from, service_fields, number_fields, validity_fields, transport_fields, attribute_fields}
use Rattle.iff.specs.Columns.{stop_fields, interval_fields, passed_fields, platform_fields}
use Rattle.iff.specs.Values.{number_of, code_of, all_blank, stop_of, field_right, field_words, words}
use Rattle.iff.specs.Tables.{padded}
use Rattle.iff.specs.declared.File.{File}
use Rattle.iff_rules.specs.Meaning.{most_stops}
use Rattle.std.specs.Option.{is_some}
use Rattle.keys.specs.Lookup.{keys_among, HitRow}
use Rattle.keys.proofs.Among.{key_named}
use Rattle.quick_lines.specs.Pictures.{Pictured}
use Rattle.quick_words.specs.Told.{Told}

-- nothing is told by a width of 0
pub nothing : {A : Type 0} (w : ℕ) → w ≡ 0 → 0 < w → A
nothing w e h = absurd (omega arith)

-- a row that a search hit names its key
pub there : (f : File) (used : ℕ) (t : List ℕ) (key : ℕ) (r : Option ℕ) → HitRow f used t key r → is_some r ≡ true → has key (keys_among f used t) ≡ true
there f used t key (Some i) h e = key_named f used t key i (h.found i refl)
there f used t key None h e = absurd (false≢true e)

-- a stop that is not one too many, and a test of its times
pub in_time : (stops : ℕ) (b m : Bool) → stops < most_stops → b ≡ m → b ≡ true → (ltb stops most_stops && m) ≡ true
in_time stops b m few e h = rw (lt-ltb stops most_stops few, sym e ∙ h)

-- A STOP'S NUMBER k, which a field says
module _ (n m k : ℕ) (e : k ≡ m) where
  pub first_stop_lem : k ≡ 0 → 1 ≡ stop_of n m
  first_stop_lem z = simp (eq-eqb m 0 (sym e ∙ z))

  pub last_stop_lem : k ≡ 999 → n ≡ stop_of n m
  last_stop_lem z = rw (sym e ∙ z)

  pub that_stop : (k ≡ 0 → ⊥) → (k ≡ 999 → ⊥) → k ≡ stop_of n m
  that_stop y z = rw e (simp (ne_eqb m 0 (λ q. y (e ∙ q)), ne_eqb m 999 (λ q. z (e ∙ q))))

module _ (t : List ℕ) (at end n : ℕ) where
  -- the columns from `from` on, so many of them, of the line up to `end`
  abbrev part : ℕ → ℕ → List ℕ
  part from w = take w (drop from (take (end - at) (drop at t)))

  pub service_told : end ≡ at + 9 → Pictured t at (picture service_fields) → (k a : ℕ) → a ≡ number_of (part 1 8)
      → Told t at service_fields n (k ∷ n ∷ []) (record { width = 9; one = a; two = k; three = n; four = 0 })
  unfolding picture_from all field_right words field_words padded
  service_told e p k a i =
      let w : end - at ≡ 9 = omega arith in
      record { seen = p; wide = refl; right = refl; kept = rw (rw w at i) }

  pub train_told : end ≡ at + 57 → Pictured t at (picture (number_fields 7)) → (a b c d : ℕ) → a ≡ number_of (part 1 3) → b ≡ number_of (part 5 5)
      → c ≡ stop_of n (number_of (part 19 3)) → d ≡ stop_of n (number_of (part 23 3))
      → Told t at (number_fields 7) n [] (record { width = 57; one = a; two = b; three = c; four = d })
  unfolding picture_from all field_right words field_words padded
  train_told e p a b c d i j k l =
      let w : end - at ≡ 57 = omega arith in
      record { seen = p; wide = refl; right = refl; kept = rw (rw w at i, rw w at j, rw w at k, rw w at l) }

  pub validity_told : end ≡ at + 14 → Pictured t at (picture validity_fields) → (a b c : ℕ) → a ≡ number_of (part 1 5)
      → b ≡ stop_of n (number_of (part 7 3)) → c ≡ stop_of n (number_of (part 11 3))
      → Told t at validity_fields n [] (record { width = 14; one = a; two = b; three = c; four = 0 })
  unfolding picture_from all field_right words field_words padded
  validity_told e p a b c i j k =
      let w : end - at ≡ 14 = omega arith in
      record { seen = p; wide = refl; right = refl; kept = rw (rw w at i, rw w at j, rw w at k) }

  pub transport_told : end ≡ at + 13 → Pictured t at (picture transport_fields) → all_blank (part 1 4) ≡ false
      → (a b c : ℕ) → a ≡ code_of (part 1 4) → b ≡ stop_of n (number_of (part 6 3)) → c ≡ stop_of n (number_of (part 10 3))
      → Told t at transport_fields n [] (record { width = 13; one = a; two = b; three = c; four = 0 })
  unfolding picture_from all field_right words field_words padded
  transport_told e p z a b c i j k =
      let w : end - at ≡ 13 = omega arith in
      record { seen = p; wide = refl; right = rw (rw w at z); kept = rw (rw w at i, rw w at j, rw w at k) }

  pub attribute_told : end ≡ at + 19 → Pictured t at (picture attribute_fields) → all_blank (part 1 4) ≡ false
      → (a b c d : ℕ) → a ≡ code_of (part 1 4) → b ≡ stop_of n (number_of (part 6 3)) → c ≡ stop_of n (number_of (part 10 3)) → d ≡ number_of (part 14 5)
      → Told t at attribute_fields n [] (record { width = 19; one = a; two = b; three = c; four = d })
  unfolding picture_from all field_right words field_words padded
  attribute_told e p z a b c d i j k l =
      let w : end - at ≡ 19 = omega arith in
      record { seen = p; wide = refl; right = rw (rw w at z); kept = rw (rw w at i, rw w at j, rw w at k, rw w at l) }

  pub stop_told : end ≡ at + 13 → Pictured t at (picture stop_fields) → all_blank (part 1 7) ≡ false
      → (a b : ℕ) → a ≡ code_of (part 1 7) → b ≡ number_of (part 9 4)
      → Told t at stop_fields n [] (record { width = 13; one = a; two = b; three = 0; four = 0 })
  unfolding picture_from all field_right words field_words padded
  stop_told e p z a b i j =
      let w : end - at ≡ 13 = omega arith in
      record { seen = p; wide = refl; right = rw (rw w at z); kept = rw (rw w at i, rw w at j) }

  pub interval_told : end ≡ at + 18 → Pictured t at (picture interval_fields) → all_blank (part 1 7) ≡ false
      → (a b c : ℕ) → a ≡ code_of (part 1 7) → b ≡ number_of (part 9 4) → c ≡ number_of (part 14 4)
      → Told t at interval_fields n [] (record { width = 18; one = a; two = b; three = c; four = 0 })
  unfolding picture_from all field_right words field_words padded
  interval_told e p z a b c i j k =
      let w : end - at ≡ 18 = omega arith in
      record { seen = p; wide = refl; right = rw (rw w at z); kept = rw (rw w at i, rw w at j, rw w at k) }

  pub passed_told : end ≡ at + 8 → Pictured t at (picture passed_fields) → all_blank (part 1 7) ≡ false → (a : ℕ) → a ≡ code_of (part 1 7)
      → Told t at passed_fields n [] (record { width = 8; one = a; two = 0; three = 0; four = 0 })
  unfolding picture_from all field_right words field_words padded
  passed_told e p z a i =
      let w : end - at ≡ 8 = omega arith in
      record { seen = p; wide = refl; right = rw (rw w at z); kept = rw (rw w at i) }

  pub platform_told : end ≡ at + 18 → Pictured t at (picture platform_fields) → (a : ℕ) → a ≡ number_of (part 13 5)
      → Told t at platform_fields n [] (record { width = 18; one = a; two = 0; three = 0; four = 0 })
  unfolding picture_from all field_right words field_words padded
  platform_told e p a i =
      let w : end - at ≡ 18 = omega arith in
      record { seen = p; wide = refl; right = refl; kept = rw (rw w at i) }
