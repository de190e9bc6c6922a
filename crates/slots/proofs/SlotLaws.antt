-- The slots of an index: they start with nothing, a put keeps what stands, and a free slot says that a key is new. Assumes nothing.
use Prim.Native.Nat.{ℕ, zero, suc, ◌+◌, ◌-◌, ◌≤◌, ◌<◌}
use mathlib.Core.Path.{◌≡◌, refl, sym, ◌∙◌}
use mathlib.Core.List.{List}
use mathlib.Core.Bool.{Bool, true, false, ◌&&◌, true≢false}
use native.Mathlib.Omega.{arith}
use borrow.Author.Tests.{ltb-true, ltb-false, eqb-true, lt-ltb}
use lib.Dec.{ltb}
use lib.ListN.{length, get_or, set, length-set}
use lib.Seq.{get_or-set_same, get_or-set_other}
use Rattle.iff.specs.declared.File.{File}
use Rattle.iff.specs.Lists.{any, has}
use Rattle.iff.specs.Tables.{Row, row_width, row_at, key_tag, key_word, keyed}
use Rattle.tables.proofs.Keys.{has_keys}
use Rattle.keys.specs.Blocks.{block_of_rows, rows_between}
use Rattle.keys.specs.Places.{probes, place_of}
use Rattle.keys.proofs.Among.{any_row}
use Rattle.keys.proofs.PlaceLaws.{place_inside}
use Rattle.fresh_keys.proofs.Runs.{and_left, and_right}
use Rattle.slots.specs.Slots.{last_row, names_at, key_at, keys_between, PutBefore, Stands, Index, Kept}
use Rattle.slots.specs.Slots.{earlier, Passed, AllPassed, PassedFor, FirstFree, Probed}
use Rattle.slots.specs.declared.Met.TheVariants.{Taken}

-- what is in another slot stays, and a free slot is none that was put into
module _ (ps : List ℕ) (s row x : ℕ) (there : s < length ps) (some : 0 < row) (e : get_or (set ps s row) x 0 ≡ 0) where
  other_slot : x ≡ s → ⊥
  other_slot q =
      let z : row ≡ 0 = sym (get_or-set_same ps s row 0 there) ∙ rw q at e in
      omega arith

  still_free : get_or ps x 0 ≡ 0
  still_free = sym (get_or-set_other ps s x row 0 other_slot) ∙ e

module _ (f : File) (t : List ℕ) where
  -- before row 1
  pub starts : (slots : ℕ) (ps : List ℕ) → length ps ≡ slots → Index f t 1 slots ps
  starts slots ps e = record { wide = e; stands = λ j p h. absurd (omega arith) }

  module _ (i slots : ℕ) where
    -- one row more, which stands where it is to stand
    pub one_more : (ps : List ℕ) → Index f t i slots ps
        → (names_at f t i ≡ true → i ≤ last_row → probes < slots → Stands slots ps (key_at f t i) i)
        → Index f t (suc i) slots ps
    one_more ps x g = record { wide = x.wide; stands = λ j p h. go j p h (ltb j i) refl }
      where
        go : (j : ℕ) → 0 < j → j < suc i → (b : Bool) → ltb j i ≡ b → names_at f t j ≡ true → j ≤ last_row → probes < slots
            → Stands slots ps (key_at f t j) j
        go j p h true q = x.stands j p (ltb-true j i q)
        go j p h false q =
            let z : j ≡ i = omega (arith, ltb-false j i q) in
            rw z g

    -- a put into a free slot keeps what stands
    pub kept_by_put : (ps : List ℕ) → Index f t i slots ps → (s row : ℕ) → s < length ps → get_or ps s 0 ≡ 0 → 0 < row
        → Index f t i slots (set ps s row)
    kept_by_put ps x s row there free some =
        record {
          wide = length-set ps s row ∙ x.wide;
          stands = λ j p h n l w y low high e. moved y j p (x.stands j p h n l w y low high (still_free ps s row y there some e));
        }
      where
        moved : {from : ℕ} (y j : ℕ) → 0 < j → PutBefore ps from y j → PutBefore (set ps s row) from y j
        moved y j p q =
            let ne : q.at ≡ s → ⊥ = λ z. (let k : ◌≡◌ {A = ℕ} 0 j = sym free ∙ rw z at q.is in omega arith) in
            record { at = q.at; low = q.low; high = q.high; is = get_or-set_other ps s q.at row 0 ne ∙ q.is }

  -- what stands of many rows stands of fewer
  pub fewer_rows : (i n slots : ℕ) (ps : List ℕ) → n ≤ i → Index f t i slots ps → Index f t n slots ps
  fewer_rows i n slots ps l x = record { wide = x.wide; stands = λ j p h. x.stands j p (omega arith) }

  -- where there are too few slots for a key, nothing has to stand in them
  pub few_slots : (i : ℕ) (ps : List ℕ) → length ps ≤ probes → Index f t i (length ps) ps
  few_slots i ps h = record { wide = refl; stands = λ j p q n l w. absurd (omega arith) }

-- WHAT IS KEPT
pub kept_same : (ps : List ℕ) → Kept ps ps
kept_same ps = record { keeps = λ g u n slots x. x }

pub kept_then : {ps qs ms : List ℕ} → Kept ps qs → Kept qs ms → Kept ps ms
kept_then a b = record { keeps = λ g u n slots x. b.keeps g u n slots (a.keeps g u n slots x) }

-- WALKS
-- no row passes
none_row : (p : Row → Bool) (w : ℕ) (t : List ℕ) (i k : ℕ) → ((j : ℕ) → i ≤ j → j < i + k → p (row_at w t j) ≡ false)
    → any p (block_of_rows w t i k) ≡ false
unfolding any block_of_rows
none_row p w t i zero h = refl
none_row p w t i (suc k) h = rw (h i (omega arith) (omega arith)) (none_row p w t (suc i) k (λ j l g. h j (omega arith) (omega arith)))

-- the slots that are passed, one more
module _ (w tag col : ℕ) (t : List ℕ) (i key : ℕ) (ps : List ℕ) (from : ℕ) where
  pub one_passed : (to : ℕ) → AllPassed w tag col t i key ps from to
      → (get_or ps to 0 ≡ 0 → ⊥) → (b : Bool) → b ≡ earlier w tag col t i key (get_or ps to 0) → b ≡ false
      → AllPassed w tag col t i key ps from (to + 1)
  one_passed to g n b e q x l h = go (ltb x to) refl
    where
      go : (c : Bool) → ltb x to ≡ c → Passed w tag col t i key (get_or ps x 0)
      go true y = g x l (ltb-true x to y)
      go false y =
          let z : x ≡ to = omega (arith, ltb-false x to y) in
          rw z (record { some = omega arith; other = sym e ∙ q })

-- the walk asks for the file's own tag and word, in rows of its width
module _ (f : File) (w tag col : ℕ) (v : w ≡ row_width f) (g : tag ≡ key_tag f) (m : col ≡ key_word f)
    (t : List ℕ) (i key : ℕ) (ps : List ℕ) (from : ℕ) where
  pub taken_met : (row : ℕ) (b : Bool) → b ≡ earlier w tag col t i key row → b ≡ true → Probed f t i key ps from Taken
  taken_met row b e y =
      let q : earlier (row_width f) (key_tag f) (key_word f) t i key row ≡ true = rw (← v, ← g, ← m) (sym e ∙ y) in
      let h : row < i = ltb-true row i (and_left (ltb row i) _ q) in
      record {
        free = λ x z. absurd (let z : ◌≡◌ {A = ℕ} 0 1 = cc in omega arith);
        taken = λ z.
            has_keys f key (rows_between (row_width f) t 0 i)
            ∙ any_row (keyed (key_tag f) (key_word f) key) (row_width f) t 0 (i - 0) row (omega arith) (omega arith) (and_right (ltb row i) _ q);
        full = λ z. absurd (let z : ◌≡◌ {A = ℕ} 0 1 = cc in omega arith);
      }

-- what a walk says of the key of row i
module _ (f : File) (t : List ℕ) (i slots : ℕ) (ps : List ℕ) (x : Index f t i slots ps) (wide : probes < slots) (few : i ≤ last_row)
    (key : ℕ) where
  -- a free slot before any row of the key: it is new
  pub new_by_free : names_at f t 0 ≡ false → (s : ℕ) → FirstFree f t i key ps (place_of key slots) s → has key (keys_between f t 0 i) ≡ false
  new_by_free first s free =
      has_keys f key (rows_between (row_width f) t 0 i)
      ∙ none_row names (row_width f) t 0 (i - 0) (λ j l h. go j (omega arith) (names (row_at (row_width f) t j)) refl)
    where
      names : Row → Bool
      names r = keyed (key_tag f) (key_word f) key r

      row : (j : ℕ) → 0 < j → j < i → names (row_at (row_width f) t j) ≡ true → ⊥
      row j p h e =
          let k : key_at f t j ≡ key = eqb-true (key_at f t j) key (and_right (names_at f t j) _ e) in
          let q : PutBefore ps (place_of key slots) s j =
          (rw k at (x.stands j p h (and_left (names_at f t j) _ e) (omega arith) wide s)) free.low free.high free.free
          in
          let n : (ltb j i && names (row_at (row_width f) t j)) ≡ false = rw q.is at (free.passed q.at q.low q.high).other in
          true≢false (sym (rw (lt-ltb j i h, e)) ∙ n)

      go : (j : ℕ) → j < i → (b : Bool) → names (row_at (row_width f) t j) ≡ b → names (row_at (row_width f) t j) ≡ false
      go zero h true e = absurd (true≢false (sym (and_left (names_at f t 0) _ e) ∙ first))
      go (suc j) h true e = absurd (row (suc j) (omega arith) h e)
      go j h false e = e

  -- it is one of the slots
  free_inside : (s : ℕ) → FirstFree f t i key ps (place_of key slots) s → s < length ps
  free_inside s free = omega (arith, free.high, x.wide, place_inside key slots wide)

  -- a put there loses no index
  pub kept_put : 0 < i → (s : ℕ) → FirstFree f t i key ps (place_of key slots) s → Kept ps (set ps s i)
  kept_put some s free = record { keeps = λ g u n m y. kept_by_put g u n m ps y s i (free_inside s free) free.free some }

  module _ (some : 0 < i) (is : key_at f t i ≡ key) where
    -- the row is put there
    pub put_indexed : (s : ℕ) → FirstFree f t i key ps (place_of key slots) s → Index f t (suc i) slots (set ps s i)
    put_indexed s free = one_more f t i slots (set ps s i) ((kept_put some s free).keeps f t i slots x) (λ n l w. rw is stands)
      where
        there : s < length ps
        there = free_inside s free

        stands : Stands slots (set ps s i) key i
        stands y l h e =
            let p : s < y = after (ltb s y) refl in
            record { at = s; low = free.low; high = p; is = get_or-set_same ps s i 0 there }
          where
            before : y < s → ⊥
            before q = (let p = (free.passed y l q).some in let z = still_free ps s i y there some e in omega arith)

            after : (b : Bool) → ltb s y ≡ b → s < y
            after true q = ltb-true s y q
            after false q = absurd (before (omega (arith, other_slot ps s i y there some e, ltb-false s y q)))

    -- or there is no slot for it
    pub full_indexed : PassedFor f t i key ps (place_of key slots) (place_of key slots + probes) → Index f t (suc i) slots ps
    full_indexed full =
        one_more f t i slots ps x
        (λ n l w. rw is (λ y l h e. absurd (let p = (full y l h).some in omega arith)))
