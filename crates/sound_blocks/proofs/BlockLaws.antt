-- One block, and then all of them: what each way out of the tests says. Assumes nothing.
use Rattle.std.specs.Prelude.{None, Option, Some}
use Prim.Native.Nat.{ℕ, zero, suc, ◌-◌, ◌≤◌, ◌<◌}
use mathlib.Core.Path.{◌≡◌, refl, ap, sym, ◌∙◌}
use mathlib.Core.List.{List, [], ◌∷◌}
use mathlib.Core.Bool.{Bool, true, false, ◌&&◌}
use native.Mathlib.Omega.{arith}
use borrow.Author.Tests.{eq-eqb, ne_eqb, ltb-true, ltb-false}
use lib.Dec.{eqb, ltb}
use lib.ListN.{length}
use Rattle.iff.specs.Lists.{front, groups, all, all_of}
use Rattle.iff.specs.Tables.{Row, is_hash_row, row_at, row_width}
use Rattle.iff.specs.Words.{line_count, stop_count}
use Rattle.iff.specs.declared.File.TheVariants.{Timetbls}
use Rattle.iff.specs.declared.InBlock.{InBlock}
use Rattle.iff_rules.specs.Order.{finished}
use Rattle.iff_rules.specs.Legs.{stops_of, reach_of, legs}
use Rattle.iff_rules.specs.Rows.{Context}
use Rattle.iff_rules.specs.Load.{block_start}
use Rattle.iff_desk.specs.Sound.{passes, sound_block_row, next_row, rows_start, stand_after_rows, sound_block, sound_timetbls}
use Rattle.keys.specs.Blocks.{block_of_rows}
use Rattle.references.specs.declared.BlockCounts.{BlockCounts}
use Rattle.references.specs.Agree.{BlockKeysAmong}
use Rattle.row_legs.specs.Blocks.{BlockOfStops}
use Rattle.walks.specs.Heads.{NextHead}
use Rattle.walks.proofs.GroupLaws.{between_none, between_first, group_at_lem}
use Rattle.sound_row_walks.specs.Walk.{BlockAt, rows_of, is_through, BlockWalked}
use Rattle.sound_blocks.specs.Blocks.{group_of, is_sound, BlockTold}
use Rattle.sound_block_rows.proofs.TestLaws.{one_false}

-- ONE BLOCK
rows_count : (t : List ℕ) (i k : ℕ) → length (block_of_rows (row_width Timetbls) t i k) ≡ k
unfolding block_of_rows
rows_count t i zero = refl
rows_count t i (suc k) = ap suc (rows_count t (suc i) k)

-- the tests of a block whose `#` row is `top`, over its rows and their number
abbrev tests_of : Context → Row → ℕ → List Row → List Bool
tests_of c top n rows =
    passes (sound_block_row c) next_row rows_start rows
    ∷ finished (stand_after_rows block_start rows)
    ∷ legs reach_of rows
    ∷ eqb (line_count top) n
    ∷ eqb (stop_count top) (stops_of rows)
    ∷ []

abbrev tests : Context → List ℕ → ℕ → ℕ → List Bool
tests c t from to = tests_of c (row_at (row_width Timetbls) t from) (to - from) (rows_of t from to)

as_tests : (c : Context) (t : List ℕ) (from to : ℕ) → from < to → all_of (tests c t from to) ≡ sound_block c (group_of t from to)
unfolding sound_block
as_tests c t from to h =
    let top = row_at (row_width Timetbls) t from in
    ap (λ (n : ℕ). all_of (tests_of c top n (rows_of t from to))) (sym (rows_count t from (to - from)))
    ∙ ap (λ (rs : List Row). all_of (tests_of c top (length rs) rs)) (between_first (row_width Timetbls) t from to h)

module _ (counts : BlockCounts) (co mo st fo t : List ℕ) (from used : ℕ) (at : BlockAt t from used) (w : Option (InBlock × ℕ))
    (walk : BlockWalked counts co mo st fo t from used w) where
  abbrev Told : Option ℕ → Type 0
  Told r = BlockTold counts co mo st fo t from used r

  some : from < walk.end
  some = omega (arith, walk.next.low)

  -- one test that does not hold
  unsound : ((c : Context) → BlockKeysAmong c counts co mo st fo → false ≡ all_of (tests c t from walk.end)) → Told None
  unsound says =
      record {
        end = walk.end;
        next = walk.next;
        says = λ c g. says c g ∙ as_tests c t from walk.end some;
        ended = λ to q. absurd (let z : ◌≡◌ {A = ℕ} 0 1 = cc in omega arith);
      }

  pub unsound_row : w ≡ None → Told None
  unsound_row e = unsound (λ c g. one_false (tests c t from walk.end) 0 (sym (walk.says c g) ∙ ap is_through e))

  module _ (block : InBlock) (to : ℕ) (e : w ≡ Some (block, to)) where
    pub is_end : to ≡ walk.end
    is_end = (walk.ended block to e).0

    -- the block stands in the table
    pub block_in : from ≤ to
    block_in = omega (arith, is_end, some)

    pub other_lines : (line_count (row_at (row_width Timetbls) t from) ≡ to - from → ⊥) → Told None
    other_lines n = unsound (λ c g. one_false (tests c t from walk.end) 3 (ne_eqb _ _ (λ q. n (q ∙ ap (λ (k : ℕ). k - from) (sym is_end)))))

    pub unfinished : finished block.stand ≡ false → Told None
    unfinished n = unsound (λ c g. one_false (tests c t from walk.end) 1 (ap finished (walk.ended block to e).1.stand ∙ n))

    pub other_stops : (stop_count (row_at (row_width Timetbls) t from) ≡ block.stops → ⊥) → Told None
    other_stops n =
        unsound (λ c g. one_false (tests c t from walk.end) 4 (ne_eqb _ _ (λ q. n (q ∙ sym (walk.ended block to e).1.stops))))

    -- what the test of legs asks
    pub legs_ask : BlockOfStops t from to block.stops
    legs_ask =
        let l = (walk.ended block to e).1 in
        rw is_end record {
          rises = omega (arith, some);
          inside = omega (arith, at.inside, walk.next.high);
          stops = l.stops;
          few = l.few;
        }

    module _ (b : Bool) (l : b ≡ legs reach_of (rows_of t from to)) where
      right : b ≡ legs reach_of (rows_of t from walk.end)
      right = l ∙ ap (λ (k : ℕ). legs reach_of (rows_of t from k)) is_end

      pub other_legs : b ≡ false → Told None
      other_legs f = unsound (λ c g. one_false (tests c t from walk.end) 2 (sym right ∙ f))

      -- where all tests hold
      pub block_sound : line_count (row_at (row_width Timetbls) t from) ≡ to - from → finished block.stand ≡ true
          → stop_count (row_at (row_width Timetbls) t from) ≡ block.stops → b ≡ true → Told (Some to)
      unfolding all_of
      block_sound n f s y =
          record {
            end = walk.end;
            next = walk.next;
            says = λ c g.
                let top = row_at (row_width Timetbls) t from in
                let rows : passes (sound_block_row c) next_row rows_start (rows_of t from walk.end) ≡ true = sym (walk.says c g) ∙ ap is_through e in
                let ends : finished (stand_after_rows block_start (rows_of t from walk.end)) ≡ true =
                ap finished (walk.ended block to e).1.stand ∙ f in
                let lie : legs reach_of (rows_of t from walk.end) ≡ true = sym right ∙ y in
                let lines : eqb (line_count top) (walk.end - from) ≡ true = eq-eqb _ _ (n ∙ ap (λ (k : ℕ). k - from) is_end) in
                let stops : eqb (stop_count top) (stops_of (rows_of t from walk.end)) ≡ true =
                eq-eqb _ _ (s ∙ (walk.ended block to e).1.stops) in
                let hold : true ≡ all_of (tests c t from walk.end) = rw (rows, ends, lie, lines, stops) in
                hold ∙ as_tests c t from walk.end some;
            ended = λ k q. let z : to ≡ k = cc in sym z ∙ is_end;
          }

-- ALL BLOCKS: what is left is the whole
pub record Left (counts : BlockCounts) (co mo st fo t : List ℕ) (used i : ℕ) : Type 0 where
  pub low : 1 ≤ i
  pub high : i ≤ used
  pub says :
      (c : Context) → BlockKeysAmong c counts co mo st fo → sound_timetbls c (rows_of t 1 used) ≡ sound_timetbls c (rows_of t i used)

-- rows that begin with something else than a `#`, and those that begin with one
stray_row : (c : Context) (r : Row) (rs : List Row) → is_hash_row r ≡ false → sound_timetbls c (r ∷ rs) ≡ false
unfolding sound_timetbls front
stray_row c r rs e = rw e

head_row : (c : Context) (r : Row) (rs : List Row) → is_hash_row r ≡ true → sound_timetbls c (r ∷ rs) ≡ all (sound_block c) (groups is_hash_row (r ∷ rs))
unfolding sound_timetbls front
head_row c r rs e = rw e

-- the rows behind a block begin with a `#`, where there are any
behind_block : (c : Context) (t : List ℕ) (from used end : ℕ) → NextHead (row_width Timetbls) t from used end
    → sound_timetbls c (rows_of t end used) ≡ all (sound_block c) (groups is_hash_row (rows_of t end used))
unfolding sound_timetbls front
behind_block c t from used end n = go (ltb end used) refl
  where
    go : (b : Bool) → ltb end used ≡ b → sound_timetbls c (rows_of t end used) ≡ all (sound_block c) (groups is_hash_row (rows_of t end used))
    go true q =
        let h : end < used = ltb-true end used q in
        rw (between_first (row_width Timetbls) t end used h)
        (head_row c (row_at (row_width Timetbls) t end) (rows_of t (suc end) used) (n.head h))
    go false q = rw (between_none (row_width Timetbls) t end used (ltb-false end used q))

module _ (counts : BlockCounts) (co mo st fo t : List ℕ) (used : ℕ) where
  abbrev pub AllSays : Bool → Type 0
  AllSays b = (c : Context) → BlockKeysAmong c counts co mo st fo → b ≡ sound_timetbls c (rows_of t 1 used)

  pub starts : 1 ≤ used → Left counts co mo st fo t used 1
  starts h = record { low = omega arith; high = h; says = λ c g. refl }

  module _ (i : ℕ) (p : Left counts co mo st fo t used i) where
    pub ends : used ≤ i → AllSays true
    unfolding sound_timetbls front all groups
    ends h c g =
        let none = between_none (row_width Timetbls) t i used h in
        sym (p.says c g ∙ rw none)

    module _ (l : i < used) where
      -- a row that stands in no block
      pub stray : is_hash_row (row_at (row_width Timetbls) t i) ≡ false → AllSays false
      stray e c g =
          sym (p.says c g
          ∙ ap (sound_timetbls c) (between_first (row_width Timetbls) t i used l)
          ∙ stray_row c (row_at (row_width Timetbls) t i) (rows_of t (suc i) used) e)

      -- the block that begins in row i
      module _ (head : is_hash_row (row_at (row_width Timetbls) t i) ≡ true) (b : Option ℕ) (told : BlockTold counts co mo st fo t i used b) where
        one_more : (c : Context)
            → sound_timetbls c (rows_of t i used) ≡ (sound_block c (group_of t i told.end) && sound_timetbls c (rows_of t told.end used))
        unfolding all
        one_more c =
            ap (sound_timetbls c) (between_first (row_width Timetbls) t i used l)
            ∙ head_row c (row_at (row_width Timetbls) t i) (rows_of t (suc i) used) head
            ∙ ap (λ (rs : List Row). all (sound_block c) (groups is_hash_row rs)) (sym (between_first (row_width Timetbls) t i used l))
            ∙ ap (all (sound_block c)) (group_at_lem (row_width Timetbls) t i used told.end l head told.next)
            ∙ ap (λ (x : Bool). sound_block c (group_of t i told.end) && x) (sym (behind_block c t (suc i) used told.end told.next))

        pub unsound_block : b ≡ None → AllSays false
        unsound_block e c g = sym (p.says c g ∙ one_more c ∙ rw (sym (told.says c g) ∙ ap is_sound e))

        module _ (to : ℕ) (e : b ≡ Some to) where
          pub goes_on : Left counts co mo st fo t used to
          goes_on =
              rw (told.ended to e) record {
                low = omega (arith, told.next.low);
                high = told.next.high;
                says = λ c g. p.says c g ∙ one_more c ∙ rw (sym (told.says c g) ∙ ap is_sound e);
              }

          pub rises : i < to
          rises = omega (arith, told.ended to e, told.next.low)
