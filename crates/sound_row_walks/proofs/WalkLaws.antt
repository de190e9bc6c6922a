-- The walk over the rows of a block: what is left is the whole. Assumes nothing.
use Rattle.std.specs.Prelude.{None, Option, Some}
use Prim.Native.Nat.{ℕ, zero, suc, ◌+◌, ◌-◌, ◌≤◌, ◌<◌}
use mathlib.Core.Path.{◌≡◌, refl, ap, sym, ◌∙◌}
use mathlib.Core.List.{List, [], ◌∷◌}
use mathlib.Core.Bool.{Bool, true, false, ◌&&◌, cond}
use native.Mathlib.Numerals.{add-one}
use native.Mathlib.Omega.{arith}
use borrow.Author.Tests.{ltb-true, ltb-false}
use lib.Dec.{ltb}
use lib.ListN.{length}
use Rattle.text.proofs.PictureLaws.{and_left, and_right}
use Rattle.iff.specs.Lists.{kept}
use Rattle.iff.specs.Tables.{Row, tag, is_hash_row, row_at, row_width}
use Rattle.iff.specs.declared.File.TheVariants.{Timetbls}
use Rattle.iff.specs.declared.InBlock.{InBlock}
use Rattle.iff_rules.specs.Order.{is_stop}
use Rattle.iff_rules.specs.Meaning.{most_stops}
use Rattle.iff_rules.specs.Legs.{one, stops_of}
use Rattle.iff_rules.specs.Rows.{Context}
use Rattle.iff_rules.specs.Load.{block_start, block_moves}
use Rattle.iff_desk.specs.Sound.{InRows, passes, sound_block_row, next_row, rows_start, stand_after_rows}
use Rattle.references.specs.declared.BlockCounts.{BlockCounts}
use Rattle.references.specs.Agree.{BlockKeysAmong}
use Rattle.walks.specs.Heads.{NextHead}
use Rattle.walks.proofs.GroupLaws.{between_none, between_first, Passed, starts, goes_on, stops, ends}
use Rattle.walks.proofs.PassLaws.{all_passed, row_fails, row_passes}
use Rattle.sound_block_rows.specs.Told.{is_sound, RowTold}
use Rattle.sound_row_walks.specs.Walk.{BlockAt, rows_of, LedTo, BlockWalked}

-- the stops of one row and of those behind it
stops_more : (r : Row) (rs : List Row) → stops_of (r ∷ rs) ≡ one (is_stop (tag r)) + stops_of rs
unfolding kept
stops_more r rs = go (is_stop (tag r))
  where
    left : List Row
    left = kept (λ x. is_stop (tag x)) rs

    go : (b : Bool) → length (cond b (r ∷ left) left) ≡ one b + length left
    go true = omega arith
    go false = omega arith

-- before row i, which is line `i - from + 1` of its block
abbrev before : InBlock → ℕ → ℕ → InRows
before block from i = record { block = block; line = i - from + 1 }

-- what is left of the rows before `to` is the whole
pub record Standing (counts : BlockCounts) (co mo st fo t : List ℕ) (from to i : ℕ) (block : InBlock) : Type 0 where
  pub stand : stand_after_rows block_start (rows_of t from to) ≡ stand_after_rows block (rows_of t i to)
  pub stops : stops_of (rows_of t from to) ≡ block.stops + stops_of (rows_of t i to)
  pub says :
      (c : Context) → BlockKeysAmong c counts co mo st fo
      → passes (sound_block_row c) next_row rows_start (rows_of t from to) ≡ passes (sound_block_row c) next_row (before block from i) (rows_of t i to)

module _ (counts : BlockCounts) (co mo st fo t : List ℕ) (from to : ℕ) where
  stands_first : Standing counts co mo st fo t from to from block_start
  stands_first =
      let z : 1 ≡ from - from + 1 = omega arith in
      record {
        stand = refl;
        stops = omega arith;
        says = λ c g. ap (λ n. passes (sound_block_row c) next_row (record { block = block_start; line = n }) (rows_of t from to)) z;
      }

  module _ (i : ℕ) (block : InBlock) (p : Standing counts co mo st fo t from to i block) (low : from ≤ i) (h : i < to) (a : Option InBlock)
      (told : RowTold counts co mo st fo block (i - from + 1) (row_at (row_width Timetbls) t i) a) where
    falls : a ≡ None → (c : Context) → BlockKeysAmong c counts co mo st fo
        → false ≡ passes (sound_block_row c) next_row rows_start (rows_of t from to)
    falls e c g =
        row_fails (sound_block_row c) next_row (row_width Timetbls) t to i (before block from i) h (is_sound a) (told.says c g) (ap is_sound e)
        ∙ sym (p.says c g)

    stands_next : (next : InBlock) → a ≡ Some next → Standing counts co mo st fo t from to (i + 1) next
    unfolding stand_after_rows block_moves
    stands_next next e =
        let r = row_at (row_width Timetbls) t i in
        let moved : next ≡ block_moves block (tag r) = (told.leads next e).is in
        let first = between_first (row_width Timetbls) t i to h in
        let z : suc (i - from + 1) ≡ i + 1 - from + 1 = omega arith in
        record {
          stand = p.stand ∙ rw (first, add-one, moved);
          stops = p.stops ∙ rw (first, add-one, moved) (omega (arith, stops_more r (rows_of t (suc i) to)));
          says =
              λ c g. p.says c g
              ∙ row_passes (sound_block_row c) next_row (row_width Timetbls) t to i (before block from i) h (is_sound a) (told.says c g) (ap is_sound e)
              ∙ ap (λ n. passes (sound_block_row c) next_row (record { block = block_moves block (tag r); line = n }) (rows_of t (i + 1) to)) z
              ∙ ap (λ b. passes (sound_block_row c) next_row (before b from (i + 1)) (rows_of t (i + 1) to)) (sym moved);
        }

-- WHERE A BLOCK ENDS: the rows passed begin no other block, so the next `#` stands behind them
record Ending (t : List ℕ) (from used i : ℕ) : Type 0 where
  end : ℕ
  low : i ≤ end
  next : NextHead (row_width Timetbls) t from used end

ending : (t : List ℕ) (from used k i : ℕ) → used - i ≡ k → Passed (row_width Timetbls) t from used i → Ending t from used i
ending t from used zero i e p = record { end = i; low = omega arith; next = ends (row_width Timetbls) t from used i p (omega (arith, p.high)) }
ending t from used (suc k) i e p = go (is_hash_row (row_at (row_width Timetbls) t i)) refl (ending t from used k (i + 1) (omega arith))
  where
    go : (b : Bool) → is_hash_row (row_at (row_width Timetbls) t i) ≡ b
        → (Passed (row_width Timetbls) t from used (i + 1) → Ending t from used (i + 1)) → Ending t from used i
    go true h rec = record { end = i; low = omega arith; next = stops (row_width Timetbls) t from used i p (omega arith) h }
    go false h rec =
        let y = rec (goes_on (row_width Timetbls) t from used i p (omega arith) h) in
        record { end = y.end; low = omega (arith, y.low); next = y.next }

-- THE WALK has come to row i, whatever the block's end is
pub record Walking (counts : BlockCounts) (co mo st fo t : List ℕ) (from used i : ℕ) (block : InBlock) : Type 0 where
  pub low : from ≤ i
  pub high : i ≤ used
  pub few : block.stops ≤ most_stops
  pub passed : from < i → Passed (row_width Timetbls) t (suc from) used i
  pub stands : (to : ℕ) → i ≤ to → Standing counts co mo st fo t from to i block

module _ (counts : BlockCounts) (co mo st fo t : List ℕ) (from used : ℕ) (at : BlockAt t from used) where
  pub walk_starts : Walking counts co mo st fo t from used from block_start
  walk_starts =
      record {
        low = omega arith;
        high = omega (arith, at.some);
        few = omega arith;
        passed = λ h. absurd (omega arith);
        stands = λ to h. stands_first counts co mo st fo t from to;
      }

  module _ (i : ℕ) (block : InBlock) (p : Walking counts co mo st fo t from used i block) where
    -- at the next `#`, or where there are no rows left
    comes_to : NextHead (row_width Timetbls) t (suc from) used i → BlockWalked counts co mo st fo t from used (Some (block, i))
    unfolding stand_after_rows kept
    comes_to n =
        let s = p.stands i (omega arith) in
        let none = between_none (row_width Timetbls) t i i (omega arith) in
        record {
          end = i;
          next = n;
          says = λ c g. all_passed (sound_block_row c) next_row (row_width Timetbls) t i i (before block from i) (omega arith) ∙ sym (s.says c g);
          ended = λ b to e. led s none b to e;
        }
      where
        led : Standing counts co mo st fo t from i i block → rows_of t i i ≡ [] → (b : InBlock) (to : ℕ) → ◌≡◌ {A = Option (InBlock × ℕ)} (Some (block, i)) (Some (b, to))
            → (to ≡ i) × LedTo (rows_of t from i) b
        led s none b to e =
            let both : ◌≡◌ {A = InBlock × ℕ} (block, i) (b, to) = cc in
            let q : block ≡ b = ap (λ x. x.0) both in
            let z : i ≡ to = ap (λ x. x.1) both in (
              sym z,
              record {
                stand = s.stand ∙ rw none (ap (λ k. k.stand) q);
                stops = omega (arith, ap (λ k. k.stops) q, s.stops, ap stops_of none);
                few = omega (arith, ap (λ k. k.stops) q, p.few);
              },
            )

    pub walk_ends : used ≤ i → BlockWalked counts co mo st fo t from used (Some (block, i))
    walk_ends h = comes_to (ends (row_width Timetbls) t (suc from) used i (p.passed (omega (arith, at.some))) h)

    pub walk_ends_at : used ≤ i → (n : ℕ) → i ≡ n → BlockWalked counts co mo st fo t from used (Some (block, n))
    walk_ends_at h n e = rw (← e) (walk_ends h)

    module _ (h : i < used) (b : Bool) (e : b ≡ (ltb from i && is_hash_row (row_at (row_width Timetbls) t i))) where
      pub walk_stops : b ≡ true → BlockWalked counts co mo st fo t from used (Some (block, i))
      walk_stops f =
          let both : ltb from i && is_hash_row (row_at (row_width Timetbls) t i) ≡ true = sym e ∙ f in
          let more : from < i = ltb-true from i (and_left (ltb from i) (is_hash_row (row_at (row_width Timetbls) t i)) both) in
          comes_to
          (stops (row_width Timetbls) t (suc from) used i (p.passed more) h (and_right (ltb from i) (is_hash_row (row_at (row_width Timetbls) t i)) both))

      module _ (f : b ≡ false) where
        passes_row : Passed (row_width Timetbls) t (suc from) used (i + 1)
        passes_row = go (ltb from i) refl
          where
            go : (q : Bool) → ltb from i ≡ q → Passed (row_width Timetbls) t (suc from) used (i + 1)
            go true q =
                goes_on (row_width Timetbls) t (suc from) used i (p.passed (ltb-true from i q)) h
                (sym (ap (λ (x : Bool). x && is_hash_row (row_at (row_width Timetbls) t i)) q) ∙ sym e ∙ f)
            go false q =
                let z : i + 1 ≡ suc from = omega (arith, ltb-false from i q, p.low) in
                rw z (starts (row_width Timetbls) t (suc from) used (omega arith))

        module _ (a : Option InBlock) (told : RowTold counts co mo st fo block (i - from + 1) (row_at (row_width Timetbls) t i) a) where
          pub walk_falls : a ≡ None → BlockWalked counts co mo st fo t from used None
          walk_falls q =
              let y = ending t (suc from) used (used - (i + 1)) (i + 1) refl passes_row in
              record {
                end = y.end;
                next = y.next;
                says = falls counts co mo st fo t from y.end i block (p.stands y.end (omega (arith, y.low))) p.low (omega (arith, y.low)) a told q;
                ended = λ k to r. absurd (let z : ◌≡◌ {A = ℕ} 0 1 = cc in omega arith);
              }

          pub walk_goes_on : (next : InBlock) → a ≡ Some next → Walking counts co mo st fo t from used (i + 1) next
          walk_goes_on next q =
              record {
                low = omega (arith, p.low);
                high = omega arith;
                few = (told.leads next q).few;
                passed = λ m. passes_row;
                stands = λ to m.
                    stands_next counts co mo st fo t from to i block (p.stands to (omega arith)) p.low (omega arith) a told next q;
              }
