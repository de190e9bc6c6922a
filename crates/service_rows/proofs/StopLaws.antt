-- A service's stops, one row at a time: one by its number, and all counted. Assumes nothing.
use Prim.Native.Nat.{ℕ, zero, suc, ◌+◌, ◌-◌, ◌≤◌, ◌<◌}
use mathlib.Core.Path.{◌≡◌, refl, ap, sym}
use mathlib.Core.List.{List, [], ◌∷◌}
use mathlib.Core.Bool.{Bool, true, false, cond}
use native.Mathlib.Omega.{arith}
use lib.ListN.{length, get_or}
use Rattle.std.specs.List.{filter, range_with_len}
use Rattle.iff.specs.Lists.{kept}
use Rattle.iff.specs.Tables.{Row, tag, row_at}
use Rattle.iff.specs.Words.{stop_count}
use Rattle.iff_rules.specs.Order.{is_stop}
use Rattle.iff_rules.specs.Rows.{first_of}
use Rattle.iff_rules.specs.Legs.{stops_of}
use Rattle.iff_desk.specs.Store.{stop_at}
use Rattle.keys.specs.Blocks.{block_of_rows, rows_between}
use Rattle.walks.proofs.GroupLaws.{between_first}
use Rattle.store.proofs.KeptLaws.{kept_none}

-- stop `number`
pub stop_at_lem : (rs : List Row) (number before : ℕ) → before ≡ number - 1 → stop_at rs number ≡ get_or (kept (λ r. is_stop (tag r)) rs) before []
unfolding stop_at
stop_at_lem rs number before e = rw e

-- stops told by the first row
module _ (w : ℕ) (t : List ℕ) (from to : ℕ) where
  pub no_stops : to ≤ from → 0 ≡ stops_of (rows_between w t from to)
  no_stops h = sym (ap length (kept_none (λ r. is_stop (tag r)) w t to from h))

  pub told_first : from < to → stop_count (row_at w t from) ≡ stop_count (first_of (rows_between w t from to))
  told_first h = sym (ap (λ (rs : List Row). stop_count (first_of rs)) (between_first w t from to h))

-- stops counted, row by row from row `from` on
counted : (w : ℕ) (t : List ℕ) (n from : ℕ)
    → length (filter (λ i. is_stop (tag (row_at w t i))) (range_with_len from n)) ≡ stops_of (block_of_rows w t from n)
unfolding block_of_rows kept
counted w t zero from = refl
counted w t (suc n) from =
    let z : from + 1 ≡ suc from = omega arith in
    rw z (go (is_stop (tag (row_at w t from))) (counted w t n (suc from)))
  where
    stops : ℕ → Bool
    stops i = is_stop (tag (row_at w t i))

    left : List Row
    left = kept (λ r. is_stop (tag r)) (block_of_rows w t (suc from) n)

    go : (b : Bool) → length (filter stops (range_with_len (suc from) n)) ≡ length left
        → length (cond b (from ∷ filter stops (range_with_len (suc from) n)) (filter stops (range_with_len (suc from) n)))
        ≡ length (cond b (row_at w t from ∷ left) left)
    go true e = ap suc e
    go false e = e

pub stops_counted : (w : ℕ) (t : List ℕ) (from to : ℕ)
    → length (filter (λ i. is_stop (tag (row_at w t i))) (range_with_len from (to - from))) ≡ stops_of (rows_between w t from to)
stops_counted w t from to = counted w t (to - from) from
