-- "Legs". Leg k goes from stop k to k + 1. Test 10, on the settled rows of a block.
use Rattle.std.specs.Prelude.{ℕ, zero, suc, ◌-◌, List, Bool, true, false, ◌&&◌, cond, length, eqb, ltb, leb}
use Rattle.iff.specs.Bytes.{percent, dash, ampersand, asterisk}
use Rattle.iff.specs.Lists.{all, kept, total}
use Rattle.iff.specs.Columns.{on}
use Rattle.iff.specs.Tables.{Row, tag}
use Rattle.iff.specs.Words.{named, train_first, train_last, record_first, record_last}
use Rattle.iff_rules.specs.Order.{is_stop}

-- where a record keeps first and last
abbrev pub first_stop : Row → ℕ
first_stop r = cond (eqb (tag r) percent) (train_first r) (record_first r)

abbrev pub last_stop : Row → ℕ
last_stop r = cond (eqb (tag r) percent) (train_last r) (record_last r)

-- leg k lies in a record
abbrev pub lies : ℕ → Row → Bool
lies k r = leb (first_stop r) k && ltb k (last_stop r)

abbrev pub one : Bool → ℕ
one true = 1
one false = 0

-- how many of some records leg k lies in
abbrev pub covering : ℕ → List Row → ℕ
covering k rs = total (λ r. one (lies k r)) rs

-- each of the legs 1 to m lies in exactly one of some records
unfoldable pub covered : ℕ → List Row → Bool
covered zero rs = true
covered (suc m) rs = eqb (covering (suc m) rs) 1 && covered m rs

-- the records of one kind
abbrev pub of_kind : ℕ → List Row → List Row
of_kind x rs = kept (λ r. eqb (tag r) x) rs

-- "For `%`, `-` and `&`: 1 ≤ first < last ≤ n."
abbrev pub ranged : ℕ → Row → Bool
ranged n r = leb 1 (first_stop r) && (ltb (first_stop r) (last_stop r) && leb (last_stop r) n)

-- how far an attribute reaches, by its code: today all may be one stop's or more
pub data Reach : Type 0 where
  any_reach : Reach

abbrev pub reaches : Reach → ℕ → ℕ → Bool
reaches any_reach first last = leb first last

abbrev pub reach_of : ℕ → Reach
reach_of attribute = any_reach

-- "For `*`: 1 ≤ first ≤ last ≤ n."
abbrev pub ranged_by : Reach → ℕ → Row → Bool
ranged_by reach n r = leb 1 (first_stop r) && (reaches reach (first_stop r) (last_stop r) && leb (last_stop r) n)

unfoldable pub in_range : (ℕ → Reach) → ℕ → Row → Bool
in_range reach n r =
    on (tag r) percent (ranged n r)
    (on (tag r) dash (ranged n r)
    (on (tag r) ampersand (ranged n r)
    (on (tag r) asterisk (ranged_by (reach (named r)) n r)
    true)))

-- n
abbrev pub stops_of : List Row → ℕ
stops_of rs = length (kept (λ r. is_stop (tag r)) rs)

-- "and for each kind every leg lies in exactly one record"
unfoldable pub legs : (ℕ → Reach) → List Row → Bool
legs reach rs =
    all (in_range reach (stops_of rs)) rs
    && (covered (stops_of rs - 1) (of_kind percent rs)
    && (covered (stops_of rs - 1) (of_kind dash rs)
    && covered (stops_of rs - 1) (of_kind ampersand rs)))
