-- The rows of TIMETBLS counted that begin a block. Assumes nothing.
use Prim.Native.Nat.{ℕ, ◌+◌, ◌≤◌, ◌<◌}
use mathlib.Core.Path.{◌≡◌, sym, ◌∙◌}
use mathlib.Core.List.{List, [], ◌∷◌, map}
use mathlib.Core.Bool.{Bool, true, false, cond}
use native.Mathlib.Omega.{arith}
use native.Mathlib.Nat.{add-zero}
use lib.Dec.{eqb}
use lib.ListN.{length}
use Rattle.iff.specs.Bytes.{hash}
use Rattle.iff.specs.Lists.{kept}
use Rattle.iff.specs.Tables.{Row, tag, is_hash_row, row_width, keys_of, rows_up_to}
use Rattle.iff.specs.Words.{named}
use Rattle.iff.specs.declared.File.TheVariants.{Timetbls}
use Rattle.tables.proofs.Rest.{rest}

abbrev wide : ℕ
wide = row_width Timetbls

abbrev pub services : List Row → ℕ
services rs = length (keys_of Timetbls rs)

pub one_small : (b : Bool) → cond b 1 0 ≤ 1
one_small true = omega arith
one_small false = omega arith

services_more : (r : Row) (rs : List Row) → services (r ∷ rs) ≡ cond (eqb (tag r) hash) 1 0 + services rs
unfolding kept
services_more r rs = go (eqb (tag r) hash)
  where
    go : (b : Bool)
        → length (map (λ (q : Row). named q) (cond b (r ∷ kept is_hash_row rs) (kept is_hash_row rs))) ≡ cond b 1 0 + services rs
    go true = omega arith
    go false = omega arith

-- i rows are read, and `count` of them begin a block
abbrev pub Reading : List ℕ → ℕ → ℕ → ℕ → Type 0
Reading t n count i = (i ≤ n) × ((count ≤ i) × (services (rows_up_to wide n t) ≡ count + services (rest wide n t i)))

module _ (t : List ℕ) (n : ℕ) where
  module _ (count i : ℕ) (c : Reading t n count i) where
    pub all_read : rest wide n t i ≡ [] → count ≡ services (rows_up_to wide n t)
    unfolding kept
    all_read e = sym (c.1.1 ∙ rw (e, add-zero))

    pub one_read : i < n → (r : Row) (k : ℕ) → k ≡ cond (eqb (tag r) hash) 1 0
        → rest wide n t i ≡ r ∷ rest wide n t (i + 1)
        → Reading t n (count + k) (i + 1)
    one_read h r k e q =
        let z : services (rest wide n t i) ≡ k + services (rest wide n t (i + 1)) = rw (q, e) (services_more r (rest wide n t (i + 1))) in
        let s : k ≤ 1 = rw e (one_small (eqb (tag r) hash)) in
        (omega arith, (omega arith, omega (arith, c.1.1)))
