-- A service that no row names: it has no rows, and so a change is refused for it first of all. Assumes nothing.
use Rattle.std.specs.Prelude.{Err, None, Ok}
use Prim.Native.Nat.{ℕ}
use mathlib.Core.Path.{◌≡◌, refl, ap, sym, ◌∙◌}
use mathlib.Core.List.{List, []}
use mathlib.Core.Bool.{Bool, true, false}
use native.Mathlib.Omega.{arith}
use Rattle.iff.specs.Files.{PerFile}
use Rattle.iff.specs.Lists.{has}
use Rattle.iff.specs.Refusals.{first_test, Test}
use Rattle.iff.specs.Tables.{Row, row_width, rows_in}
use Rattle.iff.specs.declared.File.TheVariants.{Timetbls}
use Rattle.iff.specs.declared.Reason.TheVariants.{NoService}
use Rattle.iff_desk.specs.Changing.{Side, call_of, core_change, change_after, change_in}
use Rattle.iff_desk.specs.Running.{asked}
use Rattle.iff_desk.specs.Store.{group_of, service_rows}
use Rattle.keys.specs.Lookup.{keys_among}
use Rattle.sure_lookups.proofs.AbsentLaws.{found_nowhere}
use Rattle.walks.proofs.GroupLaws.{between_none}
use Rattle.store.specs.Found.{Stored}
use Rattle.store.proofs.FirstLaws.{group_none}
use Rattle.changing.specs.Sides.{asked_from}
use Rattle.changing.proofs.AskLaws.{from_fails, from_passes}

pub no_rows : (used : ℕ) (t : List ℕ) → Stored Timetbls used t → (key : ℕ) → has key (keys_among Timetbls used t) ≡ false
    → group_of key (rows_in Timetbls t) ≡ []
no_rows used t s key e =
    (group_none Timetbls used t s key (record { tag = refl; word = refl }) None (found_nowhere Timetbls t used key e) refl).is
    ∙ between_none (row_width Timetbls) t 0 0 (omega arith)

-- 12 comes before 13 and 14
not_there : (R : PerFile (List Row)) (s : ℕ) (right : Bool) (date : ℕ) → service_rows R s ≡ [] → asked R s right date ≡ Err NoService
unfolding asked first_test
not_there R s right date e = rw e

module _ (R : PerFile (List Row)) (t : List ℕ) (is : R.timetbls ≡ rows_in Timetbls t) (A B : Side) where
  none_of : (key : ℕ) → group_of key (rows_in Timetbls t) ≡ [] → service_rows R key ≡ []
  none_of key e = ap (group_of key) is ∙ e

  changed : (a b : Test) → a ≡ b → change_after a (core_change R (call_of R A) (call_of R B)) ≡ change_after b (core_change R (call_of R A) (call_of R B))
  changed a b e = ap (λ (x : Test). change_after x (core_change R (call_of R A) (call_of R B))) e

  pub from_lost : group_of A.service (rows_in Timetbls t) ≡ [] → Err NoService ≡ change_in true R A B
  from_lost e = changed (Err NoService) _ (from_fails R A B NoService (not_there R A.service _ A.date (none_of A.service e)))

  -- A's own test comes before B's
  pub to_lost : group_of B.service (rows_in Timetbls t) ≡ [] → change_after (asked_from R A) (Err NoService) ≡ change_in true R A B
  to_lost e = go (asked_from R A) refl
    where
      go : (a : Test) → asked_from R A ≡ a → change_after a (Err NoService) ≡ change_in true R A B
      go (Err r) q = changed (Err r) _ (from_fails R A B r q)
      go (Ok _) q = changed (Err NoService) _ (sym (not_there R B.service _ B.date (none_of B.service e)) ∙ from_passes R A B q)
