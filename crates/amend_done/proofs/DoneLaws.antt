-- Each way to carry an amendment out. Assumes nothing.
use Rattle.std.specs.Prelude.{Ok, Option, Result}
use Prim.Native.Nat.{ℕ}
use mathlib.Core.Path.{◌≡◌, refl}
use mathlib.Core.List.{List}
use Rattle.iff.specs.declared.Form.{Form}
use Rattle.iff.specs.declared.Reason.{Reason}
use Rattle.amend_tests.specs.declared.Edit.{Edit}
use Rattle.amend_done.specs.Done.{table_after, Done}
use Rattle.iff.specs.Refusals.{accepted_with, fault_at}
use Rattle.iff.specs.declared.Fault.{Fault}
use Rattle.iff.specs.declared.Place.{Place}

module _ (j : Result Edit Fault) (form : Form) (services : ℕ) (b was : List ℕ) where
  pub nothing_done : (w : Reason) (p : Option Place) → j ≡ fault_at w p → Done j form services b was (fault_at w p) was
  nothing_done w p e = rw e (record { answers = refl; leaves = refl })

  pub replaced : (d : Edit) → j ≡ Ok d → (is : List ℕ) → is ≡ table_after form b was (Ok d)
      → Done j form services b was (accepted_with form.days services) is
  replaced d e is q = rw e (record { answers = refl; leaves = q })
