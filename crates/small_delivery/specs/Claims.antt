-- Labelled cases, and one statement over a list of them: what each gives is what it is due.
use Prim.{Unit, tt}
use Prim.Native.String.{String}
use Rattle.std.specs.Prelude.{◌≡◌, List, [], ◌∷◌, ◌++◌}

pub record Claim : Type 1 where
  pub label : String
  pub subject : Type 0
  pub got : subject
  pub due : subject

abbrev pub claim : {A : Type 0} → String → A → A → Claim
claim {A} label got due = record { label = label; subject = A; got = got; due = due }

abbrev pub Holds : Claim → Type 0
Holds c = c.got ≡ c.due

abbrev pub Hold : List Claim → Type 0
Hold [] = Unit {0}
Hold (c ∷ cs) = Holds c × Hold cs

-- a claim for each of some things; where it holds of any, they all hold
abbrev pub each : {A : Type 0} → (A → Claim) → List A → List Claim
each f [] = []
each f (x ∷ xs) = f x ∷ each f xs

pub each_hold : {A : Type 0} (f : A → Claim) (xs : List A) → ((x : A) → Holds (f x)) → Hold (each f xs)
each_hold f [] h = tt
each_hold f (x ∷ xs) h = (h x, each_hold f xs h)

-- one list of claims after another
pub both_hold : (cs ds : List Claim) → Hold cs → Hold ds → Hold (cs ++ ds)
both_hold [] ds h k = k
both_hold (c ∷ cs) ds h k = (h.0, both_hold cs ds h.1 k)
