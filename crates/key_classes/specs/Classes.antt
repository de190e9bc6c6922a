-- Keys asked class by class. A key that comes twice is of one class both times: where in no class one comes again, none does.
use Rattle.std.specs.Prelude.{ℕ, ◌+◌, ◌%◌, ◌≤◌, ◌<◌, ◌≡◌, List, true, length, get_or, drop, Option, Some}
use Rattle.iff.specs.declared.File.TheVariants.{Timetbls}
use Rattle.iff.specs.Tables.{row_width, row_at, is_hash_row, keys_of}
use Rattle.keys.specs.Blocks.{rows_between}
use Rattle.keys.specs.Lookup.{keys_among}
use Rattle.key_sets.specs.Sets.{Held, NewPut, Stands}
use Rattle.key_sets.specs.declared.Tried.{Tried}
use Rattle.key_sets.specs.declared.Tried.TheVariants.{Goes, Came}

-- a key's class, of so many: any function of the key serves
unfoldable pub class_of : ℕ → ℕ → ℕ
class_of classes key = key % 65521 % classes

-- one of the first n keys is this one
pub record CameBy (ks : List ℕ) (n key : ℕ) : Type 0 where
  pub at : ℕ
  pub before : at < n
  pub is : get_or ks at 0 ≡ key

-- the key after the first j is one of them
pub record CameAgain (ks : List ℕ) (j : ℕ) : Type 0 where
  pub inside : j < length ks
  pub came : CameBy ks j (get_or ks j 0)

-- none of the first n keys that is of the class came before
abbrev pub ClearTo : ℕ → ℕ → List ℕ → ℕ → Type 0
ClearTo classes class ks n =
    (j : ℕ) → j < n → j < length ks → class_of classes (get_or ks j 0) ≡ class → CameBy ks j (get_or ks j 0) → ⊥

-- ONE KEY: it is put into the set where it is of the class
pub record KeyTried (classes class : ℕ) (ps : List ℕ) (key : ℕ) (qs : List ℕ) (r : Tried) : Type 0 where
  pub here : r ≡ Goes → class_of classes key ≡ class → NewPut ps key qs
  pub elsewhere : r ≡ Goes → (class_of classes key ≡ class → ⊥) → qs ≡ ps
  pub came : r ≡ Came → Held ps key

-- ONE CLASS: n keys are left to be asked in the others
pub record ClassLeft (classes class : ℕ) (ks : List ℕ) (upto n : ℕ) : Type 0 where
  pub most : n ≤ upto
  pub clear : ClearTo classes class ks n
  pub again : n < upto → CameAgain ks n

pub record ClassAsked (classes class : ℕ) (ks : List ℕ) (upto : ℕ) (r : Option ℕ) : Type 0 where
  pub left : (n : ℕ) → r ≡ Some n → ClassLeft classes class ks upto n

-- those of the first n keys that are of the class are in the set, and no others
pub record SetOf (classes class : ℕ) (ks : List ℕ) (n slots : ℕ) (ps : List ℕ) : Type 0 where
  pub wide : length ps ≡ slots
  pub stands : (j : ℕ) → j < n → class_of classes (get_or ks j 0) ≡ class → Stands slots ps (get_or ks j 0)
  pub only : (s key : ℕ) → get_or ps s 0 ≡ key + 1 → CameBy ks n key

-- the services of the rows from row i on
abbrev pub services_from : List ℕ → ℕ → ℕ → List ℕ
services_from t used i = keys_of Timetbls (rows_between (row_width Timetbls) t i used)

-- before row i, the next that begins a block, with n services before it
pub record Walking (classes class used upto : ℕ) (t : List ℕ) (slots n i : ℕ) (ps : List ℕ) : Type 0 where
  pub few : n ≤ upto
  pub high : i ≤ used
  pub head : i < used → is_hash_row (row_at (row_width Timetbls) t i) ≡ true
  pub left : drop n (keys_among Timetbls used t) ≡ services_from t used i
  pub clear : ClearTo classes class (keys_among Timetbls used t) n
  pub holds : SetOf classes class (keys_among Timetbls used t) n slots ps
