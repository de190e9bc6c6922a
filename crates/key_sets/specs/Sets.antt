-- A set of keys in slots: a slot holds one more than a key, and 0 where it is free. A key is put into the first free one of those that are tried for it,
-- and slots are never freed: so a free slot before any that holds a key says that the key is new.
use Rattle.std.specs.Prelude.{ℕ, ◌+◌, ◌-◌, ◌≤◌, ◌<◌, ◌≡◌, List, length, get_or, set}
use Rattle.keys.specs.Places.{probes, place_of}
use Rattle.key_sets.specs.declared.Met.{Met}
use Rattle.key_sets.specs.declared.Met.TheVariants.{Free, Taken}
use Rattle.key_sets.specs.declared.Tried.{Tried}
use Rattle.key_sets.specs.declared.Tried.TheVariants.{Goes, Came}

-- so many slots are tried for a key
abbrev pub window : ℕ
window = 1024

-- the first of them, of as many as there are
abbrev pub first_slot : ℕ → ℕ → ℕ
first_slot slots key = place_of key (slots - (window - probes))

abbrev pub AllFree : List ℕ → Type 0
AllFree ps = (s : ℕ) → get_or ps s 0 ≡ 0

-- no slot from `from` on and before `to` is free, and none holds the key
abbrev pub NoneFree : List ℕ → ℕ → ℕ → Type 0
NoneFree ps from to = (s : ℕ) → from ≤ s → s < to → get_or ps s 0 ≡ 0 → ⊥

abbrev pub Others : List ℕ → ℕ → ℕ → ℕ → Type 0
Others ps key from to = (s : ℕ) → from ≤ s → s < to → get_or ps s 0 ≡ key + 1 → ⊥

-- the first free slot for a key, and none before it holds the key
pub record FirstFree (ps : List ℕ) (key at : ℕ) : Type 0 where
  pub low : first_slot (length ps) key ≤ at
  pub high : at < first_slot (length ps) key + window
  pub inside : at < length ps
  pub free : get_or ps at 0 ≡ 0
  pub none : NoneFree ps (first_slot (length ps) key) at
  pub others : Others ps key (first_slot (length ps) key) at

-- a slot holds the key
pub record Held (ps : List ℕ) (key : ℕ) : Type 0 where
  pub at : ℕ
  pub is : get_or ps at 0 ≡ key + 1

pub record Probed (ps : List ℕ) (key : ℕ) (r : Met) : Type 0 where
  pub free : (at : ℕ) → r ≡ Free at → FirstFree ps key at
  pub taken : r ≡ Taken → Held ps key

-- a new key put into the set
pub record NewPut (ps : List ℕ) (key : ℕ) (qs : List ℕ) : Type 0 where
  pub at : ℕ
  pub free : FirstFree ps key at
  pub is : qs ≡ set ps at (key + 1)

pub record KeyPut (ps : List ℕ) (key : ℕ) (qs : List ℕ) (r : Tried) : Type 0 where
  pub new : r ≡ Goes → NewPut ps key qs
  pub came : r ≡ Came → Held ps key

-- a key stands before each free slot of those that are tried for it
abbrev pub Stands : ℕ → List ℕ → ℕ → Type 0
Stands slots ps key =
    (s : ℕ) → first_slot slots key ≤ s → s < first_slot slots key + window → get_or ps s 0 ≡ 0 → Others ps key (first_slot slots key) s → ⊥
