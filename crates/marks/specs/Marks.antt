-- Marks of the keys that came so far, two for each, in a half of their own each. A mark tells which of the keys that share its slot came, or that
-- several did: what lacks one of its marks has not come. Where both show, a search tells.
use Rattle.std.specs.Prelude.{ℕ, ◌+◌, ◌/◌, ◌%◌, ◌≡◌, List, Bool, true, ◌||◌, cond, eqb, length, get_or, set}
use Rattle.iff.specs.Lists.{has}

abbrev pub half : ℕ
half = 262144

abbrev pub slots : ℕ
slots = 524288

-- of so many keys in a row each has its own slot
abbrev pub slot_of : ℕ → ℕ
slot_of k = k % half

-- of the keys that share that one, each has its own here, up to eight digits
abbrev pub other_of : ℕ → ℕ
other_of k = half + k / 382 % half

-- what tells the keys of one slot apart
abbrev pub print_of : ℕ → ℕ
print_of k = 1 + k / half % 254

abbrev pub other_print : ℕ → ℕ
other_print k = 1 + k % 382 % 254

abbrev pub several : ℕ
several = 255

unfoldable pub mixed : ℕ → ℕ → ℕ
mixed was print = cond (eqb was 0) print (cond (eqb was print) print several)

unfoldable pub shows : ℕ → ℕ → Bool
shows mark print = eqb mark print || eqb mark several

abbrev pub with_mark : List ℕ → ℕ → ℕ → List ℕ
with_mark marks at print = set marks at (mixed (get_or marks at 0) print)

abbrev pub with_marks : List ℕ → ℕ → List ℕ
with_marks marks k = with_mark (with_mark marks (slot_of k) (print_of k)) (other_of k) (other_print k)

pub record Marked (marks keys : List ℕ) : Type 0 where
  pub wide : length marks ≡ slots
  pub one : (k : ℕ) → has k keys ≡ true → shows (get_or marks (slot_of k) 0) (print_of k) ≡ true
  pub other : (k : ℕ) → has k keys ≡ true → shows (get_or marks (other_of k) 0) (other_print k) ≡ true
