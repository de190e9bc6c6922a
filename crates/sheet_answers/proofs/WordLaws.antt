-- An answer's eight words from those of its change and its gap. Assumes nothing.
use Rattle.std.specs.Prelude.{Result}
use Prim.Native.Nat.{ℕ}
use mathlib.Core.Path.{◌≡◌}
use mathlib.Core.List.{List, [], ◌∷◌}
use lib.IntN.{ℤ, pos}
use lib.ListN.{get_or}
use mir.Syntax.{w32}
use mir.Val.{SFits, to_z, of_z}
use mir.Facts.{to_z-of_z}
use Rattle.iff_desk.specs.declared.Change.{Change}
use Rattle.change_numbers.specs.Numbers.{change_words, change_gap}
use Rattle.sheet_answers.specs.Words.{signed_word, sheet_words}
use Rattle.iff.specs.declared.Reason.{Reason}

pub eight : (a : Result Change Reason) (ws : List ℕ) (gs : List ℤ) (g : ℕ) → ws ≡ change_words a → gs ≡ change_gap a → SFits w32 (get_or gs 0 (pos 0))
    → g ≡ signed_word (to_z w32 (of_z w32 (get_or gs 0 (pos 0))))
    → ◌≡◌ {A = List ℕ}
    (get_or ws 0 0 ∷ get_or ws 1 0 ∷ get_or ws 2 0 ∷ get_or ws 3 0 ∷ get_or ws 4 0 ∷ get_or ws 5 0 ∷ get_or ws 6 0 ∷ g ∷ []) (sheet_words a)
unfolding sheet_words
eight a ws gs g words gap fits told = rw (told, to_z-of_z fits, words, gap)
