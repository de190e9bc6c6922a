-- The first No before a gap, by what was tested so far. Assumes nothing.
use mathlib.Core.Path.{◌≡◌, refl, ap, sym, ◌∙◌}
use mathlib.Core.List.{List, [], ◌∷◌}
use mathlib.Core.Bool.{Bool, true, false, not}
use Rattle.iff_desk.specs.Changing.{Hurdle, stop, clear, or_hurdle, stop_if, first_hurdle}
use Rattle.iff_desk.specs.declared.Early.{Early}

-- a test that fails stops, and one that holds leaves the others
module _ (b : Bool) (e : Early) (hs : List Hurdle) where
  pub stops_here : b ≡ false → stop e ≡ first_hurdle (stop_if (not b) e ∷ hs)
  unfolding first_hurdle
  stops_here h = rw h

  pub goes_on : b ≡ true → first_hurdle hs ≡ first_hurdle (stop_if (not b) e ∷ hs)
  unfolding first_hurdle
  goes_on h = rw h

pub all_clear : clear ≡ first_hurdle []
unfolding first_hurdle
all_clear = refl

-- two of them before the others
module _ (g h : Hurdle) (hs : List Hurdle) where
  two_first : first_hurdle (g ∷ h ∷ hs) ≡ or_hurdle (first_hurdle (g ∷ h ∷ [])) (first_hurdle hs)
  unfolding first_hurdle
  two_first = go g h
    where
      go : (g h : Hurdle) → or_hurdle g (or_hurdle h (first_hurdle hs)) ≡ or_hurdle (or_hurdle g (or_hurdle h clear)) (first_hurdle hs)
      go (stop e) h = refl
      go clear (stop e) = refl
      go clear clear = refl

  pub two_stop : (e : Early) → first_hurdle (g ∷ h ∷ []) ≡ stop e → stop e ≡ first_hurdle (g ∷ h ∷ hs)
  two_stop e q = sym (two_first ∙ ap (λ (x : Hurdle). or_hurdle x (first_hurdle hs)) q)

  pub two_clear : first_hurdle (g ∷ h ∷ []) ≡ clear → first_hurdle hs ≡ first_hurdle (g ∷ h ∷ hs)
  two_clear q = sym (two_first ∙ ap (λ (x : Hurdle). or_hurdle x (first_hurdle hs)) q)
