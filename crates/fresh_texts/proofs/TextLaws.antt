-- Texts that no two lines may share. Assumes nothing.
use mathlib.Core.Path.{◌≡◌, refl, sym, ◌∙◌}
use mathlib.Core.List.{List, [], ◌∷◌}
use mathlib.Core.Bool.{true, false, ◌||◌, false≢true, or-false}
use Rattle.iff.specs.Lists.{any}
use Rattle.iff.specs.Lines.{Line}
use Rattle.iff.specs.declared.RowFile.{RowFile}
use Rattle.iff.specs.declared.RowFile.TheVariants.{Company, Country, Trnsmode, Stations}
use Rattle.iff_rules.specs.Unique.{unique_texts, same_text, fresh_texts}
use Rattle.fresh_texts.specs.Texts.{shares_text, has_texts}

-- the texts by file
pub shares : (f : RowFile) (a b : Line) → any (same_text a b) (unique_texts f) ≡ shares_text f a.body b.body
unfolding any
shares Company a b = rw or-false
shares Country a b = or-false _
shares Trnsmode a b = or-false _
shares Stations a b = refl

no_texts : (f : RowFile) → has_texts f ≡ false → unique_texts f ≡ []
no_texts Company e = absurd (false≢true (sym e))
no_texts Country e = absurd (false≢true (sym e))
no_texts Trnsmode e = absurd (false≢true (sym e))
no_texts Stations e = refl

none_shared : (l : Line) (ls : List Line) → any (λ e. any (same_text l e) []) ls ≡ false
unfolding any
none_shared l [] = refl
none_shared l (e ∷ ls) = none_shared l ls

pub fresh_none : (f : RowFile) (ls : List Line) (l : Line) → has_texts f ≡ false → true ≡ fresh_texts f ls l
unfolding fresh_texts
fresh_none f ls l e = rw (no_texts f e, none_shared l ls)

-- a loop over the lines of a text: what is left to look at is the whole
module _ (f : RowFile) (l : Line) (ls left : List Line) where
  abbrev pub Unshared : Type 0
  Unshared = any (λ e. any (same_text l e) (unique_texts f)) ls ≡ any (λ e. any (same_text l e) (unique_texts f)) left

  pub unshared_end : left ≡ [] → Unshared → true ≡ fresh_texts f ls l
  unfolding fresh_texts any
  unshared_end q i = rw (i, q)

module _ (f : RowFile) (l : Line) (ls left rest : List Line) (e : Line) (q : left ≡ e ∷ rest) (i : Unshared f l ls left) where
  here : any (λ e. any (same_text l e) (unique_texts f)) ls ≡ (shares_text f l.body e.body || any (λ e. any (same_text l e) (unique_texts f)) rest)
  unfolding any
  here = i ∙ rw (q, shares f l e)

  pub shared : shares_text f l.body e.body ≡ true → false ≡ fresh_texts f ls l
  unfolding fresh_texts
  shared t = rw (here, t)

  pub not_shared : shares_text f l.body e.body ≡ false → Unshared f l ls rest
  not_shared t = here ∙ rw t
