-- Laws of the lines driven one after the other: they say what the paper's scan of them says, and leave the state that it leaves. Assumes nothing.
use Rattle.std.specs.Prelude.{Err, Ok, Result}
use Prim.Native.Nat.{ℕ, suc, ◌+◌, ◌≤◌}
use mathlib.Core.Path.{◌≡◌, refl, ap}
use mathlib.Core.List.{List, [], ◌∷◌}
use mathlib.Core.Bool.{Bool, true, false, cond}
use native.Mathlib.Omega.{arith}
use lib.ListN.{length}
use Rattle.iff.specs.Lists.{kept, all}
use Rattle.iff.specs.Refusals.{verdict_at, scan, after, Test, at_place}
use Rattle.iff.specs.Lines.{Line, letter}
use Rattle.iff.specs.declared.Form.{Form}
use Rattle.iff.specs.declared.File.TheVariants.{Timetbls}
use Rattle.iff.specs.declared.InBlock.{InBlock}
use Rattle.iff_rules.specs.Order.{is_stop}
use Rattle.iff_rules.specs.Rows.{row_of, Context}
use Rattle.iff_rules.specs.Meaning.{most_stops}
use Rattle.iff_rules.specs.Unique.{fresh_key}
use Rattle.iff_rules.specs.Legs.{one}
use Rattle.iff_rules.specs.Load.{block_test, block_moves, block_next}
use Rattle.records.specs.Layouts.{legible}
use Rattle.block_lines.specs.Lines.{block_test_with, step_of, block_step}
use Rattle.blocks.specs.Drive.{onward, drive, driven_at}
use Rattle.block_lines.proofs.TestLaws.{SameKeys, is_start, test_first, test_later, LedOn, passed}
use Rattle.iff.specs.declared.Reason.{Reason}

-- the definition's equations, to rewrite with while it stays shut
pub drive_nil : (c : Context) (fresh : Bool) (st : InBlock) (done : ℕ) → drive c fresh st done [] ≡ Ok (st, done)
unfolding drive
drive_nil c fresh st done = refl

pub drive_cons : (c : Context) (fresh : Bool) (st : InBlock) (done : ℕ) (l : Line) (ls : List Line)
    → drive c fresh st done (l ∷ ls) ≡ onward (block_step c fresh st l) (suc done) (λ next. drive c fresh next (suc done) ls)
unfolding drive
drive_cons c fresh st done l ls = refl

-- a step that leads on
pub led_on : (c : Context) (fresh : Bool) (st : InBlock) (l : Line) (to : InBlock) → block_step c fresh st l ≡ Ok to → LedOn c.form st l to
unfolding block_step
led_on c fresh st l to e = go (block_test_with c fresh st l) refl e
  where
    go : (t : Test) → block_test_with c fresh st l ≡ t → step_of t (block_next st l) ≡ Ok to → LedOn c.form st l to
    go (Err w) q f = absurd (let z : ◌≡◌ {A = ℕ} 0 1 = cc in omega arith)
    go (Ok _) q f = let s : block_next st l ≡ to = cc in rw s at (passed c fresh st l q)

-- THE PAPER'S SCAN
module _ (c k : Context) (same : SameKeys c k) (seen : List ℕ) (fresh : Bool) (o : ℕ) where
  abbrev Says : InBlock → ℕ → List Line → Type 0
  Says st done ls =
      scan (λ s j l. verdict_at (at_place Timetbls o j) (block_test c seen s l)) block_next st (suc done) ls ≡ driven_at o (drive k fresh st done ls)

  one_more : (st : InBlock) (done : ℕ) (l : Line) (ls : List Line) → block_test_with k fresh st l ≡ block_test c seen st l
      → (is_start (block_next st l).stand ≡ false → Says (block_next st l) (suc done) ls) → Says st done (l ∷ ls)
  unfolding scan drive block_step
  one_more st done l ls e ih = go (block_test_with k fresh st l) refl
    where
      go : (t : Test) → block_test_with k fresh st l ≡ t → Says st done (l ∷ ls)
      go (Ok _) q = rw (← e, q) (ih (passed k fresh st l q).left)
      go (Err w) q = rw (← e, q)

  says_later : (ls : List Line) (st : InBlock) (done : ℕ) → is_start st.stand ≡ false → Says st done ls
  unfolding scan drive
  says_later [] st done h = refl
  says_later (l ∷ ls) st done h =
      one_more st done l ls (test_later c k same seen fresh st l h) (says_later ls (block_next st l) (suc done))

  -- from a block's first line on
  pub drive_says : (st : InBlock) (l : Line) (ls : List Line) → fresh ≡ fresh_key Timetbls seen (row_of c.form Timetbls l)
      → Says st 0 (l ∷ ls)
  drive_says st l ls e =
      one_more st 0 l ls (test_first c k same seen fresh st l e) (says_later ls (block_next st l) 1)

-- WHAT LINES THAT ARE THROUGH LEAVE
pub record CameThrough (form : Form) (st : InBlock) (done : ℕ) (ls : List Line) (end : InBlock) (m : ℕ) : Type 0 where
  pub ended : after block_next st ls ≡ end
  pub counted : m ≡ done + length ls
  pub stops : end.stops ≡ st.stops + length (kept (λ l. is_stop (letter l)) ls)
  pub few : st.stops ≤ most_stops → end.stops ≤ most_stops
  pub read : all (legible form) ls ≡ true

kept_more : (p : Line → Bool) (l : Line) (ls : List Line) → length (kept p (l ∷ ls)) ≡ one (p l) + length (kept p ls)
unfolding kept
kept_more p l ls = go (p l)
  where
    go : (b : Bool) → length (cond b (l ∷ kept p ls) (kept p ls)) ≡ one b + length (kept p ls)
    go true = omega arith
    go false = omega arith

pub came_through : (c : Context) (fresh : Bool) (ls : List Line) (st : InBlock) (done : ℕ) (end : InBlock) (m : ℕ)
    → drive c fresh st done ls ≡ Ok (end, m) → CameThrough c.form st done ls end m
unfolding drive after kept all block_moves
came_through c fresh [] st done end m e =
    let p : ◌≡◌ {A = InBlock × ℕ} (st, done) (end, m) = cc in
    let s : st ≡ end = ap (λ x. x.0) p in
    let d : done ≡ m = ap (λ x. x.1) p in
    let n : st.stops ≡ end.stops = ap (λ x. x.stops) s in
    record { ended = s; counted = omega arith; stops = omega arith; few = λ h. omega arith; read = refl }
came_through c fresh (l ∷ ls) st done end m e = go (block_step c fresh st l) refl e (λ to f. came_through c fresh ls to (suc done) end m f)
  where
    go : (s : Result InBlock Reason) → block_step c fresh st l ≡ s → onward s (suc done) (λ next. drive c fresh next (suc done) ls) ≡ Ok (end, m)
        → ((to : InBlock) → drive c fresh to (suc done) ls ≡ Ok (end, m) → CameThrough c.form to (suc done) ls end m)
        → CameThrough c.form st done (l ∷ ls) end m
    go (Err w) q f again = absurd (let z : ◌≡◌ {A = ℕ} 0 1 = cc in omega arith)
    go (Ok to) q f again =
        let ih = again to f in
        let on = led_on c fresh st l to q in
        let n : to.stops ≡ st.stops + one (is_stop (letter l)) = ap (λ x. x.stops) on.is in
        record {
          ended = rw on.is at ih.ended;
          counted = omega arith;
          stops = omega (arith, kept_more (λ x. is_stop (letter x)) l ls);
          few = λ h. ih.few (on.few h);
          read = rw on.read ih.read;
        }
