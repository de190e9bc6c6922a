-- Laws of a reader of lines, where it stands in a block's text: what one line does to what is left. Assumes nothing.
use Rattle.std.specs.Prelude.{Err, Ok, Result}
use Prim.Native.Nat.{ℕ, ◌+◌, ◌≤◌, ◌<◌}
use mathlib.Core.Path.{◌≡◌, refl, ap, sym, ◌∙◌}
use mathlib.Core.List.{List, ◌∷◌}
use mathlib.Core.Bool.{Bool}
use native.Mathlib.Omega.{arith}
use native.Mathlib.Numerals.{add-one}
use lib.ListN.{length, drop}
use Rattle.iff.specs.Lines.{Line, lines}
use Rattle.iff.specs.declared.Reason.{Reason}
use Rattle.iff.specs.declared.InBlock.{InBlock}
use Rattle.iff_rules.specs.Rows.{Context}
use Rattle.iff_rules.specs.Meaning.{most_stops}
use Rattle.text.specs.declared.LineSpan.{LineSpan}
use Rattle.text.specs.Spans.{span_line, LineAt}
use Rattle.text.proofs.LineLaws.{lines_end}
use Rattle.block_lines.specs.Lines.{block_step}
use Rattle.blocks.specs.Drive.{drive_at, turn_to, Standing, TurnsTo, held_at}
use Rattle.blocks.proofs.DriveLaws.{drive_nil, drive_cons, led_on}

-- ONE LINE
module _ (c : Context) (fresh : Bool) (t : List ℕ) (at : ℕ) (st : InBlock) (few : st.stops ≤ most_stops) where
  turns : (l : Line) (n : ℕ) → lines (drop at t) ≡ l ∷ lines (drop n t) → at < n → n ≤ length t
      → (s : Result InBlock Reason) → s ≡ block_step c fresh st l → TurnsTo c fresh t at st (turn_to s n)
  turns l n h a b (Err w) q =
      record {
        turn = λ done. rw (h, drive_cons, ← q);
        past = λ m to p. absurd (let z : ◌≡◌ {A = ℕ} 0 1 = cc in omega arith);
      }
  turns l n h a b (Ok next) q =
      record {
        turn = λ done. rw (h, drive_cons, ← q);
        past =
            λ m to p. let both : ◌≡◌ {A = ℕ × InBlock} (n, next) (m, to) = cc in
            let e : n ≡ m = ap (λ x. x.0) both in
            let f : next ≡ to = ap (λ x. x.1) both in
            let k : next.stops ≡ to.stops = ap (λ x. x.stops) f in
            let g : next.stops ≤ most_stops = (led_on c fresh st l next (sym q)).few few in
            record { beyond = omega arith; inside = omega arith; few = omega arith };
      }

  -- the line that stands there
  pub turns_at : (span : LineSpan) → LineAt t at span → (s : Result InBlock Reason) → s ≡ block_step c fresh st (span_line t at span)
      → (r : Result (ℕ × InBlock) Reason) → r ≡ turn_to s span.next → TurnsTo c fresh t at st r
  turns_at span a s k r p = rw p (turns (span_line t at span) span.next a.head a.more a.high s k)

-- SOME LINES: what is left from `at` on says what was to be said from `from` on
pub record Reading (c : Context) (fresh : Bool) (t : List ℕ) (from : ℕ) (start : InBlock) (before at : ℕ) (st : InBlock) (done : ℕ) : Type 0 where
  pub low : from ≤ at
  pub here : Standing t at done st
  pub left : drive_at c fresh t from start before ≡ drive_at c fresh t at st done

pub starts : (c : Context) (fresh : Bool) (t : List ℕ) (from : ℕ) (start : InBlock) (before : ℕ) → Standing t from before start
    → Reading c fresh t from start before from start before
starts c fresh t from start before s = record { low = omega arith; here = s; left = refl }

module _ (c : Context) (fresh : Bool) (t : List ℕ) (from : ℕ) (start : InBlock) (before at : ℕ) (st : InBlock) (done : ℕ)
    (r : Reading c fresh t from start before at st done) where
  pub held : (x : Result (ℕ × InBlock) Reason) → TurnsTo c fresh t at st x → (w : Reason) → x ≡ Err w → held_at w (done + 1) ≡ drive_at c fresh t from start before
  held x y w e = rw add-one (sym (r.left ∙ y.turn done ∙ rw e))

  pub goes_on : (x : Result (ℕ × InBlock) Reason) → TurnsTo c fresh t at st x → (n : ℕ) (to : InBlock) → x ≡ Ok (n, to) → Reading c fresh t from start before n to (done + 1)
  goes_on x y n to e =
      let p = y.past n to e in
      record {
        low = omega arith;
        here = record { inside = p.inside; counted = omega arith; few = p.few };
        left = rw add-one (r.left ∙ y.turn done ∙ rw e);
      }

  pub ends : length t ≤ at → Ok (st, done) ≡ drive_at c fresh t from start before
  ends h = sym (r.left ∙ rw (lines_end t at h, drive_nil))
