-- Laws of one line: what is told of it lets it through, and its row is the block's. Assumes nothing.
use Rattle.std.specs.Prelude.{None, Option, Some}
use Prim.Native.Nat.{ℕ, zero, suc, ◌+◌, ◌-◌, ◌<◌}
use mathlib.Core.Path.{◌≡◌, refl, ap, sym, ◌∙◌}
use mathlib.Core.List.{List, [], ◌∷◌}
use mathlib.Core.Bool.{Bool, true, false, cond}
use native.Mathlib.Omega.{arith}
use lib.ListN.{drop}
use Rattle.iff.specs.Lines.{Line, lines, letter}
use Rattle.iff.specs.Columns.{fields_of, picture, fits}
use Rattle.iff.specs.Values.{readable}
use Rattle.iff.specs.Tables.{Row, is_hash_row, put_row}
use Rattle.iff.specs.declared.Form.{Form}
use Rattle.iff.specs.declared.File.TheVariants.{Timetbls}
use Rattle.iff.specs.declared.Stand.{Stand}
use Rattle.iff.specs.declared.InBlock.{InBlock}
use Rattle.iff_rules.specs.Order.{goes, is_stop}
use Rattle.iff_rules.specs.Rows.{row_of, Context}
use Rattle.iff_rules.specs.Meaning.{block_meaning}
use Rattle.iff_rules.specs.References.{met_in_block}
use Rattle.iff_rules.specs.Legs.{one}
use Rattle.text.specs.declared.LineSpan.{LineSpan}
use Rattle.text.specs.Spans.{span_line, LineAt}
use Rattle.text.proofs.PictureLaws.{and_left, and_right}
use Rattle.records.specs.Layouts.{legible}
use Rattle.references.specs.declared.BlockCounts.{BlockCounts}
use Rattle.references.specs.Agree.{BlockKeysAmong}
use Rattle.block_lines.specs.Lines.{keys_from}
use Rattle.block_lines.proofs.StepLaws.{keys_agree, row_passes, let_through}
use Rattle.quick_lines.specs.Pictures.{line_here}
use Rattle.quick_words.specs.declared.Words.{Words}
use Rattle.quick_words.specs.Told.{Seen}
use Rattle.quick_steps.specs.Steps.{w, Passing, WordsPut, LineTurn}

any_fresh : (b : Bool) → cond b true true ≡ true
any_fresh true = refl
any_fresh false = refl

-- nothing is told by a width of 0
pub nothing : {A : Type 0} (m : ℕ) → m ≡ 0 → 0 < m → A
nothing m e h = absurd (omega arith)

pub positive : (m : ℕ) → (m ≡ 0 → ⊥) → 0 < m
positive m h = omega arith

-- 1 for a stop
pub is_one : (b r : Bool) → r ≡ b → r ≡ true → 1 ≡ one b
is_one b r e h = rw (sym e ∙ h)

pub is_none : (b r : Bool) → r ≡ b → r ≡ false → 0 ≡ one b
is_none b r e h = rw (sym e ∙ h)

-- A LINE THAT IS SEEN, whose row, with any number, passes
module _ (form : Form) (counts : BlockCounts) (co mo st fo b : List ℕ) (at x n k stops : ℕ) (r : Words) (s : Seen form b at x n k r) where
  abbrev here : Line
  here = line_here b at r.width

  -- the row with the number 0
  abbrev words : Row
  words = x ∷ r.one ∷ r.two ∷ r.three ∷ r.four ∷ 0 ∷ 0 ∷ []

  abbrev own : Context
  own = keys_from form counts co mo st fo

  layout_right : (fits here.body (picture (fields_of form Timetbls (letter here))) ≡ true)
      × (readable here.body (fields_of form Timetbls (letter here)) ≡ true)
  unfolding legible
  layout_right =
      let fs = fields_of form Timetbls (letter here) in (
        and_left (fits here.body (picture fs)) (readable here.body fs) s.laid,
        and_right (fits here.body (picture fs)) (readable here.body fs) s.laid,
      )

  pub passing : block_meaning stops words ≡ true → ((c : Context) → BlockKeysAmong c counts co mo st fo → met_in_block c words ≡ true)
      → Passing form counts co mo st fo b at x n k stops r
  unfolding keys_from
  passing m g =
      let a = s.alike own stops 0 in
      let i : block_meaning stops (row_of form Timetbls here) ≡ true = sym a.means ∙ ap (block_meaning stops) (s.row 0) ∙ m in
      let j : met_in_block own (row_of form Timetbls here) ≡ true =
      sym a.met ∙ ap (met_in_block own) (s.row 0) ∙ g own (keys_agree form counts co mo st fo) in
      record {
        seen = s;
        passes =
            rw (layout_right.0, layout_right.1)
            (sym (row_passes own true stops (row_of form Timetbls here) i (any_fresh (is_hash_row (row_of form Timetbls here))) j));
      }

-- WORDS that are not told are not put, and others are
module _ (x : ℕ) (r : Words) (at : ℕ) (to : Stand) (stops j : ℕ) (was is : List ℕ) (i : ℕ) where
  pub not_put : r.width ≡ 0 → is ≡ was → WordsPut x r at to stops j was is i None
  not_put e k = record { put = λ some. nothing r.width e some; next = λ some. nothing r.width e some; kept = λ z. k; unsure = λ z. refl }

  pub all_put : (r.width ≡ 0 → ⊥) → is ≡ put_row w was i (x ∷ r.one ∷ r.two ∷ r.three ∷ r.four ∷ 0 ∷ j ∷ [])
      → (more : ℕ) → more ≡ one (is_stop x)
      → WordsPut x r at to stops j was is i (Some ((at + r.width + 2), (record { stand = to; stops = stops + more })))
  all_put n e more m = record { put = λ some. e; next = λ some. rw m; kept = λ z. absurd (n z); unsure = λ z. absurd (n z) }

-- A LINE THAT PASSES leads on
module _ (form : Form) (counts : BlockCounts) (co mo st fo b : List ℕ) (at : ℕ) (state : InBlock) (n k j : ℕ) (was is : List ℕ) (i : ℕ) where
  abbrev keys : Context
  keys = keys_from form counts co mo st fo

  pub unsure : is ≡ was → LineTurn form keys b at state n k j was is i None
  unsure e = record { stepped = λ next to q. absurd (let z : ◌≡◌ {A = ℕ} 0 1 = cc in omega arith); kept = λ q. e }

  module _ (x : ℕ) (r : Words) (some : 0 < r.width) (p : Passing form counts co mo st fo b at x n k state.stops r) where
    abbrev there : LineSpan
    there = record { end = at + r.width; ended = true; next = at + r.width + 2 }

    same_line : span_line b at there ≡ line_here b at r.width
    same_line =
        let e : at + r.width - at ≡ r.width = omega arith in
        ap (λ (m : ℕ). line_here b at m) e

    stands : LineAt b at there
    stands =
        record {
          low = omega arith;
          top = omega arith;
          more = omega arith;
          high = p.seen.room;
          head = p.seen.head ∙ ap (λ (l : Line). l ∷ lines (drop (at + r.width + 2) b)) (sym same_line);
        }

    pub turned : (to : Stand) → goes state.stand x ≡ Some to → (more : ℕ) → more ≡ one (is_stop x)
        → is ≡ put_row w was i (x ∷ r.one ∷ r.two ∷ r.three ∷ r.four ∷ 0 ∷ j ∷ [])
        → LineTurn form keys b at state n k j was is i
        (Some ((at + r.width + 2), (record { stand = to; stops = state.stops + more })))
    turned to g more m e =
        let next : InBlock = record { stand = to; stops = state.stops + more } in
        let l = let_through keys true state (line_here b at r.width) x (sym p.seen.begins) p.seen.known to g p.passes next (rw m) in
        record {
          stepped =
              λ at' to' q. let both : ◌≡◌ {A = ℕ × InBlock} (at + r.width + 2, next) (at', to') = cc in
              let f : at + r.width + 2 ≡ at' = ap (λ x. x.0) both in
              let h : next ≡ to' = ap (λ x. x.1) both in
              record {
                span = there;
                line = stands;
                nexts = sym f;
                leads = rw (← h, same_line) l;
                row = e ∙ ap (put_row w was i) (rw same_line (sym (p.seen.row j)));
              };
          kept = λ q. absurd (let z : ◌≡◌ {A = ℕ} 0 1 = cc in omega arith);
        }

  -- words that were told, whose line goes on to `to`, or that were not told
  pub told_turn : (x : ℕ) (r : Words) → (0 < r.width → Passing form counts co mo st fo b at x n k state.stops r)
      → (to : Stand) → goes state.stand x ≡ Some to → (p : Option (ℕ × InBlock)) → WordsPut x r at to state.stops j was is i p
      → LineTurn form keys b at state n k j was is i p
  told_turn x r passes to g p q = go r.width refl
    where
      go : (m : ℕ) → r.width ≡ m → LineTurn form keys b at state n k j was is i p
      go zero e = rw (q.unsure e) (unsure (q.kept e))
      go (suc m) e =
          let some : 0 < r.width = omega arith in
          rw (q.next some) (turned x r some (passes some) to g (one (is_stop x)) refl (q.put some))
