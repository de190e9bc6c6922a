-- Laws of lines whose rows are put one after the other: the lines left say what all lines were to say, and the rows left are put where all were to be
-- put. Assumes nothing.
use Rattle.std.specs.Prelude.{None, Ok, Option, Some}
use Prim.Native.Nat.{ℕ, suc, ◌+◌, ◌*◌, ◌≤◌, ◌<◌}
use mathlib.Core.Path.{◌≡◌, refl, ap, sym, ◌∙◌}
use mathlib.Core.List.{List}
use mathlib.Core.Bool.{true}
use native.Mathlib.Numerals.{add-one}
use native.Mathlib.Omega.{arith}
use lib.ListN.{length, take, drop, length-drop}
use Rattle.iff.specs.Lines.{lines}
use Rattle.iff.specs.declared.Form.{Form}
use Rattle.iff.specs.declared.InBlock.{InBlock}
use Rattle.iff_rules.specs.Rows.{block_row, block_rows_from, Context}
use Rattle.text.specs.Spans.{span_line}
use Rattle.text.proofs.LineLaws.{lines_end, lines_step}
use Rattle.tables.proofs.Put.{length_put}
use Rattle.blocks.proofs.ReadLaws.{turns_at, Reading, starts, goes_on, ends}
use Rattle.block_rows.proofs.RowLaws.{block_row_length}
use Rattle.tables.proofs.Puts.{put_rows}
use Rattle.quick_steps.specs.Steps.{w, Stepped}
use Rattle.quick_blocks.specs.Drive.{beyond, Drivable, Drove}
use Rattle.quick_blocks.proofs.PutLaws.{take_fewer, kept_before, kept_behind}

-- where the text goes on there is a line
some_line : (b : List ℕ) (at : ℕ) → at < length b → 0 < length (lines (drop at b))
some_line b at h =
    let e : 0 < length (drop at b) = omega (arith, length-drop at b) in
    omega (arith, ap length (lines_step (drop at b) e))

-- there is room for its row
pub first_room : (b : List ℕ) (at before : ℕ) (st : InBlock) (row : ℕ) (t : List ℕ) → Drivable b at before st row t → at < length b
    → (row + before) * w + w ≤ length t
first_room b at before st row t d h = omega (arith, some_line b at h, d.room)

pub record Driving (form : Form) (c : Context) (b : List ℕ) (n k row : ℕ) (was : List ℕ) (from : ℕ) (start : InBlock) (before : ℕ) (is : List ℕ)
    (at : ℕ) (st : InBlock) (done : ℕ) : Type 0 where
  pub reading : Reading c true b from start before at st done
  pub onward : before ≤ done
  pub counted : done + length (lines (drop at b)) ≡ before + length (lines (drop from b))
  pub kept : length is ≡ length was
  pub front : take ((row + before) * w) is ≡ take ((row + before) * w) was
  pub behind : drop (beyond b from before row * w) is ≡ drop (beyond b from before row * w) was
  pub left :
      put_rows w was (row + before) (block_rows_from form n k (suc before) (lines (drop from b)))
      ≡ put_rows w is (row + done) (block_rows_from form n k (suc done) (lines (drop at b)))

module _ (form : Form) (c : Context) (b : List ℕ) (n k row : ℕ) (was : List ℕ) (from : ℕ) (start : InBlock) (before : ℕ)
    (d : Drivable b from before start row was) where
  pub driving_start : Driving form c b n k row was from start before was from start before
  driving_start =
      record {
        reading = starts c true b from start before d.standing;
        onward = omega arith;
        counted = refl;
        kept = refl;
        front = refl;
        behind = refl;
        left = refl;
      }

  module _ (is : List ℕ) (at : ℕ) (st : InBlock) (done : ℕ) (x : Driving form c b n k row was from start before is at st done) where
    -- what is left can be driven too
    pub drivable : Drivable b at done st row is
    drivable =
        record {
          standing = x.reading.here;
          room = rw (x.counted, x.kept) d.room;
        }

    -- what the lines left do, all do
    pub drove_on : (to : List ℕ) (r : Option (ℕ × InBlock)) → Drove form c b n k row is at st done to r → Drove form c b n k row was from start before to r
    drove_on to r y =
        record {
          front =
              take_fewer ((row + before) * w) ((row + done) * w) to is (omega (arith, x.onward)) y.front
              ∙ x.front;
          behind = rw x.counted at y.behind ∙ x.behind;
          through =
              λ m end e. let z = y.through m end e in
              record { driven = x.reading.left ∙ z.driven; put = z.put ∙ sym x.left };
        }

    -- nothing more is done
    pub drove_stuck : (to : List ℕ) → to ≡ is → Drove form c b n k row was from start before to None
    drove_stuck to e =
        drove_on to None
        (rw e (record { front = refl; behind = refl; through = λ m end q. absurd (let z : ◌≡◌ {A = ℕ} 0 1 = cc in omega arith) }))

    -- no line is left
    pub drove_end : length b ≤ at → Drove form c b n k row was from start before is (Some (done, st))
    unfolding put_rows block_rows_from
    drove_end h =
        drove_on is (Some (done, st))
        (record {
          front = refl;
          behind = refl;
          through =
              λ m end q. let both : ◌≡◌ {A = ℕ × InBlock} (done, st) (m, end) = cc in
              let e : done ≡ m = ap (λ x. x.0) both in
              let f : st ≡ end = ap (λ x. x.1) both in
              rw (← e, ← f)
              (record {
                driven = sym (ends c true b at st done at st done (starts c true b at st done x.reading.here) h);
                put = rw (lines_end b at h);
              });
        })

    -- one line more
    module _ (to : List ℕ) (next : ℕ) (after : InBlock) (h : at < length b)
        (s : Stepped form c b at st n k (done + 1) is to (row + done) next after) where
      abbrev row_here : List ℕ
      row_here = block_row form n k (done + 1) (span_line b at s.span)

      wide : length row_here ≡ w
      wide = block_row_length form n k (done + 1) (span_line b at s.span)

      pub goes_further : at < next
      goes_further = omega (arith, s.line, s.nexts)

      read_on : Reading c true b from start before next after (done + 1)
      read_on =
          goes_on c true b from start before at st done x.reading (Ok (next, after))
          (turns_at c true b at st x.reading.here.few s.span s.line (Ok after) s.leads (Ok (next, after)) (rw s.nexts))
          next after refl

      counted_on : done + 1 + length (lines (drop next b)) ≡ before + length (lines (drop from b))
      counted_on = omega (arith, x.counted, ap length s.line.head, ap (λ (m : ℕ). length (lines (drop m b))) s.nexts)

      pub driving_next : Driving form c b n k row was from start before to next after (done + 1)
      unfolding put_rows block_rows_from
      driving_next =
          let m = first_room b at done st row is drivable h in
          let i : row + (done + 1) ≡ suc (row + done) = omega arith in
          record {
            reading = read_on;
            onward = omega (arith, x.onward);
            counted = counted_on;
            kept = ap length s.row ∙ length_put w is (row + done) row_here wide m ∙ x.kept;
            front =
                ap (take ((row + before) * w)) s.row
                ∙ kept_before is (row + done) row_here wide m ((row + before) * w) (omega (arith, x.onward)) ∙ x.front;
            behind =
                ap (drop (beyond b from before row * w)) s.row
                ∙ kept_behind is (row + done) row_here wide m (beyond b from before row * w) (omega (arith, counted_on)) ∙ x.behind;
            left = x.left ∙ rw (s.line.head, s.nexts, s.row, i, add-one);
          }
