-- Each way out of the tests of an amendment is its first fault. Assumes nothing.
use Rattle.std.specs.Prelude.{Err, None, Ok, Option, Result}
use Prim.Native.Nat.{ℕ, suc, ◌+◌, ◌-◌, ◌/◌, ◌≤◌, ◌<◌}
use mathlib.Core.Path.{◌≡◌, refl, ap, ap₂, sym, ◌∙◌}
use mathlib.Core.List.{List, [], ◌∷◌, ◌++◌}
use mathlib.Core.Bool.{Bool, true, false, ◌&&◌, false≢true}
use native.Mathlib.Nat.{sub-zero, le_trans, mul-le-mul_right, div-mul-le_self}
use native.Mathlib.Omega.{arith}
use borrow.Author.Tests.{leb-true, eqb-true}
use lib.Dec.{leb, eqb}
use lib.ListN.{length, get_or, take, drop}
use Rattle.iff.specs.Bytes.{digit}
use Rattle.iff.specs.Lists.{total, has, all}
use Rattle.iff.specs.Lines.{Line, lines, is_hash, no_line}
use Rattle.iff.specs.Refusals.{or_else, first_fault, fine, Verdict, at_place, fault_at}
use Rattle.iff.specs.Tables.{Row, row_width, rows_in, keys_of}
use Rattle.iff.specs.Words.{named}
use Rattle.iff.specs.Values.{number_of}
use Rattle.iff.specs.declared.File.TheVariants.{Timetbls}
use Rattle.iff.specs.declared.Form.{Form}
use Rattle.iff.specs.declared.Reason.{Reason}
use Rattle.iff.specs.declared.Reason.TheVariants.{NoRoom, NotOneBlock, NoService}
use Rattle.iff_rules.specs.Rows.{row_of, block_rows, as_block, Context}
use Rattle.iff_rules.specs.Unique.{fresh_key}
use Rattle.iff_rules.specs.Load.{fault_unless, length_verdict, room_verdict, block_verdict}
use Rattle.iff_laws.specs.TruthLaws.{both}
use Rattle.iff_laws.specs.ScanLaws.{or_fine}
use Rattle.iff_desk.specs.Sound.{row_size, first_size}
use Rattle.iff_desk.specs.Parts.{is_head, inner, is_one_block}
use Rattle.iff_desk.specs.Amend.{place_of, edited_length, edited_lines, rows_before, rows_behind}
use Rattle.keys.specs.Blocks.{rows_between}
use Rattle.references.specs.Agree.{BlockKeys, BlockKeysAmong}
use Rattle.references.specs.declared.BlockCounts.{BlockCounts}
use Rattle.legs.proofs.RowLaws.{block_lines_lem}
use Rattle.blocks.specs.Whole.{BlockChecked}
use Rattle.block_services.specs.Heads.{head_word}
use Rattle.block_services.proofs.ServiceLaws.{head_service}
use Rattle.blocks.proofs.WholeLaws.{fresh_service}
use Rattle.walks.proofs.GroupLaws.{between_rest}
use Rattle.walks.proofs.TableLaws.{rows_are, inside}
use Rattle.row_sizes.proofs.SizeLaws.{count_between}
use Rattle.store.specs.Found.{Stored, GroupAt}
use Rattle.store.specs.declared.Part.{Part}
use Rattle.edit_sizes.specs.Edits.{Editable, edited_bytes, sizes_verdict}
use Rattle.service_places.specs.Placed.{services_before, Placed}
use Rattle.service_places.proofs.PlaceLaws.{not_held, held, placed}
use Rattle.amend_tests.specs.declared.Edit.{Edit}
use Rattle.amend_tests.specs.Judged.{judged_verdict, BlockEdit, BlockJudged, edit_verdict, Judgeable, Replaces, AmendJudged}
use Rattle.blocks.specs.Drive.{held_at, size_of}
use Rattle.blocks.specs.declared.BlockSize.{BlockSize}
use Rattle.blocks.specs.declared.LineFault.{LineFault}
use Rattle.iff.specs.declared.Fault.{Fault}
use Rattle.iff.specs.declared.Place.{Place}

abbrev width : ℕ
width = row_width Timetbls

-- a refusal replaces nothing
no_edit : {A : Type 0} (r : Reason) (p : Option Place) (e : Edit) → fault_at r p ≡ Ok e → A
no_edit r p e q = absurd (false≢true (ap (λ (j : Result Edit Fault). fine (judged_verdict j)) q))

-- THE BLOCK
module _ (form : Form) (b t : List ℕ) (used from to : ℕ) (co mo st fo : List ℕ) (n : BlockCounts)
    (agree : (c : Context) → BlockKeys c co mo st fo → BlockKeysAmong c n co mo st fo) (x : Result BlockSize LineFault) (k : BlockChecked form b true n co mo st fo x) where
  pub block_broken : (w : Reason) (line o : ℕ) → x ≡ held_at w line → o ≡ suc (length (services_before t from))
      → BlockJudged form b t used from to co mo st fo (fault_at w (at_place Timetbls o line))
  block_broken w line o e q =
      record {
        says = λ c f a seen new. ap (λ (i : ℕ). fault_at w (at_place Timetbls i line)) q
            ∙ rw e at (k.says c f (agree c a) seen new (suc (length (services_before t from))));
        edit = λ d z. no_edit w (at_place Timetbls o line) d z;
      }

  pub block_whole : (lines stops : ℕ) → x ≡ size_of lines stops
      → BlockJudged form b t used from to co mo st fo (Ok (record { used = used; from = from; to = to; lines = lines; stops = stops }))
  block_whole lines stops e =
      record {
        says = λ c f a seen new. rw e at (k.says c f (agree c a) seen new (suc (length (services_before t from))));
        edit = λ d z. let y : record { used = used; from = from; to = to; lines = lines; stops = stops } ≡ d = cc in
            rw (← y) (record { counted = refl; begins = refl; ends = refl; whole = k.whole lines stops e });
      }

-- ONE BLOCK OF THE SERVICE: its `#` names it, so that it is new where none before it does
head_line_lem : (s : ℕ) (ls : List Line) → is_one_block s ls ≡ true → is_head s (get_or ls 0 no_line) ≡ true
unfolding is_one_block
head_line_lem s [] e = absurd (false≢true e)
head_line_lem s (l ∷ ls) e =
    (both (is_head s l) (all inner ls) (both (all (λ (x : Line). x.ended) (l ∷ ls)) (is_head s l && all inner ls) e).1).0

head_named : (form : Form) (s : ℕ) (l : Line) → is_head s l ≡ true → (is_hash l ≡ true) × (named (row_of form Timetbls l) ≡ s)
unfolding is_head head_word row_of
head_named form s l e =
    let p = (both (eqb (length l.body) 9) _ e).1 in
    let q = both (is_hash l) _ p in
    let d = (both (all digit (take 8 (drop 1 l.body))) (eqb (number_of (take 8 (drop 1 l.body))) s) q.1).1 in
    (q.0, sym (head_service form l.body _ refl (eqb-true _ _ q.0)) ∙ eqb-true _ _ d)

pub new_service : (form : Form) (s : ℕ) (b seen : List ℕ) → is_one_block s (lines b) ≡ true → has s seen ≡ false
    → true ≡ fresh_key Timetbls seen (row_of form Timetbls (as_block b).top)
new_service form s b seen e n =
    let h = head_named form s (as_block b).top (head_line_lem s (lines b) e) in
    sym (fresh_service form seen (as_block b) h.0 ∙ rw (h.1, n))

-- THE TESTS IN TURN
regroup : (x y v : Verdict) → or_else x (or_else y (or_else v (Ok tt))) ≡ or_else (or_else x y) v
regroup (Ok _) (Ok _) (Ok _) = refl
regroup (Ok _) (Ok _) (Err fault) = refl
regroup (Ok _) (Err fault) v = refl
regroup (Err fault) y v = refl

module _ (form : Form) (t : List ℕ) (s : ℕ) (b : List ℕ) (c : Context) (f : c.form ≡ form)
    (q : c.keys Timetbls ≡ keys_of Timetbls (rows_in Timetbls t)) where
  says_not_one : is_one_block s (lines b) ≡ false → fault_at NotOneBlock None ≡ edit_verdict c (rows_in Timetbls t) (length t) s b
  unfolding edit_verdict first_fault
  says_not_one e = rw e

  module _ (one : is_one_block s (lines b) ≡ true) where
    says_not_held : has s (keys_of Timetbls (rows_in Timetbls t)) ≡ false → fault_at NoService None ≡ edit_verdict c (rows_in Timetbls t) (length t) s b
    unfolding edit_verdict first_fault
    says_not_held e = rw (one, q, e)

    module _ (there : has s (keys_of Timetbls (rows_in Timetbls t)) ≡ true) (used from to : ℕ) (p : Placed s used t from to) where
      abbrev k : ℕ
      k = place_of s (rows_in Timetbls t)

      -- sizes of some length and some lines, and then the block
      abbrev in_turn : ℕ → ℕ → Verdict → Verdict
      in_turn n l v = or_else (length_verdict Timetbls n) (or_else (room_verdict Timetbls l (length t)) (or_else v (Ok tt)))

      opened : edit_verdict c (rows_in Timetbls t) (length t) s b
          ≡ in_turn (edited_length c k (rows_in Timetbls t) b) (edited_lines k (rows_in Timetbls t) b)
          (block_verdict c (take k (c.keys Timetbls)) (suc k) (as_block b))
      unfolding edit_verdict first_fault
      opened = rw (one, ap (has s) q ∙ there)

      same_length : edited_length c k (rows_in Timetbls t) b ≡ edited_bytes form t used from to (length b)
      same_length =
          ap (λ (g : Form). first_size + total (row_size g Timetbls) (drop 1 (rows_before k (rows_in Timetbls t))) + length b
          + total (row_size g Timetbls) (rows_behind k (rows_in Timetbls t))) f
          ∙ ap₂ (λ (x y : List Row). first_size + total (row_size form Timetbls) x + length b + total (row_size form Timetbls) y)
          (ap (drop 1) p.before ∙ between_rest width t 0 from) p.behind

      same_lines : edited_lines k (rows_in Timetbls t) b ≡ from + length (lines b) + (used - to)
      same_lines =
          ap₂ (λ (x y : ℕ). x + length (lines b) + y) (ap length p.before ∙ count_between width t 0 (from - 0) ∙ sub-zero from)
          (ap length p.behind ∙ count_between width t to (used - to))

      same_block : block_verdict c (take k (c.keys Timetbls)) (suc k) (as_block b)
          ≡ block_verdict c (services_before t from) (suc (length (services_before t from))) (as_block b)
      same_block = ap₂ (λ (x : List ℕ) (o : ℕ). block_verdict c x (suc o) (as_block b)) (ap (take k) q ∙ p.seen) p.place

      says_rest : edit_verdict c (rows_in Timetbls t) (length t) s b
          ≡ or_else (sizes_verdict form t used from to b) (block_verdict c (services_before t from) (suc (length (services_before t from))) (as_block b))
      unfolding sizes_verdict
      says_rest =
          opened
          ∙ ap₂ (λ (n l : ℕ). in_turn n l (block_verdict c (take k (c.keys Timetbls)) (suc k) (as_block b))) same_length same_lines
          ∙ ap (in_turn (edited_bytes form t used from to (length b)) (from + length (lines b) + (used - to))) same_block
          ∙ regroup (length_verdict Timetbls (edited_bytes form t used from to (length b)))
          (room_verdict Timetbls (from + length (lines b) + (used - to)) (length t)) _

-- lines for which there is room
room_fine : (l n : ℕ) → room_verdict Timetbls l n ≡ Ok tt → l ≤ n / width
room_fine l n e = go (leb l (n / width)) refl e
  where
    go : (x : Bool) → leb l (n / width) ≡ x → fault_unless x NoRoom (at_place Timetbls 0 0) ≡ Ok tt → l ≤ n / width
    go true q e = leb-true l (n / width) q
    go false q e = absurd (false≢true (ap fine e))

-- WAYS OUT
module _ (form : Form) (t co mo st fo : List ℕ) (s : ℕ) (b : List ℕ) where
  pub not_one : is_one_block s (lines b) ≡ false → AmendJudged form t co mo st fo s b (fault_at NotOneBlock None)
  not_one e = record { says = λ c f q a. says_not_one form t s b c f q e; edit = λ d z. no_edit NotOneBlock None d z }

  module _ (one : is_one_block s (lines b) ≡ true) (j : Judgeable form t) (used : ℕ) (counted : used ≡ length (rows_in Timetbls t))
      (p : Part) (g : GroupAt Timetbls used t s p) where
    pub stored : Stored Timetbls used t
    stored = record { counted = counted; once = j.once }

    pub no_service : p.from ≡ p.to → AmendJudged form t co mo st fo s b (fault_at NoService None)
    no_service e =
        record {
          says = λ c f q a. says_not_held form t s b c f q one (not_held s used t p stored g e);
          edit = λ d z. no_edit NoService None d z;
        }

    module _ (n : p.from ≡ p.to → ⊥) where
      some : p.from < p.to
      some = omega (arith, g.inside.order)

      pub editable : Editable form t used p.from p.to
      editable =
          let e : drop 1 (rows_in Timetbls t) ≡ rows_between width t 1 used
          = ap (drop 1) (sym (rows_are Timetbls t used counted)) ∙ between_rest width t 0 used in
          record {
            some = some;
            within = g.in_use;
            lies = inside Timetbls t used counted;
            short = rw e at j.short;
          }

      where_placed : Placed s used t p.from p.to
      where_placed = placed s used t p stored g some

      there : has s (keys_of Timetbls (rows_in Timetbls t)) ≡ true
      there = held s used t p stored g some

      module _ (v : Verdict) (sized : v ≡ sizes_verdict form t used p.from p.to b) where
        pub size_refused : (w : Reason) (at : Option Place) → v ≡ fault_at w at → AmendJudged form t co mo st fo s b (fault_at w at)
        size_refused w at e =
            record {
              says = λ c f q a.
                  sym (says_rest form t s b c f q one there used p.from p.to where_placed
                  ∙ ap (λ (x : Verdict).
                  or_else x (block_verdict c (services_before t p.from) (suc (length (services_before t p.from))) (as_block b))) (sym sized ∙ e));
              edit = λ d z. no_edit w at d z;
            }

        -- the block has room
        module _ (e : v ≡ Ok tt) (r : Result Edit Fault) (h : BlockJudged form b t used p.from p.to co mo st fo r) where
          has_room : p.from + length (lines b) + (used - p.to) ≤ length t / width
          unfolding sizes_verdict
          has_room = room_fine _ _ (or_fine (length_verdict Timetbls (edited_bytes form t used p.from p.to (length b)))
              (room_verdict Timetbls (p.from + length (lines b) + (used - p.to)) (length t)) (sym sized ∙ e)).1

          replaces : (d : Edit) → BlockEdit form b used p.from p.to d → Replaces form t s b d
          replaces d q =
              let n : d.lines ≡ length (lines b) = q.whole.counted ∙ ap length (block_lines_lem b q.whole.some) in
              let l : d.from + d.lines + (d.used - d.to) ≤ length t / width = rw (q.begins, q.ends, q.counted, n) has_room in
              record {
                counted = q.counted ∙ counted;
                ordered = omega (arith, q.begins, q.ends, some);
                within = omega (arith, q.counted, q.ends, g.in_use);
                roomy = le_trans (mul-le-mul_right width l) (div-mul-le_self (length t) width);
                whole = q.whole;
                rows = rw (q.begins, q.ends, q.counted)
                    (ap₂ (λ (x y : List Row). x ++ (block_rows form (as_block b) ++ y)) where_placed.before where_placed.behind);
              }

          pub block_judged : AmendJudged form t co mo st fo s b r
          block_judged =
              record {
                says = λ c f q a.
                    h.says c f a (services_before t p.from) (new_service form s b (services_before t p.from) one where_placed.new)
                    ∙ sym (says_rest form t s b c f q one there used p.from p.to where_placed
                    ∙ ap (λ (x : Verdict).
                    or_else x (block_verdict c (services_before t p.from) (suc (length (services_before t p.from))) (as_block b))) (sym sized ∙ e));
                edit = λ d z. replaces d (h.edit d z);
              }
