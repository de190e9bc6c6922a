-- The walk through the lines of a file of groups: where it begins, a line further, and its ends. Assumes nothing.
use Rattle.std.specs.Prelude.{Ok, Option, Result}
use Prim.Native.Nat.{ℕ, zero, suc, ◌+◌, ◌-◌, ◌*◌, ◌≤◌, ◌<◌}
use mathlib.Core.Path.{◌≡◌, refl, ap, sym, ◌∙◌, subst, subst}
use mathlib.Core.List.{List, [], ◌∷◌, ◌++◌, map, map-append}
use mathlib.Core.Bool.{Bool, true, false}
use native.Mathlib.Nat.{suc-mul, mul-le-mul_right}
use native.Mathlib.Numerals.{add-one}
use native.Mathlib.Omega.{arith}
use lib.Dec.{eqb}
use lib.ListN.{length, get_or, take, drop, length-drop, length-map}
use lib.Seq.{drop-cons, take-suc, drop_at, drop-append-le, length-take-le, take_all}
use Rattle.iff.specs.Bytes.{hash}
use Rattle.iff.specs.Lists.{kept}
use Rattle.iff.specs.Refusals.{Verdict, or_else, after, at_place, fault_at}
use Rattle.iff.specs.Lines.{Line, lines, is_hash, no_line}
use Rattle.iff.specs.Tables.{Row, tag, row_width, fill, put_row, keys_of}
use Rattle.iff.specs.declared.GroupFile.{GroupFile}
use Rattle.iff.specs.declared.File.TheVariants.{Groups}
use Rattle.iff.specs.declared.Form.{Form}
use Rattle.iff.specs.declared.Reason.{Reason}
use Rattle.iff.specs.declared.Reason.TheVariants.{Order}
use Rattle.iff_rules.specs.Order.{group_moves, group_stand, may_end}
use Rattle.iff_rules.specs.Rows.{row_of, Context}
use Rattle.iff_rules.specs.Load.{groups_verdict, fault_unless}
use Rattle.tables.proofs.Each.{Each, each_append}
use Rattle.tables.proofs.Rows.{Used, row_inside}
use Rattle.tables.proofs.Filled.{fill_next}
use Rattle.tables.proofs.Widths.{widths}
use Rattle.keys.specs.Lookup.{keys_in}
use Rattle.fresh_keys.specs.Runs.{no_keys, run_of}
use Rattle.fresh_keys.specs.declared.KeyRun.{KeyRun}
use Rattle.fresh_keys.proofs.Runs.{run_rises, run_key}
use Rattle.keys.proofs.Fills.{keys_in_fill, keys_same, keys_next}
use Rattle.keys.proofs.Blocks.{between_in_fill}
use Rattle.reading.specs.Reading.{RowsDone}
use Rattle.group_marks.specs.Numbers.{Remembered, with_row}
use Rattle.group_marks.proofs.NumberLaws.{none_remembered, opens, key_more, rest_more}
use Rattle.group_lines.specs.Tests.{joins}
use Rattle.open_groups.specs.Open.{open_rows, open_from, Beside, opening, group_for}
use Rattle.group_lines.specs.Facts.{put_verdict, line_due, PutThere, LineDone}
use Rattle.open_groups.specs.declared.Open.{Open}
use Rattle.group_lines.specs.declared.LinePut.{LinePut}
use Rattle.group_lines.specs.declared.LinePut.TheVariants.{Put, Early, Refused}
use Rattle.group_files.specs.Flat.{flat}
use Rattle.group_files.specs.Begun.{first_in, GroupsBegun}
use Rattle.group_files.proofs.HashLaws.{row_hash, stand_none, stand_next}
use Rattle.group_files.proofs.FlatLaws.{groups_flat}
use Rattle.iff.specs.declared.Fault.{Fault}
use Rattle.iff.specs.declared.Place.{Place}

many : (a w : ℕ) → 0 < w → a ≤ a * w
many zero w h = omega arith
many (suc a) w h = rw suc-mul (omega (arith, many a w h))

-- a fault is no pass
fault_not : (r : Reason) (p : Option Place) → ◌≡◌ {A = Verdict} (fault_at r p) (Ok tt) → ⊥
fault_not r p e = let z : ◌≡◌ {A = ℕ} 0 1 = cc in omega arith

-- a context with another form
abbrev formed : Context → Form → Context
formed c x = record { form = x; keys = c.keys }

module _ (f : GroupFile) (form : Form) (from : ℕ) (text : List ℕ) where
  -- the lines of groups, and the rows of the first j of them
  abbrev lined : List Line
  lined = lines (drop from text)

  abbrev pub rows_to : ℕ → List Row
  rows_to j = map (row_of form (Groups f)) (take j lined)

  -- those of the open group
  abbrev open_to : ℕ → Open → List Row
  open_to j g = drop (j - g.size) (rows_to j)

-- what is left is the whole: j lines have been read, and these are left
pub record Walk (f : GroupFile) (form : Form) (from : ℕ) (text t₀ : List ℕ) (Agree : Context → Type 0)
    (ls : List Line) (j : ℕ) (g : Open) (t marks : List ℕ) : Type 0 where
  pub few : j ≤ length (lines (drop from text))
  pub here : ls ≡ drop j (lines (drop from text))
  pub part : g.size ≤ j
  pub table : t ≡ fill (row_width (Groups f)) (length t₀) (first_in f t₀ ∷ rows_to f form from text j)
  pub used : Each (Used (row_width (Groups f))) (first_in f t₀ ∷ rows_to f form from text j)
  pub stands : g.stand ≡ group_stand (open_to f form from text j g)
  pub runs : g.run ≡ run_of (keys_of (Groups f) (rows_to f form from text j))
  pub marked :
      Remembered f (keys_of (Groups f) (rows_to f form from text j)) (open_from (j + 1) g.size) (drop 1 (open_to f form from text j g)) marks
  pub left :
      (c : Context) → c.form ≡ form → Agree c
      → groups_verdict c f (lines (drop from text))
      ≡ flat c f (rows_to f form from text j) (open_to f form from text j g) (drop j (lines (drop from text)))
  pub kept : length t ≡ length t₀

module _ (f : GroupFile) (form : Form) (from : ℕ) (text t₀ : List ℕ) (Agree : Context → Type 0) (G : GroupsBegun f text from t₀) where
  abbrev all : List Line
  all = lines (drop from text)

  abbrev w : ℕ
  w = row_width (Groups f)

  abbrev first : Row
  first = first_in f t₀

  abbrev row_in : Line → Row
  row_in l = row_of form (Groups f) l

  abbrev up_to : ℕ → List Row
  up_to j = rows_to f form from text j

  abbrev Walks : List Line → ℕ → Open → List ℕ → List ℕ → Type 0
  Walks ls j g t marks = Walk f form from text t₀ Agree ls j g t marks

  abbrev Done : List ℕ → Result Bool Fault → Type 0
  Done t r = RowsDone (Groups f) form Agree (λ c. groups_verdict c f all) first (map row_in all) t₀ t r

  -- IT BEGINS with no lines read and no group open
  pub walk_start : (ls : List Line) → ls ≡ all → (marks : List ℕ) (run : KeyRun) (g : Open) → run ≡ no_keys → g ≡ opening run
      → Walks ls 0 g t₀ marks
  unfolding kept after
  walk_start ls q marks run g e o =
      rw (q, o)
      (record {
        few = omega arith;
        here = refl;
        part = omega arith;
        table = G.begun.holds;
        used = ((G.begun.width, G.begun.used), tt);
        stands = sym stand_none;
        runs = e;
        marked = none_remembered f (open_from 1 0) marks;
        left = λ c d a. groups_flat c f all;
        kept = refl;
      })

  module _ (ls : List Line) (j : ℕ) (g : Open) (t marks : List ℕ) (W : Walks ls j g t marks) where
    abbrev opened : List Row
    opened = drop (j - g.size) (up_to j)

    rows_length : length (up_to j) ≡ j
    rows_length = length-map (take j all) row_in ∙ length-take-le j all W.few

    -- the rows so far fit
    fitting : suc (length (up_to j)) * w ≤ length t₀
    fitting =
        let h : suc j ≤ suc (length all) = omega (arith, W.few) in
        rw rows_length (omega (arith, mul-le-mul_right w h, G.begun.room))

    -- what stands in the table
    keys_here : keys_in (Groups f) t ≡ keys_of (Groups f) (up_to j)
    unfolding kept
    keys_here =
        ap (keys_in (Groups f)) W.table ∙ (keys_in_fill (Groups f) (length t₀) (first ∷ up_to j) W.used fitting ∙ rw G.begun.other)

    open_here : open_rows f t (j + 1) g.size ≡ opened
    open_here =
        let a : j + 1 - g.size ≡ suc (j - g.size) = omega (arith, W.part) in
        let b : j + 1 - suc (j - g.size) ≡ g.size = omega (arith, W.part) in
        let n : length (drop (j - g.size) (up_to j)) ≤ g.size = rw (length-drop, rows_length) (omega (arith, W.part)) in
        ap (λ (x : List ℕ). open_rows f x (j + 1) g.size) W.table
        ∙ (between_in_fill w (widths (Groups f)).some (length t₀) (first ∷ up_to j) W.used fitting (j + 1 - g.size) (j + 1) (omega arith)
        (omega (arith, rows_length))
        ∙ rw (a, b) (take_all g.size (drop (j - g.size) (up_to j)) n))

    -- A LINE FURTHER
    module _ (rest : List Line) (line : Line) (L : ls ≡ line ∷ rest) where
      head : drop j all ≡ line ∷ rest
      head = sym W.here ∙ L

      inside : j < length all
      inside =
          let h : length (drop j all) ≡ suc (length rest) = ap length head in
          omega (arith, length-drop j all)

      -- its row has room behind the others
      room : (j + 1) * w + w ≤ length t₀
      room = row_inside w (j + 1) (suc (length all)) (length t₀) (omega (arith, inside)) G.begun.room

      pub walk_next : j + 1 < length t₀
      walk_next = omega (arith, room, many (j + 1) w (widths (Groups f)).some, (widths (Groups f)).some)

      pub walk_beside : Beside f (j + 1) g t marks
      walk_beside =
          record {
            part = omega (arith, W.part);
            few = rw W.kept walk_next;
            room = rw W.kept room;
            stands = W.stands ∙ ap group_stand (sym open_here);
            runs = W.runs ∙ ap run_of (sym keys_here);
            marked = rw (keys_here, open_here) W.marked;
          }

      parts : get_or all j no_line ∷ drop (suc j) all ≡ line ∷ rest
      parts = sym (drop-cons all j no_line inside) ∙ head

      tail : rest ≡ drop (j + 1) all
      tail = let e = parts in rw add-one (cc)

      grown : up_to (j + 1) ≡ up_to j ++ (row_in line ∷ [])
      grown =
          let e : get_or all j no_line ≡ line = (let p = parts in cc) in
          rw (add-one, take-suc all j no_line inside, e) (map-append row_in (take j all) (line ∷ []))

      -- the open group's rows and the keys, a line further
      record OpenNext (g' : Open) (with : List ℕ) : Type 0 where
        part : g'.size ≤ j + 1
        rows : joins opened line ++ (row_in line ∷ []) ≡ drop (j + 1 - g'.size) (up_to (j + 1))
        runs : g'.run ≡ run_of (keys_of (Groups f) (up_to (j + 1)))
        marked :
            Remembered f (keys_of (Groups f) (up_to (j + 1))) (open_from (j + 1 + 1) g'.size) (drop 1 (joins opened line ++ (row_in line ∷ []))) with

      -- the walk by what the line's verdict is
      Turned : Context → Type 0
      Turned c = groups_verdict c f all
          ≡ or_else (line_due f (j + 1) g line t c) (flat c f (up_to (j + 1)) (joins opened line ++ (row_in line ∷ [])) (drop (j + 1) all))

      turn_formed : (c : Context) → Agree (formed c form) → Turned (formed c form)
      unfolding flat Turned
      turn_formed c a =
          let n : suc (length (up_to j)) ≡ j + 1 = omega (arith, rows_length) in
          W.left (formed c form) refl a ∙ rw (head, n, tail, grown, keys_here, open_here)

      turn : (c : Context) → c.form ≡ form → Agree c
          → groups_verdict c f all
          ≡ or_else (line_due f (j + 1) g line t c) (flat c f (up_to (j + 1)) (joins opened line ++ (row_in line ∷ [])) (drop (j + 1) all))
      unfolding Turned
      turn c d a =
          let as_formed : c ≡ formed c form = ap (formed c) d in
          subst Turned (sym as_formed) (turn_formed c (subst Agree as_formed a))

      module _ (t' with : List ℕ) (r : LinePut)
          (D : LineDone f form (j + 1) (group_for g line) Agree (line_due f (j + 1) g line t) line t t' marks with r) where
        -- it is at fault, or the line before it
        walk_stops : (a : Reason) (p : Option Place) → put_verdict f (j + 1) r ≡ fault_at a p → Done t' (fault_at a p)
        walk_stops a p q =
            record {
              verdict = λ c d x. sym (turn c d x ∙ rw (sym (D.verdict c d x) ∙ q));
              table = λ n. absurd (fault_not a p n);
              rises = λ n. absurd (fault_not a p n);
              kept = D.kept ∙ W.kept;
            }

        -- it opens a group too early
        pub walk_early : r ≡ Early → (n : ℕ) → n ≡ j + 1 → Done t' (fault_at Order (at_place (Groups f) 0 n))
        walk_early q n e = walk_stops Order (at_place (Groups f) 0 n) (ap (put_verdict f (j + 1)) q ∙ rw e)

        -- it is refused
        pub walk_refused : (a : Reason) → r ≡ Refused a → (n : ℕ) → n ≡ j + 1 + 1 → Done t' (fault_at a (at_place (Groups f) 0 n))
        walk_refused a q n e = walk_stops a (at_place (Groups f) 0 n) (ap (put_verdict f (j + 1)) q ∙ rw (e, add-one (j + 1)))

        -- or stands in the table
        module _ (g' : Open) (q : r ≡ Put g') where
          P : PutThere f form (j + 1) (group_for g line) line t t' marks with g'
          P = D.put g' q

          table_next : t' ≡ fill w (length t₀) (first ∷ up_to (j + 1))
          table_next =
              let n : j + 1 ≡ length (first ∷ up_to j) = omega (arith, rows_length) in
              P.table
              ∙ (ap (λ (x : List ℕ). put_row w x (j + 1) (row_in line)) W.table
              ∙ (ap (λ (i : ℕ). put_row w (fill w (length t₀) (first ∷ up_to j)) i (row_in line)) n
              ∙ (fill_next w (length t₀) (first ∷ up_to j) W.used (row_in line)
              ∙ ap (λ (rs : List Row). fill w (length t₀) (first ∷ rs)) (sym grown))))

          used_next : Each (Used w) (first ∷ up_to (j + 1))
          used_next = rw grown (each_append (Used w) (first ∷ up_to j) (row_in line ∷ []) W.used ((P.wide, P.used), tt))

          -- where the group stands that the line was put to
          stood : (b : Bool) → is_hash line ≡ b → (group_for g line).stand ≡ group_stand (joins opened line)
          stood true h = rw (h, stand_none)
          stood false h = rw h W.stands

          stands_next : g'.stand ≡ group_stand (joins opened line ++ (row_in line ∷ []))
          stands_next =
              ap (λ (o : Open). o.stand) P.group
              ∙ (ap group_moves (stood (is_hash line) refl) ∙ sym (stand_next (joins opened line) (row_in line)))

          -- the marks, by how many rows the group had
          marks_next : (size : ℕ) → (group_for g line).size ≡ size → with ≡ with_row f (open_from (j + 1) size) (row_in line) marks
          marks_next size e = P.marked ∙ ap (λ (s : ℕ). with_row f (open_from (j + 1) s) (row_in line) marks) e

          -- its rows, and the keys, by whether the line is a `#`
          next : (b : Bool) → is_hash line ≡ b → OpenNext g' with
          next true h =
              let m : g'.size ≡ 0 + 1 = ap (λ (o : Open). o.size) P.group ∙ rw h in
              let z : j + 1 - g'.size ≡ j = omega arith in
              let k : eqb (tag (row_in line)) hash ≡ true = row_hash f form line ∙ h in
              record {
                part = omega arith;
                rows = rw (h, z, grown) (sym (drop_at (up_to j) (row_in line ∷ []) j rows_length));
                runs = ap (λ (o : Open). o.run) P.group ∙ rw (h, k, W.runs, grown, run_key (Groups f) (up_to j) (row_in line) k);
                marked =
                    rw (marks_next 0 (rw h), h, grown, keys_next (Groups f) (up_to j) (row_in line) k)
                    (key_more f (open_from (j + 1) 0) (row_in line) marks (keys_of (Groups f) (up_to j)) []
                    (opens f (keys_of (Groups f) (up_to j)) (open_from (j + 1) g.size) (drop 1 opened) marks W.marked (open_from (j + 1) 0)) k
                    (open_from (j + 1 + 1) g'.size));
              }
          next false h =
              let m : g'.size ≡ g.size + 1 = ap (λ (o : Open). o.size) P.group ∙ rw h in
              let z : j + 1 - g'.size ≡ j - g.size = omega (arith, W.part) in
              let y : j + 1 + 1 - g'.size ≡ j + 1 - g.size = omega (arith, W.part) in
              let k : eqb (tag (row_in line)) hash ≡ false = row_hash f form line ∙ h in
              record {
                part = omega (arith, W.part);
                rows = rw (h, z, grown) (sym (drop-append-le (j - g.size) (up_to j) (row_in line ∷ []) (omega (arith, rows_length))));
                runs = ap (λ (o : Open). o.run) P.group ∙ rw (h, k, W.runs, grown, keys_same (Groups f) (up_to j) (row_in line) k);
                marked =
                    rw (marks_next g.size (rw h), h, y, grown, keys_same (Groups f) (up_to j) (row_in line) k)
                    (rest_more f (open_from (j + 1) g.size) (row_in line) marks k (keys_of (Groups f) (up_to j)) opened W.marked);
              }

          pub walk_goes : Walks rest (j + 1) g' t' with
          walk_goes =
              let n = next (is_hash line) refl in
              record {
                few = omega (arith, inside);
                here = tail;
                part = n.part;
                table = table_next;
                used = used_next;
                stands = stands_next ∙ ap group_stand n.rows;
                runs = n.runs;
                marked =
                    subst
                    (λ (rs : List Row). Remembered f (keys_of (Groups f) (up_to (j + 1))) (open_from (j + 1 + 1) g'.size) (drop 1 rs) with)
                    n.rows n.marked;
                left = λ c d x. turn c d x ∙ rw (sym (D.verdict c d x) ∙ ap (put_verdict f (j + 1)) q, n.rows);
                kept = D.kept ∙ W.kept;
              }

    -- NO LINES ARE LEFT
    module _ (h : ls ≡ []) where
      none : drop j all ≡ []
      none = sym W.here ∙ h

      every : up_to j ≡ map row_in all
      every =
          let n : length (drop j all) ≡ 0 = ap length none in
          ap (map row_in) (take_all j all (omega (arith, length-drop j all)))

      last : (c : Context) → c.form ≡ form → Agree c → groups_verdict c f all ≡ fault_unless (may_end f g.stand) Order (at_place (Groups f) 0 (j + 1))
      unfolding flat
      last c d a =
          let n : suc (length (up_to j)) ≡ j + 1 = omega (arith, rows_length) in
          W.left c d a ∙ rw (none, n, W.stands)

      -- the last group is too short
      pub walk_short : may_end f g.stand ≡ false → (n : ℕ) → n ≡ j + 1 → Done t (fault_at Order (at_place (Groups f) 0 n))
      walk_short q n e =
          record {
            verdict = λ c d a. sym (last c d a ∙ rw (q, e));
            table = λ z. absurd (fault_not Order (at_place (Groups f) 0 n) z);
            rises = λ z. absurd (fault_not Order (at_place (Groups f) 0 n) z);
            kept = W.kept;
          }

      -- or all is well
      pub walk_ends : may_end f g.stand ≡ true → Done t (Ok g.run.rises)
      walk_ends q =
          record {
            verdict = λ c d a. sym (last c d a ∙ rw q);
            table = λ n. W.table ∙ rw every;
            rises = λ n. ap (λ (x : KeyRun). x.rises) W.runs ∙ (run_rises (keys_of (Groups f) (up_to j)) ∙ rw every);
            kept = W.kept;
          }
