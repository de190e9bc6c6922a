-- The rows of a file without record letters, line by line: what is left to read is the whole. Assumes nothing.
use Rattle.std.specs.Prelude.{Err, Ok, Result}
use Prim.Native.Nat.{ℕ, suc, ◌+◌, ◌-◌, ◌*◌, ◌^◌, ◌≤◌, ◌<◌}
use mathlib.Core.Path.{◌≡◌, refl, ap, sym, ◌∙◌}
use mathlib.Core.List.{List, [], ◌∷◌, ◌++◌, map, map-append}
use mathlib.Core.Bool.{Bool, true, false, false≢true}
use native.Mathlib.Nat.{suc-mul, mul-le-mul_right}
use native.Mathlib.Numerals.{add-one}
use native.Mathlib.Omega.{arith}
use lib.ListN.{length, take, drop, length-drop, length-map}
use lib.Seq.{length-take-le, take_all}
use Rattle.iff.specs.Lists.{kept}
use Rattle.iff.specs.Files.{of, eleven}
use Rattle.iff.specs.Refusals.{or_test, unless, or_else, verdict_at, scan, after, Verdict, at_place, fault_at}
use Rattle.iff.specs.Lines.{Line, lines, letter}
use Rattle.iff.specs.Columns.{fields_of, laid}
use Rattle.iff.specs.Values.{readable}
use Rattle.iff.specs.Tables.{Row, word, row_width, key_word, keys_of, fill, put_row}
use Rattle.iff.specs.declared.RowFile.{RowFile}
use Rattle.iff.specs.declared.File.TheVariants.{Rows}
use Rattle.iff.specs.declared.Form.{Form}
use Rattle.iff.specs.declared.Reason.{Reason}
use Rattle.iff.specs.declared.Reason.TheVariants.{Layout, Value}
use Rattle.iff_rules.specs.Rows.{row_of, Context}
use Rattle.iff_rules.specs.Load.{plain_test, plain_verdict}
use Rattle.text.specs.declared.LineSpan.{LineSpan}
use Rattle.text.specs.Spans.{LineAt, span_line}
use Rattle.text.proofs.LineLaws.{lines_end}
use Rattle.text.proofs.CutLaws.{Cut, cut_start, cut_head, cut_front, cut_next}
use Rattle.tables.proofs.Each.{Each}
use Rattle.tables.proofs.Rows.{Used}
use Rattle.tables.proofs.Filled.{fill_next, length_fill}
use Rattle.records.proofs.FileLaws.{row_used, row_tag}
use Rattle.keys.specs.Lookup.{keys_in, keys_among, is_key_row}
use Rattle.fresh_keys.specs.Runs.{no_keys, step_run, run_of}
use Rattle.references.specs.Agree.{StationKeysAmong}
use Rattle.references.specs.declared.StationCounts.{StationCounts}
use Rattle.fresh_keys.specs.declared.KeyRun.{KeyRun}
use Rattle.fresh_keys.proofs.Runs.{run_rises, run_key}
use Rattle.keys.proofs.Fills.{keys_in_fill, keys_next}
use Rattle.text_numbers.specs.Numbers.{numbers_of}
use Rattle.text_numbers.proofs.NumberLaws.{numbers_next}
use Rattle.row_marks.specs.Remembered.{spread_of, Remembers, LineMarked}
use Rattle.file_rows.specs.Tests.{plain_row_test}
use Rattle.file_rows.specs.Plain.{first_in, PlainBegun, RowsOf, PlainLine, Earlier, LineAdded, test_of, kept_key}
use Rattle.file_rows.proofs.TestLaws.{plain_split}

-- a line that passes is ended
pub passing_ended : (c : Context) (f : RowFile) (earlier : List Line) (l : Line) → Ok tt ≡ plain_test c f earlier l → l.ended ≡ true
passing_ended c f earlier l e = go l.ended refl (laid l (fields_of c.form (Rows f) (letter l))) refl (e ∙ plain_split c f earlier l)
  where
    go : (b : Bool) → l.ended ≡ b → (a : Bool) → laid l (fields_of c.form (Rows f) (letter l)) ≡ a
        → Ok tt ≡ or_test (or_test (unless a Layout) (unless (readable l.body (fields_of c.form (Rows f) (letter l))) Value)) (plain_row_test c f earlier l (row_of c.form (Rows f) l))
        → l.ended ≡ true
    go true p a q r = p
    go false p true q r = absurd (false≢true (rw p at q))
    go false p false q r = absurd (let z : ◌≡◌ {A = ℕ} 0 1 = cc in omega arith)

-- the context that holds what two tables name, and nothing else
abbrev own : Form → StationCounts → List ℕ → List ℕ → Context
own form n cy zo =
    record {
      form = form;
      keys = λ f. keys_among f (of (eleven 0 0 n.countries 0 n.zones 0 0 0 0 0 0) f) (of (eleven [] [] cy [] zo [] [] [] [] [] []) f);
    }

own_agrees : (form : Form) (n : StationCounts) (cy zo : List ℕ) → StationKeysAmong (own form n cy zo) n cy zo
own_agrees form n cy zo = record { countries = refl; zones = refl }

abbrev test_at : Context → RowFile → List Line → ℕ → Line → Verdict
test_at c f earlier i l = verdict_at (at_place (Rows f) 0 i) (plain_test c f earlier l)

abbrev with_one : List Line → Line → List Line
with_one earlier l = earlier ++ (l ∷ [])

rows_used : (form : Form) (f : RowFile) → (ls : List Line) → Each (Used (row_width (Rows f))) (map (row_of form (Rows f)) ls)
rows_used form f [] = tt
rows_used form f (l ∷ ls) = (row_used form (Rows f) l refl, rows_used form f ls)

module _ (f : RowFile) (form : Form) (text : List ℕ) (from : ℕ) (counts : StationCounts) (countries zones was : List ℕ) where
  abbrev rest : List Line
  rest = lines (drop from text)

  abbrev rows_to : ℕ → List Row
  rows_to j = map (row_of form (Rows f)) (take j rest)

  pub record Reading (t : List ℕ) (run : KeyRun) (marks : List ℕ) (at j : ℕ) : Type 0 where
    pub cut : Cut text from at j
    pub inside : at ≤ length text
    pub within : j ≤ length rest
    pub holds : t ≡ fill (row_width (Rows f)) (length was) (first_in f was ∷ rows_to j)
    pub runs : run ≡ run_of (keys_of (Rows f) (rows_to j))
    pub keys : Remembers marks (map spread_of (keys_of (Rows f) (rows_to j)))
    pub texts : Remembers marks (numbers_of f (take j rest))
    pub left : (c : Context) → c.form ≡ form → StationKeysAmong c counts countries zones
        → plain_verdict c f rest ≡ scan (test_at c f) with_one (take j rest) (j + 2) (drop j rest)

  module _ (b : PlainBegun f text from was) where
    pub starts : (marks : List ℕ) → Remembers marks [] → Reading was no_keys marks from 0
    unfolding plain_verdict kept after numbers_of
    starts marks m =
        record {
          cut = cut_start text from;
          inside = b.inside;
          within = omega arith;
          holds = b.begun.holds;
          runs = refl;
          keys = m;
          texts = m;
          left = λ c d s. refl;
        }

    first_used : Used (row_width (Rows f)) (first_in f was)
    first_used = (b.begun.width, b.begun.used)

    all_used : (j : ℕ) → Each (Used (row_width (Rows f))) (first_in f was ∷ rows_to j)
    all_used j = (first_used, rows_used form f (take j rest))

    -- how many rows there are, and that they fit
    counted : (j : ℕ) → j ≤ length rest → length (first_in f was ∷ rows_to j) ≡ j + 1
    counted j h = rw (length-map (take j rest) (row_of form (Rows f)), length-take-le j rest h, add-one)

    rows_fit : (j : ℕ) → j ≤ length rest → length (first_in f was ∷ rows_to j) * row_width (Rows f) ≤ length was
    rows_fit j h =
        let m : j + 1 ≤ suc (length rest) = omega arith in
        rw (counted j h) (omega (arith, mul-le-mul_right (row_width (Rows f)) m, b.begun.room))

    -- the keys in the table are those of the rows behind the first
    keys_are : (t : List ℕ) (j : ℕ) → j ≤ length rest → t ≡ fill (row_width (Rows f)) (length was) (first_in f was ∷ rows_to j)
        → keys_in (Rows f) t ≡ keys_of (Rows f) (rows_to j)
    unfolding kept
    keys_are t j h e =
        ap (keys_in (Rows f)) e ∙ (keys_in_fill (Rows f) (length was) (first_in f was ∷ rows_to j) (all_used j) (rows_fit j h) ∙ rw b.begun.other)

    pub length_is : (t : List ℕ) (j : ℕ) → j ≤ length rest → t ≡ fill (row_width (Rows f)) (length was) (first_in f was ∷ rows_to j)
        → length t ≡ length was
    length_is t j h e = ap length e ∙ length_fill (row_width (Rows f)) (length was) (first_in f was ∷ rows_to j) (all_used j) (rows_fit j h)

    -- one line
    module _ (t : List ℕ) (run : KeyRun) (marks : List ℕ) (at j : ℕ) (i : Reading t run marks at j) (s : LineSpan) (a : LineAt text at s) where
      abbrev line : Line
      line = span_line text at s

      more : j < length rest
      more =
          let h : length (drop j rest) ≡ suc (length (lines (drop s.next text))) = ap length (cut_head text from at j s i.cut a) in
          omega (arith, length-drop j rest)

      pub line_room : j + 1 < 2 ^ 64 → PlainLine f j (take (at - from) (drop from text)) t run marks
      line_room few =
          let m : suc (j + 1) ≤ suc (length rest) = omega (arith, more) in
          record {
            runs = i.runs ∙ rw (keys_are t j (omega (arith, more)) i.holds);
            marked =
                record {
                  keys = rw (keys_are t j (omega (arith, more)) i.holds) i.keys;
                  texts = rw i.cut.front i.texts;
                };
            room =
                rw (length_is t j (omega (arith, more)) i.holds) (omega (arith, rw suc-mul at (mul-le-mul_right (row_width (Rows f)) m), b.begun.room));
            few = few;
          }

      earlier : (c : Context) → c.form ≡ form → Earlier c f j (take (at - from) (drop from text)) t (take j rest)
      earlier c d =
          record {
            text = i.cut.front;
            number = sym (length-take-le j rest (omega (arith, more)));
            keys = rw d (keys_are t j (omega (arith, more)) i.holds);
          }

      turn : (c : Context) → c.form ≡ form → StationKeysAmong c counts countries zones
          → plain_verdict c f rest
          ≡ or_else (test_at c f (take j rest) (j + 2) line) (scan (test_at c f) with_one (with_one (take j rest) line) (suc (j + 2)) (lines (drop s.next text)))
      unfolding scan
      turn c d e = i.left c d e ∙ ap (scan (test_at c f) with_one (take j rest) (j + 2)) (cut_head text from at j s i.cut a)

      module _ (is : List ℕ) (r : Result ℕ Reason) (l : LineAdded f form j (take (at - from) (drop from text)) counts countries zones line t is r) where
        test_is : (c : Context) → c.form ≡ form → StationKeysAmong c counts countries zones → test_of r ≡ plain_test c f (take j rest) line
        test_is c d e = l.test c d e (take j rest) (earlier c d)

        pub stops : (k : Reason) (n : ℕ) → r ≡ Err k → n ≡ j + 2
            → RowsOf f form (λ c. StationKeysAmong c counts countries zones) text from was is (fault_at k (at_place (Rows f) 0 n))
        stops k n p q =
            record {
              verdict = λ c d e. sym (turn c d e ∙ rw (← (test_is c d e), p, q));
              table = λ z. absurd (let o : ◌≡◌ {A = ℕ} 0 1 = cc in omega arith);
              rises = λ z. absurd (let o : ◌≡◌ {A = ℕ} 0 1 = cc in omega arith);
              kept = l.kept ∙ length_is t j (omega (arith, more)) i.holds;
            }

        module _ (key : ℕ) (p : r ≡ Ok key) where
          passes : test_of r ≡ Ok tt
          passes = ap test_of p

          ended : s.ended ≡ true
          ended =
              passing_ended (own form counts countries zones) f (take j rest) line
              (sym passes ∙ test_is (own form counts countries zones) refl (own_agrees form counts countries zones))

          rows_next : rows_to (j + 1) ≡ rows_to j ++ (row_of form (Rows f) line ∷ [])
          rows_next =
              ap (map (row_of form (Rows f))) (cut_front text from at j s i.cut a) ∙ map-append (row_of form (Rows f)) (take j rest) (line ∷ [])

          put_is : put_row (row_width (Rows f)) t (j + 1) (row_of form (Rows f) line) ≡ fill (row_width (Rows f)) (length was) (first_in f was ∷ rows_to (j + 1))
          put_is =
              rw (rows_next, i.holds, ← (counted j i.within))
              (fill_next (row_width (Rows f)) (length was) (first_in f was ∷ rows_to j) (all_used j) (row_of form (Rows f) line))

          key_is : key ≡ word (row_of form (Rows f) line) (key_word (Rows f))
          key_is = sym (ap kept_key p) ∙ l.key passes

          keyed : is_key_row (Rows f) (row_of form (Rows f) line) ≡ true
          keyed = rw (row_tag form (Rows f) line)

          run_is : step_run run key ≡ run_of (keys_of (Rows f) (rows_to (j + 1)))
          run_is = rw (rows_next, i.runs, key_is) (sym (run_key (Rows f) (rows_to j) (row_of form (Rows f) line) keyed))

          on_is : (c : Context) → c.form ≡ form → StationKeysAmong c counts countries zones
              → or_else (test_at c f (take j rest) (j + 2) line)
              (scan (test_at c f) with_one (with_one (take j rest) line) (suc (j + 2)) (lines (drop s.next text))) ≡ scan (test_at c f) with_one
              (take (j + 1) rest) (j + 1 + 2) (drop (j + 1) rest)
          on_is c d e =
              let n : j + 1 + 2 ≡ suc (j + 2) = omega arith in
              rw (← (test_is c d e), passes, n, cut_front text from at j s i.cut a, ← (cut_next text from at j s i.cut a ended).rest)

          -- the line's key and its texts, beside those before
          module _ (marks' : List ℕ) (m : LineMarked f line.body key marks marks') where
            keys_marked : Remembers marks' (map spread_of (keys_of (Rows f) (rows_to (j + 1))))
            keys_marked =
                rw (
                  rows_next,
                  keys_next (Rows f) (rows_to j) (row_of form (Rows f) line) keyed,
                  ← key_is,
                  map-append spread_of (keys_of (Rows f) (rows_to j)) (key ∷ []),
                )
                (m.keys (map spread_of (keys_of (Rows f) (rows_to j))) i.keys)

            texts_marked : Remembers marks' (numbers_of f (take (j + 1) rest))
            texts_marked =
                rw (cut_front text from at j s i.cut a, numbers_next f (take j rest) line) (m.texts (numbers_of f (take j rest)) i.texts)

          pub goes_on : (run' : KeyRun) (marks' : List ℕ) → run' ≡ step_run run key → LineMarked f line.body key marks marks'
              → Reading is run' marks' s.next (j + 1)
          goes_on run' marks' q m =
              record {
                cut = cut_next text from at j s i.cut a ended;
                inside = a.high;
                within = omega (arith, more);
                holds = l.table passes ∙ put_is;
                runs = q ∙ run_is;
                keys = keys_marked marks' m;
                texts = texts_marked marks' m;
                left = λ c d e. turn c d e ∙ on_is c d e;
              }

    -- no line is left
    module _ (t : List ℕ) (run : KeyRun) (marks : List ℕ) (at j : ℕ) (i : Reading t run marks at j) (h : length text ≤ at) where
      none_left : drop j rest ≡ []
      none_left = sym i.cut.rest ∙ lines_end text at h

      all_read : take j rest ≡ rest
      all_read = take_all j rest (omega (arith, ap length none_left, length-drop j rest))

      pub ends : RowsOf f form (λ c. StationKeysAmong c counts countries zones) text from was t (Ok run.rises)
      unfolding scan
      ends =
          record {
            verdict = λ c d e. sym (i.left c d e ∙ rw none_left);
            table = λ z. i.holds ∙ rw all_read;
            rises = λ z. ap (λ (r : KeyRun). r.rises) i.runs ∙ (run_rises (keys_of (Rows f) (rows_to j)) ∙ rw all_read);
            kept = length_is t j i.within i.holds;
          }
