-- Laws of what a walk over the blocks told, and of the whole file behind its first line. Assumes nothing.
use Rattle.std.specs.Prelude.{Err, Ok, Result}
use Prim.Native.Nat.{ℕ, ◌+◌, ◌-◌, ◌≤◌}
use mathlib.Core.Path.{◌≡◌, refl, ap, sym, ◌∙◌}
use mathlib.Core.List.{List, [], ◌∷◌, ◌++◌, append-nil}
use mathlib.Core.Bool.{Bool, true, false, false≢true}
use native.Mathlib.Omega.{arith}
use lib.ListN.{length, take, drop, replicate, length-drop, take-append-drop}
use lib.Seq.{take_all, drop-length}
use Rattle.iff.specs.Lists.{any}
use Rattle.iff.specs.Refusals.{or_else, first_fault, after, Test, Verdict, at_place, fault_at}
use Rattle.iff.specs.Lines.{Line, lines}
use Rattle.iff.specs.Tables.{Row, row_width, fill, rows_in, keys_of, rising}
use Rattle.iff.specs.declared.Form.{Form}
use Rattle.iff.specs.declared.File.TheVariants.{Timetbls}
use Rattle.iff.specs.declared.Reason.{Reason}
use Rattle.iff.specs.declared.Reason.TheVariants.{Duplicate}
use Rattle.iff_rules.specs.Rows.{first_row_of, blocks_rows, blocks_of, Context}
use Rattle.iff_rules.specs.Load.{timetbls_verdict}
use Rattle.iff_laws.specs.ScanLaws.{or_nothing}
use Rattle.tables.proofs.Rows.{table_rows_used}
use Rattle.tables.proofs.Filled.{rows_in_fill, fill_behind}
use Rattle.keys.specs.Lookup.{keys_in, keys_among}
use Rattle.fresh_keys.specs.Runs.{no_keys}
use Rattle.marks.specs.Marks.{Marked}
use Rattle.references.specs.declared.BlockCounts.{BlockCounts}
use Rattle.references.specs.Agree.{BlockKeys, BlockKeysAmong}
use Rattle.reading.specs.Reading.{Begun, Split, RowsDone, rows_verdict}
use Rattle.block_rows.proofs.RowLaws.{key_skips, keys_nil}
use Rattle.block_ends.specs.Blocks.{part}
use Rattle.block_puts.specs.Puts.{Holding}
use Rattle.repeats.specs.declared.Repeats.{Repeats}
use Rattle.repeats.specs.declared.Repeats.TheVariants.{Never, First}
use Rattle.repeats.specs.Repeats.{Told}
use Rattle.block_walks.specs.declared.Walk.{Walk}
use Rattle.block_walks.specs.Blocks.{StrayTold, services_verdict, blocks_verdict, BlocksReady, first_alone, BlocksWalked}
use Rattle.block_walks.specs.Blocks.{BlocksAdded, AfterFirst, BlocksRead, as_read}
use Rattle.block_walks.proofs.AddLaws.{width, none_held}
use Rattle.block_walks.proofs.RepeatLaws.{all_new_lem, one_again}
use Rattle.block_walks.specs.declared.BlocksPut.{BlocksPut}
use Rattle.iff.specs.declared.Fault.{Fault}

-- WHAT A WALK TOLD
module _ (form : Form) (text : List ℕ) (from : ℕ) (counts : BlockCounts) (co mo st fo was is : List ℕ) (search : Bool) (r : Walk)
    (y : BlocksWalked form text from counts co mo st fo was is search r) where
  abbrev put_services : List ℕ
  put_services = keys_among Timetbls r.row is

  -- stands where no service came before
  stands : services_verdict put_services ≡ Ok tt → BlocksAdded form text from counts co mo st fo was is r.put
  stands e =
      record {
        says = λ c d a. ap (λ (v : Verdict). or_else v (rows_verdict (as_read r.put))) (sym e) ∙ y.says c d a;
        held = y.held;
      }

  -- since each was told to be new, or since that was found out at the end
  pub walk_sure : r.sure ≡ true → BlocksAdded form text from counts co mo st fo was is r.put
  walk_sure s = stands (y.certain s)

  module _ (x : Repeats) (t : Told put_services x) where
    pub walk_never : x ≡ Never → BlocksAdded form text from counts co mo st fo was is r.put
    walk_never e = stands (all_new_lem put_services (t.never e))

    -- the first that came before is the fault
    pub walk_again : (j : ℕ) → x ≡ First j → BlocksAdded form text from counts co mo st fo was is (fault_at Duplicate (at_place Timetbls (j + 1) 1))
    walk_again j e =
        let z = one_again put_services j (j + 1) (t.first j e) refl in
        record {
          says = λ c d a. ap (λ (v : Verdict). or_else v (rows_verdict (as_read r.put))) (sym z) ∙ y.says c d a;
          held = none_held form text from was is Duplicate (at_place Timetbls (j + 1) 1);
        }

    -- whose ordinal is a number
    pub again_inside : (j : ℕ) → x ≡ First j → j + 1 ≤ length text
    again_inside j e = omega (arith, (t.first j e).inside, y.services, y.few)

-- or all is to be read again: what stands behind the first row is cleared
pub cleared : (t part : List ℕ) → part ≡ replicate (length (take (length t - width) (drop width t))) 0
    → take width t ++ (part ++ drop (length t - width) (drop width t)) ≡ first_alone t
cleared t part e =
    let n : length (drop width t) ≡ length t - width = length-drop width t in
    let a : take (length t - width) (drop width t) ≡ drop width t = take_all (length t - width) (drop width t) (omega arith) in
    let b : drop (length t - width) (drop width t) ≡ [] = ap (λ (k : ℕ). drop k (drop width t)) (sym n) ∙ drop-length (drop width t) in
    ap (λ (l : List ℕ). take width t ++ (part ++ l)) b
    ∙ ap (λ (l : List ℕ). take width t ++ l)
    (append-nil part ∙ e ∙ ap (λ (l : List ℕ). replicate (length l) 0) a ∙ ap (λ (k : ℕ). replicate k 0) n)

-- and the table is as it was
module _ (text : List ℕ) (from : ℕ) (was marks : List ℕ) (p : BlocksReady text from was marks) where
  pub alone : (is : List ℕ) → length is ≡ length was → take width is ≡ take width was → (t : List ℕ) → t ≡ first_alone is → t ≡ was
  alone is m e t q =
      let rs = rows_in Timetbls was in
      let behind : drop width was ≡ replicate (length was - width) 0 =
      ap (drop width) p.holding.filled
      ∙ rw (← p.holding.rows) at (fill_behind width (length was) rs (table_rows_used width (omega arith) was)) in
      q ∙ ap (λ (i : ℕ). take width is ++ replicate (i - width) 0) m ∙ ap (λ (l : List ℕ). l ++ replicate (length was - width) 0) e
      ∙ ap (λ (l : List ℕ). take width was ++ l) (sym behind) ∙ take-append-drop width was

  -- what was told of such a table is told of this one
  pub told_again : (form : Form) (counts : BlockCounts) (co mo st fo t is : List ℕ) (r : Result BlocksPut Fault) → t ≡ was
      → BlocksAdded form text from counts co mo st fo t is r → BlocksAdded form text from counts co mo st fo was is r
  told_again form counts co mo st fo t is r e y = rw e at y

  -- whatever marks are left, no service came
  pub ready_again : (t more : List ℕ) → t ≡ was → length more ≡ length marks → BlocksReady text from t more
  unfolding any
  ready_again t more e m =
      rw e
      (record {
        inside = p.inside;
        clean = p.clean;
        none = p.none;
        holding =
            record {
              marked =
                  rw p.none
                  (record { wide = m ∙ p.holding.marked.wide; one = λ k z. absurd (false≢true z); other = λ k z. absurd (false≢true z) });
              filled = p.holding.filled;
              services = p.holding.services;
              rows = p.holding.rows;
            };
        room = p.room;
      })

-- A TABLE THAT HOLDS THE FIRST LINE'S ROW
module _ (more : ℕ) (first : Row) (t : List ℕ) (b : Begun Timetbls more first t) where
  pub begun_rows : rows_in Timetbls t ≡ first ∷ []
  begun_rows =
      ap (rows_in Timetbls) b.holds
      ∙ rows_in_fill (row_width Timetbls) (omega arith) (length t) (first ∷ []) ((b.width, b.used), tt) (omega (arith, b.room))

  -- names no service
  pub begun_keys : keys_in Timetbls t ≡ []
  begun_keys = ap (keys_of Timetbls) begun_rows ∙ key_skips first [] false b.other refl ∙ keys_nil

  begun_holding : (marks : List ℕ) → Marked marks [] → Holding t marks no_keys 1
  unfolding after
  begun_holding marks m =
      record { marked = rw begun_keys m; filled = rw begun_rows b.holds; services = rw begun_keys; rows = ap length (sym begun_rows) }

-- FOR CALLERS: what a first line leaves is what the reader of blocks asks
pub after_first : (text t : List ℕ) (l : Line) (from : ℕ) → Split Timetbls text t l from → AfterFirst text from t
after_first text t l from s = record { inside = s.inside; first = first_row_of Timetbls true l; begun = s.begun }

-- and what it tells is what is to be told of the rows behind that line's
pub rows_read : (form : Form) (text t : List ℕ) (l : Line) (from : ℕ) → Split Timetbls text t l from
    → (co mo st fo is : List ℕ) (r : Result BlocksPut Fault) → BlocksRead form text from co mo st fo t is r
    → RowsDone Timetbls form (λ c. BlockKeys c co mo st fo) (λ c. timetbls_verdict c (lines (drop from text))) (first_row_of Timetbls true l)
    (blocks_rows form (blocks_of (lines (drop from text)))) t is (as_read r)
rows_read form text t l from s co mo st fo is r y = y.done (first_row_of Timetbls true l) s.begun

module _ (text : List ℕ) (from : ℕ) (was : List ℕ) where
  pub blocks_ready : AfterFirst text from was → (r : Test) → StrayTold (lines (drop from text)) r → r ≡ Ok tt
      → (marks : List ℕ) → Marked marks [] → BlocksReady text from was marks
  blocks_ready p r s e marks m =
      record {
        inside = p.inside;
        clean = s.clean e;
        none = begun_keys (length (lines (drop from text))) p.first was p.begun;
        holding = begun_holding (length (lines (drop from text))) p.first was p.begun marks m;
        room = omega (arith, p.begun.room);
      }

  module _ (form : Form) (co mo st fo : List ℕ) (x : Test) (s : StrayTold (lines (drop from text)) x) where
    pub read_stray : (w : Reason) → x ≡ Err w → BlocksRead form text from co mo st fo was was (fault_at w (at_place Timetbls 0 2))
    unfolding timetbls_verdict first_fault
    read_stray w e =
        record {
          done =
              λ first b. record {
                verdict = λ c d a. rw (← s.says, e);
                table = λ z. absurd (let q : ◌≡◌ {A = ℕ} 0 1 = cc in omega arith);
                rises = λ z. absurd (let q : ◌≡◌ {A = ℕ} 0 1 = cc in omega arith);
                kept = refl;
              };
          counted = λ b n m z. absurd (let q : ◌≡◌ {A = ℕ} 0 1 = cc in omega arith);
        }

    verdict_is : (c : Context) → x ≡ Ok tt → timetbls_verdict c (lines (drop from text)) ≡ blocks_verdict c [] 1 (lines (drop from text))
    unfolding timetbls_verdict first_fault
    verdict_is c e = rw (s.clean e) (or_nothing (blocks_verdict c [] 1 (lines (drop from text))))

    -- among the rows in use, which name what the tables name
    pub read_all : x ≡ Ok tt → (counts : BlockCounts) → ((c : Context) → BlockKeys c co mo st fo → BlockKeysAmong c counts co mo st fo)
        → (is : List ℕ) (r : Result BlocksPut Fault) → BlocksAdded form text from counts co mo st fo was is r → length is ≡ length was
        → BlocksRead form text from co mo st fo was is r
    read_all e counts among is r y m =
        record {
          done =
              λ first b. let ls = lines (drop from text) in
              let rows = blocks_rows form (blocks_of ls) in
              let f = begun_rows (length ls) first was b in
              let g = begun_keys (length ls) first was b in
              record {
                verdict = λ c d a. y.says c d (among c a) ∙ ap (λ ks. blocks_verdict c ks 1 ls) g ∙ sym (verdict_is c e);
                table =
                    λ z. y.held.filled z ∙ ap (λ n. fill (row_width Timetbls) n (rows_in Timetbls is)) m
                    ∙ ap (fill (row_width Timetbls) (length was)) (y.held.rows z ∙ ap (λ (rs : List Row). rs ++ rows) f);
                rises =
                    λ z. y.held.rises z
                    ∙ ap (λ (rs : List Row). rising (keys_of Timetbls rs)) (y.held.rows z ∙ ap (λ (rs : List Row). rs ++ rows) f)
                    ∙ ap rising (key_skips first rows false b.other refl);
                kept = m;
              };
          counted = y.held.counted;
        }
