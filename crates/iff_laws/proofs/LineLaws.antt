-- A line passes its tests exactly when it meets what the paper asks of a line of its kind.
use Rattle.std.specs.Prelude.{ℕ, ◌≡◌, refl, ◌↔◌, List, true, drop, Ok, Option}
use Rattle.std.proofs.Common.{ap, sym, ◌∙◌, eqb-true, eq-eqb}
use Rattle.iff.specs.Files.{PerFile}
use Rattle.iff.specs.Refusals.{first_test, verdict_at, first_fault, fault_at}
use Rattle.iff.specs.Lines.{Line}
use Rattle.iff.specs.Tables.{Row}
use Rattle.iff.specs.declared.RowFile.{RowFile}
use Rattle.iff.specs.declared.GroupFile.{GroupFile}
use Rattle.iff.specs.declared.Reason.{Reason}
use Rattle.iff.specs.declared.InBlock.{InBlock}
use Rattle.iff_rules.specs.Order.{LineTests, line_test}
use Rattle.iff_laws.specs.Places.{form_in, context_in}
use Rattle.iff_laws.specs.Meets.{FirstLineMeets, RowMeets, GroupLineMeets, BlockLineMeets}
use Rattle.iff_laws.specs.Tests.{seven_tests, asked_of_first, asked_of_row, asked_in_group, asked_in_block, First}
use Rattle.iff_laws.specs.ScanLaws.{unless_passes, verdict_fine, first_test_lem, first_test_at, first_fault_lem}
use Rattle.iff_laws.specs.TruthLaws.{both, and_both, says_same}
use Rattle.iff_laws.specs.UniqueLaws.{new_key_exactly, new_texts_exactly, new_hash_exactly, new_service_exactly, new_in_group_exactly}
use Rattle.iff_laws.specs.ReferenceLaws.{row_refers, group_refers, block_refers}
use Rattle.iff.specs.declared.Place.{Place}

-- A LINE passes exactly when its seven facts hold
pub record Seven (t : LineTests) : Type 0 where
  pub is_known : t.known ≡ true
  pub is_here : t.here ≡ true
  pub is_laid_out : t.laid_out ≡ true
  pub is_as_first : t.as_first ≡ true
  pub is_valued : t.valued ≡ true
  pub is_fresh : t.fresh ≡ true
  pub is_met : t.met ≡ true

passes_seven : (t : LineTests) → line_test t ≡ Ok tt → Seven t
unfolding line_test
passes_seven t e =
    let a = first_test_lem _ _ e in
    let b = first_test_lem _ _ a.1 in
    let c = first_test_lem _ _ b.1 in
    let d = first_test_lem _ _ c.1 in
    let f = first_test_lem _ _ d.1 in
    let g = first_test_lem _ _ f.1 in
    let h = first_test_lem _ _ g.1 in
    record {
      is_known = unless_passes _ _ a.0;
      is_here = unless_passes _ _ b.0;
      is_laid_out = unless_passes _ _ c.0;
      is_as_first = unless_passes _ _ d.0;
      is_valued = unless_passes _ _ f.0;
      is_fresh = unless_passes _ _ g.0;
      is_met = unless_passes _ _ h.0;
    }

seven_passes : (t : LineTests) → Seven t → line_test t ≡ Ok tt
unfolding line_test first_test
seven_passes t s = rw (s.is_known, s.is_here, s.is_laid_out, s.is_as_first, s.is_valued, s.is_fresh, s.is_met)

pub line_passes : (t : LineTests) → (line_test t ≡ Ok tt) ↔ Seven t
line_passes t = (passes_seven t, seven_passes t)

-- a line's test, at its place, is the first fault of its seven tests
pub seven_first : (p : Option Place) (t : LineTests) → verdict_at p (line_test t) ≡ first_fault (seven_tests p t)
unfolding line_test seven_tests
seven_first p t = first_test_at p _

-- it fails for r exactly when one of the seven does and, in the paper's order, none before it
pub line_fails : (p : Option Place) (t : LineTests) (r : Reason) → (verdict_at p (line_test t) ≡ fault_at r p) ↔ First (seven_tests p t) r p
line_fails p t r = (λ e. (first_fault_lem _ r p).0 (sym (seven_first p t) ∙ e), λ f. seven_first p t ∙ (first_fault_lem _ r p).1 f)

-- and none of the seven fails exactly when the seven facts hold
pub seven_fine : (p : Option Place) (t : LineTests) → (first_fault (seven_tests p t) ≡ Ok tt) ↔ Seven t
seven_fine p t = (
  λ e. passes_seven t (verdict_fine p (line_test t) (seven_first p t ∙ e)),
  λ s. sym (seven_first p t) ∙ ap (verdict_at p) (seven_passes t s),
)

-- FIRST LINES
pub first_line_exactly : (header : List ℕ) (l : Line) → Seven (asked_of_first header l) ↔ FirstLineMeets header l
first_line_exactly header l = (there, back)
  where
    there : Seven (asked_of_first header l) → FirstLineMeets header l
    there s =
        let v = both _ _ s.is_valued in
        record {
          begins = eqb-true _ _ s.is_here;
          laid_out = s.is_laid_out;
          as_delivery = (says_same _ _).0 s.is_as_first;
          legible = v.0;
          dated = v.1;
        }

    back : FirstLineMeets header l → Seven (asked_of_first header l)
    back m =
        record {
          is_known = refl;
          is_here = eq-eqb _ _ m.begins;
          is_laid_out = m.laid_out;
          is_as_first = (says_same _ _).1 m.as_delivery;
          is_valued = and_both m.legible m.dated;
          is_fresh = refl;
          is_met = refl;
        }

-- ROWS
module _ (D : PerFile (List Row)) (f : RowFile) (earlier : List Line) (l : Line) where
  pub row_exactly : Seven (asked_of_row (context_in D) f earlier l) ↔ RowMeets D f earlier l
  row_exactly = (there, back)
    where
      there : Seven (asked_of_row (context_in D) f earlier l) → RowMeets D f earlier l
      there s =
          let v = both _ _ s.is_valued in
          let u = both _ _ s.is_fresh in
          record {
            laid_out = s.is_laid_out;
            legible = v.0;
            valued = v.1;
            new_key = (new_key_exactly (form_in D) f earlier l).0 u.0;
            new_texts = (new_texts_exactly f earlier l).0 u.1;
            refers = (row_refers D f _).0 s.is_met;
          }

      back : RowMeets D f earlier l → Seven (asked_of_row (context_in D) f earlier l)
      back m =
          record {
            is_known = refl;
            is_here = refl;
            is_laid_out = m.laid_out;
            is_as_first = refl;
            is_valued = and_both m.legible m.valued;
            is_fresh = and_both ((new_key_exactly (form_in D) f earlier l).1 m.new_key) ((new_texts_exactly f earlier l).1 m.new_texts);
            is_met = (row_refers D f _).1 m.refers;
          }

-- LINES OF GROUPS
module _ (D : PerFile (List Row)) (f : GroupFile) (seen : List ℕ) (earlier : List Row) (l : Line) where
  pub group_line_exactly : Seven (asked_in_group (context_in D) f seen earlier l) ↔ GroupLineMeets D f seen earlier l
  group_line_exactly = (there, back)
    where
      there : Seven (asked_in_group (context_in D) f seen earlier l) → GroupLineMeets D f seen earlier l
      there s =
          let v = both _ _ s.is_valued in
          let u = both _ _ s.is_fresh in
          record {
            lettered = s.is_known;
            in_order = s.is_here;
            laid_out = s.is_laid_out;
            legible = v.0;
            valued = v.1;
            new_key = (new_hash_exactly f seen _).0 u.0;
            new_in_group = (new_in_group_exactly f (drop 1 earlier) _).0 u.1;
            refers = (group_refers D f _).0 s.is_met;
          }

      back : GroupLineMeets D f seen earlier l → Seven (asked_in_group (context_in D) f seen earlier l)
      back m =
          record {
            is_known = m.lettered;
            is_here = m.in_order;
            is_laid_out = m.laid_out;
            is_as_first = refl;
            is_valued = and_both m.legible m.valued;
            is_fresh = and_both ((new_hash_exactly f seen _).1 m.new_key) ((new_in_group_exactly f (drop 1 earlier) _).1 m.new_in_group);
            is_met = (group_refers D f _).1 m.refers;
          }

-- LINES OF TIMETBLS BLOCKS
module _ (D : PerFile (List Row)) (seen : List ℕ) (st : InBlock) (l : Line) where
  pub block_line_exactly : Seven (asked_in_block (context_in D) seen st l) ↔ BlockLineMeets D seen st l
  block_line_exactly = (there, back)
    where
      there : Seven (asked_in_block (context_in D) seen st l) → BlockLineMeets D seen st l
      there s =
          let v = both _ _ s.is_valued in
          record {
            lettered = s.is_known;
            in_order = s.is_here;
            laid_out = s.is_laid_out;
            legible = v.0;
            valued = v.1;
            new_key = (new_service_exactly seen _).0 s.is_fresh;
            refers = (block_refers D _).0 s.is_met;
          }

      back : BlockLineMeets D seen st l → Seven (asked_in_block (context_in D) seen st l)
      back m =
          record {
            is_known = m.lettered;
            is_here = m.in_order;
            is_laid_out = m.laid_out;
            is_as_first = refl;
            is_valued = and_both m.legible m.valued;
            is_fresh = (new_service_exactly seen _).1 m.new_key;
            is_met = (block_refers D _).1 m.refers;
          }
