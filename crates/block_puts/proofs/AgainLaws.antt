-- Laws of a block whose service came before, and of the first rows of a table. Assumes nothing.
use Rattle.std.specs.Prelude.{Err, Ok}
use Prim.Native.Nat.{ℕ, zero, suc, ◌+◌, ◌*◌, ◌≤◌}
use mathlib.Core.Path.{◌≡◌, refl, ap, sym, ◌∙◌}
use mathlib.Core.List.{List, [], ◌∷◌, ◌++◌}
use mathlib.Core.Bool.{Bool, true, false, not, false≢true, true≢false}
use native.Mathlib.Nat.{sub-zero}
use native.Mathlib.Omega.{arith}
use borrow.Author.Tests.{eq-eqb}
use lib.ListN.{length, take, drop, length-drop, take-append-drop}
use lib.Seq.{length-take-le, take-append-le, drop-append-le}
use Rattle.iff.specs.Lists.{Group, any, has}
use Rattle.iff.specs.Refusals.{passing, fine, first_test, first_fault, verdict_at, scan, at_place, fault_at}
use Rattle.iff.specs.Lines.{Line, is_hash}
use Rattle.iff.specs.Tables.{Row, row_width, row_at, keys_of}
use Rattle.iff.specs.declared.Form.{Form}
use Rattle.iff.specs.declared.InBlock.{InBlock}
use Rattle.iff.specs.declared.File.TheVariants.{Timetbls}
use Rattle.iff.specs.declared.Reason.TheVariants.{Duplicate}
use Rattle.iff_rules.specs.Order.{line_test}
use Rattle.iff_rules.specs.Rows.{row_of, as_block, Context}
use Rattle.iff_rules.specs.Unique.{fresh_key}
use Rattle.iff_rules.specs.Load.{block_test, block_start, block_next, block_verdict, service_of}
use Rattle.iff_laws.specs.ScanLaws.{verdict_fine, or_fine, cons_fine}
use Rattle.tables.proofs.Rows.{row_inside}
use Rattle.keys.specs.Blocks.{block_of_rows}
use Rattle.keys.specs.Lookup.{keys_among}
use Rattle.keys.proofs.Among.{keys_there}
use Rattle.references.specs.declared.BlockCounts.{BlockCounts}
use Rattle.references.specs.Agree.{BlockKeysAmong}
use Rattle.block_lines.specs.Lines.{keys_from}
use Rattle.blocks.specs.Whole.{BlockChecked}
use Rattle.blocks.proofs.WholeLaws.{fresh_service}
use Rattle.block_puts.specs.Puts.{new_verdict}
use Rattle.blocks.specs.Drive.{size_of}

-- ONE LINE, which was told to be right: where its key came before, that alone is wrong with it
again_tests : (known here laid_out as_first valued fresh later met : Bool) → later ≡ false
    → line_test (record { known = known; here = here; laid_out = laid_out; as_first = as_first; valued = valued; fresh = fresh; met = met }) ≡ Ok tt
    → line_test (record { known = known; here = here; laid_out = laid_out; as_first = as_first; valued = valued; fresh = later; met = met })
    ≡ Err Duplicate
unfolding line_test first_test
again_tests true true true true true f l m z e = rw z
again_tests false b c d v f l m z e = absurd (false≢true (ap passing e))
again_tests true false c d v f l m z e = absurd (false≢true (ap passing e))
again_tests true true false d v f l m z e = absurd (false≢true (ap passing e))
again_tests true true true false v f l m z e = absurd (false≢true (ap passing e))
again_tests true true true true false f l m z e = absurd (false≢true (ap passing e))

again_line : (c : Context) (seen later : List ℕ) (st : InBlock) (l : Line) → block_test c seen st l ≡ Ok tt
    → fresh_key Timetbls later (row_of c.form Timetbls l) ≡ false → block_test c later st l ≡ Err Duplicate
unfolding block_test
again_line c seen later st l e f = again_tests _ _ _ _ _ _ _ _ f e

-- ONE BLOCK: its first line passes where it is right
head_passes : (c : Context) (seen : List ℕ) (o : ℕ) (g : Group Line) → block_verdict c seen o g ≡ Ok tt → block_test c seen block_start g.top ≡ Ok tt
unfolding block_verdict scan
head_passes c seen o g e =
    let rest = scan (λ st j l. verdict_at (at_place Timetbls o j) (block_test c seen st l)) block_next (block_next block_start g.top) 2 g.rest in
    verdict_fine (at_place Timetbls o 1) (block_test c seen block_start g.top)
    (or_fine (verdict_at (at_place Timetbls o 1) (block_test c seen block_start g.top)) rest (cons_fine _ _ e).0).0

-- where its service came before, that is its fault
block_again : (c : Context) (seen later : List ℕ) (o : ℕ) (g : Group Line) → block_verdict c seen o g ≡ Ok tt
    → fresh_key Timetbls later (row_of c.form Timetbls g.top) ≡ false → block_verdict c later o g ≡ fault_at Duplicate (at_place Timetbls o 1)
unfolding block_verdict first_fault scan
block_again c seen later o g e f = rw (again_line c seen later block_start g.top (head_passes c seen o g e) f)

-- the lent tables' own context agrees with them
own_keys : (form : Form) (counts : BlockCounts) (co mo st fo : List ℕ) → BlockKeysAmong (keys_from form counts co mo st fo) counts co mo st fo
unfolding keys_from
own_keys form counts co mo st fo = record { companies = refl; modes = refl; stations = refl; footnotes = refl }

own_form : (form : Form) (counts : BlockCounts) (co mo st fo : List ℕ) → (keys_from form counts co mo st fo).form ≡ form
unfolding keys_from
own_form form counts co mo st fo = refl

-- A BLOCK THAT IS WHOLE, as it was checked
module _ (form : Form) (b : List ℕ) (fresh : Bool) (counts : BlockCounts) (co mo st fo : List ℕ) (k n : ℕ)
    (h : is_hash (as_block b).top ≡ true) (y : BlockChecked form b fresh counts co mo st fo (size_of k n)) where
  abbrev service : ℕ
  service = service_of form (as_block b)

  new_to : (seen : List ℕ) (x : Bool) → has service seen ≡ x → fresh_key Timetbls seen (row_of form Timetbls (as_block b).top) ≡ not x
  new_to seen x e = fresh_service form seen (as_block b) h ∙ ap not e

  came : has service (service ∷ []) ≡ true
  unfolding any
  came = rw (eq-eqb service service refl)

  none : has service [] ≡ false
  unfolding any
  none = refl

  module _ (c : Context) (d : c.form ≡ form) (a : BlockKeysAmong c counts co mo st fo) where
    again_to : (seen later : List ℕ) (o : ℕ) → fresh ≡ fresh_key Timetbls seen (row_of form Timetbls (as_block b).top) → has service later ≡ true
        → block_verdict c later o (as_block b) ≡ fault_at Duplicate (at_place Timetbls o 1)
    again_to seen later o f e =
        block_again c seen later o (as_block b) (sym (y.says c d a seen f o))
        (ap (λ x. fresh_key Timetbls later (row_of x Timetbls (as_block b).top)) d ∙ new_to later true e)

    never_old : fresh ≡ false → ⊥
    never_old f =
        let p : fresh ≡ fresh_key Timetbls (service ∷ []) (row_of form Timetbls (as_block b).top) = f ∙ sym (new_to (service ∷ []) true came) in
        true≢false (ap fine (y.says c d a (service ∷ []) p 1 ∙ again_to (service ∷ []) (service ∷ []) 1 p came))

    -- whatever services came before it, whether its own is new says all
    pub whole_says : (seen : List ℕ) (o : ℕ) → new_verdict seen o service ≡ block_verdict c seen o (as_block b)
    whole_says seen o = go fresh refl (has service seen) refl
      where
        go : (f : Bool) → fresh ≡ f → (x : Bool) → has service seen ≡ x → new_verdict seen o service ≡ block_verdict c seen o (as_block b)
        go false f x e = absurd (never_old f)
        go true f false e = rw e (y.says c d a seen (f ∙ sym (new_to seen false e)) o)
        go true f true e = rw e (sym (again_to [] seen o (f ∙ sym (new_to [] false none)) e))

  -- it was taken for new
  pub whole_fresh : fresh ≡ true
  whole_fresh = go fresh refl
    where
      go : (f : Bool) → fresh ≡ f → fresh ≡ true
      go true e = e
      go false e = absurd (never_old (keys_from form counts co mo st fo) (own_form form counts co mo st fo) (own_keys form counts co mo st fo) e)

-- THE FIRST ROWS OF A TABLE stand in its first words
rows_front : (w : ℕ) (p q : List ℕ) (i k : ℕ) → (i + k) * w ≤ length p → block_of_rows w (p ++ q) i k ≡ block_of_rows w p i k
unfolding block_of_rows
rows_front w p q i zero h = refl
rows_front w p q i (suc k) h =
    let n : i * w + w ≤ length p = row_inside w i (i + suc k) (length p) (omega arith) h in
    let m : suc i + k ≡ i + suc k = omega arith in
    let r : row_at w (p ++ q) i ≡ row_at w p i =
    ap (take w) (drop-append-le (i * w) p q (omega arith)) ∙ take-append-le w (drop (i * w) p) q (omega (arith, length-drop (i * w) p)) in
    let h' : (suc i + k) * w ≤ length p = rw m h in
    ap (λ (x : Row). x ∷ block_of_rows w (p ++ q) (suc i) k) r ∙ ap (λ (l : List Row). row_at w p i ∷ l) (rows_front w p q (suc i) k h')

abbrev width : ℕ
width = row_width Timetbls

keys_front : (row : ℕ) (t : List ℕ) → row * width ≤ length t → keys_among Timetbls row t ≡ keys_of Timetbls (block_of_rows width (take (row * width) t) 0 row)
keys_front row t h =
    let n : length (take (row * width) t) ≡ row * width = length-take-le (row * width) t h in
    let m : (0 + row) * width ≤ length (take (row * width) t) = omega arith in
    keys_there Timetbls t row h
    ∙ ap (λ (k : ℕ). keys_of Timetbls (block_of_rows width t 0 k)) (sub-zero row)
    ∙ ap (λ (l : List ℕ). keys_of Timetbls (block_of_rows width l 0 row)) (sym (take-append-drop (row * width) t))
    ∙ ap (keys_of Timetbls) (rows_front width (take (row * width) t) (drop (row * width) t) 0 row m)

-- so its services are the same where those words are
pub same_services : (row : ℕ) (was is : List ℕ) → row * width ≤ length was → row * width ≤ length is
    → take (row * width) is ≡ take (row * width) was → keys_among Timetbls row is ≡ keys_among Timetbls row was
same_services row was is h g e =
    keys_front row is g ∙ ap (λ (l : List ℕ). keys_of Timetbls (block_of_rows width l 0 row)) e ∙ sym (keys_front row was h)
