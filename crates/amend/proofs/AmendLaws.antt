-- The whole of an amendment, over plain variables. Assumes nothing.
use Rattle.std.specs.Prelude.{Err, None, Ok, Result}
use Prim.Native.Nat.{ℕ, ◌-◌, ◌≤◌}
use mathlib.Core.Path.{◌≡◌, refl, ap, ap₂, sym, ◌∙◌}
use mathlib.Core.List.{List}
use mathlib.Core.Bool.{true, false, cond}
use lib.ListN.{length, take, drop}
use Rattle.iff.specs.Files.{PerFile}
use Rattle.iff.specs.Refusals.{or_else, first_fault, answer, fine, Answer, Verdict, fault_at}
use Rattle.iff.specs.Tables.{row_width, rows_in, fill, keys_of}
use Rattle.iff.specs.declared.File.TheVariants.{Delivery, Timetbls}
use Rattle.iff.specs.declared.Form.{Form}
use Rattle.iff.specs.declared.Reason.TheVariants.{NotSound}
use Rattle.iff_rules.specs.Rows.{Context, context_of, form_of, first_of}
use Rattle.iff_rules.specs.Load.{fault_unless}
use Rattle.iff_desk.specs.Sound.{sound, rows_of_tables}
use Rattle.iff_desk.specs.Amend.{place_of, amended_rows, amend_verdict, amend_answer, amend_timetbls}
use Rattle.walks.proofs.TableLaws.{inside, first_inside, first_row_lem}
use Rattle.references.specs.Agree.{BlockKeys}
use Rattle.sound_facts.proofs.SoundFacts.{delivery_held, unused_zero, short, once}
use Rattle.amend_tests.specs.Judged.{judged_verdict, edit_verdict, Judgeable, AmendJudged}
use Rattle.amend_done.specs.Done.{Doable, table_after, Done}
use Rattle.amend.specs.Amended.{SoundThere, verdict_there, AmendedThere, Amended}
use Rattle.amend_tests.specs.declared.Edit.{Edit}
use Rattle.iff.specs.declared.Fault.{Fault}

-- DELIVERY's first row
module _ (d t : List ℕ) (h : SoundThere d t) where
  pub first_wide : row_width Delivery ≤ length d
  first_wide = first_inside Delivery d (length (rows_in Delivery d)) refl h.held

  pub form_found : (form : Form) → form ≡ form_of (take (6 - 0) (drop 0 d)) → form ≡ form_of (first_of (rows_in Delivery d))
  form_found form e = e ∙ ap form_of (first_row_lem Delivery d (length (rows_in Delivery d)) refl h.held).0

  module _ (form : Form) (f : form ≡ form_of (first_of (rows_in Delivery d))) where
    pub judgeable_there : Judgeable form t
    judgeable_there = rw f h.judgeable

    module _ (co mo st fo : List ℕ) (s : ℕ) (b : List ℕ) (j : Result Edit Fault) (k : AmendJudged form t co mo st fo s b j) where
      pub doable : Doable j form b t
      doable =
          record {
            replaces = λ e q. let r = k.edit e q in
                record {
                  ordered = r.ordered;
                  within = r.within;
                  lies = inside Timetbls t e.used r.counted;
                  roomy = r.roomy;
                  unused = rw r.counted h.unused;
                  whole = r.whole;
                };
          }

      -- the table, by whether nothing was refused
      table_after_lem : (i : Result Edit Fault) → j ≡ i → table_after form b t i
          ≡ cond (fine (judged_verdict i)) (fill (row_width Timetbls) (length t) (amended_rows form (place_of s (rows_in Timetbls t)) (rows_in Timetbls t) b)) t
      table_after_lem (Err fault) q = refl
      table_after_lem (Ok e) q = ap (fill (row_width Timetbls) (length t)) (sym (k.edit e q).rows)

      pub done_there : (services : ℕ) → services ≡ length (keys_of Timetbls (rows_in Timetbls t)) → (r : Answer) (is : List ℕ)
          → Done j form services b t r is → AmendedThere d co mo st fo t s b r is
      done_there services n r is x =
          record {
            answers = λ c g q a.
                let y : form ≡ c.form = f ∙ sym g in
                x.answers ∙ ap (λ (v : Verdict). answer v form.days services) (k.says c (sym y) q a)
                ∙ ap₂ (λ (g : Form) (m : ℕ). answer (verdict_there c t s b) g.days m) y (n ∙ ap length (sym q));
            leaves = λ c g q a.
                let y : form ≡ c.form = f ∙ sym g in
                x.leaves ∙ table_after_lem j refl
                ∙ ap (λ (v : Verdict). cond (fine v)
                (fill (row_width Timetbls) (length t) (amended_rows form (place_of s (rows_in Timetbls t)) (rows_in Timetbls t) b)) t) (k.says c (sym y) q a)
                ∙ ap (λ (g : Form). cond (fine (verdict_there c t s b))
                (fill (row_width Timetbls) (length t) (amended_rows g (place_of s (rows_in Timetbls t)) (rows_in Timetbls t) b)) t) y;
          }

-- THE WHOLE: 16, and then the tests after it
module _ (T : PerFile (List ℕ)) (s : ℕ) (b : List ℕ) where
  abbrev context : Context
  context = context_of (rows_of_tables T)

  first_test_lem : amend_verdict T s b ≡ or_else (fault_unless (sound T) NotSound None) (verdict_there context T.timetbls s b)
  unfolding amend_verdict edit_verdict first_fault
  first_test_lem = refl

  pub not_sound : sound T ≡ false → Amended T s b (fault_at NotSound None) T.timetbls
  unfolding amend_answer amend_timetbls
  not_sound e = record { answer = rw (first_test_lem, e); table = rw (first_test_lem, e) }

  module _ (e : sound T ≡ true) where
    pub sound_there : SoundThere T.delivery T.timetbls
    unfolding context_of
    sound_there =
        record {
          held = delivery_held T e;
          judgeable = record { once = once T e Timetbls; short = short T e Timetbls };
          unused = unused_zero T e Timetbls;
        }

    block_keys_lem : BlockKeys context T.company T.trnsmode T.stations T.footnote
    unfolding context_of
    block_keys_lem = record { companies = refl; modes = refl; stations = refl; footnotes = refl }

    own_form : context.form ≡ form_of (first_of (rows_in Delivery T.delivery))
    unfolding context_of
    own_form = refl

    own_keys : context.keys Timetbls ≡ keys_of Timetbls (rows_in Timetbls T.timetbls)
    unfolding context_of
    own_keys = refl

    pub amended_sound : (r : Answer) (is : List ℕ)
        → AmendedThere T.delivery T.company T.trnsmode T.stations T.footnote T.timetbls s b r is → Amended T s b r is
    unfolding amend_answer amend_timetbls
    amended_sound r is x =
        record {
          answer = x.answers context own_form own_keys block_keys_lem ∙ rw (first_test_lem, e);
          table = x.leaves context own_form own_keys block_keys_lem ∙ rw (first_test_lem, e);
        }
