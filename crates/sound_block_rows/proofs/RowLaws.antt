-- Laws of one row of a block: each way out of its tests. Assumes nothing.
use Rattle.std.specs.Prelude.{None, Option, Some}
use Prim.Native.Nat.{ℕ, ◌+◌, ◌≤◌}
use mathlib.Core.Path.{◌≡◌, refl, ap, sym, ◌∙◌}
use mathlib.Core.List.{List, [], ◌∷◌}
use mathlib.Core.Bool.{Bool, true, false, ◌&&◌, cond, and-true}
use native.Mathlib.Omega.{arith}
use borrow.Author.Tests.{eq-eqb, ne_eqb, ltb-true}
use lib.Dec.{eqb, ltb}
use Rattle.text.proofs.PictureLaws.{and_left, and_right}
use Rattle.iff.specs.Bytes.{plus}
use Rattle.iff.specs.Lists.{all_of}
use Rattle.iff.specs.Columns.{fields_of}
use Rattle.iff.specs.Times.{is_time, interval}
use Rattle.iff.specs.Tables.{Row, tag}
use Rattle.iff.specs.Words.{line_number, arrival, departure, stop_time_of}
use Rattle.iff.specs.declared.RowFile.TheVariants.{Company, Country, Trnsmode, Stations}
use Rattle.iff.specs.declared.GroupFile.TheVariants.{Timezone, Footnote, Changes, Xfootnote, Xchanges}
use Rattle.iff.specs.declared.File.{File}
use Rattle.iff.specs.declared.File.TheVariants.{Delivery, Rows, Groups, Timetbls}
use Rattle.iff.specs.declared.Edition.TheVariants.{Iff424}
use Rattle.iff.specs.declared.InBlock.{InBlock}
use Rattle.iff.specs.declared.Stand.{Stand}
use Rattle.iff_rules.specs.Order.{goes, is_goes, is_stop}
use Rattle.iff_rules.specs.Rows.{Context}
use Rattle.iff_rules.specs.Meaning.{most_stops, block_meaning}
use Rattle.iff_rules.specs.References.{met_in_block}
use Rattle.iff_rules.specs.Legs.{one}
use Rattle.iff_rules.specs.Load.{block_moves}
use Rattle.iff_desk.specs.Sound.{shaped, own_words, sound_block_row}
use Rattle.keys.specs.Lookup.{keys_among}
use Rattle.references.specs.declared.BlockCounts.{BlockCounts}
use Rattle.references.specs.Agree.{BlockKeysAmong}
use Rattle.row_tests.specs.Tests.{row_tests}
use Rattle.sound_block_rows.specs.Told.{RowTold}

-- THE TESTS of a row, as soundness lists them
all_tests : (g s l m k : Bool) → all_of (g ∷ s ∷ l ∷ m ∷ k ∷ []) ≡ g && (l && (s && (m && k)))
unfolding all_of
all_tests false s l m k = refl
all_tests true false true m k = refl
all_tests true false false m k = refl
all_tests true true false m k = refl
all_tests true true true m k = rw (and-true k)

-- one stop more is still few
few_more : (block : InBlock) (r : Row) → block_meaning block.stops r ≡ true → block.stops ≤ most_stops → block.stops + one (is_stop (tag r)) ≤ most_stops
unfolding block_meaning
few_more block r e h = go (is_stop (tag r)) e
  where
    times_of : Bool
    times_of = cond (eqb (tag r) plus) (interval (arrival r) (departure r)) (is_time (stop_time_of r))

    go : (b : Bool) → cond b (ltb block.stops most_stops && times_of) true ≡ true → block.stops + one b ≤ most_stops
    go true q = omega (arith, ltb-true block.stops most_stops (and_left (ltb block.stops most_stops) times_of q))
    go false q = omega arith

-- a context with the keys of lent tables' first rows, and no others
abbrev lent_keys : BlockCounts → List ℕ → List ℕ → List ℕ → List ℕ → File → List ℕ
lent_keys counts co mo st fo Delivery = []
lent_keys counts co mo st fo (Rows Company) = keys_among (Rows Company) counts.companies co
lent_keys counts co mo st fo (Rows Country) = []
lent_keys counts co mo st fo (Rows Trnsmode) = keys_among (Rows Trnsmode) counts.modes mo
lent_keys counts co mo st fo (Rows Stations) = keys_among (Rows Stations) counts.stations st
lent_keys counts co mo st fo (Groups Timezone) = []
lent_keys counts co mo st fo (Groups Footnote) = keys_among (Groups Footnote) counts.footnotes fo
lent_keys counts co mo st fo (Groups Changes) = []
lent_keys counts co mo st fo (Groups Xfootnote) = []
lent_keys counts co mo st fo (Groups Xchanges) = []
lent_keys counts co mo st fo Timetbls = []

abbrev lent_context : BlockCounts → List ℕ → List ℕ → List ℕ → List ℕ → Context
lent_context counts co mo st fo = record { form = record { days = 0; edition = Iff424 }; keys = lent_keys counts co mo st fo }

module _ (counts : BlockCounts) (co mo st fo : List ℕ) (block : InBlock) (line : ℕ) (r : Row) where
  abbrev Told : Option InBlock → Type 0
  Told a = RowTold counts co mo st fo block line r a

  abbrev sounds : Context → Bool
  sounds c = sound_block_row c (record { block = block; line = line }) r

  as_tests : (c : Context) → sounds c ≡ is_goes (goes block.stand (tag r)) && (eqb (line_number r) line && row_tests c block.stops r)
  unfolding sound_block_row row_tests
  as_tests c =
      all_tests (is_goes (goes block.stand (tag r))) (shaped (fields_of c.form Timetbls (tag r)) (own_words r)) (eqb (line_number r) line)
      (block_meaning block.stops r) (met_in_block c r)

  unsound : ((c : Context) → BlockKeysAmong c counts co mo st fo → false ≡ sounds c) → Told None
  unsound says = record { says = says; leads = λ next q. absurd (let z : ◌≡◌ {A = ℕ} 0 1 = cc in omega arith) }

  pub other_number : (line_number r ≡ line → ⊥) → Told None
  other_number n = unsound (λ c g. sym (as_tests c ∙ none (is_goes (goes block.stand (tag r))) (row_tests c block.stops r) (ne_eqb (line_number r) line n)))
    where
      none : (a b : Bool) → eqb (line_number r) line ≡ false → a && (eqb (line_number r) line && b) ≡ false
      none true b e = rw e
      none false b e = refl

  pub not_here : goes block.stand (tag r) ≡ None → Told None
  not_here e = unsound (λ c g. sym (as_tests c ∙ rw e))

  module _ (n : line_number r ≡ line) (to : Stand) (e : goes block.stand (tag r) ≡ Some to) (b : Bool)
      (found : (c : Context) → BlockKeysAmong c counts co mo st fo → b ≡ row_tests c block.stops r) where
    rest_decides : (c : Context) → BlockKeysAmong c counts co mo st fo → b ≡ sounds c
    rest_decides c g = found c g ∙ sym (as_tests c ∙ rw (e, eq-eqb (line_number r) line n))

    pub not_right : b ≡ false → Told None
    not_right f = unsound (λ c g. sym f ∙ rest_decides c g)

    -- the tests hold in the context of the lent tables, and so does the one of its times
    timed : b ≡ true → block_meaning block.stops r ≡ true
    unfolding row_tests
    timed t =
        let here = lent_context counts co mo st fo in
        let meant : shaped (fields_of here.form Timetbls (tag r)) (own_words r) && (block_meaning block.stops r && met_in_block here r) ≡ true =
        sym (found here (record { companies = refl; modes = refl; stations = refl; footnotes = refl })) ∙ t in
        and_left (block_meaning block.stops r) (met_in_block here r)
        (and_right (shaped (fields_of here.form Timetbls (tag r)) (own_words r)) (block_meaning block.stops r && met_in_block here r) meant)

    pub goes_on : b ≡ true → block.stops ≤ most_stops → (stops : ℕ) → stops ≡ block.stops + one (is_stop (tag r))
        → Told (Some (record { stand = to; stops = stops }))
    unfolding block_moves
    goes_on t few stops s =
        record {
          says = λ c g. sym t ∙ rest_decides c g;
          leads = λ next q.
              let here : record { stand = to; stops = stops } ≡ next = cc in
              record {
                is = sym here ∙ moved;
                few = omega (arith, ap (λ (k : InBlock). k.stops) here, s, few_more block r (timed t) few);
              };
        }
      where
        moved : record { stand = to; stops = stops } ≡ block_moves block (tag r)
        moved = rw (e, s)
