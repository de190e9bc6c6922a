-- The rules find a duplicate exactly when a line before, a group before or a row of the group has the same.
use Rattle.std.specs.Prelude.{ℕ, ◌≤◌, ◌<◌, ◌≡◌, ◌↔◌, List, [], ◌∷◌, map, Bool, ◌&&◌, eqb, None, Option, Some}
use Rattle.std.proofs.Math.Path.{refl}
use Rattle.std.proofs.Common.{ap, sym, ◌∙◌, arith}
use Rattle.std.proofs.Math.Bool.{true, false, not}
use Rattle.std.proofs.lemmas.Bool.{false≢true}
use Rattle.std.proofs.Math.Dec.{leb}
use borrow.Author.Tests.{eqb-true, eq-eqb, leb-true, leb-false, le-leb}
use Rattle.iff.specs.Bytes.{hash}
use Rattle.iff.specs.Lists.{any}
use Rattle.iff.specs.Lines.{Line, no_line}
use Rattle.iff.specs.Columns.{cols, Text, columns}
use Rattle.iff.specs.Days.{day_of, in_turn, period}
use Rattle.iff.specs.Tables.{Row, tag, word, letterless, padded, row_key_word, keys_of}
use Rattle.iff.specs.Words.{named, period_first, period_last, from_service, to_service, from_company, from_mode, to_company, to_mode, exception_footnote}
use Rattle.iff.specs.declared.RowFile.{RowFile}
use Rattle.iff.specs.declared.RowFile.TheVariants.{Company, Country, Trnsmode, Stations}
use Rattle.iff.specs.declared.GroupFile.{GroupFile}
use Rattle.iff.specs.declared.GroupFile.TheVariants.{Timezone, Footnote, Changes, Xfootnote, Xchanges}
use Rattle.iff.specs.declared.File.TheVariants.{Rows, Groups, Timetbls}
use Rattle.iff.specs.declared.Form.{Form}
use Rattle.iff_rules.specs.Rows.{row_of}
use Rattle.iff_rules.specs.Unique.{fresh_key, same_text, fresh_texts, clash, fresh_in_group}
use Rattle.iff_laws.specs.Propositions.{row_key, NewKey, NewText, NewTexts, NewHash, NotAfter, Overlap, InPeriod, SharedDay, Clash, NewInGroup}
use Rattle.iff_laws.specs.TruthLaws.{Says, says_eq, says_true, says_false, says_and, says_unless, says_cond, says_where, says_as, says_by, says_same, both, and_both, none_with, any_kept, any_map}

-- THE KEY OF A ROW
key_word_lem : (f : RowFile) (r : Row) → word r (row_key_word f) ≡ row_key f r
key_word_lem Company r = refl
key_word_lem Country r = refl
key_word_lem Trnsmode r = refl
key_word_lem Stations r = refl

row_tag : (form : Form) (f : RowFile) (l : Line) → tag (row_of form (Rows f) l) ≡ letterless
unfolding row_of padded
row_tag form f l = refl

module _ (form : Form) (f : RowFile) (earlier : List Line) (l : Line) where
  abbrev line_row : Line → Row
  line_row e = row_of form (Rows f) e

  abbrev is_row : Row → Bool
  is_row r = eqb (tag r) letterless

  abbrev keyed : Row → ℕ
  keyed r = word r (row_key_word f)

  same_key : (e : Line)
      → Says (is_row (line_row e) && eqb (keyed (line_row l)) (keyed (line_row e))) (row_key f (line_row l) ≡ row_key f (line_row e))
  same_key e = (
    λ t. sym (key_word_lem f (line_row l)) ∙ (eqb-true _ _ (both (is_row (line_row e)) _ t).1 ∙ key_word_lem f (line_row e)),
    λ k. and_both (eq-eqb _ _ (row_tag form f e)) (eq-eqb _ _ (key_word_lem f (line_row l) ∙ (k ∙ sym (key_word_lem f (line_row e))))),
  )

  pub new_key_exactly : Says (fresh_key (Rows f) (keys_of (Rows f) (map line_row earlier)) (line_row l)) (NewKey form f earlier l)
  unfolding fresh_key
  new_key_exactly =
      says_as
      (says_where (says_eq (tag (line_row l)) letterless)
      (says_by (ap not (any_kept (eqb (keyed (line_row l))) keyed is_row (map line_row earlier) ∙ any_map _ line_row earlier))
      (none_with no_line _ same_key earlier)))
      (λ z. z (row_tag form f l)) (λ m t. m)

-- TEXTS
same_text_lem : (from to : ℕ) (l e : Line)
    → Says (same_text l e (cols from to Text)) (columns l.body (cols from to Text) ≡ columns e.body (cols from to Text))
same_text_lem from to l e = says_same _ _

one_text : (from to : ℕ) (earlier : List Line) (l : Line)
    → Says (not (any (λ e. any (same_text l e) (cols from to Text ∷ [])) earlier)) (NewText from to earlier l)
unfolding any
one_text from to earlier l =
    says_as (none_with no_line _ (λ e. says_unless (same_text_lem from to l e) says_false) earlier)
    (λ n i h a. n i h (λ k. k a)) (λ m i h w. w (m i h))

two_texts : (a b c d : ℕ) (earlier : List Line) (l : Line)
    → Says (not (any (λ e. any (same_text l e) (cols a b Text ∷ cols c d Text ∷ [])) earlier)) (NewText a b earlier l × NewText c d earlier l)
unfolding any
two_texts a b c d earlier l =
    says_as (none_with no_line _ (λ e. says_unless (same_text_lem a b l e) (says_unless (same_text_lem c d l e) says_false)) earlier)
    (λ n. (λ i h x. n i h (λ k. absurd (k x)), λ i h y. n i h (λ k j. j y))) (λ m i h w. w (m.0 i h) (m.1 i h))

no_texts : (earlier : List Line) (l : Line) → Says (not (any (λ e. any (same_text l e) []) earlier)) (Unit {0})
unfolding any
no_texts earlier l = says_as (none_with no_line _ (λ e. says_false) earlier) (λ n. tt) (λ u i h z. z)

pub new_texts_exactly : (f : RowFile) (earlier : List Line) (l : Line) → Says (fresh_texts f earlier l) (NewTexts f earlier l)
unfolding fresh_texts
new_texts_exactly Company earlier l = two_texts 5 14 16 45 earlier l
new_texts_exactly Country earlier l = one_text 8 37 earlier l
new_texts_exactly Trnsmode earlier l = one_text 6 35 earlier l
new_texts_exactly Stations earlier l = no_texts earlier l

-- THE KEY OF A `#`
pub new_hash_exactly : (f : GroupFile) (seen : List ℕ) (r : Row) → Says (fresh_key (Groups f) seen r) (NewHash seen r)
unfolding fresh_key
new_hash_exactly f seen r = says_where (says_eq (tag r) hash) (none_with 0 _ (says_eq (named r)) seen)

pub new_service_exactly : (seen : List ℕ) (r : Row) → Says (fresh_key Timetbls seen r) (NewHash seen r)
unfolding fresh_key
new_service_exactly seen r = says_where (says_eq (tag r) hash) (none_with 0 _ (says_eq (named r)) seen)

-- WITHIN A GROUP
not_after : (first last : ℕ) → Says (in_turn (day_of first) (day_of last)) (NotAfter first last)
not_after first last = (go (day_of first) (day_of last) refl refl, λ m. rw (m.is_first, m.is_last) (le-leb _ _ m.in_turn_lem))
  where
    go : (x y : Option ℕ) → day_of first ≡ x → day_of last ≡ y → in_turn x y ≡ true → NotAfter first last
    go (Some a) (Some b) p q e = record { from = a; to = b; is_first = p; is_last = q; in_turn_lem = leb-true _ _ e }
    go (Some a) None p q e = absurd (false≢true e)
    go None y p q e = absurd (false≢true e)

-- periods that are in turn overlap exactly where they share a day
in_days : {first last x y : ℕ} → NotAfter first last → day_of first ≡ Some x → day_of last ≡ Some y → x ≤ y
in_days {x = x} {y = y} n s t =
    let h : n.from ≡ x = cc in
    let k : n.to ≡ y = cc in
    omega (arith, n.in_turn_lem)

on_day_lem : {first last : ℕ} (n : NotAfter first last) (day : ℕ) → n.from ≤ day → day ≤ n.to → InPeriod first last day
on_day_lem n day h k = record { from = n.from; to = n.to; is_first = n.is_first; is_last = n.is_last; not_before = h; not_after = k }

module _ (r e : Row) (one : period (period_first r) (period_last r) ≡ true) (other : period (period_first e) (period_last e) ≡ true) where
  shares : Overlap r e → SharedDay r e
  unfolding period
  shares m =
      let a = (not_after (period_first r) (period_last r)).0 one in
      let b = (not_after (period_first e) (period_last e)).0 other in
      later a b (in_days m.begins a.is_first b.is_last) (in_days m.ends b.is_first a.is_last) (leb a.from b.from) refl
    where
      -- the later of the two first days
      later : (a : NotAfter (period_first r) (period_last r)) (b : NotAfter (period_first e) (period_last e))
          → a.from ≤ b.to → b.from ≤ a.to → (z : Bool) → leb a.from b.from ≡ z → SharedDay r e
      later a b p q true z =
          let h : a.from ≤ b.from = leb-true _ _ z in
          record { day = b.from; in_one = on_day_lem a b.from h q; in_other = on_day_lem b b.from (omega arith) b.in_turn_lem }
      later a b p q false z =
          let h : b.from < a.from = leb-false _ _ z in
          record { day = a.from; in_one = on_day_lem a a.from (omega arith) a.in_turn_lem; in_other = on_day_lem b a.from (omega arith) p }

  pub overlap_shares : Overlap r e ↔ SharedDay r e
  overlap_shares = (shares, λ s. record { begins = from_first s.in_one s.in_other; ends = from_first s.in_other s.in_one })
    where
      from_first : {a b c d day : ℕ} → InPeriod a b day → InPeriod c d day → NotAfter a d
      from_first p q =
          record { from = p.from; to = q.to; is_first = p.is_first; is_last = q.is_last; in_turn_lem = omega (arith, p.not_before, q.not_after) }

clash_exactly : (f : GroupFile) (r e : Row) → Says (clash f r e) (Clash f r e)
clash_exactly Timezone r e =
    says_as (says_and (not_after (period_first r) (period_last e)) (not_after (period_first e) (period_last r)))
    (λ z. record { begins = z.0; ends = z.1 }) (λ m. (m.begins, m.ends))
clash_exactly Footnote r e = says_false
clash_exactly Changes r e =
    says_as (says_and (says_eq (from_service r) (from_service e)) (says_and (says_eq (to_service r) (to_service e)) says_true))
    (λ z. record { from = z.0; to = z.1.0 }) (λ m. (m.from, (m.to, tt)))
clash_exactly Xfootnote r e = says_false
clash_exactly Xchanges r e =
    says_as
    (says_and (says_eq (from_company r) (from_company e))
    (says_and (says_eq (from_mode r) (from_mode e))
    (says_and (says_eq (to_company r) (to_company e))
    (says_and (says_eq (to_mode r) (to_mode e))
    (says_and (says_eq (exception_footnote r) (exception_footnote e)) says_true)))))
    (λ z.
    record {
      from_company_lem = z.0;
      from_mode_lem = z.1.0;
      to_company_lem = z.1.1.0;
      to_mode_lem = z.1.1.1.0;
      footnote = z.1.1.1.1.0;
    })
    (λ m. (m.from_company_lem, (m.from_mode_lem, (m.to_company_lem, (m.to_mode_lem, (m.footnote, tt))))))

pub new_in_group_exactly : (f : GroupFile) (earlier : List Row) (r : Row) → Says (fresh_in_group f earlier r) (NewInGroup f earlier r)
unfolding fresh_in_group
new_in_group_exactly f earlier r =
    says_as (says_cond (says_eq (tag r) hash) says_true (none_with [] _ (clash_exactly f r) earlier)) (λ z. z.1) (λ m. (λ h. tt, m))
