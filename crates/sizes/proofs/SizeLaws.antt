-- Verdicts in turn, and the sizes of eleven files. Assumes nothing.
use Rattle.std.specs.Prelude.{Err, Ok}
use Prim.Native.Nat.{ℕ}
use mathlib.Core.Path.{◌≡◌, refl, ap, sym, ◌∙◌}
use mathlib.Core.List.{List, [], ◌∷◌}
use Rattle.iff.specs.Refusals.{or_else, first_fault, Verdict}
use Rattle.iff.specs.Files.{PerFile, limit}
use Rattle.iff.specs.declared.RowFile.TheVariants.{Company, Country, Trnsmode, Stations}
use Rattle.iff.specs.declared.GroupFile.TheVariants.{Timezone, Footnote, Changes, Xfootnote, Xchanges}
use Rattle.iff.specs.declared.File.{File}
use Rattle.iff.specs.declared.File.TheVariants.{Delivery, Rows, Groups, Timetbls}
use Rattle.iff_rules.specs.Load.{over_files}
use Rattle.iff_laws.specs.ScanLaws.{or_nothing}
use Rattle.sizes.specs.Sizes.{lengths_within, absences_verdict, rooms_verdict, lengths_of, sizes_verdict}

pub regroup : (v a b : Verdict) → or_else v (or_else a b) ≡ or_else (or_else v a) b
regroup (Ok _) a b = refl
regroup (Err fault) a b = refl

-- one test more, in turn
pub step : (v : Verdict) {w : Verdict} (a : Verdict) (rest : List Verdict) →
    w ≡ or_else v a → or_else v (first_fault (a ∷ rest)) ≡ or_else w (first_fault rest)
unfolding first_fault
step v a rest e = rw e (regroup v a (first_fault rest))

pub last : (v : Verdict) → or_else v (first_fault []) ≡ v
unfolding first_fault
last v = or_nothing v

-- a test of each file, in their order
pub in_order_lem : (test : File → Verdict) (v0 : Verdict) {v1 v2 v3 v4 v5 v6 v7 v8 v9 v10 v11 : Verdict} →
    v1 ≡ or_else v0 (test Delivery) →
    v2 ≡ or_else v1 (test (Rows Company)) →
    v3 ≡ or_else v2 (test (Rows Country)) →
    v4 ≡ or_else v3 (test (Rows Trnsmode)) →
    v5 ≡ or_else v4 (test (Groups Timezone)) →
    v6 ≡ or_else v5 (test (Rows Stations)) →
    v7 ≡ or_else v6 (test (Groups Footnote)) →
    v8 ≡ or_else v7 (test Timetbls) →
    v9 ≡ or_else v8 (test (Groups Changes)) →
    v10 ≡ or_else v9 (test (Groups Xfootnote)) →
    v11 ≡ or_else v10 (test (Groups Xchanges)) →
    v11 ≡ or_else v0 (over_files test)
in_order_lem test v0 {v1} {v2} {v3} {v4} {v5} {v6} {v7} {v8} {v9} {v10} h1 h2 h3 h4 h5 h6 h7 h8 h9 h10 h11 =
    sym
    (step v0 (test Delivery) _ h1
    ∙ step v1 (test (Rows Company)) _ h2
    ∙ step v2 (test (Rows Country)) _ h3
    ∙ step v3 (test (Rows Trnsmode)) _ h4
    ∙ step v4 (test (Groups Timezone)) _ h5
    ∙ step v5 (test (Rows Stations)) _ h6
    ∙ step v6 (test (Groups Footnote)) _ h7
    ∙ step v7 (test Timetbls) _ h8
    ∙ step v8 (test (Groups Changes)) _ h9
    ∙ step v9 (test (Groups Xfootnote)) _ h10
    ∙ step v10 (test (Groups Xchanges)) _ h11
    ∙ last _)

-- "1, then 3, then 2"
pub sized : (F : PerFile (List ℕ)) (R : PerFile ℕ) (v w : Verdict) {r : Verdict} →
    v ≡ lengths_within limit (lengths_of F) → w ≡ or_else v (absences_verdict (lengths_of F)) → r ≡ or_else w (rooms_verdict F R) →
    r ≡ sizes_verdict F R
unfolding sizes_verdict
sized F R v w a b c =
    c
    ∙ ap (λ (x : Verdict). or_else x (rooms_verdict F R))
    (b ∙ ap (λ (x : Verdict). or_else x (absences_verdict (lengths_of F))) a)
