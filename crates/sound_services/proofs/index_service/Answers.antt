-- `index_service` meets its contract. Assumes nothing.
use Rattle.std.specs.Prelude.{Some}
use mathlib.Core.Path.{refl, ap, ◌∙◌}
use native.Mathlib.Omega.{arith}
use Rattle.fresh_keys.specs.Runs.{step_run}
use Rattle.sound_services.proofs.index_service.Goals as goal

pub index_row-requires : goal.index_row-requires
index_row-requires c =
    c.requires.index (omega (arith, c.if-done-lt-INDEXED.true))

pub returns-then-done-lt-INDEXED : goal.returns-then-done-lt-INDEXED
returns-then-done-lt-INDEXED c =
    record {
      wide = c.index_row.ensures.wide;
      put = λ f. c.index_row.ensures;
      gone = λ f. absurd (omega (arith, c.if-done-lt-INDEXED.true));
    }

pub word_at-service-requires : goal.word_at-service-requires
word_at-service-requires c = (omega arith, c.requires.room)

pub returns : goal.returns
returns c =
    let a = c.args in
    record {
      wide = refl;
      put = λ f. absurd (omega (arith, c.if-done-lt-INDEXED.false));
      gone = λ f. ap Some (c.next_run.ensures ∙ ap (step_run a.run) c.word_at-service.ensures);
    }
