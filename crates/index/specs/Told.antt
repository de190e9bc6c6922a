-- What is told of a table's keys.
use Rattle.std.specs.Prelude.{◌≡◌, List, true, ℕ}
use Rattle.iff.specs.Tables.{rising}
use Rattle.iff_desk.specs.Sound.{distinct as are_distinct}
use Rattle.index.specs.declared.KeysAre.{KeysAre}

-- whether they rise is asked only where none comes again
pub record KeysTold (ks : List ℕ) (r : KeysAre) : Type 0 where
  pub distinct : r.distinct ≡ are_distinct ks
  pub rise : r.distinct ≡ true → r.rise ≡ rising ks
