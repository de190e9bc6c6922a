-- `calyxcabin_name` meets its contract: it is `station_names::name_part`'s, in numbers. Assumes nothing.
use mathlib.Core.Path.{◌∙◌, ap, subst}
use Rattle.question_numbers.specs.Numbers.{part_words}
use Rattle.parts.specs.Bounds.{Inside}
use Rattle.station_names.specs.Names.{name_part}
use Rattle.station_names.proofs.NameLaws.{name_holds, name_tested}
use Rattle.exports.proofs.calyxcabin_name.Goals as goal

pub returns : goal.returns
returns c =
    let told = c.name_part-part.ensures in
    let a = c.args in
    let stations = a.stations.now in
    let part = name_part stations a.short in
    record {
      answers =
          c.part_words.ensures
          ∙ ap (λ p. part_words p.test p.from p.to) told.0
          ∙ ap (λ t. part_words t part.from part.to) (name_tested stations a.short);
      inside = subst (Inside stations) told.0 told.1;
      part = name_holds stations a.short;
    }
