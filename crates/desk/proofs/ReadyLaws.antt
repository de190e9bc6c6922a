-- What soundness gives a change, and what a change is handed. Assumes nothing.
use Prim.Native.Nat.{ℕ}
use mathlib.Core.Path.{◌≡◌, refl}
use mathlib.Core.List.{List}
use mathlib.Core.Bool.{true}
use lib.ListN.{length}
use Rattle.iff.specs.Files.{PerFile}
use Rattle.iff.specs.declared.RowFile.TheVariants.{Stations}
use Rattle.iff.specs.declared.GroupFile.TheVariants.{Timezone, Footnote, Changes, Xfootnote, Xchanges}
use Rattle.iff.specs.declared.File.TheVariants.{Delivery, Rows, Groups, Timetbls}
use Rattle.iff_desk.specs.Sound.{sound, rows_of_tables}
use Rattle.slots.specs.Slots.{Index}
use Rattle.needed_times.specs.declared.StoreCounts.{StoreCounts}
use Rattle.changing.specs.Agree.{RowsOf, Ready}
use Rattle.sound_facts.proofs.SoundFacts.{once, block_lines_lem, block_stops, few_hours, few_days}
use Rattle.desk.specs.Sure.{Leant, CountedRows}

module _ (T : PerFile (List ℕ)) where
  pub leant : sound T ≡ true
      → Leant T.delivery T.timezone T.stations T.footnote T.timetbls T.changes T.xfootnote T.xchanges
  leant s =
      record {
        delivery = once T s Delivery;
        timezone = once T s (Groups Timezone);
        stations = once T s (Rows Stations);
        footnote = once T s (Groups Footnote);
        timetbls = once T s Timetbls;
        changes = once T s (Groups Changes);
        xfootnote = once T s (Groups Xfootnote);
        xchanges = once T s (Groups Xchanges);
        blocks = record { lines = block_lines_lem T s; stops = block_stops T s };
        hours = few_hours T s;
        days = few_days T s;
      }

  pub own_rows :
      RowsOf (rows_of_tables T) T.delivery T.timezone T.stations T.footnote T.timetbls T.changes T.xfootnote T.xchanges
  own_rows =
      record {
        zones = record { delivery = refl; timezone = refl; stations = refl };
        footnote = refl;
        timetbls = refl;
        needs = record { changes = refl; xfootnote = refl; xchanges = refl };
      }

-- rows counted, and slots that are an index of CHANGES and of XCHANGES
module _ (n : StoreCounts) (hs d tz st fo tt ch xf xc : List ℕ) where
  pub ready : Leant d tz st fo tt ch xf xc → CountedRows n d tz st fo tt ch xf xc
      → Index (Groups Changes) ch n.changes (length hs) hs → Index (Groups Xchanges) xc n.xchanges (length hs) hs
      → Ready n hs d tz st fo tt ch xf xc
  ready l c changes exceptions =
      record {
        zones =
            record {
              delivery = record { counted = c.delivery; once = l.delivery };
              timezone = record { counted = c.timezone; once = l.timezone };
              stations = record { counted = c.stations; once = l.stations };
              few = l.hours;
            };
        footnote = record { counted = c.footnote; once = l.footnote };
        timetbls = record { counted = c.timetbls; once = l.timetbls };
        blocks = l.blocks;
        needs =
            record {
              changes = record { counted = c.changes; once = l.changes };
              xfootnote = record { counted = c.xfootnote; once = l.xfootnote };
              xchanges = record { counted = c.xchanges; once = l.xchanges };
              changes_heads = changes;
              xchanges_heads = exceptions;
            };
        days = l.days;
      }
