-- The files up to FOOTNOTE, read one after the other: what their readers ask and tell.
use Rattle.std.specs.Prelude.{ℕ, ◌≡◌, List}
use Rattle.iff.specs.Refusals.{or_else, Verdict}
use Rattle.iff.specs.declared.RowFile.TheVariants.{Company, Country, Trnsmode, Stations}
use Rattle.iff.specs.declared.GroupFile.TheVariants.{Timezone, Footnote}
use Rattle.iff.specs.declared.File.TheVariants.{Delivery, Rows, Groups}
use Rattle.iff_rules.specs.Rows.{form_of}
use Rattle.references.specs.Agree.{StationKeys, GroupKeys}
use Rattle.references.specs.Company.{company_named}
use Rattle.reading.specs.Reading.{Ready, FileRead, DeliveryRead}
use Rattle.first_files.specs.declared.FirstFiles.{FirstFiles}

-- a value for each of them
pub record Seven (A : Type 0) : Type 0 where
  pub delivery : A
  pub company : A
  pub country : A
  pub trnsmode : A
  pub timezone : A
  pub stations : A
  pub footnote : A

abbrev pub seven : {A : Type 0} → A → A → A → A → A → A → A → Seven A
seven delivery company country trnsmode timezone stations footnote =
    record {
      delivery = delivery;
      company = company;
      country = country;
      trnsmode = trnsmode;
      timezone = timezone;
      stations = stations;
      footnote = footnote;
    }

-- BEFORE THEY ARE READ: each table is all zero, and has room
pub record FirstsReady (F z : Seven (List ℕ)) : Type 0 where
  pub delivery : Ready Delivery F.delivery z.delivery
  pub company : Ready (Rows Company) F.company z.company
  pub country : Ready (Rows Country) F.country z.country
  pub trnsmode : Ready (Rows Trnsmode) F.trnsmode z.trnsmode
  pub timezone : Ready (Groups Timezone) F.timezone z.timezone
  pub stations : Ready (Rows Stations) F.stations z.stations
  pub footnote : Ready (Groups Footnote) F.footnote z.footnote

-- ONCE THEY ARE READ, after a verdict v: the verdict after each step, and what its reader tells; tables were z and are a
pub record FirstsRead (header : List ℕ) (F : Seven (List ℕ)) (v : Verdict) (z a : Seven (List ℕ)) (r : FirstFiles) : Type 0 where
  pub after_delivery : Verdict
  pub after_company : Verdict
  pub after_named : Verdict
  pub after_country : Verdict
  pub after_trnsmode : Verdict
  pub after_timezone : Verdict
  pub after_stations : Verdict
  pub delivered : DeliveryRead F.delivery v z.delivery a.delivery after_delivery
  pub formed : r.form ≡ form_of a.delivery
  pub companies :
      FileRead (Rows Company) r.form (λ c. StationKeys c z.country z.timezone) header
      F.company after_delivery z.company a.company after_company
  pub named : after_named ≡ or_else after_company (company_named a.delivery a.company)
  pub countries :
      FileRead (Rows Country) r.form (λ c. StationKeys c z.stations z.timezone) header
      F.country after_named z.country a.country after_country
  pub modes :
      FileRead (Rows Trnsmode) r.form (λ c. StationKeys c a.country z.timezone) header
      F.trnsmode after_country z.trnsmode a.trnsmode after_trnsmode
  pub zones :
      FileRead (Groups Timezone) r.form (λ c. GroupKeys c 0 a.company a.trnsmode z.stations a.country z.footnote) header
      F.timezone after_trnsmode z.timezone a.timezone after_timezone
  pub places :
      FileRead (Rows Stations) r.form (λ c. StationKeys c a.country a.timezone) header
      F.stations after_timezone z.stations a.stations after_stations
  pub footnotes :
      FileRead (Groups Footnote) r.form (λ c. GroupKeys c 0 a.company a.trnsmode a.stations a.country a.timezone) header
      F.footnote after_stations z.footnote a.footnote r.verdict
