-- Slots that are told are there.
use Rattle.std.specs.Prelude.{ℕ, ◌<◌, ◌≡◌}
use Rattle.places.specs.declared.Slot.{Slot}
use Rattle.places.specs.declared.Slot.TheVariants.{Of, Free}

pub record Inside (slots : ℕ) (r : Slot) : Type 0 where
  pub of : (at : ℕ) → r ≡ Of at → at < slots
  pub free : (at : ℕ) → r ≡ Free at → at < slots
