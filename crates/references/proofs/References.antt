-- The wildcards as numbers. Assumes nothing.
use mathlib.Core.Path.{◌≡◌, refl}
use Rattle.iff.specs.Values.{value, wildcard}
use Rattle.iff_rules.specs.References.{any_company, any_mode}

pub any_company_lem : any_company ≡ 2760736
unfolding value wildcard
any_company_lem = refl

pub any_mode_lem : any_mode ≡ 706748448
unfolding value wildcard
any_mode_lem = refl
