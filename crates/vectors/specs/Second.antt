-- Where a group's vector stands.
use Rattle.std.specs.Prelude.{◌+◌, ◌-◌, cond, ltb, None, Option, Some, ℕ}
use Rattle.store.specs.declared.Part.{Part}

-- the row behind a group's `#`
abbrev pub second_of : Part → Option ℕ
second_of p = cond (ltb 1 (p.to - p.from)) (Some (p.from + 1)) None
