-- `legs::is_in_range` meets its contract: one test for each tag. Assumes nothing.
use mathlib.Core.Path.{◌∙◌}
use Rattle.legs.proofs.SpanLaws.{percent_range, dash_range, ampersand_range, asterisk_range, no_range}
use Rattle.legs.proofs.is_in_range.Goals as goal

pub returns-in_default : goal.returns-in_default
returns-in_default c = let q = c.in_default.in_default-own.rest in no_range _ _ q.0.0.0.1 q.0.0.1 q.0.1 q.1

pub returns-in-37 : goal.returns-in-37
returns-in-37 c = c.is_strict.ensures ∙ percent_range _ _ c.in-37.is

pub returns-in-45 : goal.returns-in-45
returns-in-45 c = c.is_strict-in-45.ensures ∙ dash_range _ _ c.in-45.is

pub returns-in-38 : goal.returns-in-38
returns-in-38 c = c.is_strict-in-38.ensures ∙ ampersand_range _ _ c.in-38.is

pub returns-in-42 : goal.returns-in-42
returns-in-42 c = c.is_loose.ensures ∙ asterisk_range _ _ c.in-42.is
