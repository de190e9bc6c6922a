-- `block_services::head_word` meets its contract: each arm is one of the laws of the first word. Assumes nothing.
use mathlib.Core.Path.{ap, ◌∙◌}
use native.Mathlib.Omega.{arith}
use Rattle.iff.specs.Values.{number_of, code_of}
use Rattle.block_services.proofs.ServiceLaws.{part_small, head_service, head_company, head_footnote, head_mode, head_attribute}
use Rattle.block_services.proofs.ServiceLaws.{head_platform, head_station}
use Rattle.block_services.proofs.head_word.Goals as goal

pub number-requires : goal.number-requires
number-requires c = part_small _ c.args.line.now 8 1 (omega arith) c.columns_of.ensures

pub number-requires-in-37 : goal.number-requires-in-37
number-requires-in-37 c = part_small _ c.args.line.now 3 1 (omega arith) c.columns_of-in-37.ensures

pub number-requires-in-45 : goal.number-requires-in-45
number-requires-in-45 c = part_small _ c.args.line.now 5 1 (omega arith) c.columns_of-in-45.ensures

pub code-requires : goal.code-requires
code-requires c = part_small _ c.args.line.now 4 1 (omega arith) c.columns_of-in-38.ensures

pub code-requires-in-42 : goal.code-requires-in-42
code-requires-in-42 c = part_small _ c.args.line.now 4 1 (omega arith) c.columns_of-in-42.ensures

pub number-requires-in-63 : goal.number-requires-in-63
number-requires-in-63 c = part_small _ c.args.line.now 5 13 (omega arith) c.columns_of-in-63.ensures

pub code-requires-in_default : goal.code-requires-in_default
code-requires-in_default c = part_small _ c.args.line.now 7 1 (omega arith) c.columns_of-in_default.ensures

pub returns-in-35 : goal.returns-in-35
returns-in-35 c form = c.number.ensures ∙ ap number_of c.columns_of.ensures ∙ head_service form _ _ c.first_byte.ensures c.in-35.is

pub returns-in-37 : goal.returns-in-37
returns-in-37 c form = c.number-in-37.ensures ∙ ap number_of c.columns_of-in-37.ensures ∙ head_company form _ _ c.first_byte.ensures c.in-37.is

pub returns-in-45 : goal.returns-in-45
returns-in-45 c form = c.number-in-45.ensures ∙ ap number_of c.columns_of-in-45.ensures ∙ head_footnote form _ _ c.first_byte.ensures c.in-45.is

pub returns-in-38 : goal.returns-in-38
returns-in-38 c form = c.code.ensures ∙ ap code_of c.columns_of-in-38.ensures ∙ head_mode form _ _ c.first_byte.ensures c.in-38.is

pub returns-in-42 : goal.returns-in-42
returns-in-42 c form = c.code-in-42.ensures ∙ ap code_of c.columns_of-in-42.ensures ∙ head_attribute form _ _ c.first_byte.ensures c.in-42.is

pub returns-in-63 : goal.returns-in-63
returns-in-63 c form = c.number-in-63.ensures ∙ ap number_of c.columns_of-in-63.ensures ∙ head_platform form _ _ c.first_byte.ensures c.in-63.is

pub returns-in_default : goal.returns-in_default
returns-in_default c form = let n = c.in_default.in_default-own.rest in
    c.code-in_default.ensures ∙ ap code_of c.columns_of-in_default.ensures ∙ head_station form _ _ c.first_byte.ensures
    n.0.0.0.0.0.1 n.0.0.0.0.1 n.0.0.0.1 n.0.0.1 n.0.1 n.1
