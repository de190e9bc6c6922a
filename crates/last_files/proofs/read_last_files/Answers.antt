-- `read_last_files` meets its contract: each reader's word handed on. Assumes nothing.
use mathlib.Core.Path.{◌≡◌}
use mathlib.Core.Bool.{true}
use Rattle.iff.specs.Refusals.{fine}
use Rattle.file_laws.proofs.ContextLaws.{groups_back, blocks_back}
use Rattle.last_files.proofs.read_last_files.Goals as goal

-- WHAT THE READERS ASK FOR
pub read_timetbls-blocks-requires : goal.read_timetbls-blocks-requires
read_timetbls-blocks-requires c =
    λ g. (c.requires g).timetbls

pub read_group_file-v2-requires : goal.read_group_file-v2-requires
read_group_file-v2-requires c =
    let Right : Type 0 = fine c.args.v ≡ true in
    let back_timetbls : fine c.read_timetbls-blocks.result.verdict ≡ true → Right = λ g. blocks_back c.read_timetbls-blocks.ensures.file g in
    λ g. (c.requires (back_timetbls g)).changes

pub read_group_file-v3-requires : goal.read_group_file-v3-requires
read_group_file-v3-requires c =
    let Right : Type 0 = fine c.args.v ≡ true in
    let back_timetbls : fine c.read_timetbls-blocks.result.verdict ≡ true → Right = λ g. blocks_back c.read_timetbls-blocks.ensures.file g in
    let back_changes : fine c.read_group_file-v2.result ≡ true → Right = λ g. back_timetbls (groups_back c.read_group_file-v2.ensures g) in
    λ g. (c.requires (back_changes g)).xfootnote

pub read_group_file-v4-requires : goal.read_group_file-v4-requires
read_group_file-v4-requires c =
    let Right : Type 0 = fine c.args.v ≡ true in
    let back_timetbls : fine c.read_timetbls-blocks.result.verdict ≡ true → Right = λ g. blocks_back c.read_timetbls-blocks.ensures.file g in
    let back_changes : fine c.read_group_file-v2.result ≡ true → Right = λ g. back_timetbls (groups_back c.read_group_file-v2.ensures g) in
    let back_xfootnote : fine c.read_group_file-v3.result ≡ true
    → Right = λ g. back_changes (groups_back c.read_group_file-v3.ensures g) in
    λ g. (c.requires (back_xfootnote g)).xchanges

-- THE TABLES KEEP THEIR LENGTHS
pub shape_of-t_timetbls : goal.shape_of-t_timetbls
shape_of-t_timetbls c = c.read_timetbls-blocks.ensures.file.kept

pub shape_of-t_changes : goal.shape_of-t_changes
shape_of-t_changes c = c.read_group_file-v2.ensures.kept

pub shape_of-t_xfootnote : goal.shape_of-t_xfootnote
shape_of-t_xfootnote c = c.read_group_file-v3.ensures.kept

pub shape_of-t_xchanges : goal.shape_of-t_xchanges
shape_of-t_xchanges c = c.read_group_file-v4.ensures.kept

pub returns : goal.returns
returns c =
    record {
      after_timetbls = _;
      after_changes = _;
      after_xfootnote = _;
      rows = _;
      blocks = c.read_timetbls-blocks.ensures.file;
      counted = c.read_timetbls-blocks.ensures.counted;
      changed = c.read_group_file-v2.ensures;
      marked = c.read_group_file-v3.ensures;
      excepted = c.read_group_file-v4.ensures;
    }
