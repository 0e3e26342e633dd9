-- What stands in front of an attribute's value, and what is written of it while it is made.
use Rattle.std.specs.Prelude.{ℕ, List, take, ◌++◌}
use Rattle.mt_tlv.specs.declared.value.Tag.TheVariants.{Anonymous, Context}
use Rattle.mt_tlv.specs.Narrow.{narrow, opening}
use Rattle.mt_tlv.specs.Tree.{uint}
use Rattle.mt_model.specs.declared.messages.message.Path.{Path}
use Rattle.mt_model.specs.messages.Blocks.{path_tree}
use Rattle.mt_im_out.specs.declared.front.Front.{Front}

-- the bytes that are written
abbrev pub written_in : Front → List ℕ
written_in front = take front.len front.bytes

-- the bytes of an attribute's item that stand in front of the value: AttributeReport, AttributeData, the
-- version and the path
abbrev pub front_of : Path → ℕ → List ℕ
front_of path version = (opening Anonymous 21 ++ opening (Context 1) 21) ++ (narrow (Context 0) (uint version) ++ narrow (Context 1) (path_tree path))
