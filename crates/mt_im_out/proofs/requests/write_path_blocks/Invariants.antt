use Rattle.std.proofs.Common.{◌≡◌, ◌++◌, drop}
use Rattle.mt_tlv.specs.Narrow.{narrow_elements}
use Rattle.mt_model.specs.Trees.{untagged}
use Rattle.mt_model.specs.messages.Blocks.{path_tree}
use Rattle.mt_im_out.proofs.requests.write_path_blocks.Given as goal

-- what is written and what is still to be written, behind what was there
abbrev pub invariant-paths : goal.invariant-paths
invariant-paths l = l.out.items ++ narrow_elements (untagged path_tree (drop l.path-index l.paths)) ≡ l.initial.out.items ++ narrow_elements (untagged path_tree l.paths)
