use Rattle.std.proofs.Common.{◌≡◌, ◌++◌, drop}
use Rattle.mt_tlv.specs.Narrow.{narrow_elements}
use Rattle.mt_model.specs.Trees.{untagged}
use Rattle.mt_im.specs.Requests.{version_filter_tree}
use Rattle.mt_im_out.proofs.requests.write_version_blocks.Given as goal

-- what is written and what is still to be written, behind what was there
abbrev pub invariant-versions : goal.invariant-versions
invariant-versions l = l.out.items ++ narrow_elements (untagged version_filter_tree (drop l.version-index l.versions)) ≡ l.initial.out.items ++ narrow_elements (untagged version_filter_tree l.versions)
