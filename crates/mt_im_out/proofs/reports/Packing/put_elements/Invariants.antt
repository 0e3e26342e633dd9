use Rattle.std.proofs.Common.{◌≡◌, drop}
use Rattle.mt_tlv.specs.View.{elements}
use Rattle.mt_im_out.specs.Chunks.{appended}
use Rattle.mt_im_out.specs.Packing.{packed, put_all}
use Rattle.mt_im_out.proofs.reports.Packing.put_elements.Given as goal

-- the elements that are left lead to what all of them lead to
abbrev pub invariant-members : goal.invariant-members
invariant-members l = put_all (packed l.self) (appended l.path l.version (elements (drop l.element-index l.members))) ≡ put_all (packed l.initial.self) (appended l.path l.version (elements l.members))
