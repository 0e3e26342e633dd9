use Rattle.std.proofs.Common.{◌≡◌, drop}
use Rattle.mt_im_out.specs.Packing.{packed, put_attributes}
use Rattle.mt_im_out.proofs.reports.Packing.put_attributes.Given as goal

-- the items that are left lead to what all of them lead to
abbrev pub invariant-items : goal.invariant-items
invariant-items l = put_attributes (packed l.self) (drop l.item-index l.items) ≡ put_attributes (packed l.initial.self) l.items
