use Rattle.mt_tlv.proofs.Elements.{one_element}
use Rattle.mt_tlv.proofs.laws.no_element_begins_another.Goals as goal

pub returns : goal.returns
returns c = one_element
