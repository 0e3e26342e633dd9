use Rattle.mt_tlv.proofs.Narrowest.{narrow_element}
use Rattle.mt_tlv.proofs.laws.narrow_is_element.Goals as goal

pub returns : goal.returns
returns c = narrow_element
