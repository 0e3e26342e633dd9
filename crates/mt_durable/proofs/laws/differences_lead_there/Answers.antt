use Rattle.mt_durable.proofs.DifferenceSays.{differences_lead, differences_say}
use Rattle.mt_durable.proofs.laws.differences_lead_there.Goals as goal

pub returns : goal.returns
returns c = record {
  leads = differences_lead c.narrow_is_element.ensures c.bytes_of_a_change_are_read.ensures.read;
  says = differences_say c.narrow_is_element.ensures c.bytes_of_a_change_are_read.ensures.read;
}
