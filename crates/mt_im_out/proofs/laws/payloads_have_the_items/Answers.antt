use Rattle.mt_im_out.proofs.Greedy.{attributes_are, events_are, apart}
use Rattle.mt_im_out.proofs.laws.payloads_have_the_items.Goals as goal

pub returns : goal.returns
returns c = record { attributes = attributes_are; events = events_are; apart = apart }
