use Rattle.mt_im_out.proofs.Ends.{last_ends}
use Rattle.mt_im_out.proofs.laws.last_payload_ends.Goals as goal

pub returns : goal.returns
returns c = last_ends
