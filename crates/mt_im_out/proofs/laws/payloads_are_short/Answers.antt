use Rattle.mt_im_out.proofs.Lengths.{short}
use Rattle.mt_im_out.proofs.laws.payloads_are_short.Goals as goal

pub returns : goal.returns
returns c = short
