use Rattle.mt_im_out.proofs.Greedy.{within}
use Rattle.mt_im_out.proofs.laws.payloads_are_within.Goals as goal

pub returns : goal.returns
returns c = within
