use Rattle.mt_im_out.proofs.Greedy.{full}
use Rattle.mt_im_out.proofs.laws.payloads_are_full.Goals as goal

pub returns : goal.returns
returns c = full
