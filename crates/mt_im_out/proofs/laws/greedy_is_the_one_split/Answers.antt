use Rattle.mt_im_out.proofs.Only.{is_one, only}
use Rattle.mt_im_out.proofs.laws.greedy_is_the_one_split.Goals as goal

pub returns : goal.returns
returns c = record { is_one = is_one; only = only }
