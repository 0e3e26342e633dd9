use Rattle.mt_im.proofs.Fitting.{spelled_fits}
use Rattle.mt_im.proofs.laws.spelled_fits.Goals as goal

pub returns : goal.returns
returns c = λ opcode request v s allowed. spelled_fits opcode request v s allowed
