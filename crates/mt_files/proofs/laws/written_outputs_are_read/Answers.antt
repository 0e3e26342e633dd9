use Rattle.mt_files.proofs.Outputs.{output-again}
use Rattle.mt_files.proofs.laws.written_outputs_are_read.Goals as goal

pub returns : goal.returns
returns c = output-again
