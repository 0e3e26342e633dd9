use Rattle.std.proofs.lemmas.Result.{IfOk-weaker}
use Rattle.mt_files.specs.Lines.{lines_of}
use Rattle.mt_files.proofs.Outputs.{messages-short}
use Rattle.mt_files.proofs.output.read_output.Goals as goal

pub returns-clause-short : goal.returns-clause-short
returns-clause-short c = IfOk-weaker c.messages.result _ _ (messages-short (lines_of c.args.bytes.now)) c.messages.ensures.read
