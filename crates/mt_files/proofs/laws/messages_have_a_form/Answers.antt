use Rattle.mt_files.proofs.Outputs.{output-form}
use Rattle.mt_files.proofs.laws.messages_have_a_form.Goals as goal

pub returns : goal.returns
returns c = output-form
