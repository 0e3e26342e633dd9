use Rattle.mt_files.proofs.Recordings.{read-form}
use Rattle.mt_files.proofs.laws.events_have_a_form.Goals as goal

pub returns : goal.returns
returns c = read-form
