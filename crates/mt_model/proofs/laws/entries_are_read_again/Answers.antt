use Rattle.mt_model.proofs.Entries.{read_again}
use Rattle.mt_model.proofs.laws.entries_are_read_again.Goals as goal

pub returns : goal.returns
returns c = read_again
