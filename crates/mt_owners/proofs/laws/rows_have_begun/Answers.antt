use Rattle.mt_owners.proofs.Exact.{begun}
use Rattle.mt_owners.proofs.laws.rows_have_begun.Goals as goal

pub returns : goal.returns
returns c = begun
