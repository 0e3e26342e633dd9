use Rattle.mt_owners.proofs.Exact.{exact}
use Rattle.mt_owners.proofs.laws.owners_are_exact.Goals as goal

pub returns : goal.returns
returns c = exact
