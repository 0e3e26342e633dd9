use Rattle.mt_durable.proofs.FromEmpty.{from_empty}
use Rattle.mt_durable.proofs.Merging.{merged}
use Rattle.mt_durable.proofs.laws.changes_lead_on.Goals as goal

pub returns : goal.returns
returns c = record { merged = merged; from_empty = from_empty }
