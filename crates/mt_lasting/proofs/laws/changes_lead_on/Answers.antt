use Rattle.mt_lasting.proofs.Changing.{lead_on}
use Rattle.mt_lasting.proofs.Empty.{empty_where_equal}
use Rattle.mt_lasting.proofs.Maps.{are_changes}
use Rattle.mt_lasting.proofs.laws.changes_lead_on.Goals as goal

pub returns : goal.returns
returns c = record { ascend = are_changes; lead = lead_on; empty = empty_where_equal }
