use Rattle.mt_interactions.proofs.Committed.{leads_on}
use Rattle.mt_interactions.proofs.laws.commits_lead_on.Goals as goal

pub returns : goal.returns
returns c = leads_on c.changes_lead_on.ensures.lead c.committed_bytes_say_the_change.ensures.nothing c.committed_bytes_say_the_change.ensures.said
