use Rattle.mt_lasting.proofs.Committed.{committed_say, nothing_committed}
use Rattle.mt_lasting.proofs.laws.committed_bytes_say_the_change.Goals as goal

pub returns : goal.returns
returns c = record {
  nothing = nothing_committed c.changes_lead_on.ensures.empty;
  said = committed_say c.changes_lead_on.ensures.empty c.maps_and_changes_are_elements.ensures.changes;
}
