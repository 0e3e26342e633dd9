use Rattle.mt_shared.specs.mt_interactions.TheVariants.{Ends}
use Rattle.mt_layer.proofs.session_talk.SessionTalk.ends.Goals as goal

pub returns-clause-deed : goal.returns-clause-deed
returns-clause-deed c row t kept = λ i. Ends (kept.id i) (c.in_ok-ends.ensures row t kept.talk i)
