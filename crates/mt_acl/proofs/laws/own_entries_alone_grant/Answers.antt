use Rattle.mt_acl.proofs.FirstGrants.{is_granted-own}
use Rattle.mt_acl.proofs.laws.own_entries_alone_grant.Goals as goal

pub returns : goal.returns
returns c = is_granted-own
