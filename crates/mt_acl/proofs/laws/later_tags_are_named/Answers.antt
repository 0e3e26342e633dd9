use Rattle.mt_acl.proofs.Tags.{names_cat-parts}
use Rattle.mt_acl.proofs.laws.later_tags_are_named.Goals as goal

pub returns : goal.returns
returns c = names_cat-parts
