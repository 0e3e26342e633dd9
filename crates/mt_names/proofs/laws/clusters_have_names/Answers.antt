use Rattle.std.proofs.Common.{refl}
use Rattle.mt_meta.specs.Table.{clusters_of, endpoints}
use Rattle.mt_names.specs.Names.{clusters}
use Rattle.mt_names.proofs.laws.clusters_have_names.Goals as goal

pub returns-clause-all : goal.returns-clause-all
unfolding clusters clusters_of endpoints
returns-clause-all c = refl

pub returns-clause-only : goal.returns-clause-only
unfolding clusters clusters_of endpoints
returns-clause-only c = refl
