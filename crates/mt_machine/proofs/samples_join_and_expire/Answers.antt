-- The samples, by computation.
use Rattle.std.proofs.Common.{refl}
use Rattle.mt_meta.specs.Table.{attributes_of, clusters_of, endpoints, extensions_of, globals}
use Rattle.mt_machine.proofs.samples_join_and_expire.Goals as goal

pub returns-clause-joined : goal.returns-clause-joined
unfolding attributes_of clusters_of endpoints extensions_of globals
returns-clause-joined c = refl

pub returns-clause-owner : goal.returns-clause-owner
unfolding attributes_of clusters_of endpoints extensions_of globals
returns-clause-owner c = refl

pub returns-clause-follows : goal.returns-clause-follows
unfolding attributes_of clusters_of endpoints extensions_of globals
returns-clause-follows c = refl

pub returns-clause-session_follows : goal.returns-clause-session_follows
unfolding attributes_of clusters_of endpoints extensions_of globals
returns-clause-session_follows c = refl

pub returns-clause-not_yet : goal.returns-clause-not_yet
unfolding attributes_of clusters_of endpoints extensions_of globals
returns-clause-not_yet c = refl

pub returns-clause-gone : goal.returns-clause-gone
unfolding attributes_of clusters_of endpoints extensions_of globals
returns-clause-gone c = refl

pub returns-clause-entries : goal.returns-clause-entries
unfolding attributes_of clusters_of endpoints extensions_of globals
returns-clause-entries c = refl

pub returns-clause-roots : goal.returns-clause-roots
unfolding attributes_of clusters_of endpoints extensions_of globals
returns-clause-roots c = refl

pub returns-clause-breadcrumb : goal.returns-clause-breadcrumb
unfolding attributes_of clusters_of endpoints extensions_of globals
returns-clause-breadcrumb c = refl

pub returns-clause-label_stays : goal.returns-clause-label_stays
unfolding attributes_of clusters_of endpoints extensions_of globals
returns-clause-label_stays c = refl

pub returns-clause-pase_ends : goal.returns-clause-pase_ends
unfolding attributes_of clusters_of endpoints extensions_of globals
returns-clause-pase_ends c = refl

pub returns-clause-session_ends : goal.returns-clause-session_ends
unfolding attributes_of clusters_of endpoints extensions_of globals
returns-clause-session_ends c = refl

pub returns-clause-again : goal.returns-clause-again
unfolding attributes_of clusters_of endpoints extensions_of globals
returns-clause-again c = refl

pub returns-clause-over_case : goal.returns-clause-over_case
unfolding attributes_of clusters_of endpoints extensions_of globals
returns-clause-over_case c = refl

pub returns-clause-owner_leaves : goal.returns-clause-owner_leaves
unfolding attributes_of clusters_of endpoints extensions_of globals
returns-clause-owner_leaves c = refl

pub returns-clause-still_armed : goal.returns-clause-still_armed
unfolding attributes_of clusters_of endpoints extensions_of globals
returns-clause-still_armed c = refl

pub returns-clause-context_stays : goal.returns-clause-context_stays
unfolding attributes_of clusters_of endpoints extensions_of globals
returns-clause-context_stays c = refl

pub returns-clause-updated : goal.returns-clause-updated
unfolding attributes_of clusters_of endpoints extensions_of globals
returns-clause-updated c = refl

pub returns-clause-given_back : goal.returns-clause-given_back
unfolding attributes_of clusters_of endpoints extensions_of globals
returns-clause-given_back c = refl

pub returns-clause-new_label : goal.returns-clause-new_label
unfolding attributes_of clusters_of endpoints extensions_of globals
returns-clause-new_label c = refl

pub returns-clause-limit : goal.returns-clause-limit
unfolding attributes_of clusters_of endpoints extensions_of globals
returns-clause-limit c = refl
