use Rattle.std.proofs.Common.{subst, sym}
use Rattle.mt_regained.specs.Begun.{MayStart}
use Rattle.cases_node.proofs.start.new_node.Goals as goal

pub start-requires : goal.start-requires
start-requires c = subst MayStart (sym c.in_ok-map.ensures.map) (c.reopened_nodes_may_start.ensures.new c.args.config.now).may
