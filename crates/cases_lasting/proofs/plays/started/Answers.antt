use Rattle.std.proofs.Common.{◌∙◌, subst, sym}
use Rattle.mt_regained.specs.Begun.{MayStart}
use Rattle.cases_lasting.proofs.plays.started.Goals as goal

pub start-requires : goal.start-requires
start-requires c = subst MayStart (sym (c.in_ok-copy.ensures ∙ c.requires)) (c.reopened_nodes_may_start.ensures.new c.args.config.now).may
