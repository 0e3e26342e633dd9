use Rattle.std.proofs.Common.{rules, refl, subst, sym, All}
use Rattle.std.proofs.lemmas.List.Elements.{All-push}
use Rattle.cases_worker.specs.Crew.{MayServe}
use Rattle.cases_worker.proofs.crew.hire.Goals as goal

pub loop-number-preserved : goal.loop-number-preserved
loop-number-preserved g c =
    let ready = All-push (MayServe c.args.node.now) c.loop-number.hired.items c.in_ok-sender.one c.loop-number.invariant.2 c.in_ok-sender.ensures.hired in
    (refl, search rules, subst (All (MayServe c.args.node.now)) (sym c.in_ok-push-2.ensures.items) ready, search rules, search rules)
