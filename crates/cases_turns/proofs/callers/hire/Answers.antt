use Rattle.std.proofs.Common.{rules, refl, subst, sym, All}
use Rattle.std.proofs.lemmas.List.Elements.{All-push}
use Rattle.cases_turns.specs.Callers.{MayCall}
use Rattle.cases_turns.proofs.callers.hire.Goals as goal

pub loop-number-preserved : goal.loop-number-preserved
loop-number-preserved g c =
    let ready = All-push (MayCall c.args.node.now) c.loop-number.callers.items c.in_ok-one.one c.loop-number.invariant.2 c.in_ok-one.ensures.hired in
    (refl, search rules, subst (All (MayCall c.args.node.now)) (sym c.in_ok-push.ensures.items) ready, search rules, search rules)
