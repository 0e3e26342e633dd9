use Rattle.std.proofs.Common.{◌≡◌, ℕ, true, false, is_some, not, refl, sym, ap, subst, ◌∙◌}
use Rattle.mt_talk.specs.Talks.{IsTalkOf, after_resend}
use Rattle.mt_talk.specs.declared.talk.Talk as code
use Rattle.mt_interactions.specs.mt_machine.Step.{session_actor}
use Rattle.mt_interactions.specs.mt_runs.Whole.{is_live}
use Rattle.mt_whole.specs.Plan.{IsAgain, IsQuiet, given_to}
use Rattle.mt_whole.proofs.Planned.{again_over, if_ok, quiet_again}
use Rattle.mt_whole.proofs.resends.planned_again.Goals as goal

pub returns-then-is_none-clause-again : goal.returns-then-is_none-clause-again
returns-then-is_none-clause-again g c t at =
    let verdicts = c.args.verdicts.now in
    let whole = c.args.whole.now in
    let given = given_to whole (g.V.Verdicts.roots verdicts) (g.V.Verdicts.csrs verdicts) (g.V.Verdicts.joins verdicts) in
    let s = whole.interactions.state in
    let l = whole.interactions.ledger in
    let ms = c.args.ms in
    let off : is_live s.node t.row.session ≡ false =
    ap (λ (n : ℕ). is_some (session_actor s.node n)) (sym at.id) ∙ ap is_some (sym c.actor.ensures) ∙ c.is_none.ensures ∙ ap not c.if-is_none.true in
    if_ok c.quiet.result (IsQuiet given s l ms) (IsAgain given s l ms t) (λ outcome quiet. quiet_again given s l ms t outcome off quiet) c.quiet.ensures

pub returns-clause-again : goal.returns-clause-again
returns-clause-again g c t at =
    let verdicts = c.args.verdicts.now in
    let whole = c.args.whole.now in
    let given = given_to whole (g.V.Verdicts.roots verdicts) (g.V.Verdicts.csrs verdicts) (g.V.Verdicts.joins verdicts) in
    let s = whole.interactions.state in
    let l = whole.interactions.ledger in
    let ms = c.args.ms in
    let row = t.row in
    let on : is_live s.node row.session ≡ true =
    ap (λ (n : ℕ). is_some (session_actor s.node n)) (sym at.id) ∙ ap is_some (sym c.actor.ensures) ∙ c.is_none.ensures ∙ ap not c.if-is_none.false in
    let copied : IsTalkOf c.in_ok-talk.talk row t.talk = subst (λ (talk : code.Talk). IsTalkOf talk row t.talk) (sym c.in_ok-talk.ensures) at.talk in
    let made = c.in_ok-datagrams.ensures in
    let stands : IsTalkOf c.resend.new.self row (after_resend ms t.talk) = made.stands row t.talk copied in
    again_over given s l ms t c.args.talk.now.id c.latest.result c.into_vec.result.items c.into_vec-2.result.items
    (record { sent = c.in_ok-all_sent.field-0; fresh = _; interactions = c.in_ok-plan_ends.field-0; talk = _ })
    on at.id c.in_ok-all_sent.ensures (c.latest.ensures ∙ stands.latest) (c.into_vec.ensures ∙ made.datagrams row t.talk copied) refl c.in_ok-plan_ends.ensures (c.into_vec-2.ensures ∙ made.ends row t.talk copied) (at.id, stands)
