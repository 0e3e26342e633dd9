use Rattle.std.proofs.Common.{◌≡◌, ◌∙◌, ap, refl, sym}
use Rattle.mt_model.specs.declared.node.state.NodeState.{NodeState}
use Rattle.mt_machine.specs.Effects.{events_in}
use Rattle.mt_machine.specs.Step.{after_steps, at_time, closed_between, gone_between}
use Rattle.mt_machine.specs.Telling.{told_between}
use Rattle.mt_regained.specs.mt_lasting.Changes.{change_between}
use Rattle.mt_node.specs.Configured.{ConfiguredNode}
use Rattle.mt_node.proofs.behind.made_whole.Goals as goal

pub returns : goal.returns
returns c =
    let s = c.args.node.now.state in
    let asking = c.args.asking in
    let steps = c.args.answered.steps in
    let t = c.in_ok-behind.behind in
    let there : c.node.inside.state ≡ s = ap (λ (kept : ConfiguredNode). kept.state) c.node.view_is in
    let made : t ≡ after_steps asking steps (at_time c.args.now s) = c.in_ok-behind.ensures.made in
    let events = c.in_ok-events.ensures ∙ ap events_in c.as_slice.ensures in
    let state : c.in_ok-new.field-0.value ≡ after_steps asking steps (at_time c.args.now s) = c.in_ok-new.ensures.ok ∙ made in
    let closed = c.in_ok-closed.ensures
    ∙ (λ i. closed_between (c.as_slice-2.ensures i) (c.as_slice-3.ensures i))
    ∙ (λ i. closed_between (there i).sessions (made i).sessions) in
    let gone = c.gone_between-gone.ensures
    ∙ (λ i. gone_between (c.as_slice-4.ensures i) (c.as_slice-5.ensures i))
    ∙ (λ i. gone_between (there i).fabrics (made i).fabrics) in
    record {
      reply = refl;
      told = c.in_ok-told.ensures steps events ∙ (λ i. told_between asking steps (there i) (made i));
      aside = λ i. record { session = c.session_of.ensures i; closed = closed i; gone = gone i };
      state = state;
      change = λ ceiling. c.in_ok-behind.ensures.change ceiling ∙ ap (λ (x : NodeState). change_between s ceiling x ceiling) (sym state);
      ready = tt;
    }
