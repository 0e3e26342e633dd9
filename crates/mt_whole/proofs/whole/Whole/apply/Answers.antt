use Rattle.std.proofs.Common.{◌≡◌, List, sym, ap, subst, ◌∙◌, rules}
use Rattle.std.proofs.lemmas.List.{with_items_is}
use Rattle.std.specs.Vec.{with_items}
use Rattle.mt_interactions.specs.mt_runs.Lines.{next}
use Rattle.mt_interactions.specs.mt_machine.State.{State}
use Rattle.mt_interactions.specs.mt_ledger.Ledger.{Ledger}
use Rattle.mt_interactions.specs.Configured.{ConfiguredInteractions}
use Rattle.mt_interactions.specs.Plan.{applied_ledger, applied_state}
use Rattle.mt_whole.specs.declared.talks.SessionTalk as code
use Rattle.mt_whole.specs.Talks.{AreTalks, put}
use Rattle.mt_whole.proofs.Planned.{talks_applied}
use Rattle.mt_whole.proofs.whole.Whole.apply.Goals as goal

pub returns-clause-stands : goal.returns-clause-stands
returns-clause-stands c given w event is brings =
    let whole = c.args.self.now in
    let outcome = c.args.outcome in
    let here : (with_items whole.talks c.put_if_any.new.talks).items ≡ c.put_if_any.new.talks = with_items_is whole.talks c.put_if_any.new.talks (search rules) in
    record {
      state = ap (λ (k : ConfiguredInteractions). k.state) c.apply.ensures ∙ ap (λ (s : State). applied_state outcome.interactions s) is.state ∙ brings.state;
      ledger = ap (λ (k : ConfiguredInteractions). k.ledger) c.apply.ensures ∙ ap (λ (x : State × Ledger). applied_ledger outcome.interactions x.0 x.1) (λ i. (is.state i, is.ledger i)) ∙ brings.ledger;
      talks = subst (λ (talks : List code.SessionTalk). AreTalks talks (next given w event).talks) (sym (with_items_is (with_items whole.talks c.put_if_any.new.talks) c.let_go.new.talks (search rules)))
          (talks_applied given w event whole.interactions.state whole.interactions.ledger outcome whole.talks.items c.let_go.new.talks c.closed.result.now is.state c.requires brings is.talks c.closed.ensures
          (λ ts are. c.let_go.ensures ts
          (subst (λ (talks : List code.SessionTalk). AreTalks talks ts) (sym (c.deref_mut-2.ensures.value ∙ here ∙ c.put_if_any.ensures ∙ ap (put outcome.talk) c.deref_mut.ensures.value)) are)));
    }
