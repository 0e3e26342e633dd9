-- What is committed for an outcome leads on.
use Rattle.std.proofs.Common.{◌≡◌, ◌∙◌, ◌++◌, ap, sym, subst, ℕ, List}
use Rattle.mt_durable.specs.declared.durable.Entry.{Entry}
use Rattle.mt_durable.specs.Reading.{Says}
use Rattle.mt_model.specs.declared.node.state.NodeState.{NodeState}
use Rattle.mt_node.specs.mt_lasting.Changes.{bytes_to_commit, change_between, raised}
use Rattle.mt_node.specs.mt_lasting.Laws.{ActionsKeepTheBoot, ChangesLeadOn, CommittedBytesSayIt, NothingToCommit, RaisedCeilingsComeFirst}
use Rattle.mt_runs.specs.mt_ledger.History.{History, recorded_all, without_left}
use Rattle.mt_node.specs.mt_machine.State.{State}
use Rattle.mt_node.specs.Plan as nodes
use Rattle.mt_node.specs.Plan.{applied}
use Rattle.mt_node.specs.declared.outcome.Outcome.{Outcome}
use Rattle.mt_interactions.specs.Committing.{CommitsLeadOn}
use Rattle.mt_interactions.specs.Plan.{applied_history, told_to_commit}
use Rattle.mt_interactions.proofs.Recorded.{ceiling_fits}

-- What a planned outcome of the node commits, with what raises the ceiling, is what changes from the state before it to that behind it.
pub told_between : RaisedCeilingsComeFirst → ActionsKeepTheBoot → (s : State) (h : History) (node : Outcome) (ms : ℕ) → nodes.IsPlanned s.node node
    → told_to_commit h ms node ≡ bytes_to_commit (change_between s.node h.numbers.ceiling (applied node s.node) (recorded_all ms node.told (without_left node.gone h)).numbers.ceiling)
told_between first boots s h node ms planned =
    let plan = planned.1.1.1 in
    let t : NodeState = applied node s.node in
    let ceiling : ℕ = h.numbers.ceiling in
    let next : ℕ = (recorded_all ms node.told (without_left node.gone h)).numbers.ceiling in
    let same : s.node.boot ≡ t.boot = sym (ap (λ (x : NodeState). x.boot) plan.state ∙ boots planned.0 s.node planned.1.0 planned.1.1.0) in
    ap bytes_to_commit (ap (λ (said : List Entry). raised ceiling next ++ said) (plan.change ceiling) ∙ sym (first s.node t ceiling next same))

pub leads_on : ChangesLeadOn → NothingToCommit → CommittedBytesSayIt → CommitsLeadOn
leads_on lead nothing said s l outcome planned =
    let ceiling : ℕ = l.history.numbers.ceiling in
    let t : NodeState = applied outcome.node s.node in
    let next : ℕ = (applied_history outcome l.history).numbers.ceiling in
    let none = nothing s.node t ceiling next in
    let fits = ceiling_fits outcome.ms outcome.node.told outcome.node.gone l.history planned.recordable in
    record {
      nothing = (λ empty. none.0 (sym planned.change ∙ empty), λ equal. planned.change ∙ none.1 equal);
      says = λ differ. subst (Says (change_between s.node ceiling t next)) (sym planned.change)
          (said s.node t ceiling next planned.node.1.1.1.valid fits differ);
      leads = lead s.node t ceiling next;
      within = fits;
    }
