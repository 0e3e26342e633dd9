-- A planned deed, where what is given is what the configuration gives.
use Rattle.std.proofs.Common.{◌≡◌, ◌∙◌, ap, subst, sym, ℕ, List}
use Rattle.std.specs.Prelude.{Err, IfErr, OnErr, Result}
use Rattle.mt_interactions.specs.mt_machine.Environment.{Environment, given_by}
use Rattle.mt_model.specs.declared.texts.config.CsrRow.{CsrRow}
use Rattle.mt_model.specs.declared.texts.config.JoinRow.{JoinRow}
use Rattle.mt_model.specs.declared.texts.config.RootRow.{RootRow}
use Rattle.mt_model.specs.texts.Contents.{Contents}
use Rattle.mt_opcreds.specs.Judged.{judged_by}
use Rattle.mt_interactions.specs.Configured.{ConfiguredInteractions, behind}
use Rattle.mt_interactions.specs.Deeds.{closed_with, fabric_at, replied}
use Rattle.mt_interactions.specs.Plan.{IsDone, applied_ledger, applied_state}
use Rattle.mt_interactions.specs.declared.deeds.Deed.{Deed}
use Rattle.mt_interactions.specs.declared.outcome.InteractionOutcome.{InteractionOutcome}
use Rattle.mt_shared.specs.Acts.{HasVerdicts}
use Rattle.mt_shared.specs.Replay.{activity_in, answer_to, behind_deed, given_in}
use Rattle.mt_shared.specs.declared.entry.Answer.{Answer}

-- verdicts of a configuration are those of each node that has it
pub has_verdicts : (one other : ConfiguredInteractions) (roots : List RootRow) (csrs : List CsrRow) (joins : List JoinRow) → HasVerdicts one roots csrs joins → other.config ≡ one.config → HasVerdicts other roots csrs joins
has_verdicts one other roots csrs joins has same =
    let Given : Contents → Environment = λ contents. record { judged = judged_by roots csrs joins; reachable = contents.reachable } in
    subst (λ (contents : Contents). Given contents ≡ given_by contents) (sym same) has

pub answer_is : (node : ConfiguredInteractions) (given : Environment) (deed : Deed) (ms : ℕ) (answer : Answer) → given ≡ given_in node
    → answer.reply ≡ replied given node.state.node node.ledger deed ms → answer.fabric ≡ fabric_at node.state.node deed → answer.closed ≡ closed_with given node.state.node deed ms
    → answer ≡ answer_to node deed ms
answer_is node given deed ms answer is replies names closes =
    let told : answer.reply ≡ replied (given_in node) node.state.node node.ledger deed ms = replies ∙ ap (λ (g : Environment). replied g node.state.node node.ledger deed ms) is in
    let ended : answer.closed ≡ closed_with (given_in node) node.state.node deed ms = closes ∙ ap (λ (g : Environment). closed_with g node.state.node deed ms) is in
    λ i. record { reply = told i; fabric = names i; closed = ended i }

pub done_is : (node : ConfiguredInteractions) (given : Environment) (deed : Deed) (ms : ℕ) (outcome : InteractionOutcome) → given ≡ given_in node
    → IsDone given node.state node.ledger (activity_in node deed ms) ms outcome → IsDone (given_in node) node.state node.ledger (activity_in node deed ms) ms outcome
done_is node given deed ms outcome is done = subst (λ (g : Environment). IsDone g node.state node.ledger (activity_in node deed ms) ms outcome) is done

-- What an outcome that is the deed's makes of the node is the node behind the deed.
pub behind_is : (node : ConfiguredInteractions) (deed : Deed) (ms : ℕ) (outcome : InteractionOutcome) → IsDone (given_in node) node.state node.ledger (activity_in node deed ms) ms outcome
    → behind (applied_state outcome node.state) (applied_ledger outcome node.state node.ledger) node ≡ behind_deed node deed ms
behind_is node deed ms outcome done =
    let state = done.state in
    let ledger = done.ledger in
    λ i. behind (state i) (ledger i) node

-- WHAT IS TOLD OF A REFUSAL.

pub err_is : {T E : Type 0} (Told : E → Type 0) (result : Result T E) (error : E) → result ≡ Err error → IfErr result Told → Told error
err_is Told result error is told = subst (λ (r : Result _ _). IfErr r Told) is told

pub on_err : {T E : Type 0} (Told : Type 0) (result : Result T E) (error : E) → result ≡ Err error → OnErr result Told → Told
on_err Told result error is told = subst (λ (r : Result _ _). OnErr r Told) is told
