-- What the verdicts are matters to commands of Operational Credentials alone.
use Rattle.std.proofs.Common.{◌≡◌, ℕ, ◌==◌, inl, inr, Bool, true, false, List, [], Option, None, Some, Result, Ok, Err, refl, ap, sym, ◌∙◌, subst, is_some, if◌then◌else◌}
use Rattle.std.proofs.lemmas.Bool.{cases_Bool}
use Rattle.mt_tlv.specs.declared.value.Value.{Value}
use Rattle.mt_invoke.specs.Checking.{checked, has_form}
use Rattle.mt_meta.specs.clusters.OperationalCredentials as operational_credentials
use Rattle.mt_meta.specs.declared.meta.CommandMeta.{CommandMeta}
use Rattle.mt_model.specs.Optional.{is_that}
use Rattle.mt_model.specs.messages.Effects.{refused_at}
use Rattle.mt_model.specs.rows.Seen.{Observation}
use Rattle.mt_model.specs.declared.messages.message.Request.{Request}
use Rattle.mt_model.specs.declared.messages.message.Request.TheVariants as requests
use Rattle.mt_model.specs.declared.messages.status.Status.{Status}
use Rattle.mt_model.specs.declared.messages.status.Status.TheVariants.{InvalidCommand}
use Rattle.mt_model.specs.declared.node.action.Action.TheVariants.{Ask}
use Rattle.mt_model.specs.declared.node.action.Effect.{Effect}
use Rattle.mt_model.specs.declared.node.action.NodeStep.{NodeStep}
use Rattle.mt_model.specs.declared.node.state.NodeState.{NodeState}
use Rattle.mt_model.specs.declared.rows.place.Place.{Place}
use Rattle.mt_model.specs.declared.tables.access.Actor.{Actor}
use Rattle.mt_opcreds.specs.Judged.{judged_by}
use Rattle.mt_opcreds.specs.Laws.{KeepsRules}
use Rattle.mt_machine.specs.Commands.{carried_out, is_commissioning, of_others, unless_refused}
use Rattle.mt_commission.specs.Commands as commission
use Rattle.mt_opcreds.specs.Commands as credentials
use Rattle.mt_machine.specs.Environment.{Environment}
use Rattle.mt_machine.specs.Laws.{OneLeaves, StaysValid, TakesItsSteps}
use Rattle.mt_machine.specs.Leaving.{has_left}
use Rattle.mt_machine.specs.Observation.{observation}
use Rattle.mt_machine.specs.State.{IsValid}
use Rattle.mt_machine.specs.Step.{after_action, after_steps, aside_of, asked_steps, asker, at_time, gone_between, is_late, is_untimely, steps_to}
use Rattle.mt_machine.specs.Taking.{may_take_all}
use Rattle.mt_node.specs.Answered.{is_of_credentials}

-- no verdict at all
abbrev pub bare : Environment → Environment
bare given = record { judged = judged_by [] [] []; reachable = given.reachable }

pub bare_keeps : (given : Environment) → KeepsRules (bare given).judged
bare_keeps given = record { roots = refl; csrs = refl; joins = refl }

-- what is given to an action of nobody
abbrev pub nothing_given : Environment
nothing_given = record { judged = judged_by [] [] []; reachable = [] }

pub nothing_keeps : KeepsRules nothing_given.judged
nothing_keeps = record { roots = refl; csrs = refl; joins = refl }

-- what the other crates carry out
abbrev others : Environment → Observation → Actor → Place → Value → Effect
others given o actor command fields = if is_commissioning command.cluster then commission.invoked o.known given.reachable actor command fields else of_others o actor command fields

same_carried : (given : Environment) (o : Observation) (actor : Actor) (command : Place) (fields : Value) → (command.cluster == operational_credentials.cluster) ≡ false → carried_out given o actor command fields ≡ carried_out (bare given) o actor command fields
same_carried given o actor command fields other =
    ap (λ (b : Bool). if b then credentials.invoked given.judged o.known actor command fields else others given o actor command fields) other
    ∙ sym (ap (λ (b : Bool). if b then credentials.invoked (bare given).judged o.known actor command fields else others given o actor command fields) other)

same_checked : (given : Environment) (o : Observation) (actor : Actor) (command : Place) (fields : Value) (may : Result CommandMeta Status) → (command.cluster == operational_credentials.cluster) ≡ false
    → unless_refused given o actor command fields may ≡ unless_refused (bare given) o actor command fields may
same_checked given o actor command fields (Err status) other = refl
same_checked given o actor command fields (Ok meta) other = ap (λ (effect : Effect). if has_form command fields then effect else refused_at command InvalidCommand) (same_carried given o actor command fields other)

same_steps : (given : Environment) (o : Observation) (actor : Actor) (stood : Bool) (request : Request) → is_of_credentials request ≡ false → steps_to given o actor stood request ≡ steps_to (bare given) o actor stood request
same_steps given o actor stood (requests.Status code) other = refl
same_steps given o actor stood (requests.Read paths wanted minimum filtered versions) other = refl
same_steps given o actor stood (requests.Subscribe keep floor ceiling paths wanted minimum filtered versions) other = refl
same_steps given o actor stood (requests.Write suppress timed items) other = refl
same_steps given o actor stood (requests.Invoke suppress timed command fields) other =
    ap (λ (effect : Effect). if is_untimely stood timed then [] else effect.steps) (same_checked given o actor command fields (checked o.seen actor command timed) other)
same_steps given o actor stood (requests.Timed ms) other = refl

same_asked : (given : Environment) (s : NodeState) (request : Request) (deadline : Option ℕ) (now : ℕ) (asking : Option Actor) → is_of_credentials request ≡ false
    → asked_steps given s request deadline now asking ≡ asked_steps (bare given) s request deadline now asking
same_asked given s request deadline now None other = refl
same_asked given s request deadline now (Some actor) other =
    ap (λ (steps : List NodeStep). if is_late deadline now then [] else steps) (same_steps given (observation actor.fabric (at_time now s)) actor (is_some deadline) request other)

module _ (given : Environment) (s : NodeState) (valid : IsValid s) (actor : Actor) (request : Request) (deadline : Option ℕ) (now : ℕ) (rules : is_of_credentials request ≡ true → KeepsRules given.judged) where
  pub taken : TakesItsSteps → may_take_all (asker s actor) (asked_steps given s request deadline now (asker s actor)) (at_time now s) ≡ true
  taken takes = elim (cases_Bool (is_of_credentials request)) [
    | inl its ↦ takes given s (Ask actor request deadline) now (rules its) valid
    | inr other ↦
        subst (λ (steps : List NodeStep). may_take_all (asker s actor) steps (at_time now s) ≡ true) (sym (same_asked given s request deadline now (asker s actor) other))
        (takes (bare given) s (Ask actor request deadline) now (bare_keeps given) valid)
  ]

  pub leaves_one : OneLeaves → (fabric : ℕ) → has_left s (after_action given s (Ask actor request deadline) now) fabric ≡ is_that fabric (aside_of given s (Ask actor request deadline) now).gone
  leaves_one one fabric = elim (cases_Bool (is_of_credentials request)) [
    | inl its ↦ one given s (Ask actor request deadline) now fabric (rules its) valid
    | inr other ↦
        subst (λ (steps : List NodeStep). has_left s (after_steps (asker s actor) steps (at_time now s)) fabric ≡ is_that fabric (gone_between s.fabrics (after_steps (asker s actor) steps (at_time now s)).fabrics))
        (sym (same_asked given s request deadline now (asker s actor) other)) (one (bare given) s (Ask actor request deadline) now fabric (bare_keeps given) valid)
  ]

  pub stays : StaysValid → IsValid (after_action given s (Ask actor request deadline) now)
  stays valid_behind = elim (cases_Bool (is_of_credentials request)) [
    | inl its ↦ valid_behind given s (Ask actor request deadline) now (rules its) valid
    | inr other ↦
        subst (λ (steps : List NodeStep). IsValid (after_steps (asker s actor) steps (at_time now s))) (sym (same_asked given s request deadline now (asker s actor) other))
        (valid_behind (bare given) s (Ask actor request deadline) now (bare_keeps given) valid)
  ]
