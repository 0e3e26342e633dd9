-- Which events an action tells, and whose they are.
use Rattle.std.proofs.Common.{◌≡◌, ℕ, ◌==◌, ◌||◌, Bool, true, false, List, [], ◌∷◌, ◌++◌, Option, Some, None, append-nil, arith, refl, sym, ap, ◌∙◌, subst, if◌then◌else◌, map}
use Rattle.std.proofs.lemmas.Bool.{and_from, and_parts, or_right}
use Rattle.std.specs.List.{list_all}
use Rattle.std.specs.Option.{option_map}
use Rattle.mt_commission.specs.Laws as commission_laws
use Rattle.mt_commission.specs.Laws.{StepsAreSound, StepsStandFirst}
use Rattle.mt_model.specs.tables.Known.{Known, bare_armed, bare_network}
use Rattle.mt_model.specs.declared.messages.message.Request.{Request}
use Rattle.mt_model.specs.declared.node.action.Action.{Action}
use Rattle.mt_model.specs.declared.node.action.Action.TheVariants.{Ask, Nothing}
use Rattle.mt_model.specs.declared.node.action.Action.TheVariants as actions
use Rattle.mt_model.specs.declared.node.action.NodeStep.{NodeStep}
use Rattle.mt_model.specs.declared.node.action.NodeStep.TheVariants.{SetRow, SetEntries, PutNetwork, RemoveNetwork, ConnectNetwork, MoveNetwork, Arm, Renew, Expire, Complete, AddRoot, Csr, AddFabric, UpdateFabric, RemoveFabric, Label, Emit}
use Rattle.mt_model.specs.declared.node.state.NodeState.{NodeState}
use Rattle.mt_model.specs.declared.tables.access.AclEntry.{AclEntry}
use Rattle.mt_model.specs.declared.tables.access.Actor.{Actor}
use Rattle.mt_model.specs.declared.tables.fabric.Fabric.{Fabric}
use Rattle.mt_model.specs.declared.tables.network.Armed.{Armed}
use Rattle.mt_model.specs.declared.tables.network.Network.{Network}
use Rattle.mt_opcreds.specs.Laws.{KeepsRules, StepsAreWellFormed, StepsFit}
use Rattle.mt_opcreds.specs.Moves.{IsMove, StepsAreMoves, expires, expires_and_leaves, joins, leaves, names, nothing, renews, requests, trusts}
use Rattle.mt_write.specs.Laws.{LeavesSound, NobodySetsScoped, TouchesItsOwn, is_own_step}
use Rattle.mt_machine.specs.Effects.{events_in, is_setting_step}
use Rattle.mt_machine.specs.Environment.{Environment}
use Rattle.mt_admin.specs.Windows.{closed, has_ended, number_at, window_end}
use Rattle.mt_machine.specs.Requests.{RequestLaws}
use Rattle.mt_machine.specs.Rollback.{is_due}
use Rattle.mt_machine.specs.State.{IsValid, is_among}
use Rattle.mt_machine.specs.Step.{after_steps, asked_steps, asker, asker_of, at_time, gone_between, steps_of, rows_of_nobody}
use Rattle.mt_machine.specs.Telling.{is_told_as, is_told_to, joined_between, joining_events, leaving_events, told_between}
use Rattle.mt_machine.proofs.Asked.{asked_by, asker_asks, asker_known, is_asker, is_known}
use Rattle.mt_machine.proofs.Times.{fabrics-stay, gone_none}
use Rattle.mt_machine.proofs.Counting.{all-weaker, impossible}

-- The asker's own steps tell it alone.
own_told : (actor : Actor) (step : NodeStep) → is_own_step actor step ≡ true → is_told_to actor step ≡ true
own_told actor (Emit place priority fabric value) own = or_right _ _ own
own_told actor (SetRow place fabric values) own = refl
own_told actor (SetEntries fabric entries) own = refl
own_told actor (PutNetwork id secret) own = refl
own_told actor (RemoveNetwork id) own = refl
own_told actor (ConnectNetwork id) own = refl
own_told actor (MoveNetwork id index) own = refl
own_told actor (Arm owner seconds) own = refl
own_told actor (Renew seconds) own = refl
own_told actor Expire own = refl
own_told actor Complete own = refl
own_told actor (AddRoot cert) own = refl
own_told actor (Csr nonce update) own = refl
own_told actor (AddFabric new) own = refl
own_told actor (UpdateFabric index given) own = refl
own_told actor (RemoveFabric index) own = refl
own_told actor (Label index label) own = refl

-- Those of General Commissioning and Network Commissioning tell nothing.
sound_told : (networks : List Network) (armed : Option Armed) (writer : ℕ) (actor : Actor) (step : NodeStep) → commission_laws.is_sound_step networks armed writer step ≡ true → is_told_to actor step ≡ true
sound_told networks armed writer actor (Emit place priority fabric value) sound = impossible sound
sound_told networks armed writer actor (SetRow place fabric values) sound = refl
sound_told networks armed writer actor (SetEntries fabric entries) sound = refl
sound_told networks armed writer actor (PutNetwork id secret) sound = refl
sound_told networks armed writer actor (RemoveNetwork id) sound = refl
sound_told networks armed writer actor (ConnectNetwork id) sound = refl
sound_told networks armed writer actor (MoveNetwork id index) sound = refl
sound_told networks armed writer actor (Arm owner seconds) sound = refl
sound_told networks armed writer actor (Renew seconds) sound = refl
sound_told networks armed writer actor Expire sound = refl
sound_told networks armed writer actor Complete sound = refl
sound_told networks armed writer actor (AddRoot cert) sound = refl
sound_told networks armed writer actor (Csr nonce update) sound = refl
sound_told networks armed writer actor (AddFabric new) sound = refl
sound_told networks armed writer actor (UpdateFabric index given) sound = refl
sound_told networks armed writer actor (RemoveFabric index) sound = refl
sound_told networks armed writer actor (Label index label) sound = refl

-- Those of Operational Credentials tell all that a fabric leaves.
moved_told : (known : Known) (fabric : ℕ) (actor : Actor) (steps : List NodeStep) → IsMove known fabric steps → list_all (is_told_to actor) steps ≡ true
moved_told known fabric actor steps (nothing is) = ap (list_all (is_told_to actor)) is
moved_told known fabric actor steps (requests nonce update is) = ap (list_all (is_told_to actor)) is
moved_told known fabric actor steps (trusts cert is) = ap (list_all (is_told_to actor)) is
moved_told known fabric actor steps (joins new entries own_ones is) = ap (list_all (is_told_to actor)) is
moved_told known fabric actor steps (renews given is) = ap (list_all (is_told_to actor)) is
moved_told known fabric actor steps (names label is) = ap (list_all (is_told_to actor)) is
moved_told known fabric actor steps (leaves index free is) = ap (list_all (is_told_to actor)) is
moved_told known fabric actor steps (expires index context was is) = ap (list_all (is_told_to actor)) is
moved_told known fabric actor steps (expires_and_leaves index context was_not is) = ap (list_all (is_told_to actor)) is

module _ (laws : RequestLaws)
    (given : Environment) (keeps : KeepsRules given.judged) where
  asked_told : (s : NodeState) (valid : IsValid s) (request : Request) (deadline : Option ℕ) (now : ℕ) (asking : Option Actor) → is_known s.fabrics asking ≡ true → is_asker asking ≡ true
      → list_all (is_told_as asking) (asked_steps given s request deadline now asking) ≡ true
  asked_told s valid request deadline now None known asks = refl
  asked_told s valid request deadline now (Some actor) known asks =
      asked_by laws given keeps s valid actor now (λ (steps : List NodeStep). list_all (is_told_to actor) steps ≡ true) refl
      (λ steps its fit_all. all-weaker (is_own_step actor) (is_told_to actor) (own_told actor) steps its)
      (λ steps sound_all first.
      all-weaker (commission_laws.is_sound_step (map bare_network s.networks) (option_map bare_armed s.armed) actor.fabric) (is_told_to actor) (sound_told (map bare_network s.networks) (option_map bare_armed s.armed) actor.fabric actor) steps sound_all)
      (λ steps good fit_all move. moved_told _ actor.fabric actor steps move)
      known asks request deadline

  due_told : (due ended : Bool) → list_all (is_told_as None) ((if due then Expire ∷ [] else []) ++ (if ended then closed else [])) ≡ true
  due_told true true = refl
  due_told true false = refl
  due_told false true = refl
  due_told false false = refl

  pub action_told : (s : NodeState) (action : Action) (now : ℕ) → IsValid s → list_all (is_told_as (asker_of s action)) (steps_of given s action now) ≡ true
  action_told s (Ask actor request deadline) now valid = asked_told s valid request deadline now (asker s actor) (asker_known s actor valid) (asker_asks s actor valid)
  action_told s actions.Expire now valid = due_told (is_due s.armed now) (has_ended now (number_at (rows_of_nobody s) window_end))
  action_told s Nothing now valid = refl

-- Where nobody joins or leaves, the events of the steps alone are told.

none_join : (asking : Option Actor) (entries : List AclEntry) → joining_events asking entries None ≡ []
none_join None entries = refl
none_join (Some actor) entries = refl

pub setting_tell : (asking : Option Actor) (steps : List NodeStep) (s : NodeState) (now : ℕ) → list_all is_setting_step steps ≡ true → told_between asking steps s (after_steps asking steps (at_time now s)) ≡ events_in steps
setting_tell asking steps s now sets =
    let t = after_steps asking steps (at_time now s) in
    let same : t.fabrics ≡ s.fabrics = fabrics-stay asking steps (at_time now s) sets in
    let joins_none : joined_between s.fabrics t.fabrics ≡ None = ap (joined_between s.fabrics) same ∙ gone_none s.fabrics in
    let gone : gone_between s.fabrics t.fabrics ≡ None = ap (gone_between s.fabrics) same ∙ gone_none s.fabrics in
    (λ i. events_in steps ++ (joining_events asking t.entries (joins_none i) ++ leaving_events (events_in steps) (gone i)))
    ∙ ap (λ (l : List NodeStep). events_in steps ++ (l ++ [])) (none_join asking t.entries)
    ∙ append-nil (events_in steps)

-- Whoever is taken as asking is of a fabric of the table, or of none.
pub askers_known : (s : NodeState) (actor asking : Actor) → IsValid s → asker s actor ≡ Some asking → (asking.fabric == 0 || is_among s.fabrics asking.fabric) ≡ true
askers_known s actor asking valid is = subst (λ (o : Option Actor). is_known s.fabrics o ≡ true) is (asker_known s actor valid)
