-- By an action at most one fabric leaves the table, which is the one that is told as gone.
use Rattle.std.proofs.Common.{◌≡◌, ℕ, ◌==◌, ◌&&◌, not, Bool, true, false, List, [], ◌∷◌, ◌++◌, Option, Some, None, Result, Ok, Err, option_map, refl, sym, ap, ◌∙◌, subst, is_ok, if◌then◌else◌}
use Rattle.std.proofs.lemmas.Bool.{and_parts, eqb-true}
use Rattle.mt_commission.specs.Laws as commission
use Rattle.mt_commission.specs.Laws.{StepsAreSound, StepsStandFirst}
use Rattle.mt_im.specs.declared.fault.ImFault.{ImFault}
use Rattle.mt_meta.specs.Finding.{find_data_of}
use Rattle.mt_meta.specs.Stored.{is_stored}
use Rattle.mt_model.specs.Optional.{is_that}
use Rattle.mt_model.specs.rows.Stored.{is_stored_place}
use Rattle.mt_model.specs.tables.Known.{bare_armed, known_to}
use Rattle.mt_model.specs.declared.messages.message.Request.{Request}
use Rattle.mt_model.specs.declared.node.action.Action.{Action}
use Rattle.mt_model.specs.declared.node.action.Action.TheVariants as actions
use Rattle.mt_model.specs.declared.node.action.NodeStep.{NodeStep}
use Rattle.mt_model.specs.declared.node.action.NodeStep.TheVariants.{RemoveNetwork, Expire, AddRoot, Csr, AddFabric, UpdateFabric, RemoveFabric, Label}
use Rattle.mt_model.specs.declared.node.state.NodeState.{NodeState}
use Rattle.mt_model.specs.declared.rows.place.Place.{Place}
use Rattle.mt_model.specs.declared.tables.access.Actor.{Actor}
use Rattle.mt_model.specs.declared.tables.fabric.Credentials.{Credentials}
use Rattle.mt_model.specs.declared.tables.fabric.Fabric.{Fabric}
use Rattle.mt_model.specs.declared.tables.network.Armed.{Armed}
use Rattle.mt_opcreds.specs.Laws.{KeepsRules, StepsAreWellFormed, StepsFit}
use Rattle.mt_opcreds.specs.Moves.{IsMove, StepsAreMoves, expires, expires_and_leaves, joins, leaves, names, nothing, renews, requests, trusts}
use Rattle.mt_failsafe.specs.Calls.{is_context}
use Rattle.mt_failsafe.specs.Notes.{was_added}
use Rattle.mt_write.specs.Laws.{LeavesSound, NobodySetsScoped, TouchesItsOwn}
use Rattle.mt_machine.specs.Effects.{after, after_all}
use Rattle.mt_machine.specs.Environment.{Environment}
use Rattle.mt_machine.specs.Isolation.{saved_for, veil, with_saved}
use Rattle.mt_machine.specs.Leaving.{has_left}
use Rattle.mt_machine.specs.Lines.{action_of}
use Rattle.mt_machine.specs.Laws.{TicksTakeOne}
use Rattle.mt_machine.specs.Requests.{RequestLaws}
use Rattle.mt_machine.proofs.Windows.{windows_set}
use Rattle.mt_machine.specs.Rollback.{rollback, added_in, is_due}
use Rattle.mt_machine.specs.State.{IsValid, is_added, is_among, is_updated, keeps_facts}
use Rattle.mt_machine.specs.Step.{after_action, aside_of, asked_steps, asker, at_time, gone_between, steps_of, window_steps}
use Rattle.mt_machine.proofs.AlikeLeft.{left_behind_expiry, left_is_gone}
use Rattle.mt_machine.proofs.Asked.{asked_by, asker_asks, asker_known, is_asker, is_known}
use Rattle.mt_machine.proofs.Good.{setting_steps}
use Rattle.mt_machine.proofs.Sparing.{left_alone}
use Rattle.mt_machine.proofs.Times.{fabrics-stay}
use Rattle.mt_machine.proofs.Veiled.{steps_same}
use Rattle.mt_machine.proofs.Counting.{impossible}
use Rattle.mt_machine.proofs.Writes.{timed_valid}

abbrev LeftOne : NodeState → NodeState → Type 0
LeftOne s t = (fabric : ℕ) → has_left s t fabric ≡ is_that fabric (gone_between s.fabrics t.fabrics)

-- the fabrics alone say so
same_one : (s t u : NodeState) → u.fabrics ≡ t.fabrics → LeftOne s t → LeftOne s u
same_one s t u same one fabric =
    ap (λ (fs : List Fabric). is_among s.fabrics fabric && not (is_among fs fabric)) same ∙ one fabric ∙ ap (λ (fs : List Fabric). is_that fabric (gone_between s.fabrics fs)) (sym same)

none_leaves : (s : NodeState) → LeftOne s s
none_leaves s fabric = left_is_gone fabric None (RemoveNetwork []) s

by_step : (asker : Option Actor) (step : NodeStep) (s : NodeState) → LeftOne s (after asker step s)
by_step asker step s fabric = left_is_gone fabric asker step s

-- by a time step, of whatever state

due_one : (s : NodeState) (now : ℕ) (due : Bool) → LeftOne s (after_all None ((if due then Expire ∷ [] else []) ++ window_steps s now) (at_time now s))
due_one s now true =
    let timed = at_time now s in
    same_one timed (rollback timed) (after_all None (window_steps s now) (rollback timed)) (fabrics-stay None (window_steps s now) (rollback timed) (windows_set s now)) (by_step None Expire timed)
due_one s now false =
    let timed = at_time now s in
    same_one timed timed (after_all None (window_steps s now) timed) (fabrics-stay None (window_steps s now) timed (windows_set s now)) (none_leaves timed)

pub ticks_take_one : TicksTakeOne
ticks_take_one given s now fabric = due_one s now (is_due s.armed now) fabric

-- where commissioning goes on for a fabric that was not added, none was
none_added : (s : NodeState) → IsValid s → (index : ℕ) (armed : Option Armed) → s.armed ≡ armed → is_context index (option_map bare_armed armed) ≡ true → was_added index (option_map bare_armed armed) ≡ false → added_in armed ≡ None
none_added s valid index None is context not_added = refl
none_added s valid index (Some armed) is context not_added = by_added armed.added facts not_added
  where
    facts : is_added s.fabrics armed armed.added ≡ true
    facts = (and_parts (is_added s.fabrics armed armed.added) (is_updated s.fabrics armed armed.added armed.updated) (subst (λ (a : Option Armed). keeps_facts s.fabrics a ≡ true) is valid.failsafe_facts)).0

    by_added : (added : Option ℕ) → is_added s.fabrics armed added ≡ true → is_that index added ≡ false → added ≡ None
    by_added None its not_it = refl
    by_added (Some added) its not_it =
        let same : armed.context ≡ added = eqb-true armed.context added (and_parts (armed.context == added) (is_among s.fabrics added) its).0 in
        impossible (sym not_it ∙ subst (λ n. (n == index) ≡ true) same context)

module _ (laws : RequestLaws)
    (kept : (place : Place) → is_stored_place place ≡ (is_stored place && is_ok (find_data_of place))) (given : Environment) (keeps : KeepsRules given.judged) where
  module _ (t : NodeState) (asking : Actor) where
    abbrev One : List NodeStep → Type 0
    One steps = LeftOne t (after_all (Some asking) steps t)

    commission_one : (steps : List NodeStep) → commission.sets_values_behind steps ≡ true → One steps
    commission_one [] behind = none_leaves t
    commission_one (step ∷ steps) behind = same_one t (after (Some asking) step t) (after_all (Some asking) (step ∷ steps) t) (left_alone (Some asking) steps (after (Some asking) step t) behind).fabrics (by_step (Some asking) step t)

  -- The steps of a valid state, in that or in another that has the same fabric added under the fail-safe.

  moved_one : (s t : NodeState) (valid : IsValid s) → added_in t.armed ≡ added_in s.armed → (writer : ℕ) (asker : Option Actor) (steps : List NodeStep) → IsMove (known_to writer s.fabrics s.networks s.armed) writer steps → LeftOne t (after_all asker steps t)
  moved_one s t valid same writer asker steps (nothing is) = subst (λ l. LeftOne t (after_all asker l t)) (sym is) (none_leaves t)
  moved_one s t valid same writer asker steps (requests nonce update is) = subst (λ l. LeftOne t (after_all asker l t)) (sym is) (by_step asker (Csr nonce update) t)
  moved_one s t valid same writer asker steps (trusts cert is) = subst (λ l. LeftOne t (after_all asker l t)) (sym is) (by_step asker (AddRoot cert) t)
  moved_one s t valid same writer asker steps (joins new entries own is) = subst (λ l. LeftOne t (after_all asker l t)) (sym is) (by_step asker (AddFabric new) t)
  moved_one s t valid same writer asker steps (renews its is) = subst (λ l. LeftOne t (after_all asker l t)) (sym is) (by_step asker (UpdateFabric writer its) t)
  moved_one s t valid same writer asker steps (names label is) = subst (λ l. LeftOne t (after_all asker l t)) (sym is) (by_step asker (Label writer label) t)
  moved_one s t valid same writer asker steps (leaves index free is) = subst (λ l. LeftOne t (after_all asker l t)) (sym is) (by_step asker (RemoveFabric index) t)
  moved_one s t valid same writer asker steps (expires index context was is) = subst (λ l. LeftOne t (after_all asker l t)) (sym is) (by_step asker Expire t)
  moved_one s t valid same writer asker steps (expires_and_leaves index context was_not is) =
      subst (λ l. LeftOne t (after_all asker l t)) (sym is) (λ fabric. left_behind_expiry fabric asker index t (same ∙ none_added s valid index s.armed refl context was_not))

  asked_one : (s t : NodeState) (valid : IsValid s) → added_in t.armed ≡ added_in s.armed → (request : Request) (deadline : Option ℕ) (now : ℕ) (asking : Option Actor) → is_known s.fabrics asking ≡ true → is_asker asking ≡ true
      → LeftOne t (after_all asking (asked_steps given s request deadline now asking) t)
  asked_one s t valid same request deadline now None known asks = none_leaves t
  asked_one s t valid same request deadline now (Some actor) known asks =
      asked_by laws given keeps s valid actor now (λ (steps : List NodeStep). LeftOne t (after_all (Some actor) steps t))
      (none_leaves t)
      (λ steps its fit_all. same_one t t (after_all (Some actor) steps t) (fabrics-stay (Some actor) steps t (setting_steps kept s.fabrics steps fit_all)) (none_leaves t))
      (λ steps sound_all first. commission_one t actor steps first)
      (λ steps good fit_all move. moved_one s t valid same actor.fabric (Some actor) steps move)
      known asks request deadline

  pub action_one : (s : NodeState) (action : Action) (now fabric : ℕ) → IsValid s → has_left s (after_action given s action now) fabric ≡ is_that fabric (aside_of given s action now).gone
  action_one s (actions.Ask actor request deadline) now fabric valid = asked_one s (at_time now s) valid refl request deadline now (asker s actor) (asker_known s actor valid) (asker_asks s actor valid) fabric
  action_one s actions.Expire now fabric valid = due_one s now (is_due s.armed now) fabric
  action_one s actions.Nothing now fabric valid = none_leaves s fabric

  -- So it is on the veil, whose steps are those of the state.

  asked_on_veil : (s t : NodeState) (actor asking : Actor) (request : Request) (deadline : Option ℕ) (now fabric : ℕ) → IsValid s → added_in t.armed ≡ added_in s.armed → asker s actor ≡ Some asking → asker t actor ≡ Some asking
      → steps_of given t (actions.Ask actor request deadline) now ≡ steps_of given s (actions.Ask actor request deadline) now
      → has_left t (after_action given t (actions.Ask actor request deadline) now) fabric ≡ is_that fabric (aside_of given t (actions.Ask actor request deadline) now).gone
  asked_on_veil s t actor asking request deadline now fabric valid same on_state on_veil steps =
      let timed = at_time now t in
      subst (λ (l : List NodeStep). LeftOne timed (after_all (asker t actor) l timed)) (sym steps)
      (subst (λ (whom : Option Actor). LeftOne timed (after_all whom (asked_steps given s request deadline now (asker s actor)) timed)) (on_state ∙ sym on_veil)
      (asked_one s timed valid same request deadline now (asker s actor) (asker_known s actor valid) (asker_asks s actor valid)))
      fabric

  added_on_veil : (saved : Option Credentials) (armed : Option Armed) → added_in (option_map (with_saved saved) (option_map bare_armed armed)) ≡ added_in armed
  added_on_veil saved None = refl
  added_on_veil saved (Some armed) = refl

  pub veil_one : (s : NodeState) (actor asking : Actor) (asked : Result Request ImFault) (deadline : Option ℕ) (now fabric : ℕ) → IsValid s → asker s actor ≡ Some asking → asker (veil asking.fabric s) actor ≡ Some asking
      → has_left (veil asking.fabric s) (after_action given (veil asking.fabric s) (action_of actor deadline asked) now) fabric
      ≡ is_that fabric (aside_of given (veil asking.fabric s) (action_of actor deadline asked) now).gone
  veil_one s actor asking (Ok request) deadline now fabric valid on_state on_veil =
      asked_on_veil s (veil asking.fabric s) actor asking request deadline now fabric valid (added_on_veil (saved_for asking.fabric s.armed) s.armed) on_state on_veil
      (steps_same given (record { node = s; deadlines = [] }) valid actor asking on_veil on_state request deadline now)
  veil_one s actor asking (Err fault) deadline now fabric valid on_state on_veil = none_leaves (veil asking.fabric s) fabric
