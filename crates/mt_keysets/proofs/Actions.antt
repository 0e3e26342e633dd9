-- What an action makes of the group key sets of a fabric is what the run's list says.
use Rattle.std.proofs.Common.{◌≡◌, ◌≢◌, ℕ, ◌==◌, ◌&&◌, ◌||◌, ◌++◌, not, inl, inr, is_some, Bool, true, false, List, [], ◌∷◌, Option, Some, None, Result, Ok, Err, refl, sym, ap, ◌∙◌, if◌then◌else◌}
use Rattle.std.proofs.lemmas.Bool.{and_right, cases_Bool, cond_both, eqb-true, not-false, not-true, or_cases}
use Rattle.mt_tlv.specs.declared.value.Value.{Value}
use Rattle.mt_meta.specs.Finding.{find_command_of, found, has_cluster, is_endpoint, missing_of}
use Rattle.mt_meta.specs.Table.{clusters_of}
use Rattle.mt_meta.specs.clusters.AdministratorCommissioning as administrator_commissioning
use Rattle.mt_meta.specs.clusters.GeneralCommissioning as general_commissioning
use Rattle.mt_meta.specs.clusters.GroupKeyManagement as group_key_management
use Rattle.mt_meta.specs.clusters.NetworkCommissioning as network_commissioning
use Rattle.mt_meta.specs.clusters.OperationalCredentials as operational_credentials
use Rattle.mt_meta.specs.declared.meta.CommandMeta.{CommandMeta}
use Rattle.mt_groupkeys.specs.Commands as group_keys
use Rattle.mt_model.specs.messages.Effects.{refused_at}
use Rattle.mt_model.specs.messages.Status.{code_of}
use Rattle.mt_model.specs.rows.Seen.{Observation}
use Rattle.mt_model.specs.declared.messages.message.Reply.{Reply}
use Rattle.mt_model.specs.declared.messages.message.Request.{Request}
use Rattle.mt_model.specs.declared.messages.message.Request.TheVariants as requests
use Rattle.mt_model.specs.declared.messages.message.WriteItem.{WriteItem}
use Rattle.mt_model.specs.declared.messages.status.Status.{Status}
use Rattle.mt_model.specs.declared.messages.status.Status.TheVariants.{InvalidCommand, NeedsTimedInteraction, Timeout, TimedRequestMismatch, UnsupportedAccess, UnsupportedCluster, UnsupportedCommand, UnsupportedEndpoint}
use Rattle.mt_model.specs.declared.node.action.Action.{Action}
use Rattle.mt_model.specs.declared.node.action.Action.TheVariants as actions
use Rattle.mt_model.specs.declared.node.action.Effect.{Effect}
use Rattle.mt_model.specs.declared.node.action.NodeStep.{NodeStep}
use Rattle.mt_model.specs.declared.node.action.NodeStep.TheVariants.{Expire}
use Rattle.mt_model.specs.declared.node.state.NodeState.{NodeState}
use Rattle.mt_model.specs.declared.rows.place.Place.{Place}
use Rattle.mt_model.specs.declared.tables.access.Actor.{Actor}
use Rattle.mt_admin.specs.Commands as admin
use Rattle.mt_admin.specs.Windows.{closed, has_ended, number_at, window_end}
use Rattle.mt_apps.specs.Commands.{invoked}
use Rattle.mt_commission.specs.Commands as commission
use Rattle.mt_commission.specs.Laws.{StepsAreSound}
use Rattle.mt_invoke.specs.Checking.{checked, has_form, if_found, may_invoke}
use Rattle.mt_opcreds.specs.Commands as credentials
use Rattle.mt_opcreds.specs.Moves.{StepsAreMoves}
use Rattle.mt_write.specs.Writing.{write_answer}
use Rattle.mt_machine.specs.Commands.{carried_out, command_effect, is_commissioning, nobodys_rows, of_others, own_rows, unless_refused}
use Rattle.mt_machine.specs.Effects.{after_all}
use Rattle.mt_machine.specs.Environment.{Environment}
use Rattle.mt_machine.specs.Observation.{observation}
use Rattle.mt_machine.specs.Rollback.{is_due}
use Rattle.mt_machine.specs.State.{is_member}
use Rattle.mt_machine.specs.Step.{asked_reply, asked_steps, asker, asker_of, at_time, is_late, is_untimely, refusal, reply_to, rows_of_nobody, steps_of, steps_to, with_events}
use Rattle.mt_keysets.specs.Changes.{behind_action, behind_request, is_its_own, is_success, wanting_an_answer}
use Rattle.mt_keysets.specs.Sets.{sets_of}
use Rattle.mt_keysets.proofs.Commands.{admin_stays, apps_stay, commission_stays, moved_stays}
use Rattle.mt_keysets.proofs.Keys.{Counts, aside, keys_count, no_key_command, own_observed, silent}
use Rattle.mt_keysets.proofs.Rows.{impossible}
use Rattle.mt_keysets.proofs.Steps.{Stays, all_stay}
use Rattle.mt_keysets.proofs.Writes.{writes_spare}

-- A command that may be carried out is there, and one of this cluster stands on endpoint 0.

timely_is : (late : Bool) (its : Result CommandMeta Status) (meta : CommandMeta) → (if late then Err NeedsTimedInteraction else its) ≡ Ok meta → its ≡ Ok meta
timely_is true its meta is = absurd cc
timely_is false its meta is = is

there_is : (may timed : Bool) (there : Result CommandMeta Status) (meta : CommandMeta) → (if may then if_found timed there else Err UnsupportedAccess) ≡ Ok meta → there ≡ Ok meta
there_is false timed there meta is = absurd cc
there_is true timed (Err status) meta is = absurd cc
there_is true timed (Ok its) meta is = timely_is (its.timed && not timed) (Ok its) meta is

found_there : {X : Type 0} (missing : Option Status) (row : Option X) (status : Status) (x : X) → found missing row status ≡ Ok x → missing ≡ None
found_there (Some s) row status x is = absurd cc
found_there None row status x is = refl

cluster_is_there : (no_endpoint no_cluster : Bool) → (if no_endpoint then Some UnsupportedEndpoint else if no_cluster then Some UnsupportedCluster else None) ≡ None → no_cluster ≡ false
cluster_is_there true no_cluster is = absurd cc
cluster_is_there false true is = absurd cc
cluster_is_there false false is = refl

root_has_keys : (endpoint : ℕ) → has_cluster endpoint 0x3f ≡ true → (endpoint == 0) ≡ true
unfolding clusters_of
root_has_keys endpoint there = elim (cases_Bool (endpoint == 0)) [
  | inl root ↦ root
  | inr other ↦ elim (cases_Bool (endpoint == 1)) [
    | inl first ↦ impossible (rw (other, first) at there)
    | inr none ↦ impossible (rw (other, none) at there)
  ]
]

pub at_root : (command : Place) (meta : CommandMeta) → (command.cluster == 0x3f) ≡ true → find_command_of command ≡ Ok meta → (command.endpoint == 0) ≡ true
at_root command meta of_cluster is =
    let there = cluster_is_there (not (is_endpoint command.endpoint)) (not (has_cluster command.endpoint command.cluster)) (found_there (missing_of command) _ _ meta is) in
    root_has_keys command.endpoint (ap (has_cluster command.endpoint) (sym (eqb-true command.cluster 0x3f of_cluster)) ∙ not-false _ there)

another_cluster : (cluster known : ℕ) → (cluster == known) ≡ true → (known == 0x3f) ≡ false → (cluster == 0x3f) ≡ false
another_cluster cluster known is differ = ap (λ (n : ℕ). n == 0x3f) (eqb-true cluster known is) ∙ differ

no_commissioning : (cluster : ℕ) → is_commissioning cluster ≡ true → (cluster == 0x3f) ≡ false
no_commissioning cluster is = elim (or_cases (cluster == general_commissioning.cluster) (cluster == network_commissioning.cluster || cluster == operational_credentials.cluster) is) [
  | inl general ↦ another_cluster cluster general_commissioning.cluster general refl
  | inr others ↦ elim (or_cases (cluster == network_commissioning.cluster) (cluster == operational_credentials.cluster) others) [
    | inl network ↦ another_cluster cluster network_commissioning.cluster network refl
    | inr credentials ↦ another_cluster cluster operational_credentials.cluster credentials refl
  ]
]

-- A command that may not be carried out gets another status than 0.

abbrev is_fault : Option Status → Bool
is_fault None = true
is_fault (Some status) = not (code_of status == 0)

abbrev is_failure : Result CommandMeta Status → Bool
is_failure (Err status) = not (code_of status == 0)
is_failure (Ok meta) = true

missing_fails : (no_endpoint no_cluster : Bool) → is_fault (if no_endpoint then Some UnsupportedEndpoint else if no_cluster then Some UnsupportedCluster else None) ≡ true
missing_fails true no_cluster = refl
missing_fails false true = refl
missing_fails false false = refl

found_fails : (missing : Option Status) (row : Option CommandMeta) → is_fault missing ≡ true → is_failure (found missing row UnsupportedCommand) ≡ true
found_fails (Some status) row fault = fault
found_fails None None fault = refl
found_fails None (Some meta) fault = refl

timely_fails : (timed : Bool) (there : Result CommandMeta Status) → is_failure there ≡ true → is_failure (if_found timed there) ≡ true
timely_fails timed (Err status) fails = fails
timely_fails timed (Ok meta) fails = cond_both (meta.timed && not timed) (Err NeedsTimedInteraction) (Ok meta) (λ (r : Result CommandMeta Status). is_failure r ≡ true) (λ late. refl) (λ timely. refl)

check_fails : (may timed : Bool) (command : Place) → is_failure (if may then if_found timed (find_command_of command) else Err UnsupportedAccess) ≡ true
check_fails true timed command =
    timely_fails timed (find_command_of command)
    (found_fails (missing_of command) _ (missing_fails (not (is_endpoint command.endpoint)) (not (has_cluster command.endpoint command.cluster))))
check_fails false timed command = refl

module _ (moves : StepsAreMoves) (sound : StepsAreSound) (given : Environment) (fabric : ℕ) (some : fabric ≢ 0) where
  -- Commands.

  module _ (s : NodeState) (actor : Actor) (command : Place) (fields : Value) where
    abbrev o : Observation
    o = observation actor.fabric s

    abbrev Count : Effect → Type 0
    Count effect = Counts fabric actor command fields s effect

    refused_count : (status : Status) → is_success (refused_at command status).reply ≡ false → Count (refused_at command status)
    refused_count status fails = silent fabric actor command fields s (refused_at command status) refl fails

    others_count : (effect : Effect) → (command.cluster == 0x3f) ≡ false → Stays fabric effect.steps → Count effect
    others_count effect other stays = aside fabric actor command fields s effect (no_key_command fabric actor command fields s other) stays

    of_others_count : (meta : CommandMeta) → find_command_of command ≡ Ok meta → Count (of_others o actor command fields)
    of_others_count meta there =
        cond_both (command.cluster == administrator_commissioning.cluster) (admin.invoked (nobodys_rows o) o.known actor command fields o.clock) _ Count
        (λ is.
        others_count (admin.invoked (nobodys_rows o) o.known actor command fields o.clock) (another_cluster command.cluster administrator_commissioning.cluster is refl)
        (admin_stays fabric some (nobodys_rows o) o.known actor command fields o.clock))
        (λ no_admin.
        cond_both (command.cluster == group_key_management.cluster) (group_keys.invoked (own_rows o) actor command fields) (invoked (nobodys_rows o) actor command) Count
        (λ is. keys_count fabric actor command fields s (at_root command meta is there) is (own_rows o) (λ same. own_observed actor.fabric s ∙ ap (λ (n : ℕ). sets_of n s) same))
        (λ other. others_count (invoked (nobodys_rows o) actor command) other (apps_stay fabric some (nobodys_rows o) actor command)))

    carried_count : (meta : CommandMeta) → find_command_of command ≡ Ok meta → has_form command fields ≡ true → Count (carried_out given o actor command fields)
    carried_count meta there form =
        cond_both (command.cluster == operational_credentials.cluster) (credentials.invoked given.judged o.known actor command fields) _ Count
        (λ is.
        others_count (credentials.invoked given.judged o.known actor command fields) (another_cluster command.cluster operational_credentials.cluster is refl)
        (moved_stays fabric some o.known actor.fabric (credentials.invoked given.judged o.known actor command fields).steps (moves given.judged o.known actor command fields)))
        (λ no_credentials.
        cond_both (is_commissioning command.cluster) (commission.invoked o.known given.reachable actor command fields) (of_others o actor command fields) Count
        (λ is.
        others_count (commission.invoked o.known given.reachable actor command fields) (no_commissioning command.cluster is)
        (commission_stays fabric some o.known.networks o.known.armed actor.fabric (commission.invoked o.known given.reachable actor command fields).steps (sound o.known given.reachable actor command fields form)))
        (λ other. of_others_count meta there))

    checked_count : (timed : Bool) (may : Result CommandMeta Status) → checked o.seen actor command timed ≡ may → Count (unless_refused given o actor command fields may)
    checked_count timed (Err status) is = refused_count status (not-true _ (ap is_failure (sym is) ∙ check_fails (may_invoke o.seen actor command) timed command))
    checked_count timed (Ok meta) is =
        cond_both (has_form command fields) (carried_out given o actor command fields) (refused_at command InvalidCommand) Count
        (λ has. carried_count meta (there_is (may_invoke o.seen actor command) timed (find_command_of command) meta is) has) (λ has_not. refused_count InvalidCommand refl)

  -- Requests.

  module _ (s : NodeState) (actor : Actor) where
    abbrev seen : Observation
    seen = observation actor.fabric s

    -- the sets behind these steps are those of the run's list, where this is replied
    abbrev Follow : Request → List NodeStep → Reply → Type 0
    Follow request steps reply = is_member fabric (after_all (Some actor) steps s) ≡ true
        → sets_of fabric (after_all (Some actor) steps s) ≡ (if actor.fabric == fabric && is_success reply then behind_request fabric request (sets_of fabric s) else sets_of fabric s)

    -- where nothing is made and no command succeeds
    nothing_follows : (request : Request) (reply : Reply) → is_success reply ≡ false → Follow request [] reply
    nothing_follows request reply fails there =
        sym (ap (λ (b : Bool). if b then behind_request fabric request (sets_of fabric s) else sets_of fabric s) (and_right (actor.fabric == fabric) (is_success reply) fails))

    -- where no command is asked
    all_follow : (request : Request) (steps : List NodeStep) (reply : Reply) → behind_request fabric request (sets_of fabric s) ≡ sets_of fabric s → Stays fabric steps → Follow request steps reply
    all_follow request steps reply same stays there =
        stays (Some actor) s there
        ∙ sym (cond_both (actor.fabric == fabric && is_success reply) (behind_request fabric request (sets_of fabric s)) (sets_of fabric s) (λ (sets : List Value). sets ≡ sets_of fabric s) (λ is. same) (λ is_not. refl))

    abbrev refused : Reply
    refused = refusal (code_of TimedRequestMismatch)

    written_stays : (untimely timed : Bool) (items : List WriteItem) → Stays fabric (if untimely then [] else with_events seen actor (write_answer seen.seen actor items timed).rows)
    written_stays true timed items = all_stay fabric [] refl
    written_stays false timed items = all_stay fabric (with_events seen actor (write_answer seen.seen actor items timed).rows) (writes_spare fabric seen actor items timed)

    invoked_follows : (untimely suppress timed : Bool) (command : Place) (fields : Value)
        → Follow (requests.Invoke suppress timed command fields) (if untimely then [] else (command_effect given seen actor timed command fields).steps) (if untimely then refused else (command_effect given seen actor timed command fields).reply)
    invoked_follows true suppress timed command fields = nothing_follows (requests.Invoke suppress timed command fields) refused refl
    invoked_follows false suppress timed command fields = checked_count s actor command fields timed (checked seen.seen actor command timed) refl

    unasked : (stood : Bool) (request : Request) → behind_request fabric request (sets_of fabric s) ≡ sets_of fabric s → Stays fabric (steps_to given seen actor stood request)
        → Follow request (steps_to given seen actor stood request) (reply_to given seen actor stood (wanting_an_answer request))
    unasked stood request = all_follow request (steps_to given seen actor stood request) (reply_to given seen actor stood (wanting_an_answer request))

    requested_follows : (stood : Bool) (request : Request) → Follow request (steps_to given seen actor stood request) (reply_to given seen actor stood (wanting_an_answer request))
    requested_follows stood (requests.Status code) = unasked stood (requests.Status code) refl (all_stay fabric [] refl)
    requested_follows stood (requests.Read paths wanted minimum filtered versions) = unasked stood (requests.Read paths wanted minimum filtered versions) refl (all_stay fabric [] refl)
    requested_follows stood (requests.Subscribe keep floor ceiling paths wanted minimum filtered versions) = unasked stood (requests.Subscribe keep floor ceiling paths wanted minimum filtered versions) refl (all_stay fabric [] refl)
    requested_follows stood (requests.Write suppress timed items) = unasked stood (requests.Write suppress timed items) refl (written_stays (is_untimely stood timed) timed items)
    requested_follows stood (requests.Invoke suppress timed command fields) = invoked_follows (is_untimely stood timed) suppress timed command fields
    requested_follows stood (requests.Timed ms) = unasked stood (requests.Timed ms) refl (all_stay fabric [] refl)

    in_time_follows : (late stood : Bool) (request : Request)
        → Follow request (if late then [] else steps_to given seen actor stood request) (if late then refusal (code_of Timeout) else reply_to given seen actor stood (wanting_an_answer request))
    in_time_follows true stood request = nothing_follows request (refusal (code_of Timeout)) refl
    in_time_follows false stood request = requested_follows stood request

  -- ACTIONS.

  abbrev behind_steps : Option Actor → List NodeStep → NodeState → List Value
  behind_steps asking steps s = sets_of fabric (after_all asking steps s)

  asked_follows : (s : NodeState) (request : Request) (deadline : Option ℕ) (now : ℕ) (asking : Option Actor) → is_member fabric (after_all asking (asked_steps given s request deadline now asking) (at_time now s)) ≡ true
      → behind_steps asking (asked_steps given s request deadline now asking) (at_time now s)
      ≡ (if is_its_own fabric asking && is_success (asked_reply given s (wanting_an_answer request) deadline now asking) then behind_request fabric request (sets_of fabric s) else sets_of fabric s)
  asked_follows s request deadline now None there = refl
  asked_follows s request deadline now (Some actor) there = in_time_follows (at_time now s) actor (is_late deadline now) (is_some deadline) request there

  ticked_stays : (due ended : Bool) → Stays fabric ((if due then Expire ∷ [] else []) ++ (if ended then closed else []))
  ticked_stays true true = all_stay fabric (Expire ∷ closed) refl
  ticked_stays true false = all_stay fabric (Expire ∷ []) refl
  ticked_stays false true = all_stay fabric closed refl
  ticked_stays false false = all_stay fabric [] refl

  pub acted_follows : (s : NodeState) (action : Action) (now : ℕ) → is_member fabric (after_all (asker_of s action) (steps_of given s action now) (at_time now s)) ≡ true
      → behind_steps (asker_of s action) (steps_of given s action now) (at_time now s) ≡ behind_action given fabric s action now (sets_of fabric s)
  acted_follows s (actions.Ask actor request deadline) now there = asked_follows s request deadline now (asker s actor) there
  acted_follows s actions.Expire now there = ticked_stays (is_due s.armed now) (has_ended now (number_at (rows_of_nobody s) window_end)) None (at_time now s) there
  acted_follows s actions.Nothing now there = refl
