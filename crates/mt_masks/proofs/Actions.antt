-- What an action comes to on a masked state: the same reply, and the same steps but for the key sets that they set.
use Rattle.std.proofs.Common.{◌≡◌, ℕ, ◌==◌, ◌&&◌, ◌++◌, not, inl, inr, is_some, Bool, true, false, List, [], ◌∷◌, Option, Some, None, Result, Ok, Err, refl, sym, ap, ◌∙◌, map, if◌then◌else◌}
use Rattle.std.specs.List.{list_any}
use Rattle.std.proofs.lemmas.Bool.{cases_Bool, eqb-true, not-false}
use Rattle.mt_tlv.specs.declared.value.Value.{Value}
use Rattle.mt_meta.specs.Finding.{find_command_of, found, has_cluster, is_endpoint, missing_of}
use Rattle.mt_meta.specs.Table.{clusters_of}
use Rattle.mt_meta.specs.clusters.AdministratorCommissioning as administrator_commissioning
use Rattle.mt_meta.specs.clusters.OperationalCredentials as operational_credentials
use Rattle.mt_meta.specs.declared.meta.CommandMeta.{CommandMeta}
use Rattle.mt_model.specs.messages.Blocks.{names_item}
use Rattle.mt_model.specs.messages.Effects.{refused_at}
use Rattle.mt_model.specs.messages.Status.{code_of}
use Rattle.mt_model.specs.rows.Seen.{Observation}
use Rattle.mt_model.specs.declared.messages.message.Path.{Path}
use Rattle.mt_model.specs.declared.messages.message.Reply.{Reply}
use Rattle.mt_model.specs.declared.messages.message.Reply.TheVariants as replies
use Rattle.mt_model.specs.declared.messages.message.Request.{Request}
use Rattle.mt_model.specs.declared.messages.message.Request.TheVariants as requests
use Rattle.mt_model.specs.declared.messages.message.WriteItem.{WriteItem}
use Rattle.mt_model.specs.declared.messages.status.Status.{Status}
use Rattle.mt_model.specs.declared.messages.status.Status.TheVariants.{InvalidAction, InvalidCommand, NeedsTimedInteraction, Timeout, TimedRequestMismatch, UnsupportedAccess, UnsupportedCluster, UnsupportedEndpoint}
use Rattle.mt_model.specs.declared.node.action.Action.{Action}
use Rattle.mt_model.specs.declared.node.action.Action.TheVariants as actions
use Rattle.mt_model.specs.declared.node.action.Effect.{Effect}
use Rattle.mt_model.specs.declared.node.action.NodeStep.{NodeStep}
use Rattle.mt_model.specs.declared.node.action.NodeStep.TheVariants.{Expire}
use Rattle.mt_model.specs.declared.node.state.NodeState.{NodeState}
use Rattle.mt_model.specs.declared.node.state.Version.{Version}
use Rattle.mt_model.specs.declared.rows.place.Place.{Place}
use Rattle.mt_model.specs.declared.tables.access.Actor.{Actor}
use Rattle.mt_admin.specs.Commands as admin
use Rattle.mt_admin.specs.Windows.{closed, has_ended, number_at, window_end}
use Rattle.mt_apps.specs.Commands as apps
use Rattle.mt_commission.specs.Commands as commission
use Rattle.mt_commission.specs.Laws.{StepsAreSound}
use Rattle.mt_groupkeys.specs.Commands as group_keys
use Rattle.mt_invoke.specs.Checking.{checked, has_form, if_found, may_invoke}
use Rattle.mt_opcreds.specs.Commands as credentials
use Rattle.mt_opcreds.specs.Moves.{StepsAreMoves}
use Rattle.mt_read.specs.Reading.{read_answer}
use Rattle.mt_write.specs.Writing.{write_answer}
use Rattle.mt_machine.specs.Commands.{carried_out, command_effect, is_commissioning, nobodys_rows, of_others, own_rows, unless_refused}
use Rattle.mt_machine.specs.Environment.{Environment}
use Rattle.mt_machine.specs.Observation.{observation}
use Rattle.mt_machine.specs.Rollback.{is_due}
use Rattle.mt_machine.specs.Step.{asked_reply, asked_steps, asker, at_time, expiry_steps, is_late, is_untimely, refusal, reply_of, reply_to, report_of, rows_of_nobody, steps_of, steps_to, unless_suppressed, window_steps, with_events}
use Rattle.mt_masks.specs.Masking.{masked_action, masked_for, masked_node, masked_request, masked_step}
use Rattle.mt_masks.proofs.Commands.{Spared, Spares, admin_spares, apps_spare, commission_spares, moved_spares}
use Rattle.mt_masks.proofs.Keys.{form_kept, keys_effect, masked_effect, others_fields}
use Rattle.mt_masks.proofs.Lists.{all_stay, chosen, chosen_by, impossible}
use Rattle.mt_masks.proofs.Observed.{admin_same, apps_same, read_same, ticked_same, write_same}
use Rattle.mt_masks.proofs.Seen.{nobodys_agree, own_items, own_sets, seen_agree, stored_agree}
use Rattle.mt_masks.proofs.Steps.{spares, step_stays}
use Rattle.mt_masks.proofs.Writes.{writes_spare}

-- A command that may be carried out is there, and one of this cluster stands on endpoint 0.

timely_is : (late : Bool) (its : Result CommandMeta Status) (meta : CommandMeta) → (if late then Err NeedsTimedInteraction else its) ≡ Ok meta → its ≡ Ok meta
timely_is true its meta is = absurd cc
timely_is false its meta is = is

there_is : (may timed : Bool) (there : Result CommandMeta Status) (meta : CommandMeta) → (if may then if_found timed there else Err UnsupportedAccess) ≡ Ok meta → there ≡ Ok meta
there_is false timed there meta is = absurd cc
there_is true timed (Err status) meta is = absurd cc
there_is true timed (Ok its) meta is = timely_is (its.timed && not timed) (Ok its) meta is

found_there : {X : Type 0} (missing : Option Status) (row : Option X) (status : Status) (x : X) → found missing row status ≡ Ok x → missing ≡ None
found_there (Some s) row status x is = absurd cc
found_there None row status x is = refl

cluster_is_there : (no_endpoint no_cluster : Bool) → (if no_endpoint then Some UnsupportedEndpoint else if no_cluster then Some UnsupportedCluster else None) ≡ None → no_cluster ≡ false
cluster_is_there true no_cluster is = absurd cc
cluster_is_there false true is = absurd cc
cluster_is_there false false is = refl

root_has_keys : (endpoint : ℕ) → has_cluster endpoint 0x3f ≡ true → (endpoint == 0) ≡ true
unfolding clusters_of
root_has_keys endpoint there = elim (cases_Bool (endpoint == 0)) [
  | inl root ↦ root
  | inr other ↦ elim (cases_Bool (endpoint == 1)) [
    | inl first ↦ impossible (rw (other, first) at there)
    | inr none ↦ impossible (rw (other, none) at there)
  ]
]

at_root : (command : Place) (meta : CommandMeta) → (command.cluster == 0x3f) ≡ true → find_command_of command ≡ Ok meta → (command.endpoint == 0) ≡ true
at_root command meta of_cluster is =
    let there = cluster_is_there (not (is_endpoint command.endpoint)) (not (has_cluster command.endpoint command.cluster)) (found_there (missing_of command) _ _ meta is) in
    root_has_keys command.endpoint (ap (has_cluster command.endpoint) (sym (eqb-true command.cluster 0x3f of_cluster)) ∙ not-false _ there)

-- Effects and steps that set no key sets stay.

pub steps_stay : (steps : List NodeStep) → Spared steps → steps ≡ map masked_step steps
steps_stay steps spared = sym (all_stay masked_step spares step_stays steps spared)

effect_stays : (effect : Effect) → Spares effect → effect ≡ masked_effect effect
effect_stays effect spared = ap (λ (steps : List NodeStep). record effect { steps = steps }) (steps_stay effect.steps spared)

-- A command of this cluster is one of Group Key Management.
of_key_cluster : (given : Environment) (w : Observation) (actor : Actor) (command : Place) (fields : Value) → (command.cluster == 0x3f) ≡ true → carried_out given w actor command fields ≡ group_keys.invoked (own_rows w) actor command fields
of_key_cluster given w actor command fields of_cluster =
    let is = eqb-true command.cluster 0x3f of_cluster in
    let no_credentials : (command.cluster == operational_credentials.cluster) ≡ false = ap (λ (n : ℕ). n == operational_credentials.cluster) is in
    let no_commission : is_commissioning command.cluster ≡ false = ap is_commissioning is in
    let no_admin : (command.cluster == administrator_commissioning.cluster) ≡ false = ap (λ (n : ℕ). n == administrator_commissioning.cluster) is in
    rw (no_commission, no_credentials, no_admin, of_cluster) refl

module _ (moves : StepsAreMoves) (sound : StepsAreSound) (given : Environment) (s : NodeState) (actor : Actor) where
  abbrev o : Observation
  o = observation actor.fabric s

  abbrev masked : Observation
  masked = observation actor.fabric (masked_node s)

  -- Commands.

  module _ (command : Place) (fields : Value) where
    keys_same : (meta : CommandMeta) → find_command_of command ≡ Ok meta → (command.cluster == 0x3f) ≡ true → carried_out given masked actor command (masked_for command fields) ≡ masked_effect (carried_out given o actor command fields)
    keys_same meta there of_cluster =
        of_key_cluster given masked actor command (masked_for command fields) of_cluster
        ∙ keys_effect (own_rows o) (own_rows masked) actor command fields (own_sets actor.fabric s) (own_items actor.fabric s) (at_root command meta of_cluster there) of_cluster
        ∙ sym (ap masked_effect (of_key_cluster given o actor command fields of_cluster))

    values_same : (command.cluster == 0x3f) ≡ false → of_others masked actor command fields ≡ masked_effect (of_others o actor command fields)
    values_same other =
        let agree = nobodys_agree actor.fabric s in
        elim (cases_Bool (command.cluster == administrator_commissioning.cluster)) [
          | inl is ↦ rw is (
              admin_same (nobodys_rows o) (nobodys_rows masked) agree o.known actor command fields o.clock
              ∙ effect_stays (admin.invoked (nobodys_rows o) o.known actor command fields o.clock) (admin_spares (nobodys_rows o) o.known actor command fields o.clock))
          | inr is_not ↦ rw (is_not, other) (
              apps_same (nobodys_rows o) (nobodys_rows masked) agree actor command
              ∙ effect_stays (apps.invoked (nobodys_rows o) actor command) (apps_spare (nobodys_rows o) actor command))
        ]

    others_same : has_form command fields ≡ true → (command.cluster == 0x3f) ≡ false → carried_out given masked actor command fields ≡ masked_effect (carried_out given o actor command fields)
    others_same form other =
        chosen_by masked_effect (command.cluster == operational_credentials.cluster) (credentials.invoked given.judged o.known actor command fields) _ (credentials.invoked given.judged masked.known actor command fields) _
        (λ is.
        effect_stays (credentials.invoked given.judged o.known actor command fields)
        (moved_spares o.known actor.fabric (credentials.invoked given.judged o.known actor command fields).steps (moves given.judged o.known actor command fields)))
        (λ no_credentials.
        chosen_by masked_effect (is_commissioning command.cluster) (commission.invoked o.known given.reachable actor command fields) (of_others o actor command fields) (commission.invoked masked.known given.reachable actor command fields) (of_others masked actor command fields)
        (λ is.
        effect_stays (commission.invoked o.known given.reachable actor command fields)
        (commission_spares o.known.networks o.known.armed actor.fabric (commission.invoked o.known given.reachable actor command fields).steps (sound o.known given.reachable actor command fields form)))
        (λ no_commission. values_same other))

    carried_same : (meta : CommandMeta) → find_command_of command ≡ Ok meta → has_form command fields ≡ true → carried_out given masked actor command (masked_for command fields) ≡ masked_effect (carried_out given o actor command fields)
    carried_same meta there form = elim (cases_Bool (command.cluster == 0x3f)) [
      | inl is ↦ keys_same meta there is
      | inr other ↦ ap (carried_out given masked actor command) (others_fields command fields other) ∙ others_same form other
    ]

    abbrev if_formed : Observation → Value → Bool → Effect
    if_formed w shown formed = if formed then carried_out given w actor command shown else refused_at command InvalidCommand

    checked_same : (timed : Bool) (may : Result CommandMeta Status) → checked o.seen actor command timed ≡ may → unless_refused given masked actor command (masked_for command fields) may ≡ masked_effect (unless_refused given o actor command fields may)
    checked_same timed (Err status) is = refl
    checked_same timed (Ok meta) is = elim (cases_Bool (has_form command fields)) [
      | inl formed ↦
          ap (if_formed masked (masked_for command fields)) (form_kept command fields ∙ formed)
          ∙ carried_same meta (there_is (may_invoke o.seen actor command) timed (find_command_of command) meta is) formed
          ∙ sym (ap (λ (b : Bool). masked_effect (if_formed o fields b)) formed)
      | inr formless ↦ ap (if_formed masked (masked_for command fields)) (form_kept command fields ∙ formless) ∙ sym (ap (λ (b : Bool). masked_effect (if_formed o fields b)) formless)
    ]

    command_same : (timed : Bool) → command_effect given masked actor timed command (masked_for command fields) ≡ masked_effect (command_effect given o actor timed command fields)
    command_same timed = checked_same timed (checked o.seen actor command timed) refl

  -- Requests.

  abbrev refused : Reply
  refused = refusal (code_of TimedRequestMismatch)

  reads_same : (paths : List Path) (filtered : Bool) (versions : List Version) → read_answer masked.seen actor paths filtered versions ≡ read_answer o.seen actor paths filtered versions
  reads_same paths filtered versions = read_same o.seen masked.seen.rows_at (seen_agree actor.fabric s) actor filtered versions paths

  writes_same : (items : List WriteItem) (timed : Bool) → write_answer masked.seen actor items timed ≡ write_answer o.seen actor items timed
  writes_same items timed = write_same o.seen masked.seen.rows_at (seen_agree actor.fabric s) actor timed items

  reply_same : (stood : Bool) (request : Request) → reply_to given masked actor stood (masked_request request) ≡ reply_to given o actor stood request
  reply_same stood (requests.Status code) = refl
  reply_same stood (requests.Read paths wanted minimum filtered versions) = λ i. if list_any names_item paths then refusal (code_of InvalidAction) else report_of (reads_same paths filtered versions i)
  reply_same stood (requests.Subscribe keep floor ceiling paths wanted minimum filtered versions) = refl
  reply_same stood (requests.Write suppress timed items) = λ i. if is_untimely stood timed then refused else unless_suppressed suppress (replies.Written (writes_same items timed i).statuses)
  reply_same stood (requests.Invoke suppress timed command fields) = λ i. if is_untimely stood timed then refused else unless_suppressed suppress (command_same command fields timed i).reply
  reply_same stood (requests.Timed ms) = refl

  written_masked : (untimely timed : Bool) (items : List WriteItem)
      → (if untimely then [] else with_events o actor (write_answer masked.seen actor items timed).rows) ≡ map masked_step (if untimely then [] else with_events o actor (write_answer o.seen actor items timed).rows)
  written_masked true timed items = refl
  written_masked false timed items =
      (λ i. with_events o actor (writes_same items timed i).rows) ∙ steps_stay (with_events o actor (write_answer o.seen actor items timed).rows) (writes_spare o actor items timed)

  steps_masked : (stood : Bool) (request : Request) → steps_to given masked actor stood (masked_request request) ≡ map masked_step (steps_to given o actor stood request)
  steps_masked stood (requests.Status code) = refl
  steps_masked stood (requests.Read paths wanted minimum filtered versions) = refl
  steps_masked stood (requests.Subscribe keep floor ceiling paths wanted minimum filtered versions) = refl
  steps_masked stood (requests.Write suppress timed items) = written_masked (is_untimely stood timed) timed items
  steps_masked stood (requests.Invoke suppress timed command fields) =
      (λ i. if is_untimely stood timed then [] else (command_same command fields timed i).steps) ∙ chosen (map masked_step) (is_untimely stood timed) [] (command_effect given o actor timed command fields).steps
  steps_masked stood (requests.Timed ms) = refl

-- ACTIONS.

module _ (moves : StepsAreMoves) (sound : StepsAreSound) (given : Environment) where
  asked_same : (s : NodeState) (request : Request) (deadline : Option ℕ) (now : ℕ) (asking : Option Actor) → asked_reply given (masked_node s) (masked_request request) deadline now asking ≡ asked_reply given s request deadline now asking
  asked_same s request deadline now None = refl
  asked_same s request deadline now (Some actor) = λ i. if is_late deadline now then refusal (code_of Timeout) else reply_same moves sound given (at_time now s) actor (is_some deadline) request i

  asked_masked : (s : NodeState) (request : Request) (deadline : Option ℕ) (now : ℕ) (asking : Option Actor) → asked_steps given (masked_node s) (masked_request request) deadline now asking ≡ map masked_step (asked_steps given s request deadline now asking)
  asked_masked s request deadline now None = refl
  asked_masked s request deadline now (Some actor) =
      (λ i. if is_late deadline now then [] else steps_masked moves sound given (at_time now s) actor (is_some deadline) request i)
      ∙ chosen (map masked_step) (is_late deadline now) [] (steps_to given (observation actor.fabric (at_time now s)) actor (is_some deadline) request)

  ticks_spare : (due ended : Bool) → Spared ((if due then Expire ∷ [] else []) ++ (if ended then closed else []))
  ticks_spare true true = refl
  ticks_spare true false = refl
  ticks_spare false true = refl
  ticks_spare false false = refl

  ticked_masked : (s : NodeState) (now : ℕ) → expiry_steps s.armed now ++ window_steps (masked_node s) now ≡ map masked_step (expiry_steps s.armed now ++ window_steps s now)
  ticked_masked s now =
      ap (λ (steps : List NodeStep). expiry_steps s.armed now ++ steps) (ticked_same (rows_of_nobody s) (rows_of_nobody (masked_node s)) (stored_agree s) now)
      ∙ steps_stay (expiry_steps s.armed now ++ window_steps s now) (ticks_spare (is_due s.armed now) (has_ended now (number_at (rows_of_nobody s) window_end)))

  pub replies_same : (s : NodeState) (action : Action) (now : ℕ) → reply_of given (masked_node s) (masked_action action) now ≡ reply_of given s action now
  replies_same s (actions.Ask actor request deadline) now = asked_same s request deadline now (asker s actor)
  replies_same s actions.Expire now = refl
  replies_same s actions.Nothing now = refl

  pub acted_masked : (s : NodeState) (action : Action) (now : ℕ) → steps_of given (masked_node s) (masked_action action) now ≡ map masked_step (steps_of given s action now)
  acted_masked s (actions.Ask actor request deadline) now = asked_masked s request deadline now (asker s actor)
  acted_masked s actions.Expire now = ticked_masked s now
  acted_masked s actions.Nothing now = refl
