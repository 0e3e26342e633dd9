-- No command is answered with a report of a subscription.
use Rattle.std.proofs.Common.{◌≡◌, ℕ, ◌==◌, ◌&&◌, ◌||◌, nat_le, nat_lt, not, is_some, if◌then◌else◌, length, option_and_then, unwrap_or, Bool, true, false, List, Option, Some, None, Result, Ok, Err, refl}
use Rattle.std.specs.List.{find, list_any}
use Rattle.mt_tlv.specs.Tree.{Elements}
use Rattle.mt_tlv.specs.declared.value.Value.{Value}
use Rattle.mt_fabrics.specs.Table.{credentials_at, has_others_label, is_used, least_unused}
use Rattle.mt_failsafe.specs.Calls.{is_armed_by}
use Rattle.mt_failsafe.specs.Notes.{is_for_update}
use Rattle.mt_meta.specs.Given.{field_of, number_of}
use Rattle.mt_meta.specs.clusters.AdministratorCommissioning as administrator_commissioning
use Rattle.mt_meta.specs.clusters.Bench as bench
use Rattle.mt_meta.specs.clusters.GeneralCommissioning as general_commissioning
use Rattle.mt_meta.specs.clusters.GroupKeyManagement as group_key_management
use Rattle.mt_meta.specs.clusters.NetworkCommissioning as network_commissioning
use Rattle.mt_meta.specs.clusters.OnOff as on_off
use Rattle.mt_meta.specs.clusters.OperationalCredentials as operational_credentials
use Rattle.mt_meta.specs.declared.meta.CommandMeta.{CommandMeta}
use Rattle.mt_model.specs.Trees.{structure_in}
use Rattle.mt_model.specs.texts.Config.{is_pase}
use Rattle.mt_model.specs.rows.Seen.{Observation}
use Rattle.mt_model.specs.tables.KeySets as sets_of
use Rattle.mt_model.specs.tables.KeySets.{is_key_set, key_sets}
use Rattle.mt_model.specs.tables.Known.{Known}
use Rattle.mt_model.specs.declared.limits.TheConstants.{KEY_SETS, LABEL_BYTES, LAST_DISCRIMINATOR}
use Rattle.mt_model.specs.declared.messages.message.Reply.{Reply}
use Rattle.mt_model.specs.declared.messages.message.Reply.TheVariants as replies
use Rattle.mt_model.specs.declared.messages.status.Status.{Status}
use Rattle.mt_model.specs.declared.node.action.Effect.{Effect}
use Rattle.mt_model.specs.declared.node.action.NodeStep.{NodeStep}
use Rattle.mt_model.specs.declared.rows.place.Place.{Place}
use Rattle.mt_model.specs.declared.rows.place.Row.{Row}
use Rattle.mt_model.specs.declared.tables.access.Actor.{Actor}
use Rattle.mt_model.specs.declared.tables.fabric.Credentials.{Credentials}
use Rattle.mt_model.specs.declared.tables.fabric.Fabric.{Fabric}
use Rattle.mt_model.specs.declared.tables.network.Armed.{Armed}
use Rattle.mt_model.specs.declared.texts.config.CsrRow.{CsrRow}
use Rattle.mt_model.specs.declared.texts.config.JoinRow.{JoinRow}
use Rattle.mt_model.specs.declared.texts.config.RootRow.{RootRow}
use Rattle.mt_admin.specs.Commands as admin
use Rattle.mt_admin.specs.Windows.{is_open}
use Rattle.mt_apps.specs.Commands as apps
use Rattle.mt_apps.specs.OnOff.{is_on, on_behind, on_off_at, set_on}
use Rattle.mt_commission.specs.Commands as commission
use Rattle.mt_commission.specs.GeneralCommissioning as general
use Rattle.mt_commission.specs.NetworkCommissioning as networks
use Rattle.mt_commission.specs.declared.codes.CommissioningError.{CommissioningError}
use Rattle.mt_commission.specs.declared.codes.CommissioningError.TheVariants as errors
use Rattle.mt_groupkeys.specs.Commands as group_keys
use Rattle.mt_groupkeys.specs.Sets.{has_id, has_starts, kept_set, values_of}
use Rattle.mt_invoke.specs.Checking.{checked, has_form}
use Rattle.mt_opcreds.specs.AddNoc as add_noc
use Rattle.mt_opcreds.specs.AddTrustedRoot as add_root
use Rattle.mt_opcreds.specs.Commands as credentials
use Rattle.mt_opcreds.specs.CsrRequest as csr_request
use Rattle.mt_opcreds.specs.Fields.{icac_in, noc_in}
use Rattle.mt_opcreds.specs.Judged.{Judged, chain_verdict, csr_verdict, root_verdict}
use Rattle.mt_opcreds.specs.Owner.{owned_by}
use Rattle.mt_opcreds.specs.RemoveFabric as removal
use Rattle.mt_opcreds.specs.UpdateFabricLabel as labels
use Rattle.mt_opcreds.specs.UpdateNoc as update_noc
use Rattle.mt_opcreds.specs.declared.fault.CertificateFault.{CertificateFault}
use Rattle.mt_shared.specs.mt_machine.Commands.{carried_out, command_effect, is_commissioning, nobodys_rows, of_others, own_rows, unless_refused}
use Rattle.mt_shared.specs.mt_machine.Environment.{Environment}

-- the subscription that a reply tells
abbrev pub subscription_of : Reply → Option ℕ
subscription_of (replies.Report subscription items suppress) = subscription
subscription_of reply = None

abbrev pub TellsNone : Effect → Type 0
TellsNone effect = subscription_of effect.reply ≡ None

either : (test : Bool) (effect other : Effect) → TellsNone effect → TellsNone other → TellsNone (if test then effect else other)
either true effect other first second = first
either false effect other first second = second

-- On/Off, and Bench.

set_on_tells : (command : Place) (on : Option Bool) → TellsNone (set_on command on)
set_on_tells command None = refl
set_on_tells command (Some on) = refl

apps_tell : (rows_at : Place → List Row) (actor : Actor) (command : Place) → TellsNone (apps.invoked rows_at actor command)
apps_tell rows_at actor command =
    either (command.cluster == on_off.cluster) _ _ (set_on_tells command (on_behind command.leaf (is_on (rows_at (on_off_at command.endpoint)))))
    (either (command.cluster == bench.cluster) _ _ (either (command.leaf == 0) _ _ refl refl) refl)

-- Administrator Commissioning.

module _ (rows_at : Place → List Row) (known : Known) (actor : Actor) (command : Place) (fields : Value) (now : ℕ) where
  open_tells : TellsNone (admin.open_window rows_at known actor command fields now)
  open_tells =
      either (not (admin.is_timeout (number_of 0 fields)) || nat_lt LAST_DISCRIMINATOR (number_of 2 fields)) _ _ refl
      (either (admin.is_busy rows_at known) _ _ refl (either (not (admin.is_verified fields)) _ _ refl refl))

  open_basic_tells : TellsNone (admin.open_basic_window rows_at known actor command fields now)
  open_basic_tells = either (not (admin.is_timeout (number_of 0 fields))) _ _ refl (either (admin.is_busy rows_at known) _ _ refl refl)

  admin_tells : TellsNone (admin.invoked rows_at known actor command fields now)
  admin_tells =
      either (command.leaf == 0) _ _ open_tells
      (either (command.leaf == 1) _ _ open_basic_tells
      (either (command.leaf == 2) _ _ (either (is_open rows_at) _ _ refl refl) refl))

-- General Commissioning.

armed_tells : (command : Place) (breadcrumb : ℕ) (steps : Option (List NodeStep)) → TellsNone (general.armed_effect command breadcrumb steps)
armed_tells command breadcrumb None = refl
armed_tells command breadcrumb (Some steps) = refl

completed_tells : (command : Place) (error : CommissioningError) → TellsNone (general.completed_effect command error)
completed_tells command errors.Ok = refl
completed_tells command error = refl

general_tells : (known : Known) (actor : Actor) (command : Place) (fields : Value) → TellsNone (general.general_commissioning_effect known actor command fields)
general_tells known actor command fields =
    either (command.leaf == 0) _ _ (armed_tells command (number_of 1 fields) (general.failsafe_steps actor.fabric (general.seconds_of fields) known.armed))
    (either (command.leaf == 2) _ _ (either (nat_lt 2 (number_of 0 fields)) _ _ refl refl)
    (either (command.leaf == 4) _ _ (completed_tells command (general.completing actor known.armed)) refl))

-- Network Commissioning.

owner_tells : (known : Known) (actor : Actor) (command : Place) (effect : Effect) → TellsNone effect → TellsNone (networks.if_owner known actor command effect)
owner_tells known actor command effect none = either (is_armed_by actor.fabric known.armed) _ _ none refl

networks_tell : (known : Known) (reachable : List (List ℕ)) (actor : Actor) (command : Place) (fields : Value) → TellsNone (networks.network_commissioning_effect known reachable actor command fields)
networks_tell known reachable actor command fields =
    either (command.leaf == 2) _ _ (owner_tells known actor command (networks.add_or_update_network known.networks command fields) refl)
    (either (command.leaf == 4) _ _ (owner_tells known actor command (networks.remove_network known.networks command fields) refl)
    (either (command.leaf == 6) _ _ (owner_tells known actor command (networks.connect_network known.networks reachable command fields) refl)
    (either (command.leaf == 8) _ _ (owner_tells known actor command (networks.reorder_network known.networks command fields) refl) refl)))

commission_tells : (known : Known) (reachable : List (List ℕ)) (actor : Actor) (command : Place) (fields : Value) → TellsNone (commission.invoked known reachable actor command fields)
commission_tells known reachable actor command fields =
    either (command.cluster == general_commissioning.cluster) _ _ (general_tells known actor command fields)
    (either (command.cluster == network_commissioning.cluster) _ _ (networks_tell known reachable actor command fields) refl)

-- Group Key Management.

set_tells : (sets : List Value) (fabric : ℕ) (command : Place) (id : ℕ) (set : Value) → TellsNone (group_keys.set_in sets fabric command id set)
set_tells sets fabric command id set = either (not (list_any (has_id id) sets) && nat_le KEY_SETS (length sets)) _ _ refl refl

writing_tells : (sets : List Value) (fabric : ℕ) (command : Place) (given : Option Elements) → TellsNone (group_keys.write_set sets fabric command given)
writing_tells sets fabric command None = refl
writing_tells sets fabric command (Some es) =
    either (is_key_set es && has_starts es) _ _ (set_tells sets fabric command (unwrap_or (sets_of.number_at 0 es) 0) (kept_set fabric es)) refl

told_tells : (command : Place) (found : Option Value) → TellsNone (group_keys.told command found)
told_tells command None = refl
told_tells command (Some set) = refl

reading_tells : (sets : List Value) (command : Place) (id : ℕ) → TellsNone (group_keys.read_set sets command id)
reading_tells sets command id = either (id == 0) _ _ refl (told_tells command (find (has_id id) sets))

removing_tells : (sets items : List Value) (fabric : ℕ) (command : Place) (id : ℕ) → TellsNone (group_keys.remove_set sets items fabric command id)
removing_tells sets items fabric command id = either (id == 0) _ _ refl (either (not (list_any (has_id id) sets)) _ _ refl refl)

keys_of_fabric : (rows_at : Place → List Row) (fabric : ℕ) (command : Place) (fields : Value) → TellsNone (group_keys.of_fabric rows_at fabric command fields)
keys_of_fabric rows_at fabric command fields =
    let sets = values_of (rows_at key_sets) in
    let items = values_of (rows_at group_keys.key_map) in
    either (command.leaf == 0) _ _ (writing_tells sets fabric command (option_and_then structure_in (field_of 0 fields)))
    (either (command.leaf == 1) _ _ (reading_tells sets command (number_of 0 fields))
    (either (command.leaf == 3) _ _ (removing_tells sets items fabric command (number_of 0 fields))
    (either (command.leaf == 4) _ _ refl refl)))

keys_tell : (rows_at : Place → List Row) (actor : Actor) (command : Place) (fields : Value) → TellsNone (group_keys.invoked rows_at actor command fields)
keys_tell rows_at actor command fields = either (actor.fabric == 0) _ _ refl (keys_of_fabric rows_at actor.fabric command fields)

-- Operational Credentials: CSRRequest, AddTrustedRootCertificate.

csr_answered_tells : (command : Place) (fields : Value) (row : Option CsrRow) → TellsNone (csr_request.csr_answered command fields row)
csr_answered_tells command fields None = refl
csr_answered_tells command fields (Some row) = refl

csr_tells : (judged : Judged) (actor : Actor) (command : Place) (fields : Value) (armed : Result Armed Status) → TellsNone (csr_request.csr_under judged actor command fields armed)
csr_tells judged actor command fields (Err status) = refl
csr_tells judged actor command fields (Ok armed) = either (csr_request.is_update_in fields && is_pase actor.auth) _ _ refl (csr_answered_tells command fields (csr_verdict judged (csr_request.nonce_in fields)))

root_answered_tells : (command : Place) (cert : List ℕ) (row : Option RootRow) → TellsNone (add_root.root_answered command cert row)
root_answered_tells command cert None = refl
root_answered_tells command cert (Some row) = refl

root_tells : (judged : Judged) (command : Place) (fields : Value) (armed : Result Armed Status) → TellsNone (add_root.root_under judged command fields armed)
root_tells judged command fields (Err status) = refl
root_tells judged command fields (Ok armed) = either (is_some armed.root) _ _ refl (root_answered_tells command (add_root.cert_in fields) (root_verdict judged (add_root.cert_in fields)))

-- AddNOC.

add_if_tells : (index : ℕ) (command : Place) (fields : Value) (new : Credentials) (fault : Option CertificateFault) → TellsNone (add_noc.add_if index command fields new fault)
add_if_tells index command fields new (Some fault) = refl
add_if_tells index command fields new None = refl

add_judged_tells : (fabrics : List Fabric) (command : Place) (fields : Value) (nonce root : List ℕ) (judged_root : Option RootRow) (chain : Option JoinRow)
    → TellsNone (add_noc.add_judged fabrics command fields nonce root judged_root chain)
add_judged_tells fabrics command fields nonce root (Some judged_root) (Some chain) =
    add_if_tells (least_unused fabrics) command fields (add_noc.new_credentials fields root judged_root chain) (add_noc.add_refusal fabrics fields nonce judged_root chain)
add_judged_tells fabrics command fields nonce root (Some judged_root) None = refl
add_judged_tells fabrics command fields nonce root None (Some chain) = refl
add_judged_tells fabrics command fields nonce root None None = refl

add_with_tells : (judged : Judged) (fabrics : List Fabric) (command : Place) (fields : Value) (csr : Option (List ℕ × Bool)) (root : Option (List ℕ)) → TellsNone (add_noc.add_with judged fabrics command fields csr root)
add_with_tells judged fabrics command fields None root = refl
add_with_tells judged fabrics command fields (Some csr) None = refl
add_with_tells judged fabrics command fields (Some csr) (Some root) =
    add_judged_tells fabrics command fields csr.0 root (root_verdict judged root) (chain_verdict judged root (noc_in fields) (icac_in fields))

add_tells : (judged : Judged) (fabrics : List Fabric) (command : Place) (fields : Value) (armed : Result Armed Status) → TellsNone (add_noc.add_under judged fabrics command fields armed)
add_tells judged fabrics command fields (Err status) = refl
add_tells judged fabrics command fields (Ok armed) = either (is_for_update armed.csr) _ _ refl (add_with_tells judged fabrics command fields armed.csr armed.root)

-- UpdateNOC.

update_if_tells : (index : ℕ) (command : Place) (new : Credentials) (fault : Option CertificateFault) → TellsNone (update_noc.update_if index command new fault)
update_if_tells index command new (Some fault) = refl
update_if_tells index command new None = refl

update_judged_tells : (index : ℕ) (command : Place) (fields : Value) (nonce : List ℕ) (own : Credentials) (chain : Option JoinRow) → TellsNone (update_noc.update_judged index command fields nonce own chain)
update_judged_tells index command fields nonce own None = refl
update_judged_tells index command fields nonce own (Some chain) = update_if_tells index command (update_noc.renewed fields own chain) (update_noc.update_refusal nonce own chain)

update_of_tells : (judged : Judged) (index : ℕ) (command : Place) (fields : Value) (nonce : List ℕ) (own : Option Credentials) → TellsNone (update_noc.update_of judged index command fields nonce own)
update_of_tells judged index command fields nonce None = refl
update_of_tells judged index command fields nonce (Some own) = update_judged_tells index command fields nonce own (chain_verdict judged own.root (noc_in fields) (icac_in fields))

update_with_tells : (judged : Judged) (known : Known) (index : ℕ) (command : Place) (fields : Value) (csr : Option (List ℕ × Bool)) → TellsNone (update_noc.update_with judged known index command fields csr)
update_with_tells judged known index command fields None = refl
update_with_tells judged known index command fields (Some csr) = either (not csr.1) _ _ refl (update_of_tells judged index command fields csr.0 (credentials_at index known.fabrics))

update_tells : (judged : Judged) (known : Known) (index : ℕ) (command : Place) (fields : Value) (armed : Result Armed Status) → TellsNone (update_noc.update_under judged known index command fields armed)
update_tells judged known index command fields (Err status) = refl
update_tells judged known index command fields (Ok armed) = either (is_some armed.root) _ _ refl (update_with_tells judged known index command fields armed.csr)

-- UpdateFabricLabel, RemoveFabric.

label_tells : (known : Known) (index : ℕ) (command : Place) (label : List ℕ) → TellsNone (labels.labelled known index command label)
label_tells known index command label = either (not (nat_le (length label) LABEL_BYTES)) _ _ refl (either (list_any (has_others_label index label) known.fabrics) _ _ refl refl)

removal_tells : (known : Known) (command : Place) (index : ℕ) → TellsNone (removal.removed known command index)
removal_tells known command index = either (is_used index known.fabrics) _ _ refl refl

credentials_tell : (judged : Judged) (known : Known) (actor : Actor) (command : Place) (fields : Value) → TellsNone (credentials.invoked judged known actor command fields)
credentials_tell judged known actor command fields =
    let owned = owned_by actor.fabric known.armed in
    either (command.leaf == 4) _ _ (csr_tells judged actor command fields owned)
    (either (command.leaf == 6) _ _ (add_tells judged known.fabrics command fields owned)
    (either (command.leaf == 7) _ _ (update_tells judged known actor.fabric command fields owned)
    (either (command.leaf == 9) _ _ (label_tells known actor.fabric command (labels.label_in fields))
    (either (command.leaf == 10) _ _ (removal_tells known command (removal.index_in fields))
    (either (command.leaf == 11) _ _ (root_tells judged command fields owned) refl)))))

-- ALL COMMANDS.

module _ (given : Environment) (o : Observation) (actor : Actor) (command : Place) (fields : Value) where
  others_tell : TellsNone (of_others o actor command fields)
  others_tell =
      either (command.cluster == administrator_commissioning.cluster) _ _ (admin_tells (nobodys_rows o) o.known actor command fields o.clock)
      (either (command.cluster == group_key_management.cluster) _ _ (keys_tell (own_rows o) actor command fields) (apps_tell (nobodys_rows o) actor command))

  carried_tells : TellsNone (carried_out given o actor command fields)
  carried_tells =
      either (command.cluster == operational_credentials.cluster) _ _ (credentials_tell given.judged o.known actor command fields)
      (either (is_commissioning command.cluster) _ _ (commission_tells o.known given.reachable actor command fields) others_tell)

  by_check : (may : Result CommandMeta Status) → TellsNone (unless_refused given o actor command fields may)
  by_check (Err status) = refl
  by_check (Ok meta) = either (has_form command fields) _ _ carried_tells refl

  pub command_tells : (timed : Bool) → TellsNone (command_effect given o actor timed command fields)
  command_tells timed = by_check (checked o.seen actor command timed)
