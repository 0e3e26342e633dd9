-- Who enters the table by a line was added under the fail-safe, so that a reopening takes it away again.
use Rattle.std.proofs.Common.{◌≡◌, ℕ, ◌==◌, ◌&&◌, ◌||◌, ◌++◌, not, inl, inr, length, nat_le, nat_lt, Bool, true, false, List, [], ◌∷◌, Option, Some, None, Result, Ok, Err, option_map, refl, sym, ap, ◌∙◌, subst, filter, map, if◌then◌else◌}
use Rattle.std.proofs.lemmas.Bool.{and_from, and_parts, cases_Bool, cond_both}
use Rattle.std.proofs.lemmas.List.Folds.{list_all-append}
use Rattle.std.specs.List.{list_all, list_any}
use Rattle.std.specs.Option.{option_and_then}
use Rattle.mt_tlv.specs.Tree.{Elements}
use Rattle.mt_tlv.specs.declared.value.Value.{Value}
use Rattle.mt_meta.specs.Given.{field_of, number_of}
use Rattle.mt_meta.specs.clusters.AdministratorCommissioning as administrator_commissioning
use Rattle.mt_meta.specs.clusters.Bench as bench
use Rattle.mt_meta.specs.clusters.GroupKeyManagement as group_key_management
use Rattle.mt_meta.specs.clusters.OnOff as on_off
use Rattle.mt_meta.specs.clusters.OperationalCredentials as operational_credentials
use Rattle.mt_meta.specs.declared.meta.CommandMeta.{CommandMeta}
use Rattle.mt_fabrics.specs.Table.{changed_at, has_index, is_used, least_unused, placed, with_credentials, with_index, with_label}
use Rattle.mt_failsafe.specs.Notes.{may_note_added, may_note_csr, may_note_root, was_added, with_added}
use Rattle.mt_model.specs.Trees.{structure_in}
use Rattle.mt_model.specs.rows.Same.{is_same_entry}
use Rattle.mt_model.specs.rows.Seen.{Observation}
use Rattle.mt_model.specs.tables.KeySets.{is_key_set, key_sets}
use Rattle.mt_model.specs.tables.Known.{Known}
use Rattle.mt_model.specs.tables.Leaving.{stays}
use Rattle.mt_model.specs.messages.Effects.{refused_at}
use Rattle.mt_model.specs.declared.limits.TheConstants.{KEY_SETS, LAST_DISCRIMINATOR}
use Rattle.mt_model.specs.declared.messages.message.Request.{Request}
use Rattle.mt_model.specs.declared.messages.message.Request.TheVariants as requests
use Rattle.mt_model.specs.declared.messages.message.WriteItem.{WriteItem}
use Rattle.mt_model.specs.declared.messages.status.Status.{Status}
use Rattle.mt_model.specs.declared.messages.status.Status.TheVariants.{InvalidCommand}
use Rattle.mt_model.specs.declared.node.action.Action.{Action}
use Rattle.mt_model.specs.declared.node.action.Action.TheVariants as actions
use Rattle.mt_model.specs.declared.node.action.Effect.{Effect}
use Rattle.mt_model.specs.declared.node.action.NodeStep.{NodeStep}
use Rattle.mt_model.specs.declared.node.action.NodeStep.TheVariants.{SetRow, SetEntries, PutNetwork, RemoveNetwork, ConnectNetwork, MoveNetwork, Arm, Renew, Expire, Complete, AddRoot, Csr, AddFabric, UpdateFabric, RemoveFabric, Label, Emit}
use Rattle.mt_model.specs.declared.node.state.NodeState.{NodeState}
use Rattle.mt_model.specs.declared.rows.place.Place.{Place}
use Rattle.mt_model.specs.declared.rows.place.Row.{Row}
use Rattle.mt_model.specs.declared.tables.access.AclEntry.{AclEntry}
use Rattle.mt_model.specs.declared.tables.access.Actor.{Actor}
use Rattle.mt_model.specs.declared.tables.fabric.Credentials.{Credentials}
use Rattle.mt_model.specs.declared.tables.fabric.Fabric.{Fabric}
use Rattle.mt_model.specs.declared.tables.network.Armed.{Armed}
use Rattle.mt_model.specs.declared.texts.recording.Event.{Event}
use Rattle.mt_model.specs.declared.texts.recording.Event.TheVariants as events
use Rattle.mt_opcreds.specs.Commands as credentials
use Rattle.mt_opcreds.specs.Moves.{IsMove, StepsAreMoves, expires, expires_and_leaves, joins, leaves, names, nothing, renews, requests, trusts}
use Rattle.mt_opcreds.specs.RemoveFabric.{leaving}
use Rattle.mt_commission.specs.Commands as commission
use Rattle.mt_commission.specs.Laws.{StepsStandFirst, sets_value, sets_values_behind}
use Rattle.mt_admin.specs.Commands as admin
use Rattle.mt_admin.specs.Windows.{closed, has_ended, is_open, number_at, window_end}
use Rattle.mt_groupkeys.specs.Commands as group_keys
use Rattle.mt_groupkeys.specs.Sets.{has_id, has_starts, values_of}
use Rattle.mt_apps.specs.Bench.{bench_effect}
use Rattle.mt_apps.specs.Commands.{invoked}
use Rattle.mt_apps.specs.EntryEvents.{entry_event, entry_events, events_between, if_changed}
use Rattle.mt_apps.specs.OnOff.{set_on}
use Rattle.mt_write.specs.Laws.{TouchesItsOwn, is_own_step}
use Rattle.mt_write.specs.Writing.{write_answer}
use Rattle.mt_machine.specs.Commands.{carried_out, command_effect, is_commissioning, nobodys_rows, of_others, own_rows, unless_refused}
use Rattle.mt_machine.specs.Effects.{after, after_all, completed, joined_as, may_join, may_leave, may_update, sets_values}
use Rattle.mt_machine.specs.Environment.{Environment}
use Rattle.mt_machine.specs.Observation.{observation}
use Rattle.mt_machine.specs.Rollback.{given_back, is_due, rolled_back}
use Rattle.mt_machine.specs.State.{is_member}
use Rattle.mt_machine.specs.Step.{asked_steps, asker, at_time, is_late, is_untimely, rows_of_nobody, steps_of, steps_to, with_events}
use Rattle.mt_invoke.specs.Checking.{checked, has_form}
use Rattle.mt_runs.specs.Expiries.{action_at}
use Rattle.mt_runs.specs.Laws.{NobodyIsBornInStops, WholeReopeningsTakeTheAdded}
use Rattle.mt_runs.specs.LineLaws as laws
use Rattle.mt_runs.specs.Lines.{next}
use Rattle.mt_runs.specs.Marks.{is_in}
use Rattle.mt_runs.specs.Reopening.{reopened}
use Rattle.mt_runs.specs.Whole.{Whole}
use Rattle.mt_runs.proofs.GivingBack.{given_back_still}
use Rattle.mt_runs.proofs.Ids.{or_parts}

contradiction : {A : Type 0} → false ≡ true → A
contradiction is = absurd cc

-- Tables of fabrics.

kept_out : (p : Fabric → Bool) (fabric : ℕ) (fabrics : List Fabric) → is_used fabric fabrics ≡ false → is_used fabric (filter p fabrics) ≡ false
kept_out p fabric [] out = refl
kept_out p fabric (f ∷ fabrics) out =
    let both = or_parts (f.index == fabric) (is_used fabric fabrics) out in
    elim (cases_Bool (p f)) [
      | inl kept ↦ rw kept (ap (λ (b : Bool). b || is_used fabric (filter p fabrics)) both.0 ∙ kept_out p fabric fabrics both.1)
      | inr gone ↦ rw gone (kept_out p fabric fabrics both.1)
    ]

changed_still : (change : Fabric → Fabric) → ((f : Fabric) → (change f).index ≡ f.index) → (fabric : ℕ) (fabrics : List Fabric) → is_used fabric (map change fabrics) ≡ is_used fabric fabrics
changed_still change same fabric [] = refl
changed_still change same fabric (f ∷ fabrics) = λ i. (same f i == fabric) || changed_still change same fabric fabrics i

placed_out : (fabric : ℕ) (new : Fabric) (fabrics : List Fabric) → (new.index == fabric) ≡ false → is_used fabric fabrics ≡ false → is_used fabric (placed new fabrics) ≡ false
placed_out fabric new [] other out = ap (λ (b : Bool). b || false) other
placed_out fabric new (f ∷ fabrics) other out =
    let both = or_parts (f.index == fabric) (is_used fabric fabrics) out in
    elim (cases_Bool (nat_lt f.index new.index)) [
      | inl lower ↦ rw lower (ap (λ (b : Bool). b || is_used fabric (placed new fabrics)) both.0 ∙ placed_out fabric new fabrics other both.1)
      | inr higher ↦ rw higher (ap (λ (b : Bool). b || is_used fabric (f ∷ fabrics)) other ∙ out)
    ]

credentials_still : (index : ℕ) (given : Credentials) (f : Fabric) → (changed_at index (with_credentials given) f).index ≡ f.index
credentials_still index given f = cond_both (has_index index f) (with_credentials given f) f (λ (g : Fabric). g.index ≡ f.index) (λ is. refl) (λ other. refl)

label_still : (index : ℕ) (label : List ℕ) (f : Fabric) → (changed_at index (with_label label) f).index ≡ f.index
label_still index label f = cond_both (has_index index f) (with_label label f) f (λ (g : Fabric). g.index ≡ f.index) (λ is. refl) (λ other. refl)

-- Steps by which nobody enters.

abbrev NobodyEnters : NodeState → NodeState → Type 0
NobodyEnters s t = (fabric : ℕ) → is_member fabric s ≡ false → is_member fabric t ≡ false

abbrev joins_not : NodeStep → Bool
joins_not (AddFabric new) = false
joins_not step = true

rolled_out : (armed : Option Armed) (s : NodeState) → NobodyEnters s (rolled_back armed s)
rolled_out None s fabric out = out
rolled_out (Some armed) s fabric out =
    changed_still (given_back armed.updated armed.saved_credentials) (given_back_still armed.updated armed.saved_credentials) fabric (filter (λ (f : Fabric). stays armed.added f.index) s.fabrics)
    ∙ kept_out (λ (f : Fabric). stays armed.added f.index) fabric s.fabrics out

completed_out : (armed : Option Armed) (s : NodeState) → NobodyEnters s (completed armed s)
completed_out None s fabric out = out
completed_out (Some armed) s fabric out = out

none_enters : (asking : Option Actor) (step : NodeStep) (s : NodeState) → joins_not step ≡ true → NobodyEnters s (after asking step s)
none_enters asking (SetRow place whose values) s none fabric out = out
none_enters asking (SetEntries whose entries) s none fabric out = out
none_enters asking (PutNetwork id secret) s none fabric out = out
none_enters asking (RemoveNetwork id) s none fabric out = out
none_enters asking (ConnectNetwork id) s none fabric out = out
none_enters asking (MoveNetwork id index) s none fabric out = out
none_enters asking (Arm owner seconds) s none fabric out = out
none_enters asking (Renew seconds) s none fabric out = out
none_enters asking Expire s none fabric out = rolled_out s.armed s fabric out
none_enters asking Complete s none fabric out = completed_out s.armed s fabric out
none_enters asking (AddRoot cert) s none fabric out = cond_both (may_note_root s.armed) _ s (λ (t : NodeState). is_member fabric t ≡ false) (λ may. out) (λ may_not. out)
none_enters asking (Csr nonce update) s none fabric out = cond_both (may_note_csr update s.armed) _ s (λ (t : NodeState). is_member fabric t ≡ false) (λ may. out) (λ may_not. out)
none_enters asking (AddFabric new) s none fabric out = contradiction none
none_enters asking (UpdateFabric index given) s none fabric out =
    cond_both (may_update index given s) _ s (λ (t : NodeState). is_member fabric t ≡ false)
    (λ may. changed_still (changed_at index (with_credentials given)) (credentials_still index given) fabric s.fabrics ∙ out) (λ may_not. out)
none_enters asking (RemoveFabric index) s none fabric out =
    cond_both (may_leave index s) _ s (λ (t : NodeState). is_member fabric t ≡ false) (λ may. kept_out (λ (f : Fabric). not (has_index index f)) fabric s.fabrics out) (λ may_not. out)
none_enters asking (Label index label) s none fabric out =
    cond_both _ _ s (λ (t : NodeState). is_member fabric t ≡ false)
    (λ may. changed_still (changed_at index (with_label label)) (label_still index label) fabric s.fabrics ∙ out) (λ may_not. out)
none_enters asking (Emit place priority whose value) s none fabric out = out

none_enter : (asking : Option Actor) (steps : List NodeStep) (s : NodeState) → list_all joins_not steps ≡ true → NobodyEnters s (after_all asking steps s)
none_enter asking [] s none fabric out = out
none_enter asking (step ∷ steps) s none fabric out =
    let both = and_parts (joins_not step) (list_all joins_not steps) none in
    none_enter asking steps (after asking step s) both.1 fabric (none_enters asking step s both.0 fabric out)

-- Whoever is in the second table was in the first one, or was added under the fail-safe.

abbrev AreKnown : NodeState → NodeState → Type 0
AreKnown s t = (fabric : ℕ) → is_member fabric s ≡ false → was_added fabric t.armed ≡ false → is_member fabric t ≡ false

noted_as : (fabric index : ℕ) (pase : Bool) (armed : Option Armed) → may_note_added armed ≡ true → was_added fabric (option_map (with_added index pase) armed) ≡ false → (index == fabric) ≡ false
noted_as fabric index pase None may other = contradiction may
noted_as fabric index pase (Some armed) may other = other

one_known : (asking : Option Actor) (step : NodeStep) (s : NodeState) → AreKnown s (after asking step s)
one_known asking (AddFabric new) s fabric out other =
    cond_both (may_join new s) (joined_as asking (least_unused s.fabrics) new s) s (λ (t : NodeState). was_added fabric t.armed ≡ false → is_member fabric t ≡ false)
    (λ may was_not.
    placed_out fabric (with_index (least_unused s.fabrics) new) s.fabrics
    (noted_as fabric (least_unused s.fabrics) _ s.armed (and_parts (may_note_added s.armed) _ may).0 was_not) out)
    (λ may_not was_not. out) other
one_known asking step s fabric out other = none_enters asking step s refl fabric out

-- steps that set values change nothing of that
value_known : (asking : Option Actor) (v : NodeState) (step : NodeStep) (s : NodeState) → sets_values step ≡ true → AreKnown v s → AreKnown v (after asking step s)
value_known asking v (SetRow place whose values) s sets known = known
value_known asking v (SetEntries whose entries) s sets known = known
value_known asking v (Emit place priority whose value) s sets known = known
value_known asking v step s sets known = contradiction sets

values_known : (asking : Option Actor) (v : NodeState) (steps : List NodeStep) (s : NodeState) → list_all sets_values steps ≡ true → AreKnown v s → AreKnown v (after_all asking steps s)
values_known asking v [] s sets known = known
values_known asking v (step ∷ steps) s sets known =
    let both = and_parts (sets_values step) (list_all sets_values steps) sets in
    values_known asking v steps (after asking step s) both.1 (value_known asking v step s both.0 known)

-- So it is with these steps, whoever makes them, and wherever.

abbrev LeaveKnown : List NodeStep → Type 0
LeaveKnown steps = (asking : Option Actor) (s : NodeState) → AreKnown s (after_all asking steps s)

none_known : LeaveKnown []
none_known asking s fabric out other = out

all_values : (steps : List NodeStep) → list_all sets_values steps ≡ true → LeaveKnown steps
all_values steps sets asking s = values_known asking s steps s sets (λ fabric out other. out)

one_first : (step : NodeStep) (steps : List NodeStep) → list_all sets_values steps ≡ true → LeaveKnown (step ∷ steps)
one_first step steps sets asking s = values_known asking s steps (after asking step s) sets (one_known asking step s)

no_joins : (steps : List NodeStep) → list_all joins_not steps ≡ true → LeaveKnown steps
no_joins steps none asking s fabric out other = none_enter asking steps s none fabric out

weaker : (P Q : NodeStep → Bool) → ((step : NodeStep) → P step ≡ true → Q step ≡ true) → (steps : List NodeStep) → list_all P steps ≡ true → list_all Q steps ≡ true
weaker P Q each [] all = refl
weaker P Q each (step ∷ steps) all =
    let both = and_parts (P step) (list_all P steps) all in
    and_from _ _ (each step both.0) (weaker P Q each steps both.1)

-- Commands of commissioning.

value_sets : (step : NodeStep) → sets_value step ≡ true → sets_values step ≡ true
value_sets (SetRow place whose values) sets = refl
value_sets step sets = contradiction sets

commission_known : (steps : List NodeStep) → sets_values_behind steps ≡ true → LeaveKnown steps
commission_known [] behind = none_known
commission_known (step ∷ steps) behind = one_first step steps (weaker sets_value sets_values value_sets steps behind)

-- Commands of Operational Credentials.
moved_known : (known : Known) (fabric : ℕ) (steps : List NodeStep) → IsMove known fabric steps → LeaveKnown steps
moved_known known fabric steps (nothing is) = subst LeaveKnown (sym is) none_known
moved_known known fabric steps (requests nonce update is) = subst LeaveKnown (sym is) (one_first (Csr nonce update) [] refl)
moved_known known fabric steps (trusts cert is) = subst LeaveKnown (sym is) (one_first (AddRoot cert) [] refl)
moved_known known fabric steps (joins new entries own_ones is) = subst LeaveKnown (sym is) (one_first (AddFabric new) (SetEntries new.index entries ∷ []) refl)
moved_known known fabric steps (renews given is) = subst LeaveKnown (sym is) (one_first (UpdateFabric fabric given) [] refl)
moved_known known fabric steps (names label is) = subst LeaveKnown (sym is) (one_first (Label fabric label) [] refl)
moved_known known fabric steps (leaves index free is) = subst LeaveKnown (sym is) (no_joins (leaving index) refl)
moved_known known fabric steps (expires index context was is) = subst LeaveKnown (sym is) (no_joins (Expire ∷ []) refl)
moved_known known fabric steps (expires_and_leaves index context was_not is) = subst LeaveKnown (sym is) (no_joins (Expire ∷ leaving index) refl)

-- Other commands set values.

abbrev Sets : Effect → Type 0
Sets effect = list_all sets_values effect.steps ≡ true

opens_sets : (rows_at : Place → List Row) (known : Known) (actor : Actor) (command : Place) (fields : Value) (now : ℕ) → Sets (admin.open_window rows_at known actor command fields now)
opens_sets rows_at known actor command fields now = elim (cases_Bool (not (admin.is_timeout (number_of 0 fields)) || nat_lt LAST_DISCRIMINATOR (number_of 2 fields))) [
  | inl refused ↦ rw refused refl
  | inr may ↦ rw may (elim (cases_Bool (admin.is_busy rows_at known)) [
    | inl busy ↦ rw busy refl
    | inr free ↦ rw free (elim (cases_Bool (admin.is_verified fields)) [ inl verified ↦ rw verified refl | inr not_verified ↦ rw not_verified refl ])
  ])
]

opens_basic_sets : (rows_at : Place → List Row) (known : Known) (actor : Actor) (command : Place) (fields : Value) (now : ℕ) → Sets (admin.open_basic_window rows_at known actor command fields now)
opens_basic_sets rows_at known actor command fields now = elim (cases_Bool (admin.is_timeout (number_of 0 fields))) [
  | inl may ↦ rw may (elim (cases_Bool (admin.is_busy rows_at known)) [ inl busy ↦ rw busy refl | inr free ↦ rw free refl ])
  | inr refused ↦ rw refused refl
]

revoke_sets : (rows_at : Place → List Row) (command : Place) → Sets (admin.revoke rows_at command)
revoke_sets rows_at command = elim (cases_Bool (is_open rows_at)) [ inl there ↦ rw there refl | inr none ↦ rw none refl ]

admin_sets : (rows_at : Place → List Row) (known : Known) (actor : Actor) (command : Place) (fields : Value) (now : ℕ) → Sets (admin.invoked rows_at known actor command fields now)
admin_sets rows_at known actor command fields now = elim (cases_Bool (command.leaf == 0)) [
  | inl is ↦ rw is (opens_sets rows_at known actor command fields now)
  | inr other ↦ rw other (elim (cases_Bool (command.leaf == 1)) [
    | inl is ↦ rw is (opens_basic_sets rows_at known actor command fields now)
    | inr another ↦ rw another (elim (cases_Bool (command.leaf == 2)) [ inl is ↦ rw is (revoke_sets rows_at command) | inr none ↦ rw none refl ])
  ])
]

set_sets : (sets : List Value) (fabric : ℕ) (command : Place) (id : ℕ) (set : Value) → Sets (group_keys.set_in sets fabric command id set)
set_sets sets fabric command id set = elim (cases_Bool (not (list_any (has_id id) sets) && nat_le KEY_SETS (length sets))) [ inl full ↦ rw full refl | inr room ↦ rw room refl ]

write_sets : (sets : List Value) (fabric : ℕ) (command : Place) (found : Option Elements) → Sets (group_keys.write_set sets fabric command found)
write_sets sets fabric command None = refl
write_sets sets fabric command (Some es) = elim (cases_Bool (is_key_set es && has_starts es)) [
  | inl is ↦ rw is (set_sets sets fabric command _ _)
  | inr is_not ↦ rw is_not refl
]

told_sets : (command : Place) (found : Option Value) → Sets (group_keys.told command found)
told_sets command None = refl
told_sets command (Some set) = refl

read_sets : (sets : List Value) (command : Place) (id : ℕ) → Sets (group_keys.read_set sets command id)
read_sets sets command id = elim (cases_Bool (id == 0)) [ inl zero ↦ rw zero refl | inr some ↦ rw some (told_sets command _) ]

remove_sets : (sets items : List Value) (fabric : ℕ) (command : Place) (id : ℕ) → Sets (group_keys.remove_set sets items fabric command id)
remove_sets sets items fabric command id = elim (cases_Bool (id == 0)) [
  | inl zero ↦ rw zero refl
  | inr some ↦ rw some (elim (cases_Bool (list_any (has_id id) sets)) [ inl there ↦ rw there refl | inr none ↦ rw none refl ])
]

of_fabric_sets : (rows_at : Place → List Row) (fabric : ℕ) (command : Place) (fields : Value) → Sets (group_keys.of_fabric rows_at fabric command fields)
of_fabric_sets rows_at fabric command fields = elim (cases_Bool (command.leaf == 0)) [
  | inl is ↦ rw is (write_sets (values_of (rows_at key_sets)) fabric command (option_and_then structure_in (field_of 0 fields)))
  | inr other ↦ rw other (elim (cases_Bool (command.leaf == 1)) [
    | inl is ↦ rw is (read_sets (values_of (rows_at key_sets)) command (number_of 0 fields))
    | inr another ↦ rw another (elim (cases_Bool (command.leaf == 3)) [
      | inl is ↦ rw is (remove_sets (values_of (rows_at key_sets)) (values_of (rows_at group_keys.key_map)) fabric command (number_of 0 fields))
      | inr yet ↦ rw yet (elim (cases_Bool (command.leaf == 4)) [ inl is ↦ rw is refl | inr none ↦ rw none refl ])
    ])
  ])
]

keys_set : (rows_at : Place → List Row) (actor : Actor) (command : Place) (fields : Value) → Sets (group_keys.invoked rows_at actor command fields)
keys_set rows_at actor command fields = elim (cases_Bool (actor.fabric == 0)) [ inl nobody ↦ rw nobody refl | inr some ↦ rw some (of_fabric_sets rows_at actor.fabric command fields) ]

on_sets : (command : Place) (on : Option Bool) → Sets (set_on command on)
on_sets command None = refl
on_sets command (Some on) = refl

ring_sets : (rows_at : Place → List Row) (fabric : ℕ) (command : Place) → Sets (bench_effect rows_at fabric command)
ring_sets rows_at fabric command = elim (cases_Bool (command.leaf == 0)) [ inl ring ↦ rw ring refl | inr none ↦ rw none refl ]

apps_set : (rows_at : Place → List Row) (actor : Actor) (command : Place) → Sets (invoked rows_at actor command)
apps_set rows_at actor command = elim (cases_Bool (command.cluster == on_off.cluster)) [
  | inl is ↦ rw is (on_sets command _)
  | inr other ↦ rw other (elim (cases_Bool (command.cluster == bench.cluster)) [ inl is ↦ rw is (ring_sets rows_at actor.fabric command) | inr none ↦ rw none refl ])
]

others_set : (o : Observation) (actor : Actor) (command : Place) (fields : Value) → Sets (of_others o actor command fields)
others_set o actor command fields =
    cond_both (command.cluster == administrator_commissioning.cluster) (admin.invoked (nobodys_rows o) o.known actor command fields o.clock) _ Sets
    (λ is. admin_sets (nobodys_rows o) o.known actor command fields o.clock)
    (λ other.
    cond_both (command.cluster == group_key_management.cluster) (group_keys.invoked (own_rows o) actor command fields) (invoked (nobodys_rows o) actor command) Sets
    (λ is. keys_set (own_rows o) actor command fields) (λ another. apps_set (nobodys_rows o) actor command))

-- Writes, and the events of what they set.

event_sets : (actor : Actor) (change : ℕ) (entry : AclEntry) → sets_values (entry_event actor change entry) ≡ true
unfolding entry_event
event_sets actor change entry = refl

changed_set : (actor : Actor) (new : AclEntry) (same : Bool) → list_all sets_values (if same then [] else entry_event actor 0 new ∷ []) ≡ true
changed_set actor new true = refl
changed_set actor new false = and_from _ _ (event_sets actor 0 new) refl

between_set : (actor : Actor) (entries others : List AclEntry) → list_all sets_values (events_between actor entries others) ≡ true
between_set actor [] [] = refl
between_set actor [] (new ∷ others) = and_from _ _ (event_sets actor 1 new) (between_set actor [] others)
between_set actor (old ∷ entries) [] = and_from _ _ (event_sets actor 2 old) (between_set actor entries [])
between_set actor (old ∷ entries) (new ∷ others) =
    list_all-append sets_values (if_changed actor old new) (events_between actor entries others)
    ∙ and_from _ _ (changed_set actor new (is_same_entry old new)) (between_set actor entries others)

events_set : (actor : Actor) (entries : List AclEntry) (steps : List NodeStep) → list_all sets_values (entry_events actor entries steps) ≡ true
events_set actor entries [] = refl
events_set actor entries (SetEntries whose new ∷ steps) = list_all-append sets_values (events_between actor entries new) (entry_events actor new steps) ∙ and_from _ _ (between_set actor entries new) (events_set actor new steps)
events_set actor entries (step ∷ steps) = events_set actor entries steps

own_sets : (actor : Actor) (step : NodeStep) → is_own_step actor step ≡ true → sets_values step ≡ true
own_sets actor (SetRow place whose values) own = refl
own_sets actor (SetEntries whose entries) own = refl
own_sets actor (Emit place priority whose value) own = refl
own_sets actor step own = contradiction own

-- Requests.

unless : (P : List NodeStep → Type 0) (refused : Bool) (steps : List NodeStep) → P [] → P steps → P (if refused then [] else steps)
unless P true steps none all = none
unless P false steps none all = all

module _ (moves : StepsAreMoves) (first : StepsStandFirst) (own : TouchesItsOwn) (given : Environment) where
  written_known : (o : Observation) (actor : Actor) (items : List WriteItem) (timed : Bool) → LeaveKnown (with_events o actor (write_answer o.seen actor items timed).rows)
  written_known o actor items timed =
      let steps = (write_answer o.seen actor items timed).rows in
      all_values (with_events o actor steps)
      (list_all-append sets_values steps (entry_events actor o.seen.entries steps)
      ∙ and_from _ _ (weaker (is_own_step actor) sets_values (own_sets actor) steps (own o.seen actor items timed)) (events_set actor o.seen.entries steps))

  abbrev Known_by : Effect → Type 0
  Known_by effect = LeaveKnown effect.steps

  carried_known : (o : Observation) (actor : Actor) (command : Place) (fields : Value) → LeaveKnown (carried_out given o actor command fields).steps
  carried_known o actor command fields =
      cond_both (command.cluster == operational_credentials.cluster) (credentials.invoked given.judged o.known actor command fields)
      (if is_commissioning command.cluster then commission.invoked o.known given.reachable actor command fields else of_others o actor command fields) Known_by
      (λ is. moved_known o.known actor.fabric (credentials.invoked given.judged o.known actor command fields).steps (moves given.judged o.known actor command fields))
      (λ other.
      cond_both (is_commissioning command.cluster) (commission.invoked o.known given.reachable actor command fields) (of_others o actor command fields) Known_by
      (λ is. commission_known (commission.invoked o.known given.reachable actor command fields).steps (first o.known given.reachable actor command fields))
      (λ another. all_values (of_others o actor command fields).steps (others_set o actor command fields)))

  checked_known : (o : Observation) (actor : Actor) (command : Place) (fields : Value) (may : Result CommandMeta Status) → LeaveKnown (unless_refused given o actor command fields may).steps
  checked_known o actor command fields (Err status) = none_known
  checked_known o actor command fields (Ok meta) =
      cond_both (has_form command fields) (carried_out given o actor command fields) (refused_at command InvalidCommand) Known_by
      (λ has. carried_known o actor command fields) (λ has_not. none_known)

  requested_known : (o : Observation) (actor : Actor) (stood : Bool) (request : Request) → LeaveKnown (steps_to given o actor stood request)
  requested_known o actor stood (requests.Status code) = none_known
  requested_known o actor stood (requests.Read paths wanted minimum filtered versions) = none_known
  requested_known o actor stood (requests.Subscribe keep floor ceiling paths wanted minimum filtered versions) = none_known
  requested_known o actor stood (requests.Write suppress timed items) =
      unless LeaveKnown (is_untimely stood timed) (with_events o actor (write_answer o.seen actor items timed).rows) none_known (written_known o actor items timed)
  requested_known o actor stood (requests.Invoke suppress timed command fields) =
      unless LeaveKnown (is_untimely stood timed) (command_effect given o actor timed command fields).steps none_known (checked_known o actor command fields (checked o.seen actor command timed))
  requested_known o actor stood (requests.Timed ms) = none_known

  -- Actions.

  asked_known : (s : NodeState) (request : Request) (deadline : Option ℕ) (now : ℕ) (asking : Option Actor) → LeaveKnown (asked_steps given s request deadline now asking)
  asked_known s request deadline now None = none_known
  asked_known s request deadline now (Some actor) = unless LeaveKnown (is_late deadline now) _ none_known (requested_known (observation actor.fabric (at_time now s)) actor _ request)

  ticked_known : (due ended : Bool) → LeaveKnown ((if due then Expire ∷ [] else []) ++ (if ended then closed else []))
  ticked_known true true = no_joins (Expire ∷ closed) refl
  ticked_known true false = no_joins (Expire ∷ []) refl
  ticked_known false true = no_joins closed refl
  ticked_known false false = none_known

  acted_known : (s : NodeState) (action : Action) (now : ℕ) → LeaveKnown (steps_of given s action now)
  acted_known s (actions.Ask actor request deadline) now = asked_known s request deadline now (asker s actor)
  acted_known s actions.Expire now = ticked_known (is_due s.armed now) (has_ended now (number_at (rows_of_nobody s) window_end))
  acted_known s actions.Nothing now = none_known

  -- Lines.

  behind_known : (s : NodeState) (action : Action) (now : ℕ) (asking : Option Actor) → AreKnown s (after_all asking (steps_of given s action now) (at_time now s))
  behind_known s action now asking = acted_known s action now asking (at_time now s)

  line_known : (w : Whole) (e : Event) → AreKnown w.state.node (next given w e).state.node
  line_known w (events.Ask ms fabric node cats opcode payload) = behind_known w.state.node (action_at w (events.Ask ms fabric node cats opcode payload)) ms _
  line_known w (events.Datagram ms from bytes) = behind_known w.state.node (action_at w (events.Datagram ms from bytes)) ms _
  line_known w (events.Tick ms) = behind_known w.state.node actions.Expire ms None
  line_known w (events.Report ms fabric subscription) = behind_known w.state.node actions.Nothing ms None
  line_known w (events.Resend ms session) = behind_known w.state.node actions.Nothing ms None
  line_known w (events.Stop calls fate) = λ fabric out other. out

not_both : (a : Bool) → (a && false) ≡ false
not_both true = refl
not_both false = refl

-- Who enters by a line is gone behind a reopening.
pub nobody_is_born : StepsAreMoves → StepsStandFirst → TouchesItsOwn → laws.WholeStaysValid → WholeReopeningsTakeTheAdded → NobodyIsBornInStops
nobody_is_born moves first own stays_valid takes given sessions fabric w e keeps valid out =
    let v = next given w e in
    let left : is_in fabric (reopened sessions v) ≡ (is_in fabric v && not (was_added fabric v.state.node.armed)) = takes sessions fabric v (stays_valid given w e keeps valid) in
    elim (cases_Bool (was_added fabric v.state.node.armed)) [
      | inl was ↦ left ∙ ap (λ (b : Bool). is_in fabric v && not b) was ∙ not_both (is_in fabric v)
      | inr was_not ↦ left ∙ ap (λ (b : Bool). b && not (was_added fabric v.state.node.armed)) (line_known moves first own given w e fabric out was_not)
    ]
