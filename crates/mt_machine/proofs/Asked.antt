-- What whoever asks makes of a valid state: its fabric is in the table, or it has none and sets nothing that is scoped.
use Rattle.mt_meta.specs.Places.{all_places}
use Rattle.mt_model.specs.rows.Setting.{is_at}
use Rattle.std.proofs.Common.{◌≡◌, ℕ, ◌≤◌, ◌^◌, inl, inr, Bool, true, false, not, ◌&&◌, ◌||◌, ◌==◌, nat_le, nat_lt, List, [], ◌∷◌, ◌++◌, length, Option, Some, None, Ok, is_some, refl, sym, ap, ◌∙◌, subst, filter, map, if◌then◌else◌, arith, suc}
use Rattle.std.proofs.lemmas.Bool.{and_from, and_parts, cases_Bool, eqb-true, leb-true, lt-ltb, or_cases, or_left, or_right, cond_both, le-leb, le-ltb}
use Rattle.std.proofs.lemmas.List.Sums.{length-filter}
use Rattle.std.specs.List.{count_by, find, list_all, list_any}
use Rattle.std.specs.Option.{option_and_then, option_map}
use Rattle.mt_tlv.specs.declared.value.Value.{Value}
use Rattle.mt_meta.specs.Finding.{find_command_of, find_data_of}
use Rattle.mt_meta.specs.clusters.AdministratorCommissioning as administrator_commissioning
use Rattle.mt_meta.specs.clusters.GroupKeyManagement as group_key_management
use Rattle.mt_meta.specs.declared.meta.CommandMeta.{CommandMeta}
use Rattle.mt_meta.specs.Forms.{has_form}
use Rattle.mt_meta.specs.Stored.{is_stored}
use Rattle.mt_meta.specs.declared.meta.Meta.{Meta}
use Rattle.mt_model.specs.texts.Config.{ascend_from, has_identity, is_entry, is_pase}
use Rattle.mt_model.specs.rows.Order.{fabrics_ascend, in_order, is_higher, is_lower, is_own}
use Rattle.mt_model.specs.rows.Seen.{Observation, own_entries}
use Rattle.mt_model.specs.rows.Sight.{seen_by, stands_at, same_place, bare_value}
use Rattle.mt_model.specs.declared.tables.access.AclEntry.{AclEntry}
use Rattle.mt_model.specs.declared.tables.access.Actor.{Actor}
use Rattle.mt_model.specs.declared.tables.access.Auth.{Auth}
use Rattle.mt_model.specs.declared.tables.access.Auth.TheVariants.{Pase, Case, Group}
use Rattle.mt_model.specs.declared.tables.fabric.Fabric.{Fabric}
use Rattle.mt_model.specs.declared.node.action.Action.{Action}
use Rattle.mt_model.specs.declared.node.action.Action.TheVariants as actions
use Rattle.mt_model.specs.declared.node.action.Action.TheVariants.{Ask, Nothing}
use Rattle.mt_model.specs.declared.node.action.NodeStep.{NodeStep}
use Rattle.mt_model.specs.declared.node.action.NodeStep.TheVariants.{SetRow, SetEntries, PutNetwork, RemoveNetwork, ConnectNetwork, MoveNetwork, Arm, Renew, Expire, Complete, AddRoot, Csr, AddFabric, UpdateFabric, RemoveFabric, Label, Emit}
use Rattle.mt_model.specs.declared.messages.message.Request.{Request}
use Rattle.mt_model.specs.declared.messages.message.WriteItem.{WriteItem}
use Rattle.mt_model.specs.declared.rows.place.Place.{Place}
use Rattle.mt_model.specs.declared.rows.place.Row.{Row}
use Rattle.mt_model.specs.declared.node.state.ChangeNumber.{ChangeNumber}
use Rattle.mt_model.specs.declared.node.state.NodeSession.{NodeSession}
use Rattle.mt_model.specs.declared.node.state.NodeState.{NodeState}
use Rattle.mt_model.specs.declared.node.state.Standing.{Standing}
use Rattle.mt_model.specs.declared.node.state.Standing.TheVariants.{Waits, Live, Ended}
use Rattle.mt_write.specs.Laws.{IsSoundSight, LeavesSound, NobodySetsScoped, TouchesItsOwn, are_entries_of, is_entry_of, is_own_step, is_sound_step, is_unscoped_step}
use Rattle.mt_write.specs.Writing.{fabric_of, is_scoped, own_values, write_answer}
use Rattle.mt_admin.specs.Commands as admin
use Rattle.mt_apps.specs.Commands.{invoked}
use Rattle.mt_commission.specs.Commands as commission
use Rattle.mt_commission.specs.Laws.{StepsAreSound, StepsStandFirst}
use Rattle.mt_commission.specs.Laws as commission_laws
use Rattle.mt_groupkeys.specs.Commands as group_keys
use Rattle.mt_opcreds.specs.Commands as credentials
use Rattle.mt_opcreds.specs.Laws as credentials_laws
use Rattle.mt_model.specs.tables.Known.{bare_armed, bare_network, known_to}
use Rattle.mt_opcreds.specs.Laws.{KeepsRules, StepsAreWellFormed, StepsFit, is_well_formed}
use Rattle.mt_opcreds.specs.Moves.{IsMove, StepsAreMoves}
use Rattle.mt_subs.specs.Changes.{IsChanges, newest_of, noted}
use Rattle.mt_machine.specs.Changes.{differing, differs}
use Rattle.mt_machine.specs.Commands.{command_effect, nobodys_rows, of_others}
use Rattle.mt_machine.specs.Commands as commands
use Rattle.mt_machine.specs.Environment.{Environment}
use Rattle.mt_machine.specs.Effects.{after, after_all}
use Rattle.mt_machine.specs.Observation.{observation}
use Rattle.mt_machine.specs.Requests.{RequestLaws}
use Rattle.mt_machine.specs.Rollback.{is_due, rollback}
use Rattle.mt_machine.specs.State.{IsValid, is_among, is_plain_of, is_row, is_row_at, is_row_of, is_session, rows_of, stands_rightly, has_change}
use Rattle.mt_machine.specs.Taking.{fits, may_take_all}
use Rattle.mt_machine.specs.Step.{after_steps, asked_steps, asker, asker_of, asker_on, at_time, is_late, live_actor, pase_actor, plain_asker, steps_of, steps_to, window_steps, with_events}
use Rattle.mt_machine.proofs.Carried.{command_by}
use Rattle.mt_machine.proofs.Clusters.{admin_fits, admin_own, admin_sound, keys_pass}
use Rattle.mt_machine.proofs.Windows.{windows_fit}
use Rattle.mt_model.specs.declared.node.action.Effect.{Effect}
use Rattle.mt_machine.proofs.Commands.{fitting_events, fitting_invoked, own_invoked}
use Rattle.mt_machine.proofs.Good.{in_time, own_written, requested, with_its_events}
use Rattle.mt_machine.proofs.Moving.{all_fit, all_well, moved_taken, sound_taken}
use Rattle.mt_machine.proofs.Counting.{all-filter, all-kept, all-three, any-weaker, impossible, place-same, count, count-three, count-without, counted}
use Rattle.mt_machine.proofs.Writes.{keeps_fabrics, members_are_positive, passes_among, settled_valid, timed_valid}

-- Whoever is taken as asking has no fabric, or one of the table.

abbrev pub is_known : List Fabric → Option Actor → Bool
is_known fabrics None = true
is_known fabrics (Some actor) = actor.fabric == 0 || is_among fabrics actor.fabric

identified : (fabrics : List Fabric) (session : NodeSession) (fabric : ℕ) → list_any (λ (f : Fabric). f.index == fabric && has_identity session.root_key session.fabric_id f) fabrics ≡ true → (fabric == 0 || is_among fabrics fabric) ≡ true
identified fabrics session fabric its =
    or_right _ _ (any-weaker (λ (f : Fabric). f.index == fabric && has_identity session.root_key session.fabric_id f) (λ (f : Fabric). f.index == fabric) (λ f both. (and_parts _ _ both).0) fabrics its)

live_known : (fabrics : List Fabric) (session : NodeSession) (auth : Auth) (standing : Standing) → stands_rightly fabrics session auth standing ≡ true → is_known fabrics (live_actor session standing) ≡ true
live_known fabrics session Pase Waits stands = refl
live_known fabrics session Pase (Live fabric) stands = stands
live_known fabrics session Pase Ended stands = refl
live_known fabrics session Case Waits stands = refl
live_known fabrics session Case (Live fabric) stands = identified fabrics session fabric stands
live_known fabrics session Case Ended stands = refl
live_known fabrics session Group Waits stands = refl
live_known fabrics session Group (Live fabric) stands = identified fabrics session fabric stands
live_known fabrics session Group Ended stands = refl

session_known : (fabrics : List Fabric) (id : ℕ) (sessions : List NodeSession) → list_all (is_session fabrics) sessions ≡ true
    → is_known fabrics (option_and_then (λ (session : NodeSession). live_actor session session.standing) (find (λ (session : NodeSession). session.session == id) sessions)) ≡ true
session_known fabrics id [] stand = refl
session_known fabrics id (session ∷ sessions) stand =
    let both = and_parts (is_session fabrics session) (list_all (is_session fabrics) sessions) stand in
    elim (cases_Bool (session.session == id)) [
      | inl this ↦ rw this (live_known fabrics session session.auth session.standing both.0)
      | inr other ↦ rw other (session_known fabrics id sessions both.1)
    ]

case_known : (b : Bool) (fabrics : List Fabric) (actor : Actor) → is_among fabrics actor.fabric ≡ b → is_known fabrics (if b then Some actor else None) ≡ true
case_known true fabrics actor member = or_right _ _ member
case_known false fabrics actor none = refl

pase_known : (b : Bool) (fabrics : List Fabric) (plain : Option ℕ) → is_plain_of fabrics plain ≡ true → is_known fabrics (if b then option_map pase_actor plain else None) ≡ true
pase_known true fabrics None stands = refl
pase_known true fabrics (Some fabric) stands = stands
pase_known false fabrics plain stands = refl

plain_known : (s : NodeState) (actor : Actor) (auth : Auth) → IsValid s → is_known s.fabrics (plain_asker s actor auth) ≡ true
plain_known s actor Case valid = case_known (is_among s.fabrics actor.fabric) s.fabrics actor refl
plain_known s actor Pase valid = pase_known (actor.fabric == 0 && actor.node == 0) s.fabrics s.plain valid.plain_stands
plain_known s actor Group valid = refl

known_on : (s : NodeState) (actor : Actor) (session : Option ℕ) → IsValid s → is_known s.fabrics (asker_on s actor session) ≡ true
known_on s actor (Some id) valid = session_known s.fabrics id s.sessions valid.sessions_stand
known_on s actor None valid = plain_known s actor actor.auth valid

-- What a fabric observes as its own, or nobody's, has its form.

module _ (test : ℕ → Value → Bool) (fabric whose : ℕ) (seen_whole : (n : ℕ) → (n == whose) ≡ true → (n == fabric || n == 0) ≡ true) where
  own_pass : (rows : List Row) → list_all (λ (row : Row). test row.fabric row.value) rows ≡ true → list_all (test whose) (own_values whose (map (seen_by fabric) rows)) ≡ true
  own_pass [] all = refl
  own_pass (row ∷ rows) all =
      let both = and_parts (test row.fabric row.value) (list_all (λ (r : Row). test r.fabric r.value) rows) all in
      elim (cases_Bool (row.fabric == fabric || row.fabric == 0)) [
        | inl whole ↦ rw whole (elim (cases_Bool (row.fabric == whose)) [
          | inl own ↦ rw own (and_from _ _ (subst (λ n. test n row.value ≡ true) (eqb-true row.fabric whose own) both.0) (own_pass rows both.1))
          | inr other ↦ rw other (own_pass rows both.1)
        ])
        | inr bare ↦ rw bare (elim (cases_Bool (row.fabric == whose)) [
          | inl own ↦ impossible (sym bare ∙ seen_whole row.fabric own)
          | inr other ↦ rw other (own_pass rows both.1)
        ])
      ]

in_order_pass : (test : Row → Bool) (fabric : ℕ) (rows : List Row) → list_all test rows ≡ true → list_all test (in_order fabric rows) ≡ true
in_order_pass test fabric rows all =
    all-three test (filter (is_lower fabric) rows) (filter (is_own fabric) rows) (filter (is_higher fabric) rows)
    (all-filter test (is_lower fabric) rows all) (all-filter test (is_own fabric) rows all) (all-filter test (is_higher fabric) rows all)

-- How many rows a fabric sees as its own.

seen-fabric : (fabric : ℕ) (row : Row) → (seen_by fabric row).fabric ≡ row.fabric
seen-fabric fabric row = cond_both (row.fabric == fabric || row.fabric == 0) row (record row { value = bare_value row.place row.value }) (λ (r : Row). r.fabric ≡ row.fabric) (λ whole. refl) (λ bare. refl)

length-values : (rows : List Row) → length (map (λ (row : Row). row.value) rows) ≡ length rows
length-values [] = refl
length-values (row ∷ rows) = ap suc (length-values rows)

count-seen : (fabric : ℕ) (rows : List Row) → count (is_own fabric) (map (seen_by fabric) rows) ≡ count (is_own fabric) rows
count-seen fabric [] = refl
count-seen fabric (row ∷ rows) =
    let rest = count-seen fabric rows in
    let same : is_own fabric (seen_by fabric row) ≡ is_own fabric row = ap (λ n. n == fabric) (seen-fabric fabric row) in
    elim (cases_Bool (is_own fabric row)) [
      | inl own ↦
          let seen : is_own fabric (seen_by fabric row) ≡ true = same ∙ own in
          rw (seen, own) (ap suc rest)
      | inr other ↦
          let seen : is_own fabric (seen_by fabric row) ≡ false = same ∙ other in
          rw (seen, other) rest
    ]

count-own : (fabric : ℕ) (rows : List Row) → count (is_own fabric) (filter (is_own fabric) rows) ≡ count (is_own fabric) rows
count-own fabric [] = refl
count-own fabric (row ∷ rows) = elim (cases_Bool (is_own fabric row)) [
  | inl own ↦ rw (own, own) (ap suc (count-own fabric rows))
  | inr other ↦ rw other (count-own fabric rows)
]

count-order : (fabric : ℕ) (rows : List Row) → count (is_own fabric) (in_order fabric rows) ≡ count (is_own fabric) rows
count-order fabric rows =
    let parts = count-three (is_own fabric) (filter (is_lower fabric) rows) (filter (is_own fabric) rows) (filter (is_higher fabric) rows) in
    let lower = count-without (is_own fabric) (is_lower fabric) (λ row own. le-ltb row.fabric fabric (omega (arith, eqb-true row.fabric fabric own))) rows in
    let higher = count-without (is_own fabric) (is_higher fabric) (λ row own. le-ltb fabric row.fabric (omega (arith, eqb-true row.fabric fabric own))) rows in
    omega (arith, parts, lower, higher, count-own fabric rows)

own-count : (fabric : ℕ) (rows : List Row) → length (own_values fabric (map (seen_by fabric) (in_order fabric rows))) ≡ count (is_own fabric) rows
own-count fabric rows = length-values (filter (is_own fabric) (map (seen_by fabric) (in_order fabric rows))) ∙ count-seen fabric (in_order fabric rows) ∙ count-order fabric rows

seen_as_whole : (scoped : Bool) (fabric n : ℕ) → (n == (if scoped then fabric else 0)) ≡ true → (n == fabric || n == 0) ≡ true
seen_as_whole true fabric n own = or_left _ _ own
seen_as_whole false fabric n own = or_right _ _ own

module _ (s : NodeState) (valid : IsValid s) (actor : Actor) where
  row_form : (place : Place) (meta : Meta) → find_data_of place ≡ Ok meta → (row : Row) → stands_at place row ≡ true → is_row s.fabrics row ≡ true → has_form meta row.fabric row.value ≡ true
  row_form place meta there row at is =
      let found : find_data_of row.place ≡ Ok meta = ap find_data_of (place-same row.place place at) ∙ there in
      let here : is_row_at s.fabrics row (find_data_of row.place) ≡ true = (and_parts _ _ is).1 in
      let is_at : is_row_at s.fabrics row (Ok meta) ≡ true = subst (λ r. is_row_at s.fabrics row r ≡ true) found here in
      (and_parts (has_form meta row.fabric row.value) (is_row_of s.fabrics meta.scoped row.fabric) is_at).0

  rows_at : (place : Place) → is_stored place ≡ true → rows_of s place ≡ filter (stands_at place) s.rows
  rows_at place stored = rw stored refl

  seen_forms : (place : Place) (meta : Meta) → find_data_of place ≡ Ok meta → is_stored place ≡ true
      → list_all (has_form meta (fabric_of actor meta)) (own_values (fabric_of actor meta) (map (seen_by actor.fabric) (in_order actor.fabric (rows_of s place)))) ≡ true
  seen_forms place meta there stored =
      let all : list_all (λ (row : Row). has_form meta row.fabric row.value) (filter (stands_at place) s.rows) ≡ true =
      all-kept (is_row s.fabrics) (λ (row : Row). has_form meta row.fabric row.value) (stands_at place) (row_form place meta there) s.rows (all-filter (is_row s.fabrics) (stands_at place) s.rows valid.row_forms) in
      let there_all : list_all (λ (row : Row). has_form meta row.fabric row.value) (rows_of s place) ≡ true =
      subst (λ (rows : List Row). list_all (λ (row : Row). has_form meta row.fabric row.value) rows ≡ true) (sym (rows_at place stored)) all in
      own_pass (has_form meta) actor.fabric (fabric_of actor meta) (seen_as_whole meta.scoped actor.fabric) (in_order actor.fabric (rows_of s place))
      (in_order_pass (λ (row : Row). has_form meta row.fabric row.value) actor.fabric (rows_of s place) there_all)

  -- of a scoped list it has no more items than it may

  own_rows : (place : Place) → count (is_own actor.fabric) (filter (stands_at place) s.rows) ≡ count (is_at place actor.fabric) s.rows
  own_rows place = both_tests s.rows
    where
      both_tests : (rows : List Row) → count (is_own actor.fabric) (filter (stands_at place) rows) ≡ count (is_at place actor.fabric) rows
      both_tests [] = refl
      both_tests (row ∷ rows) =
          let rest = both_tests rows in
          elim (cases_Bool (same_place row.place place)) [
            | inl here ↦ elim (cases_Bool (row.fabric == actor.fabric)) [ inl own ↦ rw (here, own) (ap suc rest) | inr other ↦ rw (here, other) rest ]
            | inr elsewhere ↦ rw elsewhere rest
          ]

  seen_few : (place : Place) (meta : Meta) → find_data_of place ≡ Ok meta → is_stored place ≡ true → meta.scoped ≡ true
      → nat_le (length (own_values (fabric_of actor meta) (map (seen_by actor.fabric) (in_order actor.fabric (rows_of s place))))) meta.limit ≡ true
  seen_few place meta there stored scoped =
      let whose : fabric_of actor meta ≡ actor.fabric = subst (λ b. (if b then actor.fabric else 0) ≡ actor.fabric) (sym scoped) refl in
      let seen : length (own_values actor.fabric (map (seen_by actor.fabric) (in_order actor.fabric (rows_of s place)))) ≡ count (is_own actor.fabric) (rows_of s place) = own-count actor.fabric (rows_of s place) in
      let stands : count (is_own actor.fabric) (rows_of s place) ≡ count (is_at place actor.fabric) s.rows =
      subst (λ (rows : List Row). count (is_own actor.fabric) rows ≡ count (is_at place actor.fabric) s.rows) (sym (rows_at place stored)) (own_rows place) in
      let most = leb-true (count_by (is_at place actor.fabric) s.rows) meta.limit (valid.row_counts place meta actor.fabric there scoped) in
      let few : nat_le (length (own_values actor.fabric (map (seen_by actor.fabric) (in_order actor.fabric (rows_of s place))))) meta.limit ≡ true =
      le-leb _ _ (omega (arith, seen, stands, most, counted (is_at place actor.fabric) s.rows)) in
      subst (λ n. nat_le (length (own_values n (map (seen_by actor.fabric) (in_order actor.fabric (rows_of s place))))) meta.limit ≡ true) (sym whose) few

none_of_nobody : (least : ℕ) (entries : List AclEntry) → 1 ≤ least → ascend_from least entries ≡ true → own_entries 0 entries ≡ []
none_of_nobody least [] some rise = refl
none_of_nobody least (entry ∷ entries) some rise =
    let both = and_parts (nat_le least entry.fabric) (ascend_from entry.fabric entries) rise in
    let higher : least ≤ entry.fabric = leb-true least entry.fabric both.0 in
    let other : (entry.fabric == 0) ≡ false = grind arith in
    rw other (none_of_nobody entry.fabric entries (omega arith) both.1)

own_forms : (fabric : ℕ) (entries : List AclEntry) → list_all is_entry entries ≡ true → list_all (is_entry_of fabric) (own_entries fabric entries) ≡ true
own_forms fabric entries all =
    all-kept is_entry (is_entry_of fabric) (λ (entry : AclEntry). entry.fabric == fabric) (λ entry own is. and_from _ _ is own) entries (all-filter is_entry (λ (entry : AclEntry). entry.fabric == fabric) entries all)

few_entries : (s : NodeState) (fabric : ℕ) → IsValid s → is_among s.fabrics fabric ≡ true → nat_le (length (own_entries fabric s.entries)) 4 ≡ true
few_entries s fabric valid among =
    subst (λ n. nat_le n 4 ≡ true) (sym (length-filter (λ (entry : AclEntry). entry.fabric == fabric) s.entries))
    (passes_among (λ index. nat_le (count_by (λ (entry : AclEntry). entry.fabric == index) s.entries) 4) fabric s.fabrics valid.entry_counts among)

member_sight : (s : NodeState) (actor : Actor) → IsValid s → is_among s.fabrics actor.fabric ≡ true → IsSoundSight (observation actor.fabric s).seen actor
member_sight s actor valid among = record {
  rows = seen_forms s valid actor;
  few = seen_few s valid actor;
  entries = and_from _ _ (own_forms actor.fabric s.entries valid.entry_forms) (few_entries s actor.fabric valid among);
}

no_entries : (s : NodeState) (fabric : ℕ) → IsValid s → fabric ≡ 0 → own_entries fabric s.entries ≡ []
no_entries s fabric valid zero = subst (λ (f : ℕ). own_entries f s.entries ≡ []) (sym zero) (none_of_nobody 1 s.entries (omega arith) valid.entries_rise)

nobody_sight : (s : NodeState) (actor : Actor) → IsValid s → actor.fabric ≡ 0 → IsSoundSight (observation actor.fabric s).seen actor
nobody_sight s actor valid zero = record {
  rows = seen_forms s valid actor;
  few = seen_few s valid actor;
  entries = subst (λ (entries : List AclEntry). are_entries_of actor.fabric entries ≡ true) (sym (no_entries s actor.fabric valid zero)) refl;
}

-- Steps fit the state.

own_of : (fabrics : List Fabric) (scoped : Bool) (fabric own : ℕ) → (fabric == (if scoped then own else 0)) ≡ true → (scoped ≡ true → is_among fabrics own ≡ true) → is_row_of fabrics scoped fabric ≡ true
own_of fabrics true fabric own is among = subst (λ (f : ℕ). is_among fabrics f ≡ true) (sym (eqb-true fabric own is)) (among refl)
own_of fabrics false fabric own is among = is

step_fits : (fabrics : List Fabric) (actor : Actor) (step : NodeStep) → is_own_step actor step ≡ true → is_sound_step step ≡ true → ((is_unscoped_step step ≡ false) → is_among fabrics actor.fabric ≡ true) → fits fabrics step ≡ true
step_fits fabrics actor (SetRow place fabric values) own sound among =
    and_from _ _ sound (own_of fabrics (is_scoped (find_data_of place)) fabric actor.fabric own (λ scoped. among (ap not scoped)))
step_fits fabrics actor (SetEntries fabric entries) own sound among =
    and_from _ _ sound (subst (λ (f : ℕ). is_among fabrics f ≡ true) (sym (eqb-true fabric actor.fabric own)) (among refl))
step_fits fabrics actor (PutNetwork id secret) own sound among = impossible own
step_fits fabrics actor (RemoveNetwork id) own sound among = impossible own
step_fits fabrics actor (ConnectNetwork id) own sound among = impossible own
step_fits fabrics actor (MoveNetwork id index) own sound among = impossible own
step_fits fabrics actor (Arm owner seconds) own sound among = impossible own
step_fits fabrics actor (Renew seconds) own sound among = impossible own
step_fits fabrics actor Expire own sound among = impossible own
step_fits fabrics actor Complete own sound among = impossible own
step_fits fabrics actor (AddRoot cert) own sound among = impossible own
step_fits fabrics actor (Csr nonce update) own sound among = impossible own
step_fits fabrics actor (AddFabric joins) own sound among = impossible own
step_fits fabrics actor (UpdateFabric index given) own sound among = impossible own
step_fits fabrics actor (RemoveFabric index) own sound among = impossible own
step_fits fabrics actor (Label index label) own sound among = impossible own
step_fits fabrics actor (Emit place priority fabric value) own sound among = refl

member_fits : (fabrics : List Fabric) (actor : Actor) (steps : List NodeStep) → list_all (is_own_step actor) steps ≡ true → list_all is_sound_step steps ≡ true → is_among fabrics actor.fabric ≡ true → list_all (fits fabrics) steps ≡ true
member_fits fabrics actor [] own sound among = refl
member_fits fabrics actor (step ∷ steps) own sound among =
    let its = and_parts (is_own_step actor step) (list_all (is_own_step actor) steps) own in
    let so = and_parts (is_sound_step step) (list_all is_sound_step steps) sound in
    and_from _ _ (step_fits fabrics actor step its.0 so.0 (λ scoped. among)) (member_fits fabrics actor steps its.1 so.1 among)

nobody_fits : (fabrics : List Fabric) (actor : Actor) (steps : List NodeStep) → list_all (is_own_step actor) steps ≡ true → list_all is_sound_step steps ≡ true → list_all is_unscoped_step steps ≡ true → list_all (fits fabrics) steps ≡ true
nobody_fits fabrics actor [] own sound unscoped = refl
nobody_fits fabrics actor (step ∷ steps) own sound unscoped =
    let its = and_parts (is_own_step actor step) (list_all (is_own_step actor) steps) own in
    let so = and_parts (is_sound_step step) (list_all is_sound_step steps) sound in
    let open_to_all = and_parts (is_unscoped_step step) (list_all is_unscoped_step steps) unscoped in
    and_from _ _ (step_fits fabrics actor step its.0 so.0 (λ scoped. impossible (sym scoped ∙ open_to_all.0))) (nobody_fits fabrics actor steps its.1 so.1 open_to_all.1)

-- By the laws of writes.
module _ (own : TouchesItsOwn) (sound : LeavesSound) (nobody : NobodySetsScoped) where
  write_fits : (s : NodeState) (actor : Actor) (items : List WriteItem) (timed : Bool) → IsValid s → is_known s.fabrics (Some actor) ≡ true
      → list_all (fits s.fabrics) (write_answer (observation actor.fabric s).seen actor items timed).rows ≡ true
  write_fits s actor items timed valid known =
      let seen = (observation actor.fabric s).seen in
      let steps = (write_answer seen actor items timed).rows in
      let its = own seen actor items timed in
      elim (or_cases (actor.fabric == 0) (is_among s.fabrics actor.fabric) known) [
        | inl none ↦
            let zero = eqb-true actor.fabric 0 none in
            nobody_fits s.fabrics actor steps its (sound seen actor items timed (nobody_sight s actor valid zero)) (nobody seen actor items timed zero (no_entries s actor.fabric valid zero))
        | inr among ↦ member_fits s.fabrics actor steps its (sound seen actor items timed (member_sight s actor valid among)) among
      ]

  pub written_fits : (s : NodeState) (actor : Actor) (items : List WriteItem) (timed : Bool) → IsValid s → is_known s.fabrics (Some actor) ≡ true
      → list_all (fits s.fabrics) (with_events (observation actor.fabric s) actor (write_answer (observation actor.fabric s).seen actor items timed).rows) ≡ true
  written_fits s actor items timed valid known =
      let o = observation actor.fabric s in
      let steps = (write_answer o.seen actor items timed).rows in
      with_its_events (fits s.fabrics) o actor steps (write_fits s actor items timed valid known) (fitting_events s.fabrics actor o.seen.entries steps)

-- Whoever does not ask over PASE is of a fabric.

abbrev pub is_asker : Option Actor → Bool
is_asker None = true
is_asker (Some actor) = is_pase actor.auth || not (actor.fabric == 0)

some_fabric : (fabrics : List Fabric) (n : ℕ) → fabrics_ascend fabrics ≡ true → is_among fabrics n ≡ true → not (n == 0) ≡ true
some_fabric fabrics n rise there =
    let positive : 1 ≤ n = members_are_positive fabrics n rise there in
    grind arith

identity_among : (fabrics : List Fabric) (session : NodeSession) (fabric : ℕ) → list_any (λ (f : Fabric). f.index == fabric && has_identity session.root_key session.fabric_id f) fabrics ≡ true → is_among fabrics fabric ≡ true
identity_among fabrics session fabric its = any-weaker (λ (f : Fabric). f.index == fabric && has_identity session.root_key session.fabric_id f) (λ (f : Fabric). f.index == fabric) (λ f both. (and_parts _ _ both).0) fabrics its

live_asks : (fabrics : List Fabric) (session : NodeSession) (auth : Auth) (standing : Standing) → session.auth ≡ auth → fabrics_ascend fabrics ≡ true → stands_rightly fabrics session auth standing ≡ true → is_asker (live_actor session standing) ≡ true
live_asks fabrics session auth Waits is rise stands = refl
live_asks fabrics session auth Ended is rise stands = refl
live_asks fabrics session Pase (Live fabric) is rise stands = or_left _ _ (ap is_pase is)
live_asks fabrics session Case (Live fabric) is rise stands = or_right _ _ (some_fabric fabrics fabric rise (identity_among fabrics session fabric stands))
live_asks fabrics session Group (Live fabric) is rise stands = or_right _ _ (some_fabric fabrics fabric rise (identity_among fabrics session fabric stands))

session_asks : (fabrics : List Fabric) (id : ℕ) (sessions : List NodeSession) → fabrics_ascend fabrics ≡ true → list_all (is_session fabrics) sessions ≡ true
    → is_asker (option_and_then (λ (session : NodeSession). live_actor session session.standing) (find (λ (session : NodeSession). session.session == id) sessions)) ≡ true
session_asks fabrics id [] rise stand = refl
session_asks fabrics id (session ∷ sessions) rise stand =
    let both = and_parts (is_session fabrics session) (list_all (is_session fabrics) sessions) stand in
    elim (cases_Bool (session.session == id)) [
      | inl this ↦ rw this (live_asks fabrics session session.auth session.standing refl rise both.0)
      | inr other ↦ rw other (session_asks fabrics id sessions rise both.1)
    ]

case_asks : (b : Bool) (fabrics : List Fabric) (actor : Actor) → fabrics_ascend fabrics ≡ true → is_among fabrics actor.fabric ≡ b → is_asker (if b then Some actor else None) ≡ true
case_asks true fabrics actor rise member = or_right _ _ (some_fabric fabrics actor.fabric rise member)
case_asks false fabrics actor rise none = refl

pase_asks : (b : Bool) (plain : Option ℕ) → is_asker (if b then option_map pase_actor plain else None) ≡ true
pase_asks true None = refl
pase_asks true (Some fabric) = refl
pase_asks false plain = refl

plain_asks : (s : NodeState) (actor : Actor) (auth : Auth) → IsValid s → is_asker (plain_asker s actor auth) ≡ true
plain_asks s actor Case valid = case_asks (is_among s.fabrics actor.fabric) s.fabrics actor valid.fabrics_rise refl
plain_asks s actor Pase valid = pase_asks (actor.fabric == 0 && actor.node == 0) s.plain
plain_asks s actor Group valid = refl

asks_on : (s : NodeState) (actor : Actor) (session : Option ℕ) → IsValid s → is_asker (asker_on s actor session) ≡ true
asks_on s actor (Some id) valid = session_asks s.fabrics id s.sessions valid.fabrics_rise valid.sessions_stand
asks_on s actor None valid = plain_asks s actor actor.auth valid

pub asker_known : (s : NodeState) (actor : Actor) → IsValid s → is_known s.fabrics (asker s actor) ≡ true
asker_known s actor valid = known_on s actor actor.session valid

pub asker_asks : (s : NodeState) (actor : Actor) → IsValid s → is_asker (asker s actor) ≡ true
asker_asks s actor valid = asks_on s actor actor.session valid

-- Steps that fit may be taken one after the other: they leave the fabrics as they are.
pub fitting_taken : (asker : Option Actor) (steps : List NodeStep) (s : NodeState) → list_all (fits s.fabrics) steps ≡ true → may_take_all asker steps s ≡ true
fitting_taken asker [] s fit = refl
fitting_taken asker (step ∷ steps) s fit =
    let both = and_parts (fits s.fabrics step) (list_all (fits s.fabrics) steps) fit in
    and_from _ _ (or_left _ _ both.0)
    (fitting_taken asker steps (after asker step s) (subst (λ (fabrics : List Fabric). list_all (fits fabrics) steps ≡ true) (sym (keeps_fabrics asker step s s.fabrics both.0)) both.1))

-- What holds of the steps of each request in a valid state: they set values, the asker's own or nobody's, and fit; or they are those of a
-- command of commissioning.
module _ (laws : RequestLaws)
    (given : Environment) (keeps : KeepsRules given.judged) where
  module _ (s : NodeState) (valid : IsValid s) (actor : Actor) (now : ℕ) (P : List NodeStep → Type 0) (none : P [])
      (setting : (steps : List NodeStep) → list_all (is_own_step actor) steps ≡ true → list_all (fits s.fabrics) steps ≡ true → P steps)
      (commissioning : (steps : List NodeStep) → list_all (commission_laws.is_sound_step (map bare_network s.networks) (option_map bare_armed s.armed) actor.fabric) steps ≡ true → commission_laws.sets_values_behind steps ≡ true → P steps)
      (credential : (steps : List NodeStep) → list_all is_well_formed steps ≡ true → list_all (credentials_laws.fits (known_to actor.fabric s.fabrics s.networks s.armed)) steps ≡ true
      → IsMove (known_to actor.fabric s.fabrics s.networks s.armed) actor.fabric steps → P steps)
    where
      abbrev o : Observation
      o = observation actor.fabric (at_time now s)

      -- commands that set rows and tell of events alone
      other_steps : is_known s.fabrics (Some actor) ≡ true → (command : Place) (fields : Value) (meta : CommandMeta) → find_command_of command ≡ Ok meta → P (of_others o actor command fields).steps
      other_steps known command fields meta there =
          cond_both (command.cluster == administrator_commissioning.cluster) (admin.invoked (nobodys_rows o) o.known actor command fields o.clock) _ (λ (effect : Effect). P effect.steps)
          (λ is.
          let sound = admin_sound laws.windows s.fabrics s.networks s.armed valid.fabric_forms valid.indexes actor (nobodys_rows o) command fields now known in
          setting (admin.invoked (nobodys_rows o) o.known actor command fields o.clock).steps (admin_own actor _ sound) (admin_fits s.fabrics _ sound))
          (λ other.
          cond_both (command.cluster == group_key_management.cluster) (group_keys.invoked (commands.own_rows o) actor command fields) (invoked (nobodys_rows o) actor command) (λ (effect : Effect). P effect.steps)
          (λ is.
          let both = keys_pass laws.keys laws.keyless s.fabrics o actor refl command fields known (λ among. member_sight (at_time now s) actor (timed_valid s now valid) among) in
          setting (group_keys.invoked (commands.own_rows o) actor command fields).steps both.0 both.1)
          (λ another. setting (invoked (nobodys_rows o) actor command).steps (own_invoked actor (nobodys_rows o) command meta there) (fitting_invoked s.fabrics actor (nobodys_rows o) command meta there)))

      command_steps : is_known s.fabrics (Some actor) ≡ true → is_asker (Some actor) ≡ true → (is_timed : Bool) (command : Place) (fields : Value) → P (command_effect given o actor is_timed command fields).steps
      command_steps known asks is_timed command fields =
          command_by given o actor command fields P none
          (λ form. credential (credentials.invoked given.judged o.known actor command fields).steps
          (all_well given.judged laws.well_formed laws.fit laws.moves s valid actor keeps asks command fields form) (all_fit given.judged laws.well_formed laws.fit laws.moves s valid actor keeps asks command fields form) (laws.moves given.judged o.known actor command fields))
          (λ form. commissioning (commission.invoked o.known given.reachable actor command fields).steps (laws.commissioning o.known given.reachable actor command fields form) (laws.first o.known given.reachable actor command fields))
          (other_steps known command fields)
          is_timed

      pub asked_by : is_known s.fabrics (Some actor) ≡ true → is_asker (Some actor) ≡ true → (request : Request) (deadline : Option ℕ) → P (asked_steps given s request deadline now (Some actor))
      asked_by known asks request deadline =
          in_time P (is_late deadline now) (steps_to given o actor (is_some deadline) request) none
          (requested given P o actor (is_some deadline) request none
          (λ items is_timed. setting (with_events o actor (write_answer o.seen actor items is_timed).rows) (own_written laws.own o actor items is_timed) (written_fits laws.own laws.forms laws.nobody (at_time now s) actor items is_timed (timed_valid s now valid) known))
          (command_steps known asks))

  -- A valid state takes the steps of every action.

  asked_taken : (s : NodeState) (valid : IsValid s) (request : Request) (deadline : Option ℕ) (now : ℕ) (asking : Option Actor) → is_known s.fabrics asking ≡ true → is_asker asking ≡ true
      → may_take_all asking (asked_steps given s request deadline now asking) (at_time now s) ≡ true
  asked_taken s valid request deadline now None known asks = refl
  asked_taken s valid request deadline now (Some actor) known asks =
      let timed = at_time now s in
      asked_by s valid actor now (λ (steps : List NodeStep). may_take_all (Some actor) steps timed ≡ true) refl
      (λ steps its fit_all. fitting_taken (Some actor) steps timed fit_all)
      (λ steps sound_all first. sound_taken (map bare_network s.networks) (option_map bare_armed s.armed) actor.fabric (Some actor) steps timed known first sound_all)
      (λ steps good fit_all move. moved_taken timed (timed_valid s now valid) actor.fabric (Some actor) steps good fit_all move)
      known asks request deadline

  due_taken : (s t : NodeState) (now : ℕ) (due : Bool) → may_take_all None ((if due then Expire ∷ [] else []) ++ window_steps s now) t ≡ true
  due_taken s t now true = and_from _ _ refl (fitting_taken None (window_steps s now) (rollback t) (windows_fit (rollback t).fabrics s now))
  due_taken s t now false = fitting_taken None (window_steps s now) t (windows_fit t.fabrics s now)

  pub action_taken : (s : NodeState) (action : Action) (now : ℕ) → IsValid s → may_take_all (asker_of s action) (steps_of given s action now) (at_time now s) ≡ true
  action_taken s (Ask actor request deadline) now valid = asked_taken s valid request deadline now (asker s actor) (asker_known s actor valid) (asker_asks s actor valid)
  action_taken s actions.Expire now valid = due_taken s (at_time now s) now (is_due s.armed now)
  action_taken s Nothing now valid = refl

-- the state before an action is valid at its time, and so is the one behind steps that it takes
pub stays_valid : ((place : Place) (number : ℕ) (changes : List ChangeNumber) → IsChanges changes → newest_of changes ≤ number → IsChanges (noted place number changes))
    → ((asker : Option Actor) (steps : List NodeStep) (s : NodeState) → IsValid s → may_take_all asker steps s ≡ true → IsValid (after_all asker steps s))
    → (asking : Option Actor) (steps : List NodeStep) (s : NodeState) (now : ℕ) → IsValid s → may_take_all asking steps (at_time now s) ≡ true → IsValid (after_steps asking steps (at_time now s))
stays_valid noted_stands all_valid asking steps s now valid taken =
    let timed = at_time now s in
    let its = timed_valid s now valid in
    settled_valid noted_stands (differing timed (after_all asking steps timed)) timed (after_all asking steps timed) its (all_valid asking steps timed its taken)
    (all-filter (has_change timed.changes) (differs timed (after_all asking steps timed)) all_places its.changes_of_all)
