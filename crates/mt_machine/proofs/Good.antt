-- The steps of an action are its asker's own, and fit the state: they set rows and entries of its fabric, or rows of nobody.
use Rattle.std.proofs.Common.{◌≡◌, ℕ, ◌==◌, ◌&&◌, ◌||◌, ◌∙◌, is_ok, Result, Ok, Err, Bool, true, false, List, [], ◌∷◌, refl, arith, if◌then◌else◌}
use Rattle.std.specs.List.{list_all}
use Rattle.std.proofs.lemmas.Bool.{and_from, and_parts}
use Rattle.std.proofs.lemmas.List.Folds.{list_all-append}
use Rattle.mt_tlv.specs.declared.value.Value.{Value}
use Rattle.mt_model.specs.declared.rows.place.Place.{Place}
use Rattle.mt_apps.specs.EntryEvents.{entry_events}
use Rattle.mt_model.specs.rows.Seen.{Observation}
use Rattle.mt_model.specs.rows.Setting.{is_entry_of}
use Rattle.mt_model.specs.rows.Stored.{is_stored_place}
use Rattle.mt_model.specs.declared.messages.status.Status.{Status}
use Rattle.mt_model.specs.declared.tables.access.AclEntry.{AclEntry}
use Rattle.mt_model.specs.declared.tables.access.Actor.{Actor}
use Rattle.mt_model.specs.declared.messages.message.Request.{Request}
use Rattle.mt_model.specs.declared.messages.message.Request.TheVariants as requests
use Rattle.mt_model.specs.declared.messages.message.WriteItem.{WriteItem}
use Rattle.mt_model.specs.declared.node.action.NodeStep.{NodeStep}
use Rattle.mt_model.specs.declared.node.action.NodeStep.TheVariants.{SetRow, SetEntries, PutNetwork, RemoveNetwork, ConnectNetwork, MoveNetwork, Arm, Renew, Expire, Complete, AddRoot, Csr, AddFabric, UpdateFabric, RemoveFabric, Label, Emit}
use Rattle.mt_model.specs.declared.tables.fabric.Fabric.{Fabric}
use Rattle.mt_meta.specs.Finding.{find_data_of}
use Rattle.mt_meta.specs.Stored.{is_stored}
use Rattle.mt_meta.specs.declared.meta.Meta.{Meta}
use Rattle.mt_write.specs.Laws.{TouchesItsOwn, is_own_step, is_sound_row}
use Rattle.mt_write.specs.Laws as writes
use Rattle.mt_write.specs.Writing.{is_scoped, write_answer}
use Rattle.mt_machine.specs.Commands.{command_effect}
use Rattle.mt_machine.specs.Effects.{after, is_setting_step, sets_values}
use Rattle.mt_machine.specs.State.{is_among}
use Rattle.mt_machine.specs.Step.{is_untimely, steps_to, with_events}
use Rattle.mt_machine.specs.Environment.{Environment}
use Rattle.mt_machine.proofs.Commands.{own_events}
use Rattle.mt_machine.proofs.Steps.{is_step_of}
use Rattle.mt_machine.proofs.Counting.{all-weaker}
use Rattle.mt_machine.specs.Laws.{TakenValuesFit}
use Rattle.mt_machine.specs.Taking.{fits, fits_row, may_take, may_take_all}
use Rattle.mt_model.specs.declared.node.state.NodeState.{NodeState}

pub in_time : (P : List NodeStep → Type 0) (late : Bool) (steps : List NodeStep) → P [] → P steps → P (if late then [] else steps)
in_time P true steps none all = none
in_time P false steps none all = all

-- what holds of the steps of writes, with their events, and of those of commands holds of those of each request: of those that are
-- built these alone make any
pub requested : (given : Environment) (P : List NodeStep → Type 0) (o : Observation) (asking : Actor) (stood : Bool) (request : Request) → P []
    → ((items : List WriteItem) (timed : Bool) → P (with_events o asking (write_answer o.seen asking items timed).rows))
    → ((timed : Bool) (command : Place) (fields : Value) → P (command_effect given o asking timed command fields).steps)
    → P (steps_to given o asking stood request)
requested given P o asking stood (requests.Status code) none each commands = none
requested given P o asking stood (requests.Read paths wanted minimum filtered versions) none each commands = none
requested given P o asking stood (requests.Subscribe keep floor ceiling paths wanted minimum filtered versions) none each commands = none
requested given P o asking stood (requests.Write suppress timed items) none each commands = in_time P (is_untimely stood timed) (with_events o asking (write_answer o.seen asking items timed).rows) none (each items timed)
requested given P o asking stood (requests.Invoke suppress timed command fields) none each commands = in_time P (is_untimely stood timed) (command_effect given o asking timed command fields).steps none (commands timed command fields)
requested given P o asking stood (requests.Timed ms) none each commands = none

-- what holds of each step of a write and of each event, holds of all of both
pub with_its_events : (P : NodeStep → Bool) (o : Observation) (asking : Actor) (steps : List NodeStep) → list_all P steps ≡ true → list_all P (entry_events asking o.seen.entries steps) ≡ true → list_all P (with_events o asking steps) ≡ true
with_its_events P o asking steps all events = list_all-append P steps (entry_events asking o.seen.entries steps) ∙ and_from _ _ all events

pub own_written : TouchesItsOwn → (o : Observation) (asking : Actor) (items : List WriteItem) (timed : Bool) → list_all (is_own_step asking) (with_events o asking (write_answer o.seen asking items timed).rows) ≡ true
own_written touches o asking items timed =
    let steps = (write_answer o.seen asking items timed).rows in
    with_its_events (is_own_step asking) o asking steps (touches o.seen asking items timed) (own_events asking o.seen.entries steps)

-- Steps that fit the state set rows, and entries of the fabric that they name.

or_false : (b : Bool) → (b || false) ≡ true → b ≡ true
or_false true is = refl
or_false false is = is

entries_of : (whose : ℕ) (es : List AclEntry) → list_all (writes.is_entry_of whose) es ≡ true → list_all (is_entry_of whose) es ≡ true
entries_of whose es all = all-weaker (writes.is_entry_of whose) (is_entry_of whose) (λ e its. (and_parts _ (e.fabric == whose) its).1) es all

named : (fabrics : List Fabric) (whose : ℕ) (entries : List AclEntry) → fits fabrics (SetEntries whose entries) ≡ true → list_all (is_entry_of whose) entries ≡ true
named fabrics whose entries fit = entries_of whose entries (and_parts (list_all (writes.is_entry_of whose) entries) _ (and_parts _ (is_among fabrics whose) fit).0).0

module _ (kept : (place : Place) → is_stored_place place ≡ (is_stored place && is_ok (find_data_of place))) where
  -- what fits is stored and found
  row_fits : (fabrics : List Fabric) (whose : ℕ) (stored : Bool) (values : List Value) (found : Result Meta Status) → fits_row fabrics whose stored values found ≡ true → (stored && is_ok found) ≡ true
  row_fits fabrics whose stored values (Err status) fit = absurd (cc)
  row_fits fabrics whose stored values (Ok meta) fit = and_from stored true (and_parts stored _ (and_parts (is_sound_row stored whose values (Ok meta)) _ fit).0).0 refl

  setting_step : (fabrics : List Fabric) (step : NodeStep) → fits fabrics step ≡ true → is_setting_step step ≡ true
  setting_step fabrics (SetRow place whose values) fit = kept place ∙ row_fits fabrics whose (is_stored place) values (find_data_of place) fit
  setting_step fabrics (SetEntries whose entries) fit = named fabrics whose entries fit
  setting_step fabrics (PutNetwork id secret) fit = absurd (cc)
  setting_step fabrics (RemoveNetwork id) fit = absurd (cc)
  setting_step fabrics (ConnectNetwork id) fit = absurd (cc)
  setting_step fabrics (MoveNetwork id index) fit = absurd (cc)
  setting_step fabrics (Arm owner seconds) fit = absurd (cc)
  setting_step fabrics (Renew seconds) fit = absurd (cc)
  setting_step fabrics Expire fit = absurd (cc)
  setting_step fabrics Complete fit = absurd (cc)
  setting_step fabrics (AddRoot cert) fit = absurd (cc)
  setting_step fabrics (Csr nonce update) fit = absurd (cc)
  setting_step fabrics (AddFabric joins) fit = absurd (cc)
  setting_step fabrics (UpdateFabric index given) fit = absurd (cc)
  setting_step fabrics (RemoveFabric index) fit = absurd (cc)
  setting_step fabrics (Label index label) fit = absurd (cc)
  setting_step fabrics (Emit place priority whose value) fit = refl

  taken_sets : (s : NodeState) (step : NodeStep) → may_take s step ≡ true → sets_values step ≡ true → is_setting_step step ≡ true
  taken_sets s (SetRow place whose values) may sets = setting_step s.fabrics (SetRow place whose values) (or_false _ may)
  taken_sets s (SetEntries whose entries) may sets = setting_step s.fabrics (SetEntries whose entries) (or_false _ may)
  taken_sets s (PutNetwork id secret) may sets = absurd (cc)
  taken_sets s (RemoveNetwork id) may sets = absurd (cc)
  taken_sets s (ConnectNetwork id) may sets = absurd (cc)
  taken_sets s (MoveNetwork id index) may sets = absurd (cc)
  taken_sets s (Arm owner seconds) may sets = absurd (cc)
  taken_sets s (Renew seconds) may sets = absurd (cc)
  taken_sets s Expire may sets = absurd (cc)
  taken_sets s Complete may sets = absurd (cc)
  taken_sets s (AddRoot cert) may sets = absurd (cc)
  taken_sets s (Csr nonce update) may sets = absurd (cc)
  taken_sets s (AddFabric joins) may sets = absurd (cc)
  taken_sets s (UpdateFabric index given) may sets = absurd (cc)
  taken_sets s (RemoveFabric index) may sets = absurd (cc)
  taken_sets s (Label index label) may sets = absurd (cc)
  taken_sets s (Emit place priority whose value) may sets = refl

  pub taken_values_fit : TakenValuesFit
  taken_values_fit asker [] s may sets = refl
  taken_values_fit asker (step ∷ steps) s may sets =
      let both = and_parts (may_take s step) (may_take_all asker steps (after asker step s)) may in
      let these = and_parts (sets_values step) (list_all sets_values steps) sets in
      and_from _ _ (taken_sets s step both.0 these.0) (taken_values_fit asker steps (after asker step s) both.1 these.1)

  pub setting_steps : (fabrics : List Fabric) (steps : List NodeStep) → list_all (fits fabrics) steps ≡ true → list_all is_setting_step steps ≡ true
  setting_steps fabrics = all-weaker (fits fabrics) is_setting_step (setting_step fabrics)

-- The asker's own steps, where they fit.

row_of : (asking : Actor) (whose : ℕ) (scoped : Bool) → (whose == (if scoped then asking.fabric else 0)) ≡ true → (if whose == 0 then true else whose == asking.fabric) ≡ true
row_of asking whose true is = grind (arith, is)
row_of asking whose false is = grind (arith, is)

step_of : (asking : Actor) (fabrics : List Fabric) (step : NodeStep) → is_own_step asking step ≡ true → fits fabrics step ≡ true → is_step_of asking.fabric step ≡ true
step_of asking fabrics (SetRow place whose values) own fit = row_of asking whose (is_scoped (find_data_of place)) own
step_of asking fabrics (SetEntries whose entries) own fit = and_from _ _ own (named fabrics whose entries fit)
step_of asking fabrics (PutNetwork id secret) own fit = absurd (cc)
step_of asking fabrics (RemoveNetwork id) own fit = absurd (cc)
step_of asking fabrics (ConnectNetwork id) own fit = absurd (cc)
step_of asking fabrics (MoveNetwork id index) own fit = absurd (cc)
step_of asking fabrics (Arm owner seconds) own fit = absurd (cc)
step_of asking fabrics (Renew seconds) own fit = absurd (cc)
step_of asking fabrics Expire own fit = absurd (cc)
step_of asking fabrics Complete own fit = absurd (cc)
step_of asking fabrics (AddRoot cert) own fit = absurd (cc)
step_of asking fabrics (Csr nonce update) own fit = absurd (cc)
step_of asking fabrics (AddFabric joins) own fit = absurd (cc)
step_of asking fabrics (UpdateFabric index given) own fit = absurd (cc)
step_of asking fabrics (RemoveFabric index) own fit = absurd (cc)
step_of asking fabrics (Label index label) own fit = absurd (cc)
step_of asking fabrics (Emit place priority whose value) own fit = own

pub steps_of_its : (asking : Actor) (fabrics : List Fabric) (steps : List NodeStep) → list_all (is_own_step asking) steps ≡ true → list_all (fits fabrics) steps ≡ true → list_all (is_step_of asking.fabric) steps ≡ true
steps_of_its asking fabrics [] own fit = refl
steps_of_its asking fabrics (step ∷ steps) own fit =
    let mine = and_parts (is_own_step asking step) (list_all (is_own_step asking) steps) own in
    let good = and_parts (fits fabrics step) (list_all (fits fabrics) steps) fit in
    and_from _ _ (step_of asking fabrics step mine.0 good.0) (steps_of_its asking fabrics steps mine.1 good.1)
