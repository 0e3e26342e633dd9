-- A valid state takes the steps of commands of commissioning, one after the other.
use Rattle.std.proofs.Common.{◌≡◌, ℕ, ◌≤◌, ◌==◌, ◌&&◌, ◌||◌, not, nat_le, nat_lt, Bool, true, false, List, [], ◌∷◌, length, Option, Some, None, is_none, Result, Ok, Err, refl, sym, ap, ◌∙◌, subst, arith, if◌then◌else◌}
use Rattle.std.proofs.lemmas.Bool.{and_from, and_parts, eqb-true, false_from_ne_true, or_left}
use Rattle.std.specs.List.{list_all}
use Rattle.mt_tlv.specs.declared.value.Value.{Value}
use Rattle.mt_tlv.specs.View.{tree}
use Rattle.mt_failsafe.specs.Notes as notes
use Rattle.mt_fabrics.specs.Table.{add_refusal, credentials_at, is_used, least_unused, with_index}
use Rattle.mt_meta.specs.Fields.{has_fields}
use Rattle.mt_meta.specs.Finding.{find_data_of}
use Rattle.mt_meta.specs.Forms.{has_form}
use Rattle.mt_meta.specs.Stored.{is_stored}
use Rattle.mt_meta.specs.clusters.OperationalCredentials as table
use Rattle.mt_meta.specs.declared.meta.Meta.{Meta}
use Rattle.mt_model.specs.rows.Setting as setting
use Rattle.mt_model.specs.tables.Known.{Known, known_to}
use Rattle.mt_model.specs.texts.Config.{are_credentials, has_up_to, is_entry, is_fabric, is_label, is_pase, is_certificate}
use Rattle.mt_model.specs.declared.messages.status.Status.{Status}
use Rattle.mt_model.specs.declared.node.action.NodeStep.{NodeStep}
use Rattle.mt_model.specs.declared.node.action.NodeStep.TheVariants.{SetRow, SetEntries, PutNetwork, RemoveNetwork, ConnectNetwork, MoveNetwork, Arm, Renew, Expire, Complete, AddRoot, Csr, AddFabric, UpdateFabric, RemoveFabric, Label, Emit}
use Rattle.mt_model.specs.declared.node.state.NodeState.{NodeState}
use Rattle.mt_model.specs.declared.rows.place.Place.{Place}
use Rattle.mt_model.specs.declared.tables.access.AclEntry.{AclEntry}
use Rattle.mt_model.specs.declared.tables.access.Actor.{Actor}
use Rattle.mt_model.specs.declared.tables.fabric.Credentials.{Credentials}
use Rattle.mt_model.specs.declared.tables.fabric.Fabric.{Fabric}
use Rattle.mt_model.specs.declared.tables.network.Armed.{Armed}
use Rattle.mt_model.specs.declared.tables.network.Network.{Network}
use Rattle.mt_commission.specs.Laws as commission
use Rattle.mt_opcreds.specs.Judged.{Judged}
use Rattle.mt_opcreds.specs.Laws.{KeepsRules, StepsAreWellFormed, StepsFit, are_credentials_if, is_well_formed}
use Rattle.mt_opcreds.specs.Laws as credentials
use Rattle.mt_opcreds.specs.Commands.{invoked}
use Rattle.mt_opcreds.specs.Moves.{IsMove, StepsAreMoves, expires, expires_and_leaves, joins, leaves, names, nothing, renews, requests, trusts}
use Rattle.mt_write.specs.Laws as writes
use Rattle.mt_machine.specs.Effects.{after, joined, joined_as, may_join}
use Rattle.mt_machine.specs.State.{IsValid, is_among, is_row_of}
use Rattle.mt_machine.specs.Taking.{fits_row, may_take, may_take_all, names_known}
use Rattle.mt_machine.proofs.ChangedValid.{found_form}
use Rattle.mt_machine.proofs.JoinedValid.{placed-any}
use Rattle.mt_machine.proofs.Knowing.{credentials-known, least-known, noted-known, refusal-known, used-known}
use Rattle.mt_machine.proofs.Counting.{impossible}
use Rattle.mt_machine.proofs.Writes.{members_are_positive}

same_number : (n : ℕ) → (n == n) ≡ true
same_number n = grind arith

-- General Commissioning and Network Commissioning: each step may be taken however the state stands.

pub row_taken : (fabrics : List Fabric) (fabric : ℕ) (stored : Bool) (values : List Value) (found : Result Meta Status) → commission.is_sound_row stored fabric values found ≡ true → fits_row fabrics fabric stored values found ≡ true
row_taken fabrics fabric stored values (Err status) sound = impossible sound
row_taken fabrics fabric stored values (Ok meta) sound =
    let one = and_parts stored (not meta.scoped && (fabric == 0 && (length values == 1 && list_all (has_form meta fabric) values))) sound in
    let two = and_parts (not meta.scoped) (fabric == 0 && (length values == 1 && list_all (has_form meta fabric) values)) one.1 in
    let three = and_parts (fabric == 0) (length values == 1 && list_all (has_form meta fabric) values) two.1 in
    let four = and_parts (length values == 1) (list_all (has_form meta fabric) values) three.1 in
    row_by meta.scoped two.0 one.0 three.0 four.0 four.1
  where
    row_by : (scoped : Bool) → not scoped ≡ true → stored ≡ true → (fabric == 0) ≡ true → (length values == 1) ≡ true → list_all (has_form meta fabric) values ≡ true
        → ((stored && (list_all (has_form meta fabric) values && (if scoped then nat_le (length values) meta.limit else length values == 1))) && is_row_of fabrics scoped fabric) ≡ true
    row_by true unscoped is nobodys one form = impossible unscoped
    row_by false unscoped is nobodys one form = and_from _ _ (and_from _ _ is (and_from _ _ form one)) nobodys

pub step_taken : (networks : List Network) (armed : Option Armed) (fabric : ℕ) (step : NodeStep) (s : NodeState) → names_known s.fabrics step ≡ true → commission.is_sound_step networks armed fabric step ≡ true → may_take s step ≡ true
step_taken networks armed fabric (SetRow place whose values) s known sound = or_left _ _ (row_taken s.fabrics whose (is_stored place) values (find_data_of place) sound)
step_taken networks armed fabric (SetEntries whose entries) s known sound = impossible sound
step_taken networks armed fabric (PutNetwork id secret) s known sound =
    let room = commission.is_there networks id || nat_lt (length networks) 4 in
    let one = and_parts (has_up_to 32 id) (nat_le (length secret) 64 && room) sound in
    let two = and_parts (nat_le (length secret) 64) room one.1 in
    and_from (has_up_to 32 id && nat_le (length secret) 64) true (and_from (has_up_to 32 id) (nat_le (length secret) 64) one.0 two.0) refl
step_taken networks armed fabric (RemoveNetwork id) s known sound = refl
step_taken networks armed fabric (ConnectNetwork id) s known sound = refl
step_taken networks armed fabric (MoveNetwork id index) s known sound = refl
step_taken networks armed fabric (Arm owner seconds) s known sound = known
step_taken networks armed fabric (Renew seconds) s known sound = refl
step_taken networks armed fabric Expire s known sound = refl
step_taken networks armed fabric Complete s known sound = refl
step_taken networks armed fabric (AddRoot cert) s known sound = impossible sound
step_taken networks armed fabric (Csr nonce update) s known sound = impossible sound
step_taken networks armed fabric (AddFabric new) s known sound = impossible sound
step_taken networks armed fabric (UpdateFabric index given) s known sound = impossible sound
step_taken networks armed fabric (RemoveFabric index) s known sound = impossible sound
step_taken networks armed fabric (Label index label) s known sound = impossible sound
step_taken networks armed fabric (Emit place priority whose value) s known sound = impossible sound

-- The fail-safe is armed by whoever asks, who has no fabric or one of the table, and in the first step alone.

named_value : (fabrics : List Fabric) (step : NodeStep) → commission.sets_value step ≡ true → names_known fabrics step ≡ true
named_value fabrics (Arm owner seconds) sets = impossible sets
named_value fabrics step sets = refl

pub named_first : (networks : List Network) (armed : Option Armed) (fabric : ℕ) (fabrics : List Fabric) (step : NodeStep) → (fabric == 0 || is_among fabrics fabric) ≡ true → commission.is_sound_step networks armed fabric step ≡ true → names_known fabrics step ≡ true
named_first networks armed fabric fabrics (Arm owner seconds) known sound = subst (λ n. (n == 0 || is_among fabrics n) ≡ true) (sym (eqb-true owner fabric (and_parts (owner == fabric) (is_none armed) sound).0)) known
named_first networks armed fabric fabrics step known sound = refl

module _ (networks : List Network) (armed : Option Armed) (fabric : ℕ) where
  values_taken : (asker : Option Actor) (steps : List NodeStep) (s : NodeState) → list_all commission.sets_value steps ≡ true → list_all (commission.is_sound_step networks armed fabric) steps ≡ true → may_take_all asker steps s ≡ true
  values_taken asker [] s sets sound = refl
  values_taken asker (step ∷ steps) s sets sound =
      let values = and_parts (commission.sets_value step) (list_all commission.sets_value steps) sets in
      let both = and_parts (commission.is_sound_step networks armed fabric step) (list_all (commission.is_sound_step networks armed fabric) steps) sound in
      and_from _ _ (step_taken networks armed fabric step s (named_value s.fabrics step values.0) both.0) (values_taken asker steps (after asker step s) values.1 both.1)

  pub sound_taken : (asker : Option Actor) (steps : List NodeStep) (s : NodeState) → (fabric == 0 || is_among s.fabrics fabric) ≡ true → commission.sets_values_behind steps ≡ true
      → list_all (commission.is_sound_step networks armed fabric) steps ≡ true → may_take_all asker steps s ≡ true
  sound_taken asker [] s known behind sound = refl
  sound_taken asker (step ∷ steps) s known behind sound =
      let both = and_parts (commission.is_sound_step networks armed fabric step) (list_all (commission.is_sound_step networks armed fabric) steps) sound in
      and_from _ _ (step_taken networks armed fabric step s (named_first networks armed fabric s.fabrics step known both.0) both.0) (values_taken asker steps (after asker step s) behind both.1)

-- Operational Credentials.

-- entries of a fabric that are well formed are such as a state takes
entries_taken : (fabric : ℕ) (entries : List AclEntry) → list_all is_entry entries ≡ true → list_all (setting.is_entry_of fabric) entries ≡ true → list_all (writes.is_entry_of fabric) entries ≡ true
entries_taken fabric [] form own = refl
entries_taken fabric (entry ∷ entries) form own =
    let one = and_parts (is_entry entry) (list_all is_entry entries) form in
    let two = and_parts (setting.is_entry_of fabric entry) (list_all (setting.is_entry_of fabric) entries) own in
    and_from _ _ (and_from _ _ one.0 two.0) (entries_taken fabric entries one.1 two.1)

none-there : {X : Type 0} (o : Option X) → is_none o ≡ true → o ≡ None
none-there None is = refl
none-there (Some x) is = impossible is

-- what may be added as a fabric knows it, may be added
pub may_be_added : (fabric : ℕ) (new : Fabric) (s : NodeState) → credentials.fits (known_to fabric s.fabrics s.networks s.armed) (AddFabric new) ≡ true → (may_join new s ≡ true) × (new.index ≡ least_unused s.fabrics)
may_be_added fabric new s fit =
    let known = known_to fabric s.fabrics s.networks s.armed in
    let one = and_parts (notes.may_note_added known.armed) (is_none (add_refusal new known.fabrics) && (new.index == least_unused known.fabrics)) fit in
    let two = and_parts (is_none (add_refusal new known.fabrics)) (new.index == least_unused known.fabrics) one.1 in (
      and_from _ _ (sym (noted-known s.armed) ∙ one.0) (ap is_none (sym (refusal-known fabric new s.fabrics)) ∙ two.0),
      eqb-true new.index (least_unused known.fabrics) two.1 ∙ least-known fabric s.fabrics,
    )

is_with : (asker : Option Actor) (new : Fabric) (s : NodeState) → may_join new s ≡ true → joined asker new s ≡ joined_as asker (least_unused s.fabrics) new s
is_with asker new s may = rw may refl

-- a fabric that joins is in the table behind
pub among_joined : (asker : Option Actor) (new : Fabric) (s : NodeState) → may_join new s ≡ true → is_among (joined asker new s).fabrics (least_unused s.fabrics) ≡ true
among_joined asker new s may =
    ap (λ (t : NodeState). is_among t.fabrics (least_unused s.fabrics)) (is_with asker new s may)
    ∙ placed-any (with_index (least_unused s.fabrics) new) (λ (f : Fabric). f.index == least_unused s.fabrics) s.fabrics
    ∙ or_left _ _ (same_number (least_unused s.fabrics))

-- 0 is no fabric's index
pub nobody_is_used : (s : NodeState) → IsValid s → is_used 0 s.fabrics ≡ false
nobody_is_used s valid = false_from_ne_true (is_used 0 s.fabrics) (λ used.
    let positive : 1 ≤ 0 = members_are_positive s.fabrics 0 valid.fabrics_rise used in
    omega (arith, positive))

kept_form : (index : ℕ) (fabrics : List Fabric) (given : Option Credentials) → credentials_at index fabrics ≡ given → list_all is_fabric fabrics ≡ true → are_credentials_if given ≡ true
kept_form index fabrics None is all = refl
kept_form index fabrics (Some given) is all = found_form index given fabrics is all

-- what holds of the steps of a command of a valid state

module _ (judged : Judged) (well : StepsAreWellFormed) (fit : StepsFit) (moves : StepsAreMoves) where
  module _ (s : NodeState) (valid : IsValid s) (actor : Actor) (keeps : KeepsRules judged) (is_asker : (is_pase actor.auth || not (actor.fabric == 0)) ≡ true) (command : Place) (fields : Value)
      (form : has_fields (table.command_fields command.leaf) (tree fields) ≡ true) where
    abbrev its_known : Known
    its_known = known_to actor.fabric s.fabrics s.networks s.armed

    pub all_fit : list_all (credentials.fits its_known) (invoked judged its_known actor command fields).steps ≡ true
    all_fit = fit judged its_known actor command fields (used-known actor.fabric 0 s.fabrics ∙ nobody_is_used s valid) is_asker

    pub all_well : list_all is_well_formed (invoked judged its_known actor command fields).steps ≡ true
    all_well =
        well judged its_known actor command fields keeps
        (ap are_credentials_if (credentials-known actor.fabric s.fabrics) ∙ kept_form actor.fabric s.fabrics (credentials_at actor.fabric s.fabrics) refl valid.fabric_forms) form

module _ (s : NodeState) (valid : IsValid s) (fabric : ℕ) where
  abbrev known : Known
  known = known_to fabric s.fabrics s.networks s.armed

  joined_taken : (asker : Option Actor) (new : Fabric) (entries : List AclEntry)
      → list_all is_well_formed (AddFabric new ∷ SetEntries new.index entries ∷ []) ≡ true → list_all (credentials.fits known) (AddFabric new ∷ SetEntries new.index entries ∷ []) ≡ true
      → may_take_all asker (AddFabric new ∷ SetEntries new.index entries ∷ []) s ≡ true
  joined_taken asker new entries good fits_all =
      let one = and_parts (is_fabric new) (is_well_formed (SetEntries new.index entries) && true) good in
      let two = and_parts (is_well_formed (SetEntries new.index entries)) true one.1 in
      let three = and_parts (list_all is_entry entries) (list_all (setting.is_entry_of new.index) entries && nat_le (length entries) 4) two.0 in
      let four = and_parts (list_all (setting.is_entry_of new.index) entries) (nat_le (length entries) 4) three.1 in
      let may = may_be_added fabric new s (and_parts (credentials.fits known (AddFabric new)) (credentials.fits known (SetEntries new.index entries) && true) fits_all).0 in
      let there : is_among (joined asker new s).fabrics new.index ≡ true = ap (is_among (joined asker new s).fabrics) may.1 ∙ among_joined asker new s may.0 in
      let entries_good = and_from _ _ (entries_taken new.index entries three.0 four.0) four.1 in
      and_from _ _ (and_from _ _ one.0 refl) (and_from _ _ (or_left _ _ (and_from _ _ entries_good there)) refl)

  abbrev Taken : Option Actor → List NodeStep → Type 0
  Taken asker all = may_take_all asker all s ≡ true

  pub moved_taken : (asker : Option Actor) (all : List NodeStep) → list_all is_well_formed all ≡ true → list_all (credentials.fits known) all ≡ true → IsMove known fabric all → Taken asker all
  moved_taken asker all good fits_all (nothing is) = subst (Taken asker) (sym is) refl
  moved_taken asker all good fits_all (requests nonce update is) =
      let its : ((length nonce == 32) && true) ≡ true = subst (λ l. list_all is_well_formed l ≡ true) is good in
      subst (Taken asker) (sym is) (and_from _ _ its refl)
  moved_taken asker all good fits_all (trusts cert is) =
      let its : (is_certificate cert && true) ≡ true = subst (λ l. list_all is_well_formed l ≡ true) is good in
      subst (Taken asker) (sym is) (and_from _ _ its refl)
  moved_taken asker all good fits_all (joins new entries own is) =
      subst (Taken asker) (sym is) (joined_taken asker new entries (subst (λ l. list_all is_well_formed l ≡ true) is good) (subst (λ l. list_all (credentials.fits known) l ≡ true) is fits_all))
  moved_taken asker all good fits_all (renews given is) =
      let its : (are_credentials given && true) ≡ true = subst (λ l. list_all is_well_formed l ≡ true) is good in
      subst (Taken asker) (sym is) (and_from _ _ its refl)
  moved_taken asker all good fits_all (names label is) =
      let its : (is_label label && true) ≡ true = subst (λ l. list_all is_well_formed l ≡ true) is good in
      subst (Taken asker) (sym is) (and_from _ _ its refl)
  moved_taken asker all good fits_all (leaves index free is) = subst (Taken asker) (sym is) refl
  moved_taken asker all good fits_all (expires index context was is) = subst (Taken asker) (sym is) refl
  moved_taken asker all good fits_all (expires_and_leaves index context was_not is) = subst (Taken asker) (sym is) refl
