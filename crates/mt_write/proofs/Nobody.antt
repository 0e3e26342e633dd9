-- A writer of no fabric, for whom no entry stands, sets nothing that is scoped.
use Rattle.std.proofs.Common.{◌≡◌, ◌∙◌, ◌&&◌, ◌||◌, ◌==◌, not, is_none, is_ok, ℕ, Bool, true, false, List, [], Option, Some, None, Result, Ok, Err, refl, sym, ap, subst, if◌then◌else◌}
use Rattle.std.specs.Result.{result_unwrap_or}
use Rattle.std.proofs.lemmas.Bool.{and_parts, not_from_false}
use Rattle.mt_acl.specs.Access.{is_granted, is_granted_if_asked, is_over_pase}
use Rattle.mt_meta.specs.Finding.{find_data_of, find_of, of_found, privilege_of}
use Rattle.mt_meta.specs.Stored.{is_stored}
use Rattle.mt_meta.specs.Writable.{fits_found, takes_of, takes_rightly}
use Rattle.mt_meta.specs.declared.finding.Asked.TheVariants.{Write}
use Rattle.mt_meta.specs.declared.meta.Meta.{Meta}
use Rattle.mt_model.specs.rows.Seen.{Seen}
use Rattle.mt_model.specs.declared.tables.access.AclEntry.{AclEntry}
use Rattle.mt_model.specs.declared.tables.access.Actor.{Actor}
use Rattle.mt_model.specs.declared.tables.access.Privilege.{Privilege}
use Rattle.mt_model.specs.declared.tables.access.Privilege.TheVariants.{View}
use Rattle.mt_model.specs.declared.node.action.NodeStep.{NodeStep}
use Rattle.mt_model.specs.declared.messages.message.WriteItem.{WriteItem}
use Rattle.mt_model.specs.declared.rows.place.Place.{Place}
use Rattle.mt_model.specs.declared.messages.status.Status.{Status}
use Rattle.mt_tlv.specs.declared.value.Value.{Value}
use Rattle.mt_write.specs.Latest.{entries_now, rows_now}
use Rattle.mt_write.specs.Laws.{NobodySetsScoped, is_unscoped_step}
use Rattle.mt_write.specs.Writing.{entries_written, fabric_of, is_entry_list, is_scoped, may_write, own_values, row_step, rows_written, written_at}
use Rattle.mt_write.proofs.Steps.{Passes, each_passes}
use Rattle.mt_write.proofs.KeptForms.{impossible}
use Rattle.mt_write.proofs.Sound.{entry-list}

-- What is granted to nobody.

over-pase : (pase scoped : Bool) → ((pase && (false || not scoped)) || false) ≡ true → scoped ≡ false
over-pase true true granted = impossible granted
over-pase true false granted = refl
over-pase false scoped granted = impossible granted

granted-nobody : (entries : List AclEntry) (actor : Actor) (place : Place) (asked : Privilege) (scoped : Bool) → actor.fabric ≡ 0 → entries ≡ [] → is_granted entries actor place asked scoped ≡ true → scoped ≡ false
granted-nobody entries actor place asked scoped zero none granted =
    let by_pase : is_granted [] actor place asked scoped ≡ true = subst (λ (es : List AclEntry). is_granted es actor place asked scoped ≡ true) none granted in
    over-pase (is_over_pase actor) scoped (subst (λ (n : ℕ). ((is_over_pase actor && (not (n == 0) || not scoped)) || false) ≡ true) zero by_pase)

allowed-nobody : (seen : Seen) (actor : Actor) (place : Place) (asked : Option Privilege) → actor.fabric ≡ 0 → seen.entries ≡ [] → is_none asked ≡ false → is_granted_if_asked seen.entries actor place asked (is_scoped (find_of place)) ≡ true → is_scoped (find_of place) ≡ false
allowed-nobody seen actor place None zero none writable may = impossible (sym writable)
allowed-nobody seen actor place (Some asked) zero none writable may = granted-nobody seen.entries actor place asked (is_scoped (find_of place)) zero none may

row-unscoped : (place : Place) (fabric : ℕ) (rows : Result (List Value) Status) → is_scoped (find_data_of place) ≡ false → Passes is_unscoped_step (row_step place fabric rows)
row-unscoped place fabric (Err status) unscoped = record { is = refl }
row-unscoped place fabric (Ok rows) unscoped = record { is = not_from_false _ unscoped }

-- the list of entries is scoped
no-entries : (b : Bool) (x y : Result NodeStep Status) → (b ≡ true → false ≡ true) → Passes is_unscoped_step y → Passes is_unscoped_step (if b then x else y)
no-entries true x y never passes = impossible (never refl)
no-entries false x y never passes = passes

module _ (law : (place : Place) → is_ok (find_of place) ≡ true → takes_rightly place ≡ true) (known : (place : Place) (meta : Meta) → find_of place ≡ Ok meta → find_data_of place ≡ Ok meta) (seen : Seen) (actor : Actor) (zero : actor.fabric ≡ 0) (none : seen.entries ≡ []) where
  unscoped-at : (place : Place) (meta : Meta) → find_of place ≡ Ok meta → may_write seen actor place ≡ true → is_none meta.write ≡ false → is_scoped (find_of place) ≡ false
  unscoped-at place meta there may writable =
      let asked : privilege_of place Write ≡ meta.write = ap (λ (r : Result Meta Status). result_unwrap_or (of_found (λ (m : Meta). m.write) r) (Some View)) there in
      allowed-nobody seen actor place meta.write zero none writable (subst (λ (p : Option Privilege). is_granted_if_asked seen.entries actor place p (is_scoped (find_of place)) ≡ true) asked may)

  step-unscoped : (steps : List NodeStep) (item : WriteItem) (place : Place) (meta : Meta) → find_of place ≡ Ok meta → may_write seen actor place ≡ true → is_none meta.write ≡ false
      → Passes is_unscoped_step (written_at seen actor steps item place (Ok meta))
  step-unscoped steps item place meta there may writable =
      let own = fabric_of actor meta in
      let unscoped = unscoped-at place meta there may writable in
      let fits : fits_found (is_stored place) (Ok meta) (takes_of place) ≡ true = subst (λ r. fits_found (is_stored place) r (takes_of place) ≡ true) there (law place (ap is_ok there)) in
      no-entries (is_entry_list meta.kind) (entries_written item meta actor.fabric (entries_now actor.fabric steps seen.entries)) (rows_written item place meta own (rows_now place own steps (own_values own (seen.rows_at place))))
      (λ acl. sym unscoped ∙ ap is_scoped there ∙ (and_parts meta.scoped (meta.limit == 4) (entry-list (is_stored place) meta (takes_of place) acl writable fits)).0)
      (row-unscoped place own _ (ap is_scoped (known place meta there) ∙ (sym (ap is_scoped there) ∙ unscoped)))

pub nobody_sets_scoped : ((place : Place) → is_ok (find_of place) ≡ true → takes_rightly place ≡ true) → ((place : Place) (meta : Meta) → find_of place ≡ Ok meta → find_data_of place ≡ Ok meta) → NobodySetsScoped
nobody_sets_scoped law known seen actor items timed zero none =
    each_passes is_unscoped_step seen actor timed (λ steps before item place meta there may writable. step-unscoped law known seen actor zero none steps item place meta there may writable) items
