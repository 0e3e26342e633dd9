-- A write touches the writer's own.
use Rattle.std.proofs.Common.{◌≡◌, Bool, true, false, List, Result, Ok, Err, refl, sym, ap, if◌then◌else◌}
use Rattle.std.proofs.lemmas.Bool.{eq-eqb}
use Rattle.mt_meta.specs.Finding.{find_data_of, find_of}
use Rattle.mt_meta.specs.declared.meta.Meta.{Meta}
use Rattle.mt_model.specs.rows.Seen.{Seen}
use Rattle.mt_model.specs.declared.tables.access.AclEntry.{AclEntry}
use Rattle.mt_model.specs.declared.tables.access.Actor.{Actor}
use Rattle.mt_model.specs.declared.node.action.NodeStep.{NodeStep}
use Rattle.mt_model.specs.declared.messages.message.WriteItem.{WriteItem}
use Rattle.mt_model.specs.declared.rows.place.Place.{Place}
use Rattle.mt_model.specs.declared.messages.status.Status.{Status}
use Rattle.mt_tlv.specs.declared.value.Value.{Value}
use Rattle.mt_write.specs.Laws.{TouchesItsOwn, is_own_step}
use Rattle.mt_write.specs.Latest.{entries_now, rows_now}
use Rattle.mt_write.specs.Writing.{entries_step, entries_written, fabric_of, is_scoped, own_values, row_step, rows_written, is_entry_list, written_at}
use Rattle.mt_write.proofs.Steps.{Passes, each_passes}

entries-own : (actor : Actor) (entries : Result (List AclEntry) Status) → Passes (is_own_step actor) (entries_step actor.fabric entries)
entries-own actor (Err status) = record { is = refl }
entries-own actor (Ok entries) = record { is = eq-eqb actor.fabric actor.fabric refl }

row-own : (actor : Actor) (place : Place) (meta : Meta) (rows : Result (List Value) Status) → find_data_of place ≡ Ok meta → Passes (is_own_step actor) (row_step place (fabric_of actor meta) rows)
row-own actor place meta (Err status) there = record { is = refl }
row-own actor place meta (Ok rows) there =
    record { is = eq-eqb (fabric_of actor meta) (if is_scoped (find_data_of place) then actor.fabric else 0) (ap (λ r. if is_scoped r then actor.fabric else 0) (sym there)) }

either : (actor : Actor) (b : Bool) (x y : Result NodeStep Status) → Passes (is_own_step actor) x → Passes (is_own_step actor) y → Passes (is_own_step actor) (if b then x else y)
either actor true x y own other = own
either actor false x y own other = other

found-own : (seen : Seen) (actor : Actor) (steps : List NodeStep) (item : WriteItem) (place : Place) (meta : Meta) → find_data_of place ≡ Ok meta → Passes (is_own_step actor) (written_at seen actor steps item place (Ok meta))
found-own seen actor steps item place meta there =
    let own = fabric_of actor meta in
    let rows = rows_now place own steps (own_values own (seen.rows_at place)) in
    let entries = entries_now actor.fabric steps seen.entries in
    either actor (is_entry_list meta.kind) (entries_written item meta actor.fabric entries) (rows_written item place meta own rows)
    (entries-own actor _) (row-own actor place meta _ there)

pub touches_its_own : ((place : Place) (meta : Meta) → find_of place ≡ Ok meta → find_data_of place ≡ Ok meta) → TouchesItsOwn
touches_its_own known seen actor items timed =
    each_passes (is_own_step actor) seen actor timed (λ steps before item place meta there may writable. found-own seen actor steps item place meta (known place meta there)) items
