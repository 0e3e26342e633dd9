-- The map of a valid state is read back as what is kept of it.
use Rattle.std.proofs.Common.{◌≡◌, ◌∙◌, sym, ap, Some}
use Rattle.std.proofs.lemmas.Bool.{le-leb}
use Rattle.mt_tlv.specs.View.{tree}
use Rattle.mt_model.specs.declared.node.state.NodeState.{NodeState}
use Rattle.mt_model.specs.declared.rows.place.Place.{Place}
use Rattle.mt_model.specs.declared.tables.network.Armed.{Armed}
use Rattle.mt_grammar.specs.Values.{armed_in, greatest_ceiling}
use Rattle.mt_grammar.specs.declared.keys.Key.TheVariants as keys
use Rattle.mt_machine.specs.State.{IsValid, keeps_facts, names_rightly}
use Rattle.mt_lasting.specs.Contents.{kept_failsafe}
use Rattle.mt_lasting.specs.Keys.{item_places, single_places}
use Rattle.mt_lasting.specs.Laws.{MapsAreReadBack}
use Rattle.mt_lasting.specs.Values.{failsafe_value}
use Rattle.mt_lasting.proofs.AddItems.{entries_are_added, fabric_is_added, items_added}
use Rattle.mt_lasting.proofs.AddSingles.{single_added}
use Rattle.mt_lasting.proofs.Folding.{IsAdded, each-same}
use Rattle.mt_lasting.proofs.Gathered.{entries_gathered, fabrics_few, fabrics_gathered}
use Rattle.mt_lasting.proofs.ItemFacts.{IsItems, have_items}
use Rattle.mt_lasting.proofs.PlaceFacts.{IsSingle, are_single}
use Rattle.mt_lasting.proofs.ReadFailsafe.{failsafe_read}
use Rattle.mt_lasting.proofs.Valid.{entries_formed, fabrics_formed, items_few, items_formed, none_listed, once, rows_fit}
use Rattle.mt_lasting.proofs.Whole.{whole_read}

-- where a fail-safe is armed
armed_read : (s : NodeState) → IsValid s → (armed : Armed) → s.armed ≡ Some armed → armed_in (tree (failsafe_value armed)) ≡ Some (kept_failsafe armed)
armed_read s valid armed is = failsafe_read s.fabrics armed valid.indexes (ap (keeps_facts s.fabrics) (sym is) ∙ valid.failsafe_facts) (ap (names_rightly s.fabrics) (sym is) ∙ valid.failsafe_names)

pub read_back : MapsAreReadBack
read_back s ceiling valid room = whole_read s ceiling
    (each-same IsSingle (λ (place : Place). IsAdded s ceiling (keys.Single place)) (λ place facts. single_added s ceiling place facts (once s valid place facts) (rows_fit s valid place facts)) single_places are_single)
    (λ fabric is. entries_are_added s ceiling fabric is (none_listed s valid fabric) (entries_formed s valid fabric))
    (λ fabric is. each-same IsItems (λ (place : Place). IsAdded s ceiling (keys.Items fabric place)) (λ place facts. items_added s ceiling fabric is place facts (items_formed s valid fabric place facts) (items_few s valid fabric place facts)) item_places have_items)
    (λ fabric is. fabric_is_added s ceiling fabric is (fabrics_few fabric 0 s.fabrics valid.fabrics_rise) (fabrics_formed s valid fabric))
    (entries_gathered s.fabrics s.entries valid.entries_rise valid.indexes valid.entries_owned)
    (fabrics_gathered s.fabrics valid.fabrics_rise valid.indexes)
    valid.boot_fits
    (le-leb ceiling greatest_ceiling room)
    (armed_read s valid)
