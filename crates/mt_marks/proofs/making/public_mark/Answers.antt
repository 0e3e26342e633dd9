use Rattle.std.proofs.Common.{◌≡◌, ◌∙◌, ap, map}
use Rattle.mt_model.specs.tables.Known.{bare_network}
use Rattle.mt_runs.specs.mt_machine.Isolation.{descriptor_of}
use Rattle.mt_runs.specs.Marks.{seen}
use Rattle.mt_marks.specs.Seen.{described, descriptor_in, other_owners}
use Rattle.mt_marks.proofs.Seeing.{map-described}
use Rattle.mt_marks.proofs.making.public_mark.Goals as goal

pub rows_of_others-requires-clause-stored : goal.rows_of_others-requires-clause-stored
rows_of_others-requires-clause-stored c = c.rows_stand_at_stored_places.ensures.stored c.args.state.now.fabrics c.args.state.now.rows c.requires.row_forms

pub returns : goal.returns
returns c =
    let state = c.args.state.now in
    let owners : c.in_ok-owners_of_others.field-0 ≡ other_owners c.args.fabric state.entries = c.in_ok-owners_of_others.ensures ∙ ap (other_owners c.args.fabric) c.as_slice.ensures in
    let fabrics : map descriptor_in c.in_ok-descriptors.field-0 ≡ map descriptor_of state.fabrics =
    ap (map descriptor_in) (c.in_ok-descriptors.ensures ∙ ap (map described) c.as_slice-2.ensures) ∙ map-described state.fabrics in
    let networks : c.in_ok-bare_networks.field-0 ≡ map bare_network state.networks = c.in_ok-bare_networks.ensures ∙ ap (map bare_network) c.as_slice-3.ensures in
    λ i. seen (c.in_ok-copy.ensures i) (record {
      node = record {
        rows = c.in_ok-rows_of_others.ensures i;
        owners = owners i;
        fabrics = fabrics i;
        roots = c.in_ok-copy-2.ensures i;
        networks = networks i;
        armed = c.in_ok-bare_failsafe.ensures i;
        versions = c.in_ok-copy-3.ensures i;
        changes = c.in_ok-copy-4.ensures i;
        boot = state.boot;
        clock = state.clock;
      };
      events = record { shared = c.in_ok-shared_events.ensures i; next = c.args.numbers.next };
    })
