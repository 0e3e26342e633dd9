-- A state that is regained is valid.
use Rattle.std.proofs.Common.{◌≡◌, refl, ℕ, ◌&&◌, nat_le, length, true, List, [], map}
use Rattle.std.proofs.lemmas.Bool.{and_parts}
use Rattle.std.specs.List.{list_all}
use Rattle.mt_durable.specs.declared.durable.Entry.{Entry}
use Rattle.mt_meta.specs.Table.{clusters_of, endpoints}
use Rattle.mt_model.specs.tables.Holding.{have_one_id, is_network, is_owned}
use Rattle.mt_model.specs.texts.Config.{have_one_identity, have_one_label, is_entry, is_fabric, none_alike}
use Rattle.mt_model.specs.texts.Config as config
use Rattle.mt_model.specs.declared.limits.TheConstants.{NETWORKS}
use Rattle.mt_grammar.specs.Facts.{are_entries, are_fabrics, are_networks, are_roots, are_rows, commissioning_facts, fabric_facts, has_few_entries, has_numbers, is_failsafe}
use Rattle.mt_grammar.specs.declared.kept.MapContents.{MapContents}
use Rattle.mt_machine.specs.Laws.{OpensValid}
use Rattle.mt_machine.specs.Opened.{opened_with, versions_at}
use Rattle.mt_machine.specs.State.{IsValid, instance_of, instances}
use Rattle.mt_regained.specs.Laws.{IsKeptIn}
use Rattle.mt_regained.specs.Regained.{state_of}
use Rattle.mt_regained.proofs.Again.{numbers}
use Rattle.mt_regained.proofs.Armed.{failsafe_good, network_facts, root_facts, roots_used}
use Rattle.mt_regained.proofs.Rows.{ascend, counts, forms, stand_once}
use Rattle.mt_regained.proofs.Tables.{entries_rise, few_fabrics, indexes_fit, indexes_rise}

no_fabrics : config.are_fabrics [] ≡ true
unfolding config.are_fabrics
no_fabrics = refl

no_entries : config.are_entries [] [] ≡ true
unfolding config.are_entries
no_entries = refl

versions_stand : (version : ℕ) → map instance_of (versions_at version) ≡ instances
unfolding endpoints clusters_of
versions_stand version = refl

pub states_valid : OpensValid → (entries : List Entry) (kept : MapContents) → IsKeptIn entries kept → IsValid (state_of kept)
states_valid opens entries kept is =
    let fresh : IsValid (opened_with 0 [] [] []) = opens 0 [] [] [] refl no_fabrics no_entries in
    let all = and_parts (fabric_facts kept) (commissioning_facts kept) (and_parts (has_numbers kept) (fabric_facts kept && commissioning_facts kept) is.facts).1 in
    let tables = and_parts (are_fabrics kept.fabrics) (are_rows kept.fabrics kept.rows && are_entries kept.fabrics kept.entries) all.0 in
    let fabrics = and_parts (list_all is_fabric kept.fabrics) (none_alike have_one_identity kept.fabrics && none_alike have_one_label kept.fabrics) tables.0 in
    let differ = and_parts (none_alike have_one_identity kept.fabrics) (none_alike have_one_label kept.fabrics) fabrics.1 in
    let lists = and_parts (are_rows kept.fabrics kept.rows) (are_entries kept.fabrics kept.entries) tables.1 in
    let entry_facts = and_parts (list_all is_entry kept.entries) (list_all (is_owned kept.fabrics) kept.entries && list_all (has_few_entries kept.entries) kept.fabrics) lists.1 in
    let owned = and_parts (list_all (is_owned kept.fabrics) kept.entries) (list_all (has_few_entries kept.entries) kept.fabrics) entry_facts.1 in
    let commissioning = and_parts (are_roots kept.fabrics kept.failsafe kept.roots) (are_networks kept.networks && is_failsafe kept.fabrics kept.failsafe) all.1 in
    let later = and_parts (are_networks kept.networks) (is_failsafe kept.fabrics kept.failsafe) commissioning.1 in
    let roots = root_facts kept.fabrics kept.failsafe kept.roots commissioning.0 in
    let networks = and_parts (nat_le (length kept.networks) NETWORKS) (list_all is_network kept.networks && none_alike have_one_id kept.networks) (network_facts kept.networks later.0) in
    let ids = and_parts (list_all is_network kept.networks) (none_alike have_one_id kept.networks) networks.1 in
    let number = numbers entries kept is in
    let failsafe = failsafe_good kept kept.failsafe later.1 number.failsafe roots.0 in
    record {
      fabric_count = few_fabrics entries kept is;
      fabrics_rise = indexes_rise entries kept is;
      indexes = indexes_fit entries kept is;
      fabric_forms = fabrics.0;
      identities_differ = differ.0;
      labels_differ = differ.1;
      entries_rise = entries_rise entries kept is;
      entry_forms = entry_facts.0;
      entries_owned = owned.0;
      entry_counts = owned.1;
      rows_rise = ascend entries kept is;
      row_forms = forms entries kept is lists.0;
      rows_stand = stand_once entries kept is;
      row_counts = counts entries kept is;
      roots_differ = roots.1;
      root_forms = roots.0;
      roots_used = roots_used kept kept.failsafe roots.2;
      network_count = networks.0;
      network_forms = ids.0;
      network_ids_differ = ids.1;
      sessions_stand = refl;
      plain_stands = refl;
      versions_stand = versions_stand _;
      count_fits = fresh.count_fits;
      changes_counted = fresh.changes_counted;
      newest_counts = fresh.newest_counts;
      changes_stand = fresh.changes_stand;
      changes_of_all = fresh.changes_of_all;
      changes_of_attributes = fresh.changes_of_attributes;
      failsafe_facts = failsafe.keeps;
      failsafe_names = failsafe.names;
      saved_stand = failsafe.saves;
      given_stand = failsafe.given;
      sessions_follow = refl;
      plain_follow = refl;
      boot_fits = number.boot;
    }
