-- What holds of the parts of a valid state, and the valid state that is made of such parts.
use Rattle.std.proofs.Common.{◌≡◌, ℕ, ◌&&◌, nat_le, bytes_eq, true, List, Option, length, filter}
use Rattle.std.proofs.lemmas.Bool.{and_from, and_parts}
use Rattle.std.specs.List.{list_all}
use Rattle.mt_fabrics.specs.Table.{IsTable, has_index_up_to}
use Rattle.mt_meta.specs.Places.{all_places}
use Rattle.mt_model.specs.rows.Order.{are_ascending, fabrics_ascend}
use Rattle.mt_model.specs.texts.Config.{ascend_from, have_one_identity, have_one_label, is_certificate, is_entry, is_fabric, none_alike}
use Rattle.mt_model.specs.declared.node.state.NodeSession.{NodeSession}
use Rattle.mt_model.specs.declared.node.state.NodeState.{NodeState}
use Rattle.mt_model.specs.declared.rows.place.Row.{Row}
use Rattle.mt_model.specs.declared.tables.access.AclEntry.{AclEntry}
use Rattle.mt_model.specs.declared.tables.fabric.Fabric.{Fabric}
use Rattle.mt_model.specs.declared.tables.network.Armed.{Armed}
use Rattle.mt_model.specs.declared.tables.network.Network.{Network}
use Rattle.mt_machine.specs.State.{IsValid, ItemsAreFew, are_networks, follows, has_entries_up_to, has_one_row, is_plain_of, is_row, is_session, is_used, keeps_facts, names_rightly, plain_follows, saves_rightly, stands_once, was_given_rightly}
use Rattle.mt_model.specs.tables.Holding.{have_one_id, is_network, is_owned}

pub record FabricsHold (fabrics : List Fabric) : Type 0 where
  pub few : nat_le (length fabrics) 16 ≡ true
  pub rise : fabrics_ascend fabrics ≡ true
  pub indexes : list_all (has_index_up_to 16) fabrics ≡ true
  pub forms : list_all is_fabric fabrics ≡ true
  pub identities : none_alike have_one_identity fabrics ≡ true
  pub labels : none_alike have_one_label fabrics ≡ true

pub record EntriesHold (fabrics : List Fabric) (entries : List AclEntry) : Type 0 where
  pub rise : ascend_from 1 entries ≡ true
  pub forms : list_all is_entry entries ≡ true
  pub owned : list_all (is_owned fabrics) entries ≡ true
  pub few : list_all (has_entries_up_to 4 entries) fabrics ≡ true

pub record RowsHold (fabrics : List Fabric) (rows : List Row) : Type 0 where
  pub rise : are_ascending rows ≡ true
  pub forms : list_all (is_row fabrics) rows ≡ true
  pub stand : list_all (stands_once rows) (filter has_one_row all_places) ≡ true
  pub few : ItemsAreFew rows

pub record RootsHold (fabrics : List Fabric) (armed : Option Armed) (roots : List (List ℕ)) : Type 0 where
  pub differ : none_alike bytes_eq roots ≡ true
  pub forms : list_all is_certificate roots ≡ true
  pub used : list_all (is_used fabrics armed) roots ≡ true

pub record SessionsHold (fabrics : List Fabric) (armed : Option Armed) (sessions : List NodeSession) : Type 0 where
  pub stand : list_all (is_session fabrics) sessions ≡ true
  pub follow : list_all (λ (session : NodeSession). follows armed session.auth session.standing) sessions ≡ true

pub record PlainHolds (fabrics : List Fabric) (armed : Option Armed) (plain : Option ℕ) : Type 0 where
  pub stands : is_plain_of fabrics plain ≡ true
  pub follows : plain_follows armed plain ≡ true

pub record ArmedHolds (fabrics : List Fabric) (armed : Option Armed) : Type 0 where
  pub facts : keeps_facts fabrics armed ≡ true
  pub names : names_rightly fabrics armed ≡ true
  pub saved : saves_rightly armed ≡ true
  pub given : was_given_rightly armed ≡ true

-- The parts of a valid state.
module _ (s : NodeState) (valid : IsValid s) where
  pub its_fabrics : FabricsHold s.fabrics
  its_fabrics = record { few = valid.fabric_count; rise = valid.fabrics_rise; indexes = valid.indexes; forms = valid.fabric_forms; identities = valid.identities_differ; labels = valid.labels_differ }

  pub its_entries : EntriesHold s.fabrics s.entries
  its_entries = record { rise = valid.entries_rise; forms = valid.entry_forms; owned = valid.entries_owned; few = valid.entry_counts }

  pub its_rows : RowsHold s.fabrics s.rows
  its_rows = record { rise = valid.rows_rise; forms = valid.row_forms; stand = valid.rows_stand; few = valid.row_counts }

  pub its_roots : RootsHold s.fabrics s.armed s.roots
  its_roots = record { differ = valid.roots_differ; forms = valid.root_forms; used = valid.roots_used }

  pub its_networks : are_networks s.networks ≡ true
  its_networks = and_from _ _ valid.network_count (and_from _ _ valid.network_forms valid.network_ids_differ)

  pub its_sessions : SessionsHold s.fabrics s.armed s.sessions
  its_sessions = record { stand = valid.sessions_stand; follow = valid.sessions_follow }

  pub its_plain : PlainHolds s.fabrics s.armed s.plain
  its_plain = record { stands = valid.plain_stands; follows = valid.plain_follow }

  pub its_armed : ArmedHolds s.fabrics s.armed
  its_armed = record { facts = valid.failsafe_facts; names = valid.failsafe_names; saved = valid.saved_stand; given = valid.given_stand }

-- A state that differs from a valid one in such parts.
pub with-parts : (s : NodeState) → IsValid s
    → (fabrics : List Fabric) (entries : List AclEntry) (rows : List Row) (roots : List (List ℕ)) (networks : List Network) (armed : Option Armed) (sessions : List NodeSession) (plain : Option ℕ)
    → FabricsHold fabrics → EntriesHold fabrics entries → RowsHold fabrics rows → RootsHold fabrics armed roots → are_networks networks ≡ true → SessionsHold fabrics armed sessions → PlainHolds fabrics armed plain → ArmedHolds fabrics armed
    → IsValid (record s { fabrics = fabrics; entries = entries; rows = rows; roots = roots; networks = networks; armed = armed; sessions = sessions; plain = plain })
with-parts s valid fabrics entries rows roots networks armed sessions plain f e r t n c p a =
    let count_and = and_parts (nat_le (length networks) 4) (list_all is_network networks && none_alike have_one_id networks) n in
    let forms_and = and_parts (list_all is_network networks) (none_alike have_one_id networks) count_and.1 in
    record {
      fabric_count = f.few;
      fabrics_rise = f.rise;
      indexes = f.indexes;
      fabric_forms = f.forms;
      identities_differ = f.identities;
      labels_differ = f.labels;
      entries_rise = e.rise;
      entry_forms = e.forms;
      entries_owned = e.owned;
      entry_counts = e.few;
      rows_rise = r.rise;
      row_forms = r.forms;
      rows_stand = r.stand;
      row_counts = r.few;
      roots_differ = t.differ;
      root_forms = t.forms;
      roots_used = t.used;
      network_count = count_and.0;
      network_forms = forms_and.0;
      network_ids_differ = forms_and.1;
      sessions_stand = c.stand;
      plain_stands = p.stands;
      versions_stand = valid.versions_stand;
      count_fits = valid.count_fits;
      changes_counted = valid.changes_counted;
      newest_counts = valid.newest_counts;
      changes_stand = valid.changes_stand;
      changes_of_all = valid.changes_of_all;
      changes_of_attributes = valid.changes_of_attributes;
      failsafe_facts = a.facts;
      failsafe_names = a.names;
      saved_stand = a.saved;
      given_stand = a.given;
      sessions_follow = c.follow;
      plain_follow = p.follows;
      boot_fits = valid.boot_fits;
    }

-- The fabrics as the table of which other laws speak.
pub table_of : (fabrics : List Fabric) → FabricsHold fabrics → IsTable fabrics
table_of fabrics hold = record { rises = hold.rise; within = hold.indexes; identities_differ = hold.identities; labels_differ = hold.labels }

pub fabrics_of : (fabrics : List Fabric) → IsTable fabrics → nat_le (length fabrics) 16 ≡ true → list_all is_fabric fabrics ≡ true → FabricsHold fabrics
fabrics_of fabrics table few forms = record { few = few; rise = table.rises; indexes = table.within; forms = forms; identities = table.identities_differ; labels = table.labels_differ }
