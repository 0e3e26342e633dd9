-- What holds between the keys of what is kept, as it holds of a valid state. That the indexes of fabrics rise, and rows and entries
-- stand by place and fabric, follows from the order of keys; that no index is above the most fabrics, from the form of keys and of the
-- fail-safe.
use Rattle.std.specs.Prelude.{ℕ, ◌==◌, ◌&&◌, ◌||◌, not, nat_le, bytes_eq, count_by, is_some, Bool, true, List, length, Option, Some, None}
use Rattle.std.specs.List.{list_all, list_any}
use Rattle.mt_fabrics.specs.Table.{is_used}
use Rattle.mt_failsafe.specs.Facts.{is_added_to, is_updated_in}
use Rattle.mt_model.specs.tables.Holding.{have_one_id, is_network, is_owned, is_root_of, saves_identity}
use Rattle.mt_model.specs.texts.Config.{are_credentials, have_one_identity, have_one_label, is_certificate, is_entry, is_fabric, is_of, none_alike}
use Rattle.mt_model.specs.declared.limits.TheConstants.{ENTRIES, NETWORKS}
use Rattle.mt_model.specs.declared.rows.place.Row.{Row}
use Rattle.mt_model.specs.declared.tables.access.AclEntry.{AclEntry}
use Rattle.mt_model.specs.declared.tables.fabric.Credentials.{Credentials}
use Rattle.mt_model.specs.declared.tables.fabric.Fabric.{Fabric}
use Rattle.mt_model.specs.declared.tables.network.Armed.{Armed}
use Rattle.mt_model.specs.declared.tables.network.Network.{Network}
use Rattle.mt_grammar.specs.declared.kept.MapContents.{MapContents}

-- 01 and 02 are always there.
abbrev pub has_numbers : MapContents → Bool
has_numbers kept = is_some kept.boot && is_some kept.ceiling

-- Fabrics: lengths of certificates and keys, operational node ids, labels that are text, numbers of their widths; identities differ, and
-- labels.

abbrev pub are_fabrics : List Fabric → Bool
are_fabrics fabrics = list_all is_fabric fabrics && (none_alike have_one_identity fabrics && none_alike have_one_label fabrics)

-- Rows: an item of a list is of a fabric of the table, and what is no item is of none.

abbrev pub is_row_of : List Fabric → Row → Bool
is_row_of fabrics row = (row.fabric == 0) || is_used row.fabric fabrics

abbrev pub are_rows : List Fabric → List Row → Bool
are_rows fabrics rows = list_all (is_row_of fabrics) rows

-- Entries: they are valid, of fabrics of the table, and no more of each than it may have.

abbrev pub has_few_entries : List AclEntry → Fabric → Bool
has_few_entries entries fabric = nat_le (count_by (is_of fabric) entries) ENTRIES

abbrev pub are_entries : List Fabric → List AclEntry → Bool
are_entries fabrics entries = list_all is_entry entries && (list_all (is_owned fabrics) entries && list_all (has_few_entries entries) fabrics)

-- Roots: each stands once, and is used by a fabric, or by commissioning, which has been given one at most.

abbrev pub is_idle : List Fabric → List ℕ → Bool
is_idle fabrics root = not (list_any (is_root_of root) fabrics)

abbrev pub most_idle : Option Armed → ℕ
most_idle None = 0
most_idle (Some armed) = 1

unfoldable pub are_roots : List Fabric → Option Armed → List (List ℕ) → Bool
are_roots fabrics armed roots = list_all is_certificate roots
    && (none_alike bytes_eq roots && nat_le (count_by (is_idle fabrics) roots) (most_idle armed))

-- Networks: no more than there may be, whose ids differ.

unfoldable pub are_networks : List Network → Bool
are_networks networks = nat_le (length networks) NETWORKS
    && (list_all is_network networks && none_alike have_one_id networks)

-- The fail-safe: the fabric for which commissioning goes on is none or of the table; what was added is there; credentials are saved
-- exactly where there was an update, with the identity of the fabric that was updated, which is there, and of their form; and saved
-- networks are such as networks are.

abbrev pub is_for_known : List Fabric → Armed → Bool
is_for_known fabrics armed = (armed.context == 0) || is_used armed.context fabrics

abbrev pub is_added : List Fabric → Armed → Bool
is_added fabrics armed = is_added_to (λ index. is_used index fabrics) armed armed.added

abbrev pub is_updated : List Fabric → Armed → Bool
is_updated fabrics armed = is_updated_in (saves_identity fabrics) armed armed.added armed.updated

abbrev pub are_saved : Option Credentials → Bool
are_saved None = true
are_saved (Some saved) = are_credentials saved

unfoldable pub is_failsafe : List Fabric → Option Armed → Bool
is_failsafe fabrics None = true
is_failsafe fabrics (Some armed) = is_for_known fabrics armed
    && (is_added fabrics armed
    && (is_updated fabrics armed
    && (are_saved armed.saved_credentials
    && are_networks armed.saved_networks)))

-- All of them.

abbrev pub fabric_facts : MapContents → Bool
fabric_facts kept = are_fabrics kept.fabrics && (are_rows kept.fabrics kept.rows && are_entries kept.fabrics kept.entries)

abbrev pub commissioning_facts : MapContents → Bool
commissioning_facts kept = are_roots kept.fabrics kept.failsafe kept.roots && (are_networks kept.networks && is_failsafe kept.fabrics kept.failsafe)

abbrev pub facts_hold : MapContents → Bool
facts_hold kept = has_numbers kept && (fabric_facts kept && commissioning_facts kept)
