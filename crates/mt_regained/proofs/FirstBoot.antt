-- The first boot is that of a new node.
use Rattle.std.proofs.Common.{◌≡◌, refl, ap, ◌∙◌, List, []}
use Rattle.std.specs.List.{flat_map}
use Rattle.mt_model.specs.declared.tables.access.AclEntry.{AclEntry}
use Rattle.mt_model.specs.declared.tables.fabric.Fabric.{Fabric}
use Rattle.mt_meta.specs.Stored.{first_rows, is_stored}
use Rattle.mt_meta.specs.Table.{attributes_of, clusters_of, endpoints, extensions_of, globals}
use Rattle.mt_machine.specs.Opened.{opened_with}
use Rattle.mt_lasting.specs.Contents.{rows_under}
use Rattle.mt_lasting.specs.Keys.{all_keys}
use Rattle.mt_regained.specs.Laws.{FirstBoots}
use Rattle.mt_regained.specs.Regained.{rows_with}

-- of a new node no row is kept
none_of_new : (fabrics : List Fabric) (entries : List AclEntry) → flat_map (rows_under (opened_with 0 fabrics entries [])) all_keys ≡ []
unfolding endpoints clusters_of attributes_of globals extensions_of is_stored
none_of_new fabrics entries = refl

first_again : rows_with [] ≡ first_rows
unfolding endpoints clusters_of attributes_of globals extensions_of is_stored
first_again = refl

pub first_boots : FirstBoots
first_boots config boot sessions = λ i. record (opened_with boot config.fabrics config.entries sessions) { rows = (ap rows_with (none_of_new config.fabrics config.entries) ∙ first_again) i }
