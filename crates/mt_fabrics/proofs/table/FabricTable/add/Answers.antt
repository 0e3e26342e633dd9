use Rattle.std.proofs.Common.{◌≡◌, ◌<◌, List, false, length, subst, sym, rules}
use Rattle.std.specs.List.{list_any}
use Rattle.mt_model.specs.declared.tables.fabric.Fabric.{Fabric}
use Rattle.mt_fabrics.proofs.Gaps.{is_least}
use Rattle.mt_fabrics.proofs.Tables.{added_table}
use Rattle.mt_fabrics.specs.Table.{IsLeastUnused, IsTable, added, has_label, least_unused}
use Rattle.mt_model.specs.texts.Config.{has_identity}
use Rattle.mt_fabrics.proofs.table.FabricTable.add.Goals as goal

pub invariant_of-self : goal.invariant_of-self
invariant_of-self c =
    let fabrics = c.self.inside.fabrics in
    let fabric = c.args.fabric in
    let is : c.from_vec.result ≡ added fabric fabrics = search rules in
    let identity : list_any (has_identity fabric.credentials.root_key fabric.credentials.fabric_id) fabrics ≡ false = search rules in
    let label : list_any (has_label fabric.label) fabrics ≡ false = search rules in
    let room : length fabrics < 16 = search rules in
    subst (λ (l : List Fabric). IsTable l) (sym is) (added_table fabric fabrics c.self.invariant identity label room)

pub returns-in-Ok-clause-least : goal.returns-in-Ok-clause-least
returns-in-Ok-clause-least c =
    let fabrics = c.self.inside.fabrics in
    let is : c.least_unused-index.result ≡ least_unused fabrics = search rules in
    let least : IsLeastUnused c.least_unused-index.result fabrics = rw is (is_least fabrics c.self.invariant) in
    subst (λ (l : List Fabric). IsLeastUnused c.least_unused-index.result l) c.self.view_is least
