use Rattle.std.proofs.Common.{◌≡◌, List, subst, sym, rules}
use Rattle.mt_model.specs.declared.tables.fabric.Fabric.{Fabric}
use Rattle.mt_fabrics.proofs.Tables.{removed_table}
use Rattle.mt_fabrics.specs.Table.{IsTable, removed}
use Rattle.mt_fabrics.proofs.table.FabricTable.remove.Goals as goal

pub invariant_of-self : goal.invariant_of-self
invariant_of-self c =
    let fabrics = c.self.inside.fabrics in
    let is : c.from_vec.result ≡ removed c.args.index fabrics = search rules in
    subst (λ (l : List Fabric). IsTable l) (sym is) (removed_table c.args.index fabrics c.self.invariant)
