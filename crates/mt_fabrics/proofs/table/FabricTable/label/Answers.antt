use Rattle.std.proofs.Common.{◌≡◌, List, false, subst, sym, arith, rules}
use Rattle.std.proofs.lemmas.Grind.{common_steps}
use Rattle.std.specs.List.{list_any}
use Rattle.mt_model.specs.declared.tables.fabric.Fabric.{Fabric}
use Rattle.mt_fabrics.proofs.Tables.{labelled_table}
use Rattle.mt_fabrics.specs.Table.{IsTable, has_others_label, labelled}
use Rattle.mt_fabrics.proofs.table.FabricTable.label.Goals as goal

pub invariant_of-self : goal.invariant_of-self
invariant_of-self c =
    let fabrics = c.args.self.now in
    let table : IsTable fabrics = subst (λ (l : List Fabric). IsTable l) c.self.view_is c.self.invariant in
    let is : c.from_vec.result ≡ labelled c.args.index c.args.label fabrics = grind (arith, common_steps) in
    let none : list_any (has_others_label c.args.index c.args.label) fabrics ≡ false = search rules in
    subst (λ (l : List Fabric). IsTable l) (sym is) (labelled_table c.args.index c.args.label fabrics table none)
