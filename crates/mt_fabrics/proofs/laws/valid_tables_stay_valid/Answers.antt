-- What is not refused was asked for.
use Rattle.std.proofs.Common.{◌≡◌, Bool, true, false, nat_le, length, cond, Option, Some, None, refl, ap, is_some, leb-false}
use Rattle.std.proofs.lemmas.Bool.{true≢false}
use Rattle.mt_fabrics.proofs.Tables.{added_table, labelled_table, removed_table, updated_table}
use Rattle.mt_fabrics.proofs.laws.valid_tables_stay_valid.Goals as goal
use Rattle.mt_fabrics.specs.declared.fault.FabricFault.{FabricFault}

-- the first fault of a chain does not apply, and the rest has none
not_first : (test : Bool) (fault : FabricFault) (rest : Option FabricFault) → cond test (Some fault) rest ≡ None → (test ≡ false) × (rest ≡ None)
not_first true fault rest e = absurd (true≢false (ap is_some e))
not_first false fault rest e = (refl, e)

pub returns-clause-added : goal.returns-clause-added
returns-clause-added c = λ fabric fabrics table e.
    let one = not_first _ _ _ e in
    let two = not_first _ _ _ one.1 in
    let three = not_first (nat_le 16 (length fabrics)) _ _ two.1 in
    added_table fabric fabrics table one.0 two.0 (leb-false 16 (length fabrics) three.0)

pub returns-clause-updated : goal.returns-clause-updated
returns-clause-updated c = λ index given fabrics table e.
    let one = not_first _ _ _ e in
    updated_table index given fabrics table (not_first _ _ _ one.1).0

pub returns-clause-removed : goal.returns-clause-removed
returns-clause-removed c = removed_table

pub returns-clause-labelled : goal.returns-clause-labelled
returns-clause-labelled c = λ index label fabrics table e.
    let one = not_first _ _ _ e in
    labelled_table index label fabrics table (not_first _ _ _ one.1).0
