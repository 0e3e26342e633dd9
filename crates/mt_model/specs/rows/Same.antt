-- Whether two lists of rows, or two entries, are the same. It is told by the codes that stand for values one to one.
use Rattle.std.specs.Prelude.{ℕ, ◌==◌, ◌&&◌, Bool, true, false, List, refl}
use Rattle.std.specs.Coded.{Coded, code_by, coded_list, coded_ℕ, coded×}
use base.Stored.{Gv, gnil, gnum, gcons}
use Rattle.mt_tlv.specs.contracts.value.Value as values
use Rattle.mt_tlv.specs.declared.value.Value.{Value}
use Rattle.mt_model.specs.tables.Entries.{entry_value}
use Rattle.mt_model.specs.declared.rows.place.Row.{Row}
use Rattle.mt_model.specs.declared.tables.access.AclEntry.{AclEntry}

abbrev pub are_same_codes : Gv → Gv → Bool
are_same_codes gnil gnil = true
are_same_codes (gnum m) (gnum n) = m == n
are_same_codes (gcons a b) (gcons c d) = are_same_codes a c && are_same_codes b d
are_same_codes a b = false

-- the code of a row, by its fields
abbrev pub row_code : Coded Row
row_code = code_by ((ℕ × ℕ) × ((ℕ × ℕ) × Value)) (coded× (coded× coded_ℕ coded_ℕ) (coded× (coded× coded_ℕ coded_ℕ) values.the_row.coded))
    (λ row. ((row.place.endpoint, row.place.cluster), ((row.place.leaf, row.fabric), row.value)))
    (λ t. record { place = record { endpoint = t.0.0; cluster = t.0.1; leaf = t.1.0.0 }; fabric = t.1.0.1; value = t.1.1 })
    (λ _. refl)

abbrev pub rows_code : Coded (List Row)
rows_code = coded_list row_code

abbrev pub are_same_rows : List Row → List Row → Bool
are_same_rows rows others = are_same_codes (rows_code.code rows) (rows_code.code others)

-- entries are the same where they are written as the same value
abbrev pub is_same_entry : AclEntry → AclEntry → Bool
is_same_entry entry other = are_same_codes (values.the_row.coded.code (entry_value entry)) (values.the_row.coded.code (entry_value other))
