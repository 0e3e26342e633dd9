-- A fabric's value is read as the fabric.
use Rattle.std.proofs.Common.{◌≡◌, ◌&&◌, ◌<◌, ◌^◌, nat_lt, nat_le, true, Some, arith}
use Rattle.std.proofs.lemmas.Bool.{and_parts, le-leb, ltb-true}
use Rattle.mt_tlv.specs.View.{tree}
use Rattle.mt_model.specs.texts.Config.{are_credentials, is_fabric, is_label}
use Rattle.mt_model.specs.declared.tables.fabric.Fabric.{Fabric}
use Rattle.mt_grammar.specs.Values.{fabric_in}
use Rattle.mt_lasting.specs.Values.{fabric_value}

pub fabric_read : (fabric : Fabric) → is_fabric fabric ≡ true → fabric_in fabric.index (tree (fabric_value fabric)) ≡ Some fabric
fabric_read fabric form =
    let parts = and_parts (are_credentials fabric.credentials && is_label fabric.label) (nat_lt fabric.vendor (2 ^ 16)) form in
    let below : fabric.vendor < 2 ^ 16 = ltb-true fabric.vendor (2 ^ 16) parts.1 in
    let fits : nat_le fabric.vendor 0xffff ≡ true = le-leb fabric.vendor 0xffff (omega arith) in
    rw fits
