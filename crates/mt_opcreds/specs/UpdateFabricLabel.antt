-- UpdateFabricLabel: what the administrator of the fabric that asks calls it.
use Rattle.std.specs.Prelude.{ℕ, nat_le, not, List, [], ◌∷◌, length, if◌then◌else◌}
use Rattle.std.specs.List.{list_any}
use Rattle.mt_tlv.specs.declared.value.Value.{Value}
use Rattle.mt_fabrics.specs.Table.{has_others_label}
use Rattle.mt_model.specs.messages.Effects.{refused_at}
use Rattle.mt_model.specs.tables.Known.{Known}
use Rattle.mt_model.specs.declared.limits.TheConstants.{LABEL_BYTES}
use Rattle.mt_model.specs.declared.messages.status.Status.TheVariants.{ConstraintError}
use Rattle.mt_model.specs.declared.node.action.Effect.{Effect}
use Rattle.mt_model.specs.declared.node.action.NodeStep.TheVariants.{Label}
use Rattle.mt_model.specs.declared.rows.place.Place.{Place}
use Rattle.mt_meta.specs.Given.{text_of}
use Rattle.mt_opcreds.specs.Responses.{noc_done, noc_refused}
use Rattle.mt_opcreds.specs.declared.fault.CertificateFault.TheVariants.{LabelConflict}

abbrev pub label_in : Value → List ℕ
label_in fields = text_of 0 fields

-- no two fabrics have one label, unless it is empty
abbrev pub labelled : Known → ℕ → Place → List ℕ → Effect
labelled known index command label =
    if not (nat_le (length label) LABEL_BYTES) then refused_at command ConstraintError
    else if list_any (has_others_label index label) known.fabrics then noc_refused command LabelConflict
    else noc_done command index (Label index label ∷ [])

abbrev pub update_label_effect : Known → ℕ → Place → Value → Effect
update_label_effect known index command fields = labelled known index command (label_in fields)
