-- RemoveFabric: a fabric leaves, which all are told.
use Rattle.std.specs.Prelude.{ℕ, List, [], ◌∷◌, Option, if◌then◌else◌}
use Rattle.mt_tlv.specs.Tree.{uint, none, more}
use Rattle.mt_tlv.specs.declared.value.Tag.TheVariants.{Context}
use Rattle.mt_tlv.specs.declared.value.Value.{Value}
use Rattle.mt_tlv.specs.declared.value.Value.TheVariants as values
use Rattle.mt_fabrics.specs.Table.{is_used}
use Rattle.mt_failsafe.specs.Calls.{is_context}
use Rattle.mt_failsafe.specs.Notes.{was_added}
use Rattle.mt_model.specs.tables.Known.{Known}
use Rattle.mt_model.specs.declared.node.action.Effect.{Effect}
use Rattle.mt_model.specs.declared.node.action.NodeStep.{NodeStep}
use Rattle.mt_model.specs.declared.node.action.NodeStep.TheVariants.{Emit, Expire, RemoveFabric}
use Rattle.mt_model.specs.declared.rows.place.Place.{Place}
use Rattle.mt_model.specs.declared.tables.network.Armed.{Armed}
use Rattle.mt_meta.specs.Given.{number_of}
use Rattle.mt_opcreds.specs.Responses.{noc_done, noc_refused}
use Rattle.mt_opcreds.specs.declared.fault.CertificateFault.TheVariants.{InvalidFabricIndex}

abbrev pub index_in : Value → ℕ
index_in fields = number_of 0 fields

-- the event Leave of Basic Information
abbrev pub leave : Place
leave = record { endpoint = 0; cluster = 0x28; leaf = 2 }

-- all are told the index of a fabric that leaves; the event's priority is that of information
abbrev pub leave_event : ℕ → NodeStep
leave_event index = Emit leave 1 0 (values.Struct (more (Context 0) (uint index) none))

-- the fabric goes, and all are told
abbrev pub leaving : ℕ → List NodeStep
leaving index = RemoveFabric index ∷ leave_event index ∷ []

-- The fail-safe expires first where commissioning goes on for the fabric. The fabric goes by that already where it was added
-- under it.
abbrev pub removal_steps : ℕ → Option Armed → List NodeStep
removal_steps index armed =
    if is_context index armed then Expire ∷ (if was_added index armed then [] else leaving index)
    else leaving index

abbrev pub removed : Known → Place → ℕ → Effect
removed known command index =
    if is_used index known.fabrics then noc_done command index (removal_steps index known.armed)
    else noc_refused command InvalidFabricIndex

abbrev pub remove_effect : Known → Place → Value → Effect
remove_effect known command fields = removed known command (index_in fields)
