-- The responses of the cluster.
use Rattle.std.specs.Prelude.{ℕ, List, []}
use Rattle.mt_tlv.specs.Tree.{uint, octets, none, more}
use Rattle.mt_tlv.specs.declared.value.Tag.TheVariants.{Context}
use Rattle.mt_tlv.specs.declared.value.Value.{Value}
use Rattle.mt_tlv.specs.declared.value.Value.TheVariants as values
use Rattle.mt_model.specs.declared.messages.message.Reply.TheVariants as replies
use Rattle.mt_model.specs.declared.node.action.Effect.{Effect}
use Rattle.mt_model.specs.declared.node.action.NodeStep.{NodeStep}
use Rattle.mt_model.specs.declared.rows.place.Place.{Place}
use Rattle.mt_opcreds.specs.declared.fault.CertificateFault.{CertificateFault}
use Rattle.mt_opcreds.specs.declared.fault.CertificateFault.TheVariants as faults

-- NodeOperationalCertStatusEnum
abbrev pub code_of : CertificateFault → ℕ
code_of faults.InvalidPublicKey = 1
code_of faults.InvalidNodeOpId = 2
code_of faults.InvalidNoc = 3
code_of faults.MissingCsr = 4
code_of faults.TableFull = 5
code_of faults.InvalidAdminSubject = 6
code_of faults.FabricConflict = 9
code_of faults.LabelConflict = 10
code_of faults.InvalidFabricIndex = 11

-- a response of this number to a command, with these fields
abbrev pub responded : Place → ℕ → Value → List NodeStep → Effect
responded command response fields steps = record { reply = replies.Invoked (record command { leaf = response }) fields; steps = steps }

-- NOCResponse: 0 status; 1 the index of the fabric, where the status is OK

abbrev pub noc_refused : Place → CertificateFault → Effect
noc_refused command fault = responded command 8 (values.Struct (more (Context 0) (uint (code_of fault)) none)) []

abbrev pub noc_done : Place → ℕ → List NodeStep → Effect
noc_done command index steps = responded command 8 (values.Struct (more (Context 0) (uint 0) (more (Context 1) (uint index) none))) steps

-- CSRResponse: 0 elements, 1 signature
abbrev pub csr_done : Place → List ℕ → List ℕ → List NodeStep → Effect
csr_done command elements signature steps = responded command 5 (values.Struct (more (Context 0) (octets elements) (more (Context 1) (octets signature) none))) steps
