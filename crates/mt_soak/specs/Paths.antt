-- Where the status codes of a message stand, by its opcode (Matter Core Specification, chapter 10,
-- Interaction Model Encoding).
use Rattle.std.specs.Prelude.{ℕ, ◌==◌, List, [], ◌∷◌, Option, Some, None, if◌then◌else◌}
use Rattle.mt_soak.specs.declared.codes.paths.Step.{Step}
use Rattle.mt_soak.specs.declared.codes.paths.Step.TheVariants.{Field, Either, Member}

-- AttributeStatus, EventStatus and CommandStatus: 1 Status, with 0 the code
abbrev pub in_status : List Step
in_status = Field 1 ∷ Field 0 ∷ []

-- AttributeReport and EventReport: 0 AttributeStatus or EventStatus
abbrev pub in_report : List Step
in_report = Field 0 ∷ in_status

-- StatusResponse: 0 status
abbrev pub status_response : List Step
status_response = Field 0 ∷ []

-- ReportData: 1 AttributeReports and 2 EventReports
abbrev pub report_data : List Step
report_data = Either 1 2 ∷ Member ∷ in_report

-- WriteResponse: 0 AttributeStatuses
abbrev pub write_response : List Step
write_response = Field 0 ∷ Member ∷ in_status

-- InvokeResponse: 1 responses, each with 0 CommandData or 1 CommandStatus
abbrev pub invoke_response : List Step
invoke_response = Field 1 ∷ Member ∷ Field 1 ∷ in_status

-- the steps to the status codes of a message of this opcode
abbrev pub path_of : ℕ → Option (List Step)
path_of opcode =
    if opcode == 0x01 then Some status_response
    else if opcode == 0x05 then Some report_data
    else if opcode == 0x07 then Some write_response
    else if opcode == 0x09 then Some invoke_response
    else None
