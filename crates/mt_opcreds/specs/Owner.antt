-- Who commissions: the fabric that armed the fail-safe, as long as it added and updated none.
use Rattle.std.specs.Prelude.{ℕ, ◌==◌, not, Option, Some, None, Result, Ok, Err, if◌then◌else◌}
use Rattle.mt_failsafe.specs.Notes.{is_unused}
use Rattle.mt_model.specs.declared.messages.status.Status.{Status}
use Rattle.mt_model.specs.declared.messages.status.Status.TheVariants.{ConstraintError, FailsafeRequired}
use Rattle.mt_model.specs.declared.tables.network.Armed.{Armed}

-- the fail-safe, where this fabric may note something in it, 0 for whoever commissions over PASE; otherwise what refuses it
abbrev pub owned_by : ℕ → Option Armed → Result Armed Status
owned_by fabric None = Err FailsafeRequired
owned_by fabric (Some armed) =
    if not (armed.owner == fabric) then Err FailsafeRequired
    else if not (is_unused armed) then Err ConstraintError  -- after AddNOC or UpdateNOC
    else Ok armed
