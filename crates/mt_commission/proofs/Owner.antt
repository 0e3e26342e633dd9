-- Who armed the fail-safe is known to all.
use Rattle.std.proofs.Common.{◌≡◌, ℕ, Option, Some, None, refl}
use Rattle.std.specs.Option.{option_map}
use Rattle.mt_failsafe.specs.Calls.{is_armed_by}
use Rattle.mt_model.specs.tables.Known.{bare_armed}
use Rattle.mt_model.specs.declared.tables.network.Armed.{Armed}

pub owner_known : (fabric : ℕ) (armed : Option Armed) → is_armed_by fabric (option_map bare_armed armed) ≡ is_armed_by fabric armed
owner_known fabric None = refl
owner_known fabric (Some armed) = refl
