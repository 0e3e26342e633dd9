-- What an expiry gives back, as the fail-safe hands it out.
use Rattle.std.specs.Prelude.{ℕ, ◌==◌, Option, Some, None, if◌then◌else◌}
use Rattle.mt_model.specs.declared.tables.fabric.Credentials.{Credentials}
use Rattle.mt_model.specs.declared.tables.fabric.Fabric.{Fabric}

-- the fabric of this index gets these credentials
abbrev pub given_by : Option (ℕ × Credentials) → Fabric → Fabric
given_by None fabric = fabric
given_by (Some given) fabric = if fabric.index == given.0 then record fabric { credentials = given.1 } else fabric
