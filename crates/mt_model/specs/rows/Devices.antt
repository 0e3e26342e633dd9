-- The device types of the node's endpoints.
use Rattle.std.specs.Prelude.{ℕ, Option, Some, None, ◌==◌, if◌then◌else◌}

-- a root node on endpoint 0, this project's bench device on endpoint 1
abbrev pub device_of : ℕ → Option ℕ
device_of endpoint = if endpoint == 0 then Some 0x16 else if endpoint == 1 then Some 0xfff10001 else None
