-- At which call a disk in memory stops.
use Rattle.std.specs.Prelude.{◌-◌, ◌==◌, Bool, false, Option, Some, None, if◌then◌else◌}
use Rattle.mt_outside.specs.declared.fate.Fate.{Fate}
use Rattle.mt_outside.specs.declared.stop.Stop.{Stop}

-- it has stopped
abbrev pub has_stopped : Option Stop → Bool
has_stopped None = false
has_stopped (Some stop) = stop.calls == 0

-- it stops at the next write or sync
abbrev pub stops_next : Option Stop → Bool
stops_next None = false
stops_next (Some stop) = stop.calls == 1

-- a write or a sync further
abbrev pub one_fewer : Option Stop → Option Stop
one_fewer None = None
one_fewer (Some stop) = Some (record stop { calls = stop.calls - 1 })

-- what becomes of it, if it has stopped
abbrev pub fate_now : Option Stop → Option Fate
fate_now None = None
fate_now (Some stop) = if stop.calls == 0 then Some stop.fate else None
