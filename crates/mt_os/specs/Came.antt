-- What a call of a socket gave.
use Rattle.std.specs.Prelude.{◌≤◌, ℕ, ⊤}
use Rattle.mt_os.specs.declared.udp.Came.{Came}
use Rattle.mt_os.specs.declared.udp.Came.TheVariants.{Datagram, Nothing, Fault}

-- a datagram has no more bytes than there was room for
abbrev pub IsWithin : ℕ → Came → Type 0
IsWithin room (Datagram length from) = length ≤ room
IsWithin room Nothing = ⊤
IsWithin room Fault = ⊤
