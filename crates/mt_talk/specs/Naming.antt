-- Which session a datagram names in its message header.
use Rattle.std.specs.Prelude.{ℕ, List, Option, Some, None, Result, Ok, Err, length, nat_le, if◌then◌else◌}
use Rattle.mt_frame.specs.Reading.{message_at}
use Rattle.mt_frame.specs.declared.fault.FrameFault.{FrameFault}
use Rattle.mt_frame.specs.declared.header.MessageHeader.{MessageHeader}

abbrev pub session_in : Result (MessageHeader × ℕ) FrameFault → Option ℕ
session_in (Ok x) = Some x.0.session
session_in (Err fault) = None

-- What has more than 65,535 bytes is no datagram, and names none.
abbrev pub session_named : List ℕ → Option ℕ
session_named bytes = if nat_le (length bytes) 65535 then session_in (message_at bytes) else None
