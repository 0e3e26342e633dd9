-- Where the fault of a text stands.
use Rattle.std.specs.Prelude.{◌≡◌, ◌≤◌, ℕ, ⊤}
use Rattle.mt_say.specs.declared.fault.SayFault.{SayFault}
use Rattle.mt_say.specs.declared.fault.SayFault.TheVariants.{Memory, TooLong, Wrong}

-- the line of this number stands in a text of so many lines
abbrev pub StandsIn : ℕ → ℕ → Type 0
StandsIn line lines = (1 ≤ line) × (line ≤ lines)

-- a fault that names a line names one of a text of so many lines
abbrev pub IsPlaced : SayFault → ℕ → Type 0
IsPlaced (Wrong line column wanted) lines = StandsIn line lines
IsPlaced TooLong lines = ⊤
IsPlaced Memory lines = ⊤

-- a fault that names a line names this one
abbrev pub IsAt : ℕ → SayFault → Type 0
IsAt number (Wrong line column wanted) = line ≡ number
IsAt number TooLong = ⊤
IsAt number Memory = ⊤
