-- What reading a change answers.
use Rattle.std.specs.Prelude.{◌≡◌, Option, Some, None, Result, Ok, Err, ⊤}
use Rattle.mt_durable.specs.declared.reading.ChangeFault.{ChangeFault}
use Rattle.mt_durable.specs.declared.reading.ChangeFault.TheVariants.{NotAChange, Memory}

-- What a function returned, seen by view, is what the bytes say, unless memory ran out.
abbrev pub Gives : {X Y : Type 0} → (X → Y) → Result X ChangeFault → Option Y → Type 0
Gives view (Ok x) said = said ≡ Some (view x)
Gives view (Err NotAChange) said = said ≡ None
Gives view (Err Memory) said = ⊤
