-- What reading in code has to do with the readers: want of memory is a free answer.
use Rattle.std.specs.Prelude.{◌≡◌, Option, Some, None, Result, Ok, Err}
use Rattle.mt_config.specs.declared.configuration.ConfigFault.{ConfigFault}
use Rattle.mt_config.specs.declared.configuration.ConfigFault.TheVariants as faults
use Rattle.mt_config.specs.declared.configuration.ConfigField.{ConfigField}
use Rattle.mt_config.specs.declared.json.Unread.{Unread}
use Rattle.mt_config.specs.declared.json.Unread.TheVariants.{Misformed, Memory}

abbrev pub Fails : {Y : Type 0} → Unread → Option Y → Type 0
Fails Misformed read = read ≡ None
Fails Memory read = Unit {0}

-- What a function returned, seen by view, is what the reader gives, unless memory ran out.
abbrev pub Gives : {X Y : Type 0} → (X → Y) → Result X Unread → Option Y → Type 0
Gives view (Ok x) read = read ≡ Some (view x)
Gives view (Err e) read = Fails e read

-- the fault where a list was not read
abbrev pub fault_in : ConfigField → Unread → ConfigFault
fault_in place Misformed = faults.Field place
fault_in place Memory = faults.Memory

abbrev pub Refuses : {Y : Type 0} → ConfigField → ConfigFault → Option Y → Type 0
Refuses place (faults.Field told) read = (told ≡ place) × (read ≡ None)
Refuses place faults.Memory read = Unit {0}

-- The same for a function that names the list.
abbrev pub AnswersAs : {X Y : Type 0} → (X → Y) → ConfigField → Result X ConfigFault → Option Y → Type 0
AnswersAs view place (Ok x) read = read ≡ Some (view x)
AnswersAs view place (Err fault) read = Refuses place fault read

abbrev pub Answers : {X : Type 0} → ConfigField → Result X ConfigFault → Option X → Type 0
Answers place result read = AnswersAs (λ x. x) place result read
