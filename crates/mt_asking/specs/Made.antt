-- What is made of a text before it is written.
use Rattle.std.specs.Prelude.{◌≡◌, ℕ, List, None, ⊤}
use Rattle.mt_files.specs.Lines.{text_of}
use Rattle.mt_model.specs.declared.texts.config.SessionRow.{SessionRow}
use Rattle.mt_endings.specs.Endings.{Played, nothing_but}
use Rattle.mt_endings.specs.declared.fault.Fault.{Fault}
use Rattle.mt_endings.specs.declared.fault.Fault.TheVariants.{BadRecord, Exhausted, Memory, TooLong}
use Rattle.mt_asking.specs.Asked.{asked_on, shown_on}
use Rattle.mt_asking.specs.declared.telling.Word.{Word}
use Rattle.mt_asking.specs.declared.telling.Word.TheVariants.{Ask, Show}

-- what a word makes of a text, on the session of a row
abbrev pub told : Word → SessionRow → List ℕ → Played
told Ask = asked_on
told Show = shown_on

-- these bytes are all that is to be written, and there is no fault
abbrev pub IsMade : List ℕ → Played → Type 0
IsMade bytes all = (all.fault ≡ None) × (bytes ≡ text_of all.lines)

-- why there are none: the text comes to a fault alone, or there was no memory
abbrev pub StopsMaking : Fault → Played → Type 0
StopsMaking Memory all = ⊤
StopsMaking (BadRecord line kind) all = all ≡ nothing_but (BadRecord line kind)
StopsMaking TooLong all = all ≡ nothing_but TooLong
StopsMaking (Exhausted line) all = all ≡ nothing_but (Exhausted line)
StopsMaking fault all = ⊥
