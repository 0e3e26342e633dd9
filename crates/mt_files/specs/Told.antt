-- What the lines of a text tell, one after the other, up to the first fault.
use Rattle.std.specs.Prelude.{ℕ, List, ◌∷◌, Result, Ok, Err}
use Rattle.mt_model.specs.declared.texts.line_fault.LineFault.{LineFault}
use Rattle.mt_model.specs.declared.texts.line_fault.LineFault.TheVariants.{Line}
use Rattle.mt_model.specs.declared.texts.line_fault.LineKind.{LineKind}

-- what the line of this number tells
abbrev pub at_line : {A : Type 0} → ℕ → Result A LineKind → Result A LineFault
at_line number (Err kind) = Err (Line number kind)
at_line number (Ok item) = Ok item

abbrev pub onto : {A : Type 0} → A → Result (List A) LineFault → Result (List A) LineFault
onto item (Ok items) = Ok (item ∷ items)
onto item (Err fault) = Err fault

-- what a line tells, and then the rest, which depends on it
abbrev pub followed : {A : Type 0} → Result A LineFault → (A → Result (List A) LineFault) → Result (List A) LineFault
followed (Err fault) rest = Err fault
followed (Ok item) rest = onto item (rest item)
