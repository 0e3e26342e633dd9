-- The word for what is wrong with a line.
use Rattle.std.specs.Prelude.{ℕ, List, codes}
use Rattle.mt_model.specs.declared.texts.line_fault.LineKind.{LineKind}
use Rattle.mt_model.specs.declared.texts.line_fault.LineKind.TheVariants.{Head, Form, Number, Hex, Time}

abbrev pub kind_name : LineKind → List ℕ
kind_name Head = codes "head"
kind_name Form = codes "form"
kind_name Number = codes "number"
kind_name Hex = codes "hex"
kind_name Time = codes "time"
