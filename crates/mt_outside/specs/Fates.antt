-- What becomes of a disk that stops, as a word.
use Rattle.std.specs.Prelude.{ℕ, List, codes}
use Rattle.mt_outside.specs.declared.fate.Fate.{Fate}
use Rattle.mt_outside.specs.declared.fate.Fate.TheVariants.{Kept, Lost, Torn}

abbrev pub fate_text : Fate → List ℕ
fate_text Kept = codes "kept"
fate_text Lost = codes "lost"
fate_text Torn = codes "torn"
