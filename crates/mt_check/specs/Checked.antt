-- What a check of a configuration answers: the verdict of mt_config.
use Rattle.std.specs.Prelude.{◌≡◌, ℕ, ◌++◌, List, [], ◌∷◌, codes, Err}
use Rattle.mt_config.specs.Configuration.{IsConfiguration, configuration, name_of}
use Rattle.mt_check.specs.declared.checking.Verdict.{Verdict}
use Rattle.mt_check.specs.declared.checking.Verdict.TheVariants.{Good, Bad}

-- the bytes are a text of the configuration, or this is the first of their fields that is not as it must be
abbrev pub IsVerdict : List ℕ → Verdict → Type 0
IsVerdict bytes (Good config) = IsConfiguration bytes config
IsVerdict bytes (Bad field fault) = configuration bytes ≡ Err field

-- the line with which an explanation begins
abbrev pub first_line : Verdict → List ℕ
first_line (Good config) = codes "good\n"
first_line (Bad field fault) = codes "bad: " ++ name_of field ++ 10 ∷ []
