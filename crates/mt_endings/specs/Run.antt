-- What a run of the program does, at each exit status.
use Rattle.std.specs.Prelude.{ℕ, ◌≡◌, true, List, Option, None, IsSomeAnd}
use Rattle.mt_outside.specs.Stream.{Took}
use Rattle.mt_endings.specs.declared.fault.Fault.TheVariants.{BadWords, ReadFault}
use Rattle.mt_endings.specs.Faults.{fault_line}
use Rattle.mt_endings.specs.Endings.{Ending, Recordings}
use Rattle.mt_endings.specs.Moments.{Moment, HasSinkFailed, IsSinkCalm}
use Rattle.mt_endings.specs.Statuses.{Told, HadNoMemory, SourceFailed, ReadsNothing, CouldNotWrite, is_told, is_status}

-- What holds as a run ends with a status, from `old` to `new`. `asked` is what the words ask for, None
-- where they have no form.
pub record Ends (status : ℕ) (asked : Option (List ℕ → Recordings → Ending)) (old new : Moment) : Type 0 where
  pub known : is_status status ≡ true
  pub told : is_told status ≡ true → IsSomeAnd asked (λ ending. Told status ending old new)
  pub bad_words : status ≡ 2 → (asked ≡ None) × ReadsNothing old new × IsSinkCalm old new × Took old.written new.written (fault_line BadWords)
  pub read_fault : status ≡ 5 → IsSomeAnd asked (λ ending. SourceFailed ending old new) × IsSinkCalm old new × Took old.written new.written (fault_line ReadFault)
  pub write_fault : status ≡ 6 → HasSinkFailed old new × CouldNotWrite asked old new
  pub memory : status ≡ 7 → HadNoMemory asked old new
