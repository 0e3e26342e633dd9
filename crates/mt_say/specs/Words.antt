-- What a text of words promises that was taken.
use Rattle.std.specs.Prelude.{◌≡◌, ℕ, All, List, Ok, length, map}
use Rattle.std.specs.List.{filter_map}
use Rattle.mt_files.specs.Lines.{lines_of}
use Rattle.mt_files.specs.Recording.{recording_of}
use Rattle.mt_ctl.specs.Script.{script_of}
use Rattle.mt_say.specs.Places.{StandsIn}
use Rattle.mt_say.specs.Saying.{IsHeard, event_of}
use Rattle.mt_say.specs.Scripts.{step_of}
use Rattle.mt_say.specs.declared.saying.Saying.{Saying}

-- The text is a recording of what lines of the words say, and each request among that is decoded to itself.
pub record IsSaid (words text : List ℕ) : Type 0 where
  pub sayings : List Saying
  pub lines : All (λ saying. StandsIn saying.line (length (lines_of words))) sayings
  pub heard : All IsHeard sayings
  pub recorded : recording_of text ≡ Ok (map event_of sayings)

-- The text is a script of the requests that lines of the words say, each of which is decoded to itself.
pub record IsScripted (words text : List ℕ) : Type 0 where
  pub sayings : List Saying
  pub lines : All (λ saying. StandsIn saying.line (length (lines_of words))) sayings
  pub heard : All IsHeard sayings
  pub scripted : script_of text ≡ Ok (filter_map step_of (map event_of sayings))
