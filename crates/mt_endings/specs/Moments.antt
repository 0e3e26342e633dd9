-- What the sources and the sink hold at a moment, and what reading a source to its end means.
use Rattle.std.specs.Prelude.{ℕ, ◌≡◌, ◌<◌, ◌≤◌, Bool, true, false, List, [], length, Option, Some, None, ⊤}
use Rattle.mt_outside.specs.Stream.{ReadToEnd, RoseByOne}
use Rattle.mt_model.specs.declared.limits.TheConstants.{CONFIGURATION_BYTES, RECORDING_BYTES}
use Rattle.mt_endings.specs.Endings.{Ending, Recordings}

-- A source at a moment: what is left, where it tells that, and how often it has failed.
pub record Input : Type 0 where
  pub left : Option (List ℕ)
  pub faults : ℕ

-- no file is read where the configuration is in hand
abbrev pub in_hand : Input
in_hand = record { left = Some []; faults = 0 }

-- The sources and the sink at a moment.
pub record Moment : Type 0 where
  pub config : Input
  pub first : Input
  pub second : Input
  pub written : Option (List ℕ)
  pub write_faults : ℕ

abbrev pub moment : Input → Input → Input → Option (List ℕ) → ℕ → Moment
moment config first second written write_faults = record { config = config; first = first; second = second; written = written; write_faults = write_faults }

-- no call of a source has failed
pub record AreSourcesCalm (old new : Moment) : Type 0 where
  pub config : new.config.faults ≡ old.config.faults
  pub first : new.first.faults ≡ old.first.faults
  pub second : new.second.faults ≡ old.second.faults

-- no call of the sink has failed
abbrev pub IsSinkCalm : Moment → Moment → Type 0
IsSinkCalm old new = new.write_faults ≡ old.write_faults

-- no call of any of them has
pub record AreCalm (old new : Moment) : Type 0 where
  pub sources : AreSourcesCalm old new
  pub sink : IsSinkCalm old new

-- one call of the sink has failed
abbrev pub HasSinkFailed : Moment → Moment → Type 0
HasSinkFailed old new = RoseByOne old.write_faults new.write_faults

abbrev pub input : Option (List ℕ) → ℕ → Input
input left faults = record { left = left; faults = faults }

-- the bytes are what a source has left, where it tells that
abbrev pub IsLeft : Option (List ℕ) → List ℕ → Type 0
IsLeft None bytes = ⊤
IsLeft (Some left) bytes = left ≡ bytes

-- These are a source's bytes: it was read to its end, or as far as showed that they are more than may be.
pub data HasRead (most : ℕ) (old new : Input) (bytes : List ℕ) : Type 0 where
  to_end : ReadToEnd old.left new.left bytes → length bytes ≤ most → HasRead most old new bytes
  too_many : IsLeft old.left bytes → most < length bytes → HasRead most old new bytes

-- a recording is read, or it is not touched
abbrev pub HasReadIf : Bool → Input → Input → List ℕ → Type 0
HasReadIf true old new recording = HasRead RECORDING_BYTES old new recording
HasReadIf false old new recording = (new ≡ old) × IsLeft old.left recording

-- The files were read: of the recordings those that the ending reads.
pub record Reads (ending : List ℕ → Recordings → Ending) (old new : Moment) (config : List ℕ) (recordings : Recordings) : Type 0 where
  pub config_read : HasRead CONFIGURATION_BYTES old.config new.config config
  pub first_read : HasReadIf (ending config recordings).reads_first old.first new.first recordings.first
  pub second_read : HasReadIf (ending config recordings).reads_second old.second new.second recordings.second
