-- What serving comes to, by the words, the configuration and the disk.
use Rattle.std.specs.Prelude.{◌≡◌, ◌≢◌, ℕ, List, Option, Some, length}
use Rattle.mt_endings.specs.Moments.{Input}
use Rattle.mt_endings.specs.Parts.{Configured, Finishes, IsTold, StopsConfiguring}
use Rattle.mt_endings.specs.declared.fault.Fault.{Fault}
use Rattle.mt_endings.specs.declared.fault.Fault.TheVariants.{BadWords}
use Rattle.mt_model.specs.declared.texts.config.Config.{Config}
use Rattle.mt_outside.specs.declared.network.Arrival.{Arrival}
use Rattle.mt_outside.specs.declared.network.Parcel.{Parcel}
use Rattle.mt_serving.specs.Serves.{Course, IsServed}
use Rattle.mt_words.specs.Words.{serve_words}
use Rattle.mt_words.specs.declared.serve.ServeWords.{ServeWords}

-- A NODE WAS SERVED as the words ask, with the configuration that the source held, and its record was written.
pub record HasServed {I O : Type 0} (held : I → Option (List Arrival)) (clock : I → ℕ) (given : O → Option (List Parcel)) (words : List (List ℕ)) (old new : Input) (told : Option (List ℕ)) (lent returned : List O) (intake left : I)
    (before after : Option (List ℕ)) : Type 0 where
  pub found : ServeWords
  pub words_are : serve_words words ≡ Some found
  pub config : Config
  pub configured : Configured config old new
  pub served : IsServed held clock given config told found.asked.datagrams lent returned intake left before after

-- THE COURSE of what the words ask, at every status: there is another number of outlets than of workers; or the source held no configuration; or it held one,
-- and all that came then is told.
pub data HasCourse {I O D : Type 0} (held : I → Option (List Arrival)) (clock missed : I → ℕ) (given : O → Option (List Parcel)) (failed : O → ℕ) (contents : D → Option (List ℕ)) (images : D → List ℕ → Type 0) (disk_faults : D → ℕ) (found : ServeWords)
    (old new : Input) (lent returned : List O) (intake left : I) (disk back : D) (status : ℕ) (before after : Option (List ℕ)) (faults now : ℕ) : Type 0 where
  miscounted : length lent ≢ found.asked.workers → returned ≡ lent → left ≡ intake → back ≡ disk → IsTold BadWords status before after faults now
      → HasCourse held clock missed given failed contents images disk_faults found old new lent returned intake left disk back status before after faults now
  unread : (fault : Fault) → StopsConfiguring fault old new → returned ≡ lent → left ≡ intake → back ≡ disk → Finishes fault status before after faults now
      → HasCourse held clock missed given failed contents images disk_faults found old new lent returned intake left disk back status before after faults now
  read : (config : Config) → Configured config old new → Course held clock missed given failed contents images disk_faults config found.asked.datagrams lent returned intake left disk back status before after faults now
      → HasCourse held clock missed given failed contents images disk_faults found old new lent returned intake left disk back status before after faults now
