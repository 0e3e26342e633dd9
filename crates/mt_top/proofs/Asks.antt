-- How a run ends whose words ask for a journal, or for none.
use Rattle.std.proofs.Common.{◌≡◌, ℕ, List, [], Option, Some, None, Ok, refl, sym, subst}
use Rattle.std.specs.Option.{option_map}
use Rattle.mt_config.specs.Configuration.{configuration}
use Rattle.mt_model.specs.declared.limits.TheConstants.{CONFIGURATION_BYTES}
use Rattle.mt_model.specs.texts.Contents.{Contents}
use Rattle.mt_words.specs.declared.asked.Asked.{Asked}
use Rattle.mt_words.specs.declared.asked.Asked.TheVariants.{Ask, Compare, Replay, Settle, Show, Soak}
use Rattle.mt_endings.specs.Endings.{Ending, Recordings, of_files}
use Rattle.mt_endings.specs.Laws.{EndingLaws}
use Rattle.mt_endings.specs.Moments.{HasRead, Input, Moment, in_hand, moment}
use Rattle.mt_endings.specs.OnDisk.{DiskEndingLaws, EndsAs, EndsInHand, EndsOnDisk}
use Rattle.mt_endings.specs.Run.{Ends}
use Rattle.mt_top.specs.Asked.{CarriesOut, asks_for, comes_to, settles}

module _ (laws : EndingLaws) (disk_laws : DiskEndingLaws) where
  -- the disk was not looked at
  pub untouched : (wanted : Asked) (status : ℕ) (disk : Input) (old new : Moment) → ((comes_to : Contents → Recordings → Ending) → Ends status (Some (of_files comes_to)) old new)
      → EndsAs status (Some (asks_for wanted)) disk disk old new
  untouched Replay status disk old new h = (h (comes_to Replay []), refl)
  untouched (Compare fabric) status disk old new h = (h (comes_to (Compare fabric) []), refl)
  untouched (Soak begin count) status disk old new h = (h (comes_to (Soak begin count) []), refl)
  untouched Settle status disk old new h = disk_laws.untouched (λ journal. of_files (settles journal)) status disk old new (λ journal. h (settles journal))
  untouched (Ask session) status disk old new h = (h (comes_to (Ask session) []), refl)
  untouched (Show session) status disk old new h = (h (comes_to (Show session) []), refl)

  -- there was no memory before anything was read
  pub no_memory : (found : Option Asked) (disk : Input) (old new : Moment) → ((asked : Option (List ℕ → Recordings → Ending)) → Ends 7 asked old new) → EndsAs 7 (option_map asks_for found) disk disk old new
  no_memory None disk old new h = (h None, refl)
  no_memory (Some wanted) disk old new h = untouched wanted 7 disk old new (λ comes_to. h (Some (of_files comes_to)))

  -- With a configuration that was read.
  module _ (contents : Contents) (bytes : List ℕ) (old now : Input) (is : configuration bytes ≡ Ok contents) (read : HasRead CONFIGURATION_BYTES old now bytes) (calm : now.faults ≡ old.faults)
      (status : ℕ) (disk_old disk_new first_old first_new second_old second_new : Input) (before after : Option (List ℕ)) (old_faults new_faults : ℕ) where
    -- the same recordings are left
    same_left : (first second : Input) → first ≡ first_old → second ≡ second_old
        → EndsInHand status (λ journal. settles journal contents) disk_old disk_new (moment in_hand first_old second_old before old_faults) (moment in_hand first second after new_faults)
        → EndsOnDisk status (λ journal. of_files (settles journal)) disk_old disk_new (moment old first_old second_old before old_faults) (moment now first second after new_faults)
    same_left first second first_is second_is ends =
        subst (λ (f : Input). EndsOnDisk status (λ journal. of_files (settles journal)) disk_old disk_new (moment old first_old second_old before old_faults) (moment now f second after new_faults)) (sym first_is)
        (subst (λ (s : Input). EndsOnDisk status (λ journal. of_files (settles journal)) disk_old disk_new (moment old first_old second_old before old_faults) (moment now first_old s after new_faults)) (sym second_is)
        (disk_laws.configured settles contents bytes old now first_old second_old disk_old disk_new before after old_faults new_faults status is read calm
        (subst (λ (s : Input). EndsInHand status (λ journal. settles journal contents) disk_old disk_new (moment in_hand first_old second_old before old_faults) (moment in_hand first_old s after new_faults)) second_is
        (subst (λ (f : Input). EndsInHand status (λ journal. settles journal contents) disk_old disk_new (moment in_hand first_old second_old before old_faults) (moment in_hand f second after new_faults)) first_is ends))))

    pub carried_out : (wanted : Asked)
        → CarriesOut status wanted contents disk_old disk_new (moment in_hand first_old second_old before old_faults) (moment in_hand first_new second_new after new_faults)
        → EndsAs status (Some (asks_for wanted)) disk_old disk_new (moment old first_old second_old before old_faults) (moment now first_new second_new after new_faults)
    carried_out Replay carried =
        (laws.configured (comes_to Replay []) contents bytes old now first_old first_new second_old second_new before after old_faults new_faults status is read calm carried.0, carried.1)
    carried_out (Compare fabric) carried =
        (laws.configured (comes_to (Compare fabric) []) contents bytes old now first_old first_new second_old second_new before after old_faults new_faults status is read calm carried.0, carried.1)
    carried_out (Soak begin count) carried =
        (laws.configured (comes_to (Soak begin count) []) contents bytes old now first_old first_new second_old second_new before after old_faults new_faults status is read calm carried.0, carried.1)
    carried_out Settle carried = same_left first_new second_new carried.1 carried.2 carried.0
    carried_out (Ask session) carried =
        (laws.configured (comes_to (Ask session) []) contents bytes old now first_old first_new second_old second_new before after old_faults new_faults status is read calm carried.0, carried.1)
    carried_out (Show session) carried =
        (laws.configured (comes_to (Show session) []) contents bytes old now first_old first_new second_old second_new before after old_faults new_faults status is read calm carried.0, carried.1)
