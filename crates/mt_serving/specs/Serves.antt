-- What serving comes to, from the disk to the record.
use Rattle.std.specs.Prelude.{◌≡◌, ◌≤◌, ◌⊎◌, ℕ, ◌*◌, true, List, Ok, Option, Some, None, All, Contains, length, map, slice_get, ⊤}
use mathlib.Core.List.{IsPrefix}
use Rattle.mt_files.specs.Form.{HasForm, IsEvent}
use Rattle.mt_files.specs.Recording.{recording_of}
use Rattle.mt_model.specs.declared.texts.config.Config.{Config}
use Rattle.mt_model.specs.texts.Contents.{Contents, contents_of}
use Rattle.mt_outside.specs.Network.{AreInOrder}
use Rattle.mt_outside.specs.Stream.{Took, one_more}
use Rattle.mt_outside.specs.declared.network.Arrival.{Arrival}
use Rattle.mt_outside.specs.declared.network.Parcel.{Parcel}
use Rattle.mt_crew.specs.mt_interactions.Configured.{ConfiguredInteractions}
use Rattle.mt_crew.specs.mt_receiver.Receives.{Came, IsSpent}
use Rattle.mt_crew.specs.mt_receiver.Rounds.{datagram_count}
use Rattle.mt_crew.specs.mt_served.Crews.{Service, lent_of, returned_of}
use Rattle.mt_crew.specs.mt_served.Laws.{IsServed as IsServedBy}
use Rattle.mt_crew.specs.mt_served.Served.{FollowsAnswers, run_to}
use Rattle.mt_crew.specs.mt_worker.Done.{Done}
use Rattle.mt_crew.specs.mt_worker.Giving.{Gave}
use Rattle.mt_starting.specs.mt_shared.Book.{is_full, is_timed, lines_in, stop_in}
use Rattle.mt_starting.specs.mt_shared.Call.{Call}
use Rattle.mt_starting.specs.mt_shared.Entry.{Entry}
use Rattle.mt_starting.specs.mt_shared.Replay.{behind_deed, map_of, replay}
use Rattle.mt_starting.specs.mt_shared.Stop.{Stop}
use Rattle.mt_starting.specs.mt_keeping.Recovered.{RecoversFrom}
use Rattle.mt_starting.specs.Crashes.{AlwaysTells, IsBetween}
use Rattle.mt_starting.specs.Starts.{HasFailedFor, IsStartCause, IsStartedOn, MayServe}
use Rattle.mt_starting.specs.declared.starting.StartFault.{StartFault}
use Rattle.mt_serving.specs.Ending.{Finishes, TellsEnd, TellsNoMemory, fault_of_start}
use Rattle.mt_serving.specs.Record.{record_of}

-- a count of faults rose by one, up to its end
abbrev pub Rose : ℕ → ℕ → Type 0
Rose before now = now ≡ one_more before

-- THE NODE with which serving began: of this configuration, and one that may be served; where the disk tells what it had, started with exactly that.
pub record IsOrigin (config : Config) (told : Option (List ℕ)) (origin : ConfiguredInteractions) : Type 0 where
  pub config_is : origin.config ≡ contents_of config
  pub may : MayServe origin
  pub started : (file : List ℕ) → told ≡ Some file → IsStartedOn config file origin

module _ {I O : Type 0} (held : I → Option (List Arrival)) (clock : I → ℕ) (given : O → Option (List Parcel)) where
  -- WHAT THE THREADS OF A STARTED NODE DID. They were lent these outlets, which came back as these, each of the worker of its number. The book that they left
  -- is a run of the written machine: each outlet was given the first of what that sends over the sessions of its worker. The times of the book are in
  -- the order of its lines, and its record is read as a recording of exactly these lines.
  pub record Serves (origin : ConfiguredInteractions) (lent returned : List O) (book : List Entry) : Type 0 where
    pub services : List (Service O)
    pub clerk : Done ⊤
    pub lent_are : map lent_of services ≡ lent
    pub returned_are : map returned_of services ≡ returned
    pub timed : is_timed 0 book ≡ true
    pub run : IsServedBy given origin book services clerk
    pub read : recording_of (record_of book) ≡ Ok (lines_in book)

  -- AND WHERE NONE OF THEM MET A FAULT: each outlet was given all of that; what came are the first answers of the intake, up to that with the last datagram
  -- that was to be taken, or to its end; and the lines of the book follow these answers, with at most 258 for each.
  pub record ServesAll (origin : ConfiguredInteractions) (limit : ℕ) (lent returned : List O) (intake left : I) (book : List Entry) : Type 0 where
    pub serves : Serves origin lent returned book
    pub sent : All (λ (service : Service O). Gave (given service.lent) (given service.left.outlet) (run_to origin (length serves.services) service.number book)) serves.services
    pub arrivals : List Arrival
    pub came : Came (held intake) arrivals (held left)
    pub in_order : AreInOrder (clock intake) arrivals
    pub ended : (datagram_count arrivals ≡ limit) ⊎ IsSpent (held intake) (held left)
    pub follows : FollowsAnswers origin serves.run.accounts arrivals serves.run.gots
    pub few : length (lines_in book) ≤ 258 * length arrivals

  -- A NODE WAS SERVED, and what was written is the record of its book.
  pub record IsServed (config : Config) (told : Option (List ℕ)) (limit : ℕ) (lent returned : List O) (intake left : I) (before after : Option (List ℕ)) : Type 0 where
    pub origin : ConfiguredInteractions
    pub begun : IsOrigin config told origin
    pub book : List Entry
    pub serves : ServesAll origin limit lent returned intake left book
    pub written : Took before after (record_of book)

-- WHY THE THREADS STOPPED.

-- a commit failed: the book ends with the stop, in whose commit the disk's count of faults rose by one, to what it is now
pub record HasStopped (book : List Entry) (faults : ℕ) : Type 0 where
  pub stop : Stop
  pub stands : stop_in book ≡ Some stop
  pub rose : Rose stop.before stop.after
  pub now : faults ≡ stop.after

-- the record was full: a beginning of the book had no room for one call more, which was one that a line can tell
pub record WasFull (book : List Entry) : Type 0 where
  pub seen : List Entry
  pub call : Call
  pub begins : IsPrefix seen book
  pub form : HasForm call.event
  pub typed : IsEvent call.event
  pub full : is_full seen call ≡ true

module _ {I O : Type 0} (held : I → Option (List Arrival)) (missed : I → ℕ) (failed : O → ℕ) where
  -- the intake failed, or the outlet of a worker
  abbrev pub LinkRose : List (Service O) → I → I → Type 0
  LinkRose services intake left = Rose (missed intake) (missed left) ⊎ ((service : Service O) × Contains services service × Rose (failed service.lent) (failed service.left.outlet))

  -- THE CAUSES of the status with which the threads stopped: 0, 7, 8, 12 or 13; only 7 has none.
  -- Where nothing failed, and the intake tells that it held at most 4,000 answers, it is 0 or 7.
  pub record HaveCauses (services : List (Service O)) (intake left : I) (faults : ℕ) (book : List Entry) (stopped : ℕ) : Type 0 where
    pub one_of : (stopped ≡ 0) ⊎ (stopped ≡ 7) ⊎ (stopped ≡ 8) ⊎ (stopped ≡ 12) ⊎ (stopped ≡ 13)
    pub disk : stopped ≡ 8 → HasStopped book faults
    pub link : stopped ≡ 12 → LinkRose services intake left
    pub full : stopped ≡ 13 → WasFull book
    pub complete : (all : List Arrival) → held intake ≡ Some all → length all ≤ 4000 → stop_in book ≡ None → (LinkRose services intake left → ⊥) → (stopped ≡ 0) ⊎ (stopped ≡ 7)

-- WHAT A CRASH LEAVES OF THE DISK at the end, where each disk of its kind can tell its contents. Where no commit failed: of that is recovered what a node goes on
-- with behind the state in which the record ends. Where one failed: that, or what a node goes on with behind one line more, which is the call of that commit.
module _ {D : Type 0} (contents : D → Option (List ℕ)) (images : D → List ℕ → Type 0) where
  abbrev pub LeavesBehind : ConfiguredInteractions → D → Option Entry → Type 0
  LeavesBehind node disk None = ⊤
  LeavesBehind node disk (Some entry) = IsBetween images disk (map_of node) (map_of (behind_deed node entry.call.deed entry.ms))

  pub record KeepsTheEnd (origin : ConfiguredInteractions) (book : List Entry) (disk : D) : Type 0 where
    pub whole : AlwaysTells contents → stop_in book ≡ None → (config : Contents) (file : List ℕ) → images disk file → RecoversFrom config (map_of (replay origin book)) file
    pub stopped : (stop : Stop) → AlwaysTells contents → stop_in book ≡ Some stop → ∥ LeavesBehind (replay origin book) disk (slice_get book stop.place) ∥₁

module _ {I O D : Type 0} (held : I → Option (List Arrival)) (clock missed : I → ℕ) (given : O → Option (List Parcel)) (failed : O → ℕ) (contents : D → Option (List ℕ)) (images : D → List ℕ → Type 0) (faults : D → ℕ) where
  -- THE COURSE OF A STARTED NODE: there was no memory for its threads; or they did their work, and stopped with this status, for this cause, and their book was
  -- written with what is told of that.
  pub data Ran (origin : ConfiguredInteractions) (limit : ℕ) (lent returned : List O) (intake left : I) (disk : D) (status : ℕ) (before after : Option (List ℕ)) (old new : ℕ) : Type 0 where
    unready : returned ≡ lent → left ≡ intake → TellsNoMemory status before after old new → Ran origin limit lent returned intake left disk status before after old new
    ran : (book : List Entry) (stopped : ℕ) (serves : Serves held clock given origin lent returned book) → HaveCauses held missed failed serves.services intake left (faults disk) book stopped
        → (stopped ≡ 0 → ServesAll held clock given origin limit lent returned intake left book) → KeepsTheEnd contents images origin book disk
        → TellsEnd book stopped status before after old new → Ran origin limit lent returned intake left disk status before after old new

  -- THE COURSE OF SERVING on this disk, which came back as that: no node started, for this cause, which is exact where the disk tells what it had; or one did.
  pub data Course (config : Config) (limit : ℕ) (lent returned : List O) (intake left : I) (disk back : D) (status : ℕ) (before after : Option (List ℕ)) (old new : ℕ) : Type 0 where
    unstarted : (fault : StartFault) → ((file : List ℕ) → contents disk ≡ Some file → IsStartCause config file fault) → HasFailedFor fault (faults disk) (faults back) → returned ≡ lent → left ≡ intake
        → Finishes (fault_of_start fault) status before after old new → Course config limit lent returned intake left disk back status before after old new
    started : (origin : ConfiguredInteractions) → IsOrigin config (contents disk) origin → Ran origin limit lent returned intake left back status before after old new
        → Course config limit lent returned intake left disk back status before after old new
