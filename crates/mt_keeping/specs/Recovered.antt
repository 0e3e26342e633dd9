-- What is recovered of a journal: the map with which a node goes on.
use Rattle.std.specs.Prelude.{◌≡◌, ◌⊎◌, ℕ, Bool, ◌&&◌, List, Option, Result, Ok, Err}
use Rattle.std.specs.Option.{option_and_then}
use Rattle.mt_durable.specs.Reading.{is_image, said}
use Rattle.mt_durable.specs.declared.durable.Entry.{Entry}
use Rattle.mt_journal.specs.Layout.{MayFollow, journal_at}
use Rattle.mt_journal.specs.declared.position.Position.{Position}
use Rattle.mt_outside.specs.Logs.{DiskLog}
use Rattle.mt_outside.specs.declared.stop.Stop.{Stop}
use Rattle.mt_model.specs.texts.Contents.{Contents}
use Rattle.mt_grammar.specs.Grammar.{is_in_grammar}
use Rattle.mt_store.specs.Leading.{Keeps, StopHolds, follows, map_of}
use Rattle.mt_regained.specs.Reopened.{reopened_map}

-- The images and changes of a journal of states are those that lead to maps in the grammar of states.

abbrev pub is_state_image : List ℕ → Bool
is_state_image bytes = is_in_grammar (said bytes) && is_image bytes

abbrev pub may_follow : MayFollow
may_follow list bytes = follows is_in_grammar (map_of list) bytes

-- the list of a journal of states, or the place from which on the file is none
abbrev pub states_at : List ℕ → Result (List (List ℕ)) ℕ
states_at file = journal_at is_state_image may_follow file

-- the map with which a node goes on whose journal has this list
abbrev pub reopened : Contents → List (List ℕ) → Option (List Entry)
reopened contents list = option_and_then (reopened_map contents) (map_of list)

abbrev pub reopened_if : Contents → Result (List (List ℕ)) ℕ → Result (Option (List Entry)) ℕ
reopened_if contents (Ok list) = Ok (reopened contents list)
reopened_if contents (Err place) = Err place

-- The map that is recovered of a file: that to which its journal leads, rolled back; or the place from which on it is no journal.
abbrev pub recovered : Contents → List ℕ → Result (Option (List Entry)) ℕ
recovered contents file = reopened_if contents (states_at file)

-- of the file is recovered what a node goes on with whose journal leads to this map
abbrev pub RecoversFrom : Contents → List Entry → List ℕ → Type 0
RecoversFrom contents map file = recovered contents file ≡ Ok (reopened_map contents map)

abbrev pub RecoversEither : Contents → List Entry → List Entry → List ℕ → Type 0
RecoversEither contents one other file = RecoversFrom contents one file ⊎ RecoversFrom contents other file

-- a journal of states in use leads to this map, all of it safe
abbrev pub KeepsMap : {D : Type 0} → (D → Option (List ℕ)) → (D → List ℕ → Type 0) → D → Position → List Entry → Type 0
KeepsMap contents images disk place map = Keeps contents images is_state_image may_follow disk place map

-- what a disk leaves that has stopped in a commit of so many calls leads to one of these maps, as it stopped
abbrev pub StopHoldsMap : ℕ → List Entry → List Entry → Option Stop → Option Stop → Option DiskLog → Type 0
StopHoldsMap calls one other allowed now log = StopHolds is_state_image may_follow calls one other allowed now log
