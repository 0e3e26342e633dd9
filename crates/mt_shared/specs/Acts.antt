-- What a call makes of the book and of the keeper.
use Rattle.std.specs.Prelude.{◌≡◌, ◌+◌, ◌⊎◌, ℕ, Bool, true, false, List, [], ◌∷◌, ◌++◌, Option, Some, None, length, slice_get, ⊤}
use Rattle.mt_durable.specs.declared.durable.Entry as kept
use Rattle.mt_files.specs.Form.{IsEvent}
use Rattle.mt_grammar.specs.Grammar.{is_in_grammar}
use Rattle.mt_model.specs.declared.texts.config.CsrRow.{CsrRow}
use Rattle.mt_model.specs.declared.texts.config.JoinRow.{JoinRow}
use Rattle.mt_model.specs.declared.texts.config.RootRow.{RootRow}
use Rattle.mt_outside.specs.Stream.{one_more}
use Rattle.mt_interactions.specs.Configured.{ConfiguredInteractions, given_to}
use Rattle.mt_shared.specs.Book.{done, failed, is_full, lines_in, record_size, stop_in, time_for}
use Rattle.mt_shared.specs.Replay.{behind_deed, given_in, map_of, told}
use Rattle.mt_shared.specs.declared.entry.ActFault.{ActFault}
use Rattle.mt_shared.specs.declared.entry.ActFault.TheVariants.{Stopped, RecordFull, Memory}
use Rattle.mt_shared.specs.declared.entry.Call.{Call}
use Rattle.mt_shared.specs.declared.entry.Entry.{Entry}
use Rattle.mt_shared.specs.declared.entry.Stamped.{Stamped}
use Rattle.mt_shared.specs.declared.entry.Stop.{Stop}

-- verdicts with these rows are those of a node's configuration
abbrev pub HasVerdicts : ConfiguredInteractions → List RootRow → List CsrRow → List JoinRow → Type 0
HasVerdicts node roots csrs joins = given_to node roots csrs joins ≡ given_in node

-- A keeper admits each map that a state of a node may have.
abbrev pub AdmitsStates : (List kept.Entry → Bool) → Type 0
AdmitsStates admits = (map : List kept.Entry) → is_in_grammar map ≡ true → admits map ≡ true

-- The call stands in the book behind what was there, at the answered place and time, and what the replay answers there is the answer.
pub record IsEntered (origin : ConfiguredInteractions) (found book : List Entry) (call : Call) (stamped : Stamped) : Type 0 where
  pub grown : book ≡ found ++ done call stamped.ms ∷ []
  pub time : stamped.ms ≡ time_for found call
  pub place : stamped.place ≡ length found
  pub told_there : slice_get (told origin book) stamped.place ≡ Some (done call stamped.ms, stamped.answer)

-- WHY A CALL WAS REFUSED, with the book as it was found and as it is after it.

-- The book ends with this stop, which stood there or came with this call.
pub record IsStopped (stop : Stop) (call : Call) (found book : List Entry) : Type 0 where
  pub stands : stop_in book ≡ Some stop
  pub place : length book ≡ stop.place + 1
  pub rose : stop.after ≡ one_more stop.before
  pub grown : (book ≡ found) ⊎ (book ≡ found ++ failed call (time_for found call) stop ∷ [])

-- The book has no room for this call, which is one that a line can tell. It is as it was, and these are the numbers of its lines and bytes.
pub record IsFull (entries bytes : ℕ) (call : Call) (found book : List Entry) : Type 0 where
  pub full : is_full found call ≡ true
  pub typed : IsEvent call.event
  pub entries_are : entries ≡ length (lines_in book)
  pub bytes_are : bytes ≡ record_size book
  pub same : book ≡ found

-- Memory is wanting. The book is as it was, no commit has failed, and there was room.
pub record IsWanting (call : Call) (found book : List Entry) : Type 0 where
  pub runs : stop_in found ≡ None
  pub room : is_full found call ≡ false
  pub same : book ≡ found

abbrev pub Refuses : ActFault → Call → List Entry → List Entry → Type 0
Refuses (Stopped stop) call found book = IsStopped stop call found book
Refuses (RecordFull entries bytes) call found book = IsFull entries bytes call found book
Refuses Memory call found book = IsWanting call found book

-- What a keeper has behind a call that was refused: what it had; or, where the commit of this call failed, what it had or the map of the node as
-- it would be behind the call.

abbrev pub HasOneOf : ConfiguredInteractions → List Entry → Call → Option (List kept.Entry) → Option (List kept.Entry) → Type 0
HasOneOf node found call before now = (now ≡ before) ⊎ (now ≡ Some (map_of (behind_deed node call.deed (time_for found call))))

-- Behind a stop: it is the last entry, the count of the keeper's faults rose in its commit, and the keeper has the map of the node, or that of the
-- node as it would be behind the call.

abbrev pub HasEither : ConfiguredInteractions → Option Entry → Option (List kept.Entry) → Type 0
HasEither node last map = (map ≡ Some (map_of node)) ⊎ ((entry : Entry) × (last ≡ Some entry) × (map ≡ Some (map_of (behind_deed node entry.call.deed entry.ms))))

-- What is found of a keeper then is the one map or the other, as far as it can tell.
abbrev pub StandsBetween : (List kept.Entry → List kept.Entry → Type 0) → ConfiguredInteractions → Option Entry → Type 0
StandsBetween between node None = ⊤
StandsBetween between node (Some entry) = between (map_of node) (map_of (behind_deed node entry.call.deed entry.ms))

pub record IsHalted (stop : Stop) (node : ConfiguredInteractions) (book : List Entry) (map : Option (List kept.Entry)) : Type 0 where
  pub place : length book ≡ stop.place + 1
  pub rose : stop.after ≡ one_more stop.before
  pub either : ∥ HasEither node (slice_get book stop.place) map ∥₁
