-- The whole as it is written: the node, the deadlines of plain actors, the events and subscriptions, and what is said over each session of
-- this boot.
use Rattle.std.specs.Prelude.{ℕ, ◌==◌, Bool, List, [], ◌∷◌, Option, filter, is_some, map, unwrap_or, if◌then◌else◌}
use Rattle.std.specs.List.{find, list_any}
use Rattle.std.specs.Option.{option_and_then, option_map}
use Rattle.mt_model.specs.declared.node.state.NodeState.{NodeState}
use Rattle.mt_model.specs.declared.tables.access.AclEntry.{AclEntry}
use Rattle.mt_model.specs.declared.tables.access.Actor.{Actor}
use Rattle.mt_model.specs.declared.tables.fabric.Fabric.{Fabric}
use Rattle.mt_model.specs.declared.texts.config.Config.{Config}
use Rattle.mt_model.specs.declared.texts.config.SessionRow.{SessionRow}
use Rattle.mt_talk.specs.Talks.{Talk, after_drop, begun_talk}
use Rattle.mt_ledger.specs.Ledger as ledgers
use Rattle.mt_ledger.specs.Ledger.{Ledger}
use Rattle.mt_machine.specs.Opened as machine
use Rattle.mt_machine.specs.State.{State}
use Rattle.mt_machine.specs.Step.{closed_between, session_actor}

-- A session's row, which has its id and its keys, and all that was said over it.
pub record SessionTalk : Type 0 where
  pub row : SessionRow
  pub talk : Talk

pub record Whole : Type 0 where
  pub state : State
  pub ledger : Ledger
  pub talks : List SessionTalk

-- nothing has been said
abbrev pub begun : SessionRow → SessionTalk
begun row = record { row = row; talk = begun_talk }

abbrev pub is_of_boot : ℕ → SessionRow → Bool
is_of_boot boot row = row.boot == boot

-- nor over any session of a boot
abbrev pub begun_in : ℕ → List SessionRow → List SessionTalk
begun_in boot rows = map begun (filter (is_of_boot boot) rows)

-- A boot, where this ceiling of event numbers was stored, with these fabrics, access control entries and sessions.
abbrev pub whole_with : ℕ → ℕ → List Fabric → List AclEntry → List SessionRow → Whole
whole_with boot ceiling fabrics entries sessions = record {
  state = machine.whole_with boot fabrics entries sessions;
  ledger = ledgers.opened_at ceiling;
  talks = begun_in boot sessions;
}

-- the first boot of a node with this configuration
abbrev pub opened : Config → Whole
opened config = whole_with 1 0 config.fabrics config.entries config.sessions

-- Sessions that are live.

-- the fabric for which the session of this id is live, 0 for PASE without one
abbrev pub fabric_live : NodeState → ℕ → Option ℕ
fabric_live s id = option_map (λ (actor : Actor). actor.fabric) (session_actor s id)

abbrev pub is_live : NodeState → ℕ → Bool
is_live s id = is_some (session_actor s id)

-- and 0 where it is not live
abbrev pub fabric_over : NodeState → ℕ → ℕ
fabric_over s id = unwrap_or (fabric_live s id) 0

-- Talks.

abbrev pub is_talk_of : ℕ → SessionTalk → Bool
is_talk_of id t = t.row.session == id

-- the talk of the session of this id, where there is one
abbrev pub talk_of : Option ℕ → List SessionTalk → Option SessionTalk
talk_of named talks = option_and_then (λ (id : ℕ). find (is_talk_of id) talks) named

-- that session's talk is this from now on
abbrev pub with_talk : ℕ → Talk → List SessionTalk → List SessionTalk
with_talk id talk [] = []
with_talk id talk (t ∷ talks) = if is_talk_of id t then record t { talk = talk } ∷ talks else t ∷ with_talk id talk talks

-- A session that ends lets go of all its exchanges.

abbrev pub has_closed : NodeState → NodeState → ℕ → Bool
has_closed before now id = list_any (λ (other : ℕ). other == id) (closed_between before.sessions now.sessions)

-- where it is among those that have ended
abbrev pub without_ended : List ℕ → SessionTalk → SessionTalk
without_ended closed t = if list_any (λ (other : ℕ). other == t.row.session) closed then record t { talk = after_drop t.talk } else t

abbrev pub let_go : NodeState → NodeState → SessionTalk → SessionTalk
let_go before now t = without_ended (closed_between before.sessions now.sessions) t
