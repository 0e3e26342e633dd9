-- What a fabric sees of a whole, and what is its own of it.
use Rattle.std.specs.Prelude.{ℕ, ◌==◌, ◌&&◌, Bool, List, Option, Some, None, filter, map, if◌then◌else◌}
use Rattle.std.specs.List.{list_any}
use Rattle.mt_model.specs.declared.node.state.NodeSession.{NodeSession}
use Rattle.mt_model.specs.declared.texts.recording.Event.{Event}
use Rattle.mt_outside.specs.declared.network.Peer.{Peer}
use Rattle.mt_exchange.specs.declared.exchange.Exchange.{Exchange}
use Rattle.mt_subs.specs.Leaving.{is_live_as}
use Rattle.mt_interactions.specs.mt_machine.Isolation.{OwnOfWhole, own_of_whole}
use Rattle.mt_interactions.specs.mt_ledger.Isolation.{OwnLedger, own_ledger}
use Rattle.mt_interactions.specs.mt_runs.Isolation.{own_part, public_part}
use Rattle.mt_interactions.specs.mt_runs.Whole.{SessionTalk, Whole}
use Rattle.mt_interactions.specs.mt_runs.Marks.{Mark, is_seen, seen}
use Rattle.mt_whole.specs.declared.talks.SessionTalk as code
use Rattle.mt_whole.specs.declared.whole.Whole as whole

-- The mark of an event that the fabric sees: the event, with what is public to the fabric just before it.
abbrev pub mark_of : ℕ → Whole → Event → Option Mark
mark_of fabric w event = if is_seen fabric w event then Some (seen event (public_part fabric w)) else None

-- What stands over a session: from where its peer was last heard, its open exchanges, and the id that the node's next one tries first.
pub record Standing : Type 0 where
  pub session : ℕ
  pub latest : Option Peer
  pub open_ones : List Exchange
  pub next_id : ℕ

abbrev pub standing : SessionTalk → Standing
standing t = record { session = t.row.session; latest = t.talk.latest; open_ones = t.talk.open_ones; next_id = t.talk.next_id }

-- A fabric's own part, with what stands over its live sessions, and without what is shown of them.
pub record OwnStanding : Type 0 where
  pub whole : OwnOfWhole
  pub ledger : OwnLedger
  pub standings : List Standing

abbrev pub own_standing : ℕ → Whole → OwnStanding
own_standing fabric w = record { whole = own_of_whole fabric w.state; ledger = own_ledger fabric w.ledger; standings = map standing (own_part fabric w).talks }

-- The same, as the code has it.

abbrev pub standing_in : code.SessionTalk → Standing
standing_in talk = record { session = talk.id; latest = talk.talk.latest; open_ones = talk.talk.exchanges.table; next_id = talk.talk.exchanges.next_id }

-- whether the session of this id is live for the fabric
abbrev pub is_live_for : ℕ → List NodeSession → ℕ → Bool
is_live_for fabric sessions id = list_any (λ (session : NodeSession). is_live_as fabric session.standing && session.session == id) sessions

-- what stands over the sessions that are live for the fabric
abbrev pub standings_in : ℕ → List NodeSession → List code.SessionTalk → List Standing
standings_in fabric sessions talks = map standing_in (filter (λ (talk : code.SessionTalk). is_live_for fabric sessions talk.id) talks)

-- those of a whole
abbrev pub standings_of : ℕ → whole.Whole → List Standing
standings_of fabric one = standings_in fabric one.interactions.state.node.sessions one.talks.items
