-- That a line of a recording is what a worker makes of it and what the shared node answers.
use Rattle.std.specs.Prelude.{◌≡◌, ◌≢◌, ℕ, List, []}
use Rattle.mt_model.specs.declared.texts.config.SessionRow.{SessionRow}
use Rattle.mt_model.specs.declared.texts.recording.Event.{Event}
use Rattle.mt_model.specs.declared.texts.recording.Sent.{Sent}
use Rattle.mt_talk.specs.Talks.{Talk}
use Rattle.mt_shared.specs.mt_runs.Lines.{next, sent}
use Rattle.mt_shared.specs.mt_runs.Whole.{SessionTalk, Whole}
use Rattle.mt_shared.specs.mt_interactions.Configured.{ConfiguredInteractions}
use Rattle.mt_shared.specs.mt_interactions.Deed.{Deed}
use Rattle.mt_shared.specs.Replay.{behind_deed, given_in}
use Rattle.mt_layer.specs.Agreeing.{Serves}

-- the whole that a shared node is a part of, where this is said over its sessions
abbrev pub whole_of : ConfiguredInteractions → List SessionTalk → Whole
whole_of node talks = record { state = node.state; ledger = node.ledger; talks = talks }

abbrev pub next_with : ConfiguredInteractions → List SessionTalk → Event → Whole
next_with node talks event = next (given_in node) (whole_of node talks) event

-- The line makes of the node what the deed makes of it, and sends this. Behind it this talk serves the session of the row, and of any other
-- session the talk that served it.
pub record IsLine (node : ConfiguredInteractions) (talks : List SessionTalk) (event : Event) (deed : Deed) (ms : ℕ) (row : SessionRow) (says : List Sent) (u : Talk) : Type 0 where
  pub state : (next_with node talks event).state ≡ (behind_deed node deed ms).state
  pub ledger : (next_with node talks event).ledger ≡ (behind_deed node deed ms).ledger
  pub sent : sent (given_in node) (whole_of node talks) event ≡ says
  pub own : Serves (next_with node talks event) row u
  pub others : (other : SessionRow) (v : Talk) → other.session ≢ row.session → Serves (whole_of node talks) other v → Serves (next_with node talks event) other v

-- The line of nobody does so, and sends nothing. Behind it all talks serve that did.
pub record IsNobodysLine (node : ConfiguredInteractions) (talks : List SessionTalk) (event : Event) (deed : Deed) (ms : ℕ) : Type 0 where
  pub state : (next_with node talks event).state ≡ (behind_deed node deed ms).state
  pub ledger : (next_with node talks event).ledger ≡ (behind_deed node deed ms).ledger
  pub sent : sent (given_in node) (whole_of node talks) event ≡ []
  pub others : (other : SessionRow) (v : Talk) → Serves (whole_of node talks) other v → Serves (next_with node talks event) other v
