-- How the talk that a worker keeps of a session stands to what is said over it in the whole.
use Rattle.std.specs.Prelude.{◌≡◌, ℕ, ◌==◌, Bool, true, false, Option, Some, None}
use Rattle.std.specs.List.{find}
use Rattle.mt_exchange.specs.Shown.{arrivals_in, messages_in}
use Rattle.mt_model.specs.declared.node.state.NodeSession.{NodeSession}
use Rattle.mt_model.specs.declared.node.state.NodeState.{NodeState}
use Rattle.mt_model.specs.declared.node.state.Standing.{Standing}
use Rattle.mt_model.specs.declared.node.state.Standing.TheVariants.{Waits, Live, Ended}
use Rattle.mt_model.specs.declared.texts.config.SessionRow.{SessionRow}
use Rattle.mt_talk.specs.Talks.{Talk, run_in}
use Rattle.mt_shared.specs.mt_runs.Whole.{Whole, talk_of}

-- Two talks are alike where the runs of their sessions are the same, and the latest fresh message came from the same peer: that is all on
-- which it depends what a talk says. What is shown of them may differ.
pub record AreAlike (u t : Talk) : Type 0 where
  pub run : run_in u ≡ run_in t
  pub latest : u.latest ≡ t.latest

-- A session that has ended, or that there is none of, is not live any more in this boot.

abbrev pub is_ended : Standing → Bool
is_ended Waits = false
is_ended (Live fabric) = false
is_ended Ended = true

abbrev pub is_over : Option NodeSession → Bool
is_over None = true
is_over (Some session) = is_ended session.standing

abbrev pub has_ended : NodeState → ℕ → Bool
has_ended s id = is_over (find (λ (session : NodeSession). session.session == id) s.sessions)

-- What came, what was sealed, the next id and the peer are the same; so are the open exchanges, until the session has ended. Then the whole
-- has none, and the worker, who may not know of it yet, those that it had.
pub record Agrees (ended : Bool) (u t : Talk) : Type 0 where
  pub arrivals : arrivals_in u.shown ≡ arrivals_in t.shown
  pub messages : messages_in u.shown ≡ messages_in t.shown
  pub next_id : u.next_id ≡ t.next_id
  pub latest : u.latest ≡ t.latest
  pub open_ones : ended ≡ false → u.open_ones ≡ t.open_ones

-- THE TALK SERVES the session of this row in the whole.
pub record Serves (w : Whole) (row : SessionRow) (u : Talk) : Type 0 where
  pub told : Talk
  pub there : talk_of (Some row.session) w.talks ≡ Some (record { row = row; talk = told })
  pub agrees : Agrees (has_ended w.state.node row.session) u told
