-- Expiries of the fail-safe in lines: whichever line lets it expire, the node behind it is the rollback of the node before.
use Rattle.std.specs.Prelude.{◌≡◌, ℕ, true}
use Rattle.mt_im.specs.Reading.{request_in}
use Rattle.mt_model.specs.declared.node.action.Action.{Action}
use Rattle.mt_model.specs.declared.node.action.Action.TheVariants as actions
use Rattle.mt_model.specs.declared.texts.recording.Event.{Event}
use Rattle.mt_model.specs.declared.texts.recording.Event.TheVariants as events
use Rattle.mt_opcreds.specs.Laws.{KeepsRules}
use Rattle.mt_machine.specs.Changes.{settled}
use Rattle.mt_machine.specs.Effects.{after_all}
use Rattle.mt_machine.specs.Environment.{Environment}
use Rattle.mt_machine.specs.Expiries.{ComesFirst, RollbacksLeave, expires, steps_behind}
use Rattle.mt_machine.specs.Lines.{line_actor}
use Rattle.mt_machine.specs.Rollback.{rollback}
use Rattle.mt_machine.specs.Step.{asker_of, at_time, steps_of}
use Rattle.mt_ledger.specs.Behind.{action_in}
use Rattle.mt_runs.specs.Datagrams.{session_named}
use Rattle.mt_runs.specs.Isolation.{IsValidWhole}
use Rattle.mt_runs.specs.Lines.{action_asked, activity_named, next}
use Rattle.mt_runs.specs.Whole.{Whole, talk_of}

-- the action of the node that a line comes to
abbrev pub action_at : Whole → Event → Action
action_at w (events.Ask ms fabric node cats opcode payload) = action_asked w.state (line_actor fabric node cats) (request_in opcode payload)
action_at w (events.Datagram ms from bytes) = action_in (activity_named w.state.node bytes (talk_of (session_named bytes) w.talks))
action_at w (events.Tick ms) = actions.Expire
action_at w (events.Report ms fabric subscription) = actions.Nothing
action_at w (events.Resend ms session) = actions.Nothing
action_at w (events.Stop calls fate) = actions.Nothing

-- the time of a line, in ms
abbrev pub time_of : Event → ℕ
time_of (events.Ask ms fabric node cats opcode payload) = ms
time_of (events.Datagram ms from bytes) = ms
time_of (events.Tick ms) = ms
time_of (events.Report ms fabric subscription) = ms
time_of (events.Resend ms session) = ms
time_of (events.Stop calls fate) = 0

-- An expiry comes first in a line, and behind it a value is set at most, or the fabric leaves for which commissioning went on.
abbrev pub LinesExpireFirst : Type 0
LinesExpireFirst = (given : Environment) (w : Whole) (e : Event) → KeepsRules given.judged → IsValidWhole w → expires given w.state.node (action_at w e) (time_of e) ≡ true
    → ComesFirst w.state.node.armed (steps_of given w.state.node (action_at w e) (time_of e))

-- So the node behind the line is the rollback of that before it, at that time, with what is done behind the expiry.
abbrev pub LinesRollBack : Type 0
LinesRollBack = (given : Environment) (w : Whole) (e : Event) → KeepsRules given.judged → IsValidWhole w → expires given w.state.node (action_at w e) (time_of e) ≡ true
    → (next given w e).state.node
    ≡ settled (at_time (time_of e) w.state.node)
    (after_all (asker_of w.state.node (action_at w e)) (steps_behind given w.state.node (action_at w e) (time_of e)) (rollback (at_time (time_of e) w.state.node)))

pub record ExpiriesAreRollbacks : Type 0 where
  pub first : LinesExpireFirst
  pub back : LinesRollBack
  -- and what a rollback leaves of each field
  pub leaves : RollbacksLeave
