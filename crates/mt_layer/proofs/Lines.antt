-- What serves behind a line, and the lines of time steps.
use Rattle.std.proofs.Common.{◌≡◌, ℕ, ◌∙◌, false, List, [], refl, map}
use Rattle.std.specs.List.{find}
use Rattle.mt_model.specs.declared.node.action.Action.TheVariants as actions
use Rattle.mt_model.specs.declared.node.state.NodeState.{NodeState}
use Rattle.mt_model.specs.declared.texts.config.SessionRow.{SessionRow}
use Rattle.mt_model.specs.declared.texts.recording.Event.TheVariants as events
use Rattle.mt_talk.specs.Talks.{Talk}
use Rattle.mt_shared.specs.mt_machine.Environment.{Environment}
use Rattle.mt_shared.specs.mt_machine.Laws.{TakesTheAddedAway, TicksTakeOne}
use Rattle.mt_shared.specs.mt_ledger.Ledger.{Ledger}
use Rattle.mt_shared.specs.mt_runs.Isolation.{IsValidWhole}
use Rattle.mt_shared.specs.mt_runs.Whole.{SessionTalk, Whole, begun, is_live, is_talk_of, let_go}
use Rattle.mt_shared.specs.mt_interactions.Configured.{ConfiguredInteractions}
use Rattle.mt_shared.specs.mt_interactions.TheVariants as deeds
use Rattle.mt_shared.specs.Replay.{given_in}
use Rattle.mt_layer.specs.Agreeing.{Serves}
use Rattle.mt_layer.specs.Laws.{BegunTalksServe, TicksAreLines}
use Rattle.mt_layer.specs.Lines.{IsNobodysLine, next_with, whole_of}
use Rattle.mt_layer.proofs.Ending.{FollowAll, all_follow}
use Rattle.mt_layer.proofs.Listed.{quiet_none}
use Rattle.mt_layer.proofs.Serving.{other_agree, serving}
use Rattle.mt_layer.proofs.Ticks.{tick_is}

pub begins : BegunTalksServe
begins w row there = record { told = (begun row).talk; there = there; agrees = record { arrivals = refl; messages = refl; next_id = refl; latest = refl; open_ones = λ going. refl } }

module _ (node : ConfiguredInteractions) (talks : List SessionTalk) (valid : IsValidWhole (whole_of node talks)) where
  abbrev given : Environment
  given = given_in node

  abbrev s : NodeState
  s = node.state.node

  abbrev l : Ledger
  l = node.ledger

  abbrev w : Whole
  w = whole_of node talks

  -- Where sessions let go behind the line, all talks serve that are not replaced in it.
  pub others_serve : (now : Whole) (spoken : List SessionTalk) → FollowAll s.sessions now.state.node.sessions → now.talks ≡ map (let_go s now.state.node) spoken
      → (other : SessionRow) (v : Talk) → find (is_talk_of other.session) spoken ≡ find (is_talk_of other.session) talks → Serves w other v → Serves now other v
  others_serve now spoken follow are other v same serves =
      serving s now spoken are other serves.told v (same ∙ serves.there) (other_agree s now.state.node follow valid.sessions_differ other v serves.told serves.agrees)

  -- TIME STEPS
  pub tick_line : TakesTheAddedAway → TicksTakeOne → (ms : ℕ) → IsNobodysLine node talks (events.Tick ms) deeds.Expire ms
  tick_line takes one ms = record {
    state = tick_is takes one given node.state ms valid.node;
    ledger = refl;
    sent = refl;
    others = λ other v serves. others_serve (next_with node talks (events.Tick ms)) talks (all_follow given s actions.Expire ms) refl other v refl serves;
  }

  -- Over a session that is not live nothing is open.
  pub nothing_open : (row : SessionRow) (u : Talk) (serves : Serves (whole_of node talks) row u) → is_live s row.session ≡ false → serves.told.open_ones ≡ []
  nothing_open row u serves off = quiet_none s row.session row serves.told talks valid.quiet serves.there off

pub ticks : TakesTheAddedAway → TicksTakeOne → TicksAreLines
ticks takes one node talks ms valid = tick_line node talks valid takes one ms
