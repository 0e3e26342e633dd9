-- Lines on a masked state: they send the same, and the whole behind them is masked.
use Rattle.std.proofs.Common.{◌≡◌, ℕ, ◌++◌, List, Option, Some, None, Result, Ok, Err, refl, ap, ◌∙◌, if◌then◌else◌}
use Rattle.mt_im.specs.declared.fault.ImFault.{ImFault}
use Rattle.mt_model.specs.messages.Status.{code_of}
use Rattle.mt_model.specs.declared.messages.message.Request.{Request}
use Rattle.mt_model.specs.declared.messages.message.Request.TheVariants as requests
use Rattle.mt_model.specs.declared.messages.status.Status.TheVariants.{Busy}
use Rattle.mt_model.specs.declared.node.action.Action.{Action}
use Rattle.mt_model.specs.declared.node.action.Action.TheVariants as actions
use Rattle.mt_model.specs.declared.node.action.NodeStep.{NodeStep}
use Rattle.mt_model.specs.declared.node.action.PlainDeadline.{PlainDeadline}
use Rattle.mt_model.specs.declared.node.state.NodeState.{NodeState}
use Rattle.mt_model.specs.declared.tables.access.Actor.{Actor}
use Rattle.mt_commission.specs.Laws.{StepsAreSound}
use Rattle.mt_opcreds.specs.Moves.{StepsAreMoves}
use Rattle.mt_machine.specs.Effects.{after_all}
use Rattle.mt_machine.specs.Environment.{Environment}
use Rattle.mt_machine.specs.Lines.{action_of, behind_action, deadline_for, deadline_of, deadlines_after, deadlines_of_those_left, is_refused, line_reply, next_for, next_tick, sent_as, sent_for, sent_to, with_deadline}
use Rattle.mt_machine.specs.Rollback.{deadlines_left, is_due}
use Rattle.mt_machine.specs.State.{State}
use Rattle.mt_machine.specs.Step.{after_action, aside_between, aside_of, asker, asker_of, at_time, gone_between, refusal, session_asking, steps_of}
use Rattle.mt_machine.specs.Changes.{settled}
use Rattle.mt_machine.specs.Telling.{joined_between, joining_events, leaving_events, told, told_between}
use Rattle.mt_masks.specs.Masking.{masked_action, masked_asked, masked_node, masked_request, masked_state}
use Rattle.mt_masks.proofs.Actions.{acted_masked, replies_same}
use Rattle.mt_masks.proofs.Steps.{events_same, settled_masked, steps_masked}

-- Who is taken as asking is the same.
pub askers_same : (s : NodeState) (action : Action) → asker_of (masked_node s) (masked_action action) ≡ asker_of s action
askers_same s (actions.Ask actor request deadline) = refl
askers_same s actions.Expire = refl
askers_same s actions.Nothing = refl

module _ (moves : StepsAreMoves) (sound : StepsAreSound) (given : Environment) where
  -- THE STATE BEHIND AN ACTION is masked.
  pub behind_masked : (s : NodeState) (action : Action) (now : ℕ) → after_action given (masked_node s) (masked_action action) now ≡ masked_node (after_action given s action now)
  behind_masked s action now =
      let before = at_time now s in
      let steps = steps_of given s action now in
      (λ i. settled (masked_node before) (after_all (askers_same s action i) (acted_masked moves sound given s action now i) (masked_node before)))
      ∙ ap (settled (masked_node before)) (steps_masked (asker_of s action) steps before)
      ∙ settled_masked before (after_all (asker_of s action) steps before)

  -- What else it does.

  session_same : (s : NodeState) (action : Action) → session_asking (masked_node s) (masked_action action) ≡ session_asking s action
  session_same s (actions.Ask actor request deadline) = refl
  session_same s actions.Expire = refl
  session_same s actions.Nothing = refl

  pub aside_same : (s : NodeState) (action : Action) (now : ℕ) → aside_of given (masked_node s) (masked_action action) now ≡ aside_of given s action now
  aside_same s action now = λ i. aside_between (session_same s action i) (masked_node s) (behind_masked s action now i)

  -- what is told where these are the events among the steps
  abbrev told_of : Option Actor → List NodeStep → NodeState → NodeState → List NodeStep
  told_of asking events before now =
      events
      ++ (joining_events asking now.entries (joined_between before.fabrics now.fabrics)
      ++ leaving_events events (gone_between before.fabrics now.fabrics))

  pub told_same : (s : NodeState) (action : Action) (now : ℕ) → told given (masked_node s) (masked_action action) now ≡ told given s action now
  told_same s action now =
      (λ i. told_between (askers_same s action i) (acted_masked moves sound given s action now i) (masked_node s) (behind_masked s action now i))
      ∙ ap (λ (events : List NodeStep). told_of (asker_of s action) events s (after_action given s action now)) (events_same (steps_of given s action now))

  -- Lines.

  action_same : (actor : Actor) (deadline : Option ℕ) (asked : Result Request ImFault) → action_of actor deadline (masked_asked asked) ≡ masked_action (action_of actor deadline asked)
  action_same actor deadline (Ok request) = refl
  action_same actor deadline (Err fault) = refl

  refused_same : (actor : Actor) (deadlines : List PlainDeadline) (ms : ℕ) (request : Request) → is_refused actor deadlines ms (masked_request request) ≡ is_refused actor deadlines ms request
  refused_same actor deadlines ms (requests.Invoke suppress timed command fields) = refl
  refused_same actor deadlines ms request = refl

  reply_same : (s : State) (actor asking : Actor) (ms : ℕ) (asked : Result Request ImFault) → line_reply given (masked_state s) actor asking ms (masked_asked asked) ≡ line_reply given s actor asking ms asked
  reply_same s actor asking ms (Ok request) =
      λ i. if refused_same asking s.deadlines ms request i then refusal (code_of Busy) else replies_same moves sound given s.node (actions.Ask actor request (deadline_of asking s.deadlines)) ms i
  reply_same s actor asking ms (Err fault) = refl

  sent_same_to : (s : State) (actor : Actor) (ms : ℕ) (asked : Result Request ImFault) (asking : Option Actor) → sent_to given (masked_state s) actor ms (masked_asked asked) asking ≡ sent_to given s actor ms asked asking
  sent_same_to s actor ms asked None = refl
  sent_same_to s actor ms asked (Some asking) = ap (sent_as ms asking.fabric) (reply_same s actor asking ms asked)

  pub sent_same : (s : State) (actor : Actor) (ms : ℕ) (asked : Result Request ImFault) → sent_for given (masked_state s) actor ms (masked_asked asked) ≡ sent_for given s actor ms asked
  sent_same s actor ms asked = sent_same_to s actor ms asked (asker s.node actor)

  deadline_set : (asking : Actor) (deadlines : List PlainDeadline) (ms : ℕ) (asked : Result Request ImFault) → with_deadline asking deadlines ms (masked_asked asked) ≡ with_deadline asking deadlines ms asked
  deadline_set asking deadlines ms (Ok (requests.Invoke suppress timed command fields)) = refl
  deadline_set asking deadlines ms (Ok request) = refl
  deadline_set asking deadlines ms (Err fault) = refl

  deadlines_same : (asking : Option Actor) (deadlines : List PlainDeadline) (ms : ℕ) (asked : Result Request ImFault) → deadlines_after asking deadlines ms (masked_asked asked) ≡ deadlines_after asking deadlines ms asked
  deadlines_same None deadlines ms asked = refl
  deadlines_same (Some asking) deadlines ms asked = deadline_set asking deadlines ms asked

  -- the whole behind an action, with these deadlines
  abbrev whole_behind : NodeState → NodeState → List PlainDeadline → State
  whole_behind before now deadlines = record { node = now; deadlines = deadlines_of_those_left before now deadlines }

  pub next_masked : (s : State) (actor : Actor) (ms : ℕ) (asked : Result Request ImFault) → next_for given (masked_state s) actor ms (masked_asked asked) ≡ masked_state (next_for given s actor ms asked)
  next_masked s actor ms asked =
      let deadline = deadline_for s (asker s.node actor) in
      let behind = ap (λ (action : Action). after_action given (masked_node s.node) action ms) (action_same actor deadline asked) ∙ behind_masked s.node (action_of actor deadline asked) ms in
      λ i. whole_behind (masked_node s.node) (behind i) (deadlines_same (asker s.node actor) s.deadlines ms asked i)

  pub action_masked : (s : State) (action : Action) (ms : ℕ) → behind_action given (masked_state s) (masked_action action) ms ≡ masked_state (behind_action given s action ms)
  action_masked s action ms = λ i. whole_behind (masked_node s.node) (behind_masked s.node action ms i) s.deadlines

  pub tick_masked : (s : State) (ms : ℕ) → next_tick given (masked_state s) ms ≡ masked_state (next_tick given s ms)
  tick_masked s ms = ap (λ (now : NodeState). record { node = now; deadlines = if is_due s.node.armed ms then deadlines_left s.node.armed s.deadlines else s.deadlines }) (behind_masked s.node actions.Expire ms)
