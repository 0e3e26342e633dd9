-- No step takes a session from its place, or gives it another id.
use Rattle.std.proofs.Common.{◌≡◌, ℕ, Bool, true, false, List, [], ◌∷◌, Option, Some, None, refl, ap, ◌∙◌, map, if◌then◌else◌}
use Rattle.mt_failsafe.specs.Notes as notes
use Rattle.mt_model.specs.declared.node.action.Action.{Action}
use Rattle.mt_model.specs.declared.node.action.NodeStep.{NodeStep}
use Rattle.mt_model.specs.declared.node.action.NodeStep.TheVariants.{SetRow, SetEntries, PutNetwork, RemoveNetwork, ConnectNetwork, MoveNetwork, Arm, Renew, Expire, Complete, AddRoot, Csr, AddFabric, UpdateFabric, RemoveFabric, Label, Emit}
use Rattle.mt_model.specs.declared.node.state.NodeSession.{NodeSession}
use Rattle.mt_model.specs.declared.node.state.NodeState.{NodeState}
use Rattle.mt_model.specs.declared.node.state.Standing.TheVariants.{Ended}
use Rattle.mt_model.specs.declared.tables.access.Actor.{Actor}
use Rattle.mt_model.specs.declared.tables.fabric.Fabric.{Fabric}
use Rattle.mt_model.specs.declared.tables.network.Armed.{Armed}
use Rattle.mt_fabrics.specs.Table.{label_refusal, least_unused}
use Rattle.std.specs.Prelude.{is_none}
use Rattle.mt_machine.specs.Effects.{after, after_all, completed, joined_as, may_join, may_leave, may_update, session_completed, session_joined, session_without}
use Rattle.mt_machine.specs.Environment.{Environment}
use Rattle.mt_machine.specs.Rollback.{ends, rolled_back, session_behind}
use Rattle.mt_subs.specs.Leaving.{is_live_as}
use Rattle.mt_machine.specs.Step.{after_action, asker_of, at_time, steps_of}

abbrev ids_of : List NodeSession → List ℕ
ids_of sessions = map (λ (session : NodeSession). session.session) sessions

-- what keeps each one's id keeps them all
all_kept : (change : NodeSession → NodeSession) → ((session : NodeSession) → (change session).session ≡ session.session) → (sessions : List NodeSession) → ids_of (map change sessions) ≡ ids_of sessions
all_kept change one [] = refl
all_kept change one (session ∷ sessions) = λ i. one session i ∷ all_kept change one sessions i

-- whichever of two states it is
either : (test : Bool) (t u : NodeState) (ids : List ℕ) → ids_of t.sessions ≡ ids → ids_of u.sessions ≡ ids → ids_of (if test then t else u).sessions ≡ ids
either true t u ids its others = its
either false t u ids its others = others

ended : (test : Bool) (session : NodeSession) (other : NodeSession) → other.session ≡ session.session → (if test then other else session).session ≡ session.session
ended true session other same = same
ended false session other same = refl

rolled : (armed : Option Armed) (s : NodeState) → ids_of (rolled_back armed s).sessions ≡ ids_of s.sessions
rolled None s = refl
rolled (Some armed) s = all_kept (session_behind armed) (λ session. ended (ends armed session.auth session.standing) session (record session { standing = Ended }) refl) s.sessions

complete : (armed : Option Armed) (s : NodeState) → ids_of (completed armed s).sessions ≡ ids_of s.sessions
complete None s = refl
complete (Some armed) s = all_kept (session_completed armed.context) (λ session. refl) s.sessions

by_step : (asker : Option Actor) (step : NodeStep) (s : NodeState) → ids_of (after asker step s).sessions ≡ ids_of s.sessions
by_step asker (SetRow place fabric values) s = refl
by_step asker (SetEntries fabric entries) s = refl
by_step asker (PutNetwork id secret) s = refl
by_step asker (RemoveNetwork id) s = refl
by_step asker (ConnectNetwork id) s = refl
by_step asker (MoveNetwork id index) s = refl
by_step asker (Arm owner seconds) s = refl
by_step asker (Renew seconds) s = refl
by_step asker Expire s = rolled s.armed s
by_step asker Complete s = complete s.armed s
by_step asker (AddRoot cert) s = either (notes.may_note_root s.armed) _ s (ids_of s.sessions) refl refl
by_step asker (Csr nonce update) s = either (notes.may_note_csr update s.armed) _ s (ids_of s.sessions) refl refl
by_step asker (AddFabric fabric) s =
    either (may_join fabric s) (joined_as asker (least_unused s.fabrics) fabric s) s (ids_of s.sessions) (all_kept (session_joined asker (least_unused s.fabrics) fabric) (λ session. refl) s.sessions) refl
by_step asker (UpdateFabric index given) s = either (may_update index given s) _ s (ids_of s.sessions) refl refl
by_step asker (RemoveFabric index) s =
    either (may_leave index s) _ s (ids_of s.sessions) (all_kept (session_without index) (λ session. ended (is_live_as index session.standing) session _ refl) s.sessions) refl
by_step asker (Label index label) s = either (is_none (label_refusal index label s.fabrics)) _ s (ids_of s.sessions) refl refl
by_step asker (Emit place priority fabric value) s = refl

by_steps : (asker : Option Actor) (steps : List NodeStep) (s : NodeState) → ids_of (after_all asker steps s).sessions ≡ ids_of s.sessions
by_steps asker [] s = refl
by_steps asker (step ∷ steps) s = by_steps asker steps (after asker step s) ∙ by_step asker step s

pub ids_kept : (given : Environment) (s : NodeState) (action : Action) (now : ℕ) → ids_of (after_action given s action now).sessions ≡ ids_of s.sessions
ids_kept given s action now = by_steps (asker_of s action) (steps_of given s action now) (at_time now s)
