use Rattle.std.proofs.Common.{◌≡◌, ◌++◌, drop, filter}
use Rattle.mt_model.specs.declared.node.state.NodeSession.{NodeSession}
use Rattle.mt_subs.specs.Leaving.{is_live_as}
use Rattle.mt_play.proofs.remembering.live_sessions.Given as goal

-- the live ones so far, and those to come
abbrev pub invariant-loop-session : goal.invariant-loop-session
invariant-loop-session l =
    l.live.items ++ filter (λ (session : NodeSession). is_live_as l.fabric session.standing) (drop l.session-index l.sessions)
    ≡ filter (λ (session : NodeSession). is_live_as l.fabric session.standing) l.sessions
