use Rattle.std.proofs.Common.{◌≡◌, ◌==◌, drop}
use Rattle.std.specs.List.{find}
use Rattle.mt_model.specs.declared.node.state.NodeSession.{NodeSession}
use Rattle.mt_node.proofs.actors.actor_among.Given as goal

-- the sessions that were looked at have other ids
abbrev pub invariant-loop-session : goal.invariant-loop-session
invariant-loop-session l = find (λ (session : NodeSession). session.session == l.id) l.sessions ≡ find (λ (session : NodeSession). session.session == l.id) (drop l.session-index l.sessions)
