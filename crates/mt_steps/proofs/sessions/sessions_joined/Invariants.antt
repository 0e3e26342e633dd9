use Rattle.std.proofs.Common.{◌≡◌, ◌++◌, drop, map}
use Rattle.mt_machine.specs.Effects.{session_joined}
use Rattle.mt_steps.proofs.sessions.sessions_joined.Given as goal

-- those so far, and what becomes of those to come
abbrev pub invariant-loop-session : goal.invariant-loop-session
invariant-loop-session l = l.behind ++ map (session_joined l.asking l.index l.fabric) (drop l.session-index l.sessions) ≡ map (session_joined l.asking l.index l.fabric) l.sessions
