use Rattle.std.proofs.Common.{◌≡◌, ◌++◌, drop, map}
use Rattle.mt_machine.specs.Effects.{session_without}
use Rattle.mt_steps.proofs.sessions.sessions_without.Given as goal

-- those so far, and what becomes of those to come
abbrev pub invariant-loop-session : goal.invariant-loop-session
invariant-loop-session l = l.behind ++ map (session_without l.index) (drop l.session-index l.sessions) ≡ map (session_without l.index) l.sessions
