use Rattle.std.proofs.Common.{◌≡◌, ◌++◌, drop, map}
use Rattle.mt_machine.specs.Rollback.{session_behind}
use Rattle.mt_steps.proofs.expiry.sessions_behind.Given as goal

-- the sessions so far, and those to come
abbrev pub invariant-loop-session : goal.invariant-loop-session
invariant-loop-session l = l.behind ++ map (session_behind l.armed) (drop l.session-index l.sessions) ≡ map (session_behind l.armed) l.sessions
