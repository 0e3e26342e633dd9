use Rattle.std.proofs.Common.{◌≡◌, drop}
use Rattle.mt_model.specs.texts.Config.{have_one_session, none_alike}
use Rattle.mt_rules.proofs.sessions.sessions_differ.Given as goal

abbrev pub invariant-loop-place : goal.invariant-loop-place
invariant-loop-place l = none_alike have_one_session (drop l.place l.rows) ≡ none_alike have_one_session l.rows
