use Rattle.mt_shares.proofs.Sessions.{accounts_are_their_sessions, accounts_are_theirs}
use Rattle.mt_shares.proofs.accounts_are_their_sessions.Goals as goal

pub returns : goal.returns
returns c = record { one = accounts_are_their_sessions; such = accounts_are_theirs }
