use Rattle.mt_machine.proofs.Tells.{action_told, setting_tell}
use Rattle.mt_machine.proofs.actions_tell_their_own.Goals as goal

pub returns-clause-own : goal.returns-clause-own
returns-clause-own c = λ given s action now keeps valid.
    action_told c.requests_keep_rules.ensures
    given keeps s action now valid

pub returns-clause-setting : goal.returns-clause-setting
returns-clause-setting c = setting_tell
