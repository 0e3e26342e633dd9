use Rattle.std.proofs.Common.{◌≡◌, List, IfOk, subst, sym}
use Rattle.mt_exchange.specs.declared.exchange.Exchange.{Exchange}
use Rattle.mt_exchange.specs.Resending.{end_times}
use Rattle.mt_talk.proofs.talk.Talk.ends.Goals as goal

pub returns : goal.returns
returns c = λ row t s. subst (λ (xs : List Exchange). IfOk c.ends.result (λ times. times ≡ end_times xs)) (sym s.open_ones) (c.ends.ensures row s.happenings s.exchanges)
