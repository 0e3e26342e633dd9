use Rattle.mt_words.proofs.Settled.{settle_parsed, settle_refused}
use Rattle.mt_words.proofs.asked.settle_asked.Goals as goal

pub returns-in-Err-clause-bad : goal.returns-in-Err-clause-bad
returns-in-Err-clause-bad c = λ bad. settle_refused _ c.args.words.now c.in-Ok.ensures (c.in-Err.ensures.bad bad)

pub returns-clause-ok : goal.returns-clause-ok
returns-clause-ok c = settle_parsed _ c.args.words.now c.in-Ok.ensures c.in-Ok-parse.ensures.fine
