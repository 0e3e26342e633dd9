use Rattle.std.proofs.Common.{ap, ◌∙◌, option_map}
use Rattle.mt_words.specs.Words.{names_of, words_of}
use Rattle.mt_words.specs.declared.asked.Asked.TheVariants as asks
use Rattle.mt_words.proofs.Sessions.{asks_ask}
use Rattle.mt_words.proofs.asked.ask_asked.Goals as goal

pub returns-in-Ok-clause-ok : goal.returns-in-Ok-clause-ok
returns-in-Ok-clause-ok c = asks_ask (names_of (words_of c.args.words.now)) ∙ ap (option_map asks.Ask) c.in-Ok.ensures.ok

pub returns-in-Err-clause-bad : goal.returns-in-Err-clause-bad
returns-in-Err-clause-bad c = λ bad. asks_ask (names_of (words_of c.args.words.now)) ∙ ap (option_map asks.Ask) (c.in-Err.ensures.bad bad)
