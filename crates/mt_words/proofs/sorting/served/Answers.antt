use Rattle.std.proofs.Common.{◌≡◌, ◌∙◌, None, arith, rules}
use Rattle.std.proofs.lemmas.Grind.{common_steps}
use Rattle.mt_words.specs.Sorting.{comes_to, start}
use Rattle.mt_words.specs.Words.{words_of}
use Rattle.mt_words.proofs.Serving.{comes_to-served, datagrams_within, workers_within}
use Rattle.mt_words.proofs.sorting.served.Goals as goal

pub returns-in-None-clause-exact : goal.returns-in-None-clause-exact
returns-in-None-clause-exact c =
    let none : None ≡ comes_to start 1 (words_of c.args.words.now) = first_of (search rules, grind (arith, common_steps)) in
    none ∙ comes_to-served (words_of c.args.words.now)

pub returns-clause-exact : goal.returns-clause-exact
returns-clause-exact c =
    let all : c.ended.result ≡ comes_to start 1 (words_of c.args.words.now) = first_of (search rules, grind (arith, common_steps)) in
    all ∙ comes_to-served (words_of c.args.words.now)

pub returns-clause-workers : goal.returns-clause-workers
returns-clause-workers c = workers_within (words_of c.args.words.now) c.ended.result (returns-clause-exact c)

pub returns-clause-datagrams : goal.returns-clause-datagrams
returns-clause-datagrams c = datagrams_within (words_of c.args.words.now) c.ended.result (returns-clause-exact c)
