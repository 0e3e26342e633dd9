-- What is kept is what the test lets through.
use Rattle.std.proofs.Common.{◌==◌, not, filter, ap, ◌∙◌, rules}
use Rattle.std.proofs.lemmas.Fn.{filter_same}
use Rattle.mt_exchange.proofs.exchange.owed_but.Goals as goal

pub returns : goal.returns
returns c = c.from_vec.ensures ∙ filter_same _ _ _ (λ x b f' k. search rules) _ _ c.retain.ensures.filtered ∙ ap (filter (λ o. not (o.counter == c.args.counter))) c.into_vec-rest.ensures
