use Rattle.std.proofs.Common.{rules, of_calls}
use Rattle.std.proofs.lemmas.Fn.{always_returns_same}
use Rattle.mt_model.specs.rows.Order.{may_follow}
use Rattle.mt_model.proofs.Order.{ascending_answer}
use Rattle.mt_model.proofs.rows.place.Rows.is_ascending.Goals as goal

pub returns : goal.returns
returns c =
    let answer = c.is_sorted_by.ensures.cases (λ row next. may_follow row next) (always_returns_same _ _ _ (λ a r f k. search (rules, of_calls))) in
    ascending_answer c.args.rows.now c.is_sorted_by.result answer
