use Rattle.std.proofs.Common.{rules}
use Rattle.mt_turn.proofs.TwoCalls.{both_in_one_order}
use Rattle.mt_turn.proofs.laws.two_callers_have_one_order.Goals as goal

pub returns : goal.returns
returns g c =
    let mine = c.join-mine.result.0 in
    let theirs = c.join-mine.result.1 in
    record {
      one_order = both_in_one_order g.T.Answers.is_of g.T.Answers.answer_at (g.T.Booked.origin c.close.result) c.split.new.pass mine.0 c.in-Ok.theirs theirs.0 c.args.first c.args.second mine.1 theirs.1
          (g.T.Booked.book c.close.result) (search rules) (search rules) (search rules) (search rules) (search rules) (search rules) (search rules) (search rules) (search rules) (search rules) (search rules) (search rules);
    }
