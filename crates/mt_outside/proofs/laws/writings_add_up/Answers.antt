use Rattle.mt_outside.proofs.Streams.{Took-nil, Took-then, TookLess-more, TookLess-then}
use Rattle.mt_outside.proofs.laws.writings_add_up.Goals as goal

pub returns : goal.returns
returns c = record {
  nothing = Took-nil;
  then = Took-then;
  less_of_more = TookLess-more;
  then_less = TookLess-then;
}
