use Rattle.mt_layer.proofs.Deeds.{replies_answer}
use Rattle.mt_layer.proofs.laws.replies_are_answers.Goals as goal

pub returns : goal.returns
returns c = replies_answer
