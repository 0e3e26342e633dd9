use Rattle.mt_opcreds.proofs.Moves.{steps_move}
use Rattle.mt_opcreds.proofs.laws.steps_are_moves.Goals as goal

pub returns : goal.returns
returns c = steps_move
