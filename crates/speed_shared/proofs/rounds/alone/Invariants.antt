use Rattle.speed_shared.proofs.rounds.alone.Given as goal

abbrev pub decreases-loop-ready : goal.decreases-loop-ready
decreases-loop-ready g l = goal.left-loop-ready g l
