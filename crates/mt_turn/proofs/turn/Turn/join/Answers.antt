use Rattle.std.proofs.Common.{rules}
use Rattle.mt_turn.proofs.Steps.{compares}
use Rattle.mt_turn.proofs.Sharing.{joins}
use Rattle.mt_turn.proofs.turn.Turn.join.Goals as goal

pub join_seat-requires : goal.join_seat-requires
join_seat-requires g c = (
  search rules,
  search rules,
  search rules,
  search rules,
  joins _ _ _ c.into_seat-stand.result.me.0 _ c.into_seat.result.me.0 (search rules) (search rules) (search rules) (search rules) (search rules) (search rules) (search rules),
)

pub load-requires : goal.load-requires
load-requires g c = (search rules, search rules, compares _ _ _ _ _ _)
