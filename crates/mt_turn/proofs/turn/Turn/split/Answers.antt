use Rattle.std.proofs.Common.{rules}
use Rattle.mt_turn.proofs.Sharing.{splits}
use Rattle.mt_turn.proofs.turn.Turn.split.Goals as goal

pub split_seat-other-requires : goal.split_seat-other-requires
split_seat-other-requires g c = (search rules, search rules, splits _ _ _ c.into_seat-stand.result.me.0 (search rules) (search rules) (search rules) (search rules))
