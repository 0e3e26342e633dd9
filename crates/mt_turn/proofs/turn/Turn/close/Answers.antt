use Rattle.std.proofs.Common.{rules}
use Rattle.mt_turn.proofs.Sharing.{value_there, value_is, knows_all}
use Rattle.mt_turn.proofs.turn.Turn.close.Goals as goal

pub unwrap-requires : goal.unwrap-requires
unwrap-requires g c =
    let t = value_there _ _ _ c.into_seat-stand.result.me.0 _ _ _ (search rules) (search rules) (search rules) c.close_with-closed.ensures.values.2 c.take-value.ensures.value in
    rw t.1 (search rules)

pub returns : goal.returns
returns g c =
    let all = value_is g.T.Booked.book g.T.Booked.origin _ c.into_seat-stand.result.me.0 _ _ _ c.unwrap.result (search rules) (search rules) (search rules) c.close_with-closed.ensures.values.2 c.take-value.ensures.value (search rules) in
    let knows = knows_all g.T.Booked.book g.T.Booked.origin _ _ c.into_seat-stand.result.me.0 c.args.pass c.unwrap.result c.pass.view_is c.into_seat-stand.ensures.2 all in
    record { book = knows.0; once = knows.1; no_other = knows.2; origin = knows.3 }
