use Rattle.std.proofs.Common.{◌≡◌, ◌∙◌, filter, rules}
use Rattle.std.proofs.lemmas.Fn.{filter_same}
use Rattle.mt_worker.specs.Accounts.{stands_unless}
use Rattle.mt_worker.proofs.Seats.{standing_some}
use Rattle.mt_worker.proofs.seat.Seat.end.Goals as goal

pub returns-then-is_some-clause-standing : goal.returns-then-is_some-clause-standing
returns-then-is_some-clause-standing c =
    let items = c.args.self.now.subscriptions.items in
    let kept : c.retain.new.self.items ≡ filter (stands_unless c.args.at.now c.args.ms) items = filter_same _ (stands_unless c.args.at.now c.args.ms) _ (λ x b f' k. search rules) _ _ c.retain.ensures.filtered in
    kept ∙ standing_some c.args.fabric c.args.at.now c.args.ms items (search rules)
