use Rattle.std.proofs.Common.{◌≡◌, ◌≤◌, List, rules, subst, sym}
use Rattle.mt_events.specs.Reading.{Asking, asking}
use Rattle.mt_events.specs.Telling.{answered, bytes_of}
use Rattle.mt_events.proofs.Sizes.{answered_short}
use Rattle.mt_model.specs.declared.messages.message.Item.{Item}
use Rattle.mt_events.proofs.rings.Rings.after.Goals as goal

pub returns-clause-within : goal.returns-clause-within
returns-clause-within g c =
    let asked : Asking = asking (g.S.Sight.all_entries c.args.sight.now) c.args.actor.now c.args.minimum c.args.paths.now in
    let is : c.from_vec.result ≡ answered asked c.args.self.now = search rules in
    subst (λ (items : List Item). bytes_of items ≤ 1176) (sym is) (answered_short asked c.args.self.now c.requires)
