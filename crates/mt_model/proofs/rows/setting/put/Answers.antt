use Rattle.std.proofs.Common.{◌<◌, add-one, arith, length}
use Rattle.std.proofs.lemmas.Bool.{lt-ltb}
use Rattle.std.proofs.lemmas.List.{set_split}
use Rattle.mt_model.proofs.rows.setting.put.Goals as goal

pub returns-then-at-end-clause-items : goal.returns-then-at-end-clause-items
returns-then-at-end-clause-items g c =
    let within : c.args.at < length c.args.items.now.items = omega arith in
    rw (lt-ltb c.args.at c.args.end c.if-at-end.true, add-one) (set_split c.args.items.now.items c.args.at c.args.item within)
