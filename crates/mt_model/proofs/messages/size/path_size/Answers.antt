use Rattle.std.proofs.Common.{refl}
use Rattle.mt_model.specs.declared.messages.message.Index.TheVariants.{Append}
use Rattle.mt_model.proofs.Sizes.{path_at, path_with}
use Rattle.mt_model.proofs.messages.size.path_size.Goals as goal

pub returns-in-Append-clause-exact : goal.returns-in-Append-clause-exact
returns-in-Append-clause-exact c =
    let ids = c.event_path_size-ids in
    path_with c.args.path.now Append ids.result 2 c.in-Append.is ids.ensures.exact refl

pub returns-in-At-clause-exact : goal.returns-in-At-clause-exact
returns-in-At-clause-exact c =
    let ids = c.event_path_size-ids in
    let field = c.field_size in
    path_at c.args.path.now c.in-At.number ids.result field.result c.in-At.is ids.ensures.exact field.ensures.exact
