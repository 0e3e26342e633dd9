use Rattle.std.proofs.Common.{ap, ◌∙◌, get_or, slice_set}
use Rattle.mt_model.specs.declared.tables.fabric.Credentials.{Credentials}
use Rattle.mt_fabrics.specs.Table.{with_credentials}
use Rattle.mt_fabrics.proofs.changing.change_credentials.Goals as goal

pub returns-clause-changed : goal.returns-clause-changed
returns-clause-changed c =
    let fabrics = c.args.fabrics.now in
    let place = c.args.place in
    let here = c.index-fabrics-place.result in
    ap (λ (given : Credentials). slice_set fabrics place (with_credentials given (get_or fabrics place here))) c.replace.ensures.after
    ∙ c.requires.changes (with_credentials c.args.given) here
