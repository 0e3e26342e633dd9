use Rattle.std.proofs.Common.{◌∙◌, ap, filter}
use Rattle.mt_model.specs.rows.Setting.{is_at}
use Rattle.mt_model.proofs.Stored.{at_of_place}
use Rattle.mt_model.proofs.rows.stored.StoredRows.of.Goals as goal

pub returns : goal.returns
returns c =
    c.rows_within-begin.ensures.at
    ∙ ap (filter (is_at c.args.place.now c.args.fabric)) c.at-rows.ensures.value
    ∙ at_of_place c.args.place.now c.args.fabric c.args.self.now
