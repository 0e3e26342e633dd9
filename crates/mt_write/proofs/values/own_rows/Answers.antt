use Rattle.std.proofs.Common.{◌==◌, ◌∙◌, List, ap, filter, rules}
use Rattle.std.proofs.lemmas.Fn.{filter_same}
use Rattle.mt_model.specs.declared.rows.place.Row.{Row}
use Rattle.mt_write.proofs.values.own_rows.Goals as goal

pub returns : goal.returns
returns c =
    filter_same _ (λ (row : Row). row.fabric == c.args.fabric) _ (λ x b f' k. search rules) _ _ c.retain.ensures.filtered
    ∙ ap (λ (rows : List Row). filter (λ (row : Row). row.fabric == c.args.fabric) rows) c.into_vec-rows.ensures.value
