use Rattle.std.proofs.Common.{not, rules}
use Rattle.std.proofs.lemmas.Fn.{filter_same}
use Rattle.mt_model.specs.rows.Setting.{is_at}
use Rattle.mt_model.specs.declared.rows.place.Row.{Row}
use Rattle.mt_model.proofs.rows.stored.without.Goals as goal

pub returns : goal.returns
returns c = filter_same _ (λ (row : Row). not (is_at c.args.place.now c.args.fabric row)) _ (λ x b f' k. search rules) _ _ c.retain.ensures.filtered
