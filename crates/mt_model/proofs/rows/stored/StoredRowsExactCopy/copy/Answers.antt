use Rattle.std.proofs.Common.{◌≡◌, ◌∙◌, List, None, filter}
use Rattle.std.proofs.lemmas.Result.{IfOk-weaker}
use Rattle.mt_model.specs.tables.Leaving.{stays}
use Rattle.mt_model.specs.declared.rows.place.Row.{Row}
use Rattle.mt_model.proofs.Copied.{all_stay}
use Rattle.mt_model.proofs.rows.stored.StoredRowsExactCopy.copy.Goals as goal

pub returns : goal.returns
returns c = IfOk-weaker c.copy_without.result (λ (rows : List Row). rows ≡ filter (λ (row : Row). stays None row.fabric) c.args.self.now) (λ (rows : List Row). rows ≡ c.args.self.now) (λ rows is. is ∙ all_stay c.args.self.now) c.copy_without.ensures
