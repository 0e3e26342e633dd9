use Rattle.std.proofs.Common.{◌≡◌, not, true, ap, ◌∙◌, filter, rules, subst, sym, List}
use Rattle.mt_model.specs.rows.Setting.{is_at}
use Rattle.mt_model.specs.rows.Sight.{same_place}
use Rattle.mt_model.specs.declared.rows.place.Row.{Row}
use Rattle.mt_node.specs.Differences.{rows_stand}
use Rattle.mt_node.proofs.Filters.{filter_within}
use Rattle.mt_node.proofs.differences.sets_other_rows.Goals as goal

pub returns-then-eq : goal.returns-then-eq
returns-then-eq c =
    let place = c.args.place.now in
    let fabric = c.in-SetRow.fabric in
    let there : same_place c.in-SetRow.at place ≡ true = search rules in
    let own : filter (is_at place fabric) c.of.result.now ≡ c.of.result.now =
    subst (λ (rows : List Row). filter (is_at place fabric) rows ≡ rows) (sym c.of.ensures) (filter_within (is_at place fabric) (is_at place fabric) (λ row e. e) c.args.rows.now) in
    rw (c.in-SetRow.is, there) (ap not (c.rows_stand.ensures own ∙ (λ i. rows_stand place fabric (c.of.ensures i) (c.latest_row.ensures i))))
