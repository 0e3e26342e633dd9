use Rattle.std.proofs.Common.{◌≡◌, ◌∙◌, Bool, List, ap, filter, not, sym, subst, true}
use Rattle.mt_model.specs.rows.Order.{are_ascending}
use Rattle.mt_model.specs.rows.Setting.{is_at, with_rows}
use Rattle.mt_model.specs.declared.rows.place.Row.{Row}
use Rattle.mt_model.proofs.Setting.{ascending_filter}
use Rattle.mt_model.proofs.Stored.{set_anew}
use Rattle.mt_model.proofs.rows.stored.set_in_room.Goals as goal

pub returns : goal.returns
returns c =
    c.set_rows.ensures.items
    ∙ ap (with_rows c.args.place.now c.args.fabric c.args.values) (c.fill.ensures.items ∙ c.without-others.ensures ∙ (λ i. filter (λ (row : Row). not (is_at c.args.place.now c.args.fabric row)) (c.replace.ensures.value i).items))
    ∙ set_anew c.args.place.now c.args.fabric c.args.values c.args.rows.now.items

pub set_rows-requires-clause-ascending : goal.set_rows-requires-clause-ascending
set_rows-requires-clause-ascending c =
    let is_other : Row → Bool = λ row. not (is_at c.args.place.now c.args.fabric row) in
    subst (λ (l : List Row). are_ascending l ≡ true) (sym (c.fill.ensures.items ∙ c.without-others.ensures ∙ (λ i. filter is_other (c.replace.ensures.value i).items)))
    (ascending_filter is_other c.args.rows.now.items c.requires.ascending)
