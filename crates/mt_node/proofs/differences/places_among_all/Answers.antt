use Rattle.std.proofs.Common.{◌∙◌, ap, filter, rules}
use Rattle.std.proofs.lemmas.Fn.{filter_same}
use Rattle.mt_node.specs.Differences.{differs_with}
use Rattle.mt_node.proofs.differences.places_among_all.Goals as goal

pub returns : goal.returns
returns c =
    let test = differs_with c.args.state.now c.args.steps.now c.args.entries in
    c.from_vec.ensures
    ∙ filter_same _ test _ (λ x b f' k. search rules) _ _ c.retain.ensures.filtered
    ∙ ap (filter test) (c.into_vec-places.ensures ∙ c.in_ok-all_places.ensures)
