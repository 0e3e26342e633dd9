use Rattle.std.proofs.Common.{◌∙◌, ◌++◌, None, List, ap}
use Rattle.std.specs.List.{flat_map}
use Rattle.mt_durable.specs.declared.durable.Entry.{Entry}
use Rattle.mt_model.specs.declared.rows.place.Place.{Place}
use Rattle.mt_grammar.specs.declared.keys.Key.TheVariants.{Items}
use Rattle.mt_machine.specs.Effects.{after_all}
use Rattle.mt_lasting.specs.Changes.{differing_at}
use Rattle.mt_lasting.proofs.SoFar.{all_done, one_more}
use Rattle.mt_lasting.proofs.steps.push_rows_of.Goals as goal

pub loop-place-preserved : goal.loop-place-preserved
loop-place-preserved c = λ ceiling.
    let said : Place → List Entry = λ place. differing_at c.args.state.now ceiling (after_all None c.args.steps.now c.args.state.now) ceiling (Items c.args.fabric place) in
    one_more said c.item_places-places.result.now c.loop-place.place-index _ c.loop-place.entries.items c.push_rows_at.new.entries.items _ c.loop-place-test.true (c.loop-place.invariant ceiling) (c.in_ok-push_rows_at.ensures ceiling)

pub returns : goal.returns
returns c = λ ceiling.
    let said : Place → List Entry = λ place. differing_at c.args.state.now ceiling (after_all None c.args.steps.now c.args.state.now) ceiling (Items c.args.fabric place) in
    all_done said c.item_places-places.result.now c.loop-place.place-index c.loop-place.entries.items _ c.loop-place-test.false (c.loop-place.invariant ceiling)
    ∙ ap (λ (places : List Place). c.args.entries.now.items ++ flat_map said places) c.item_places-places.ensures
