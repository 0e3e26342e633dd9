use Rattle.std.proofs.Common.{◌≡◌, ◌∙◌, ◌++◌, sym, ap, subst, List, OnOk, append-nil}
use Rattle.mt_durable.specs.declared.durable.Entry.{Entry}
use Rattle.mt_grammar.specs.declared.keys.Key.TheVariants.{Items}
use Rattle.mt_tlv.specs.View.{tree}
use Rattle.mt_lasting.specs.Changes.{differing}
use Rattle.mt_lasting.specs.Values.{array_if, row_tree}
use Rattle.mt_lasting.proofs.Differing.{none_differs}
use Rattle.mt_lasting.proofs.ValuesBehind.{items_set, items_stay, of_rows}
use Rattle.mt_lasting.proofs.steps.push_rows_at.Goals as goal

pub returns-in_default : goal.returns-in_default
returns-in_default c = λ ceiling.
    let same = items_stay c.set_rows_stand_in_order.ensures.ascending c.set_rows_stand_in_order.ensures.others c.args.steps.now c.args.state.now c.requires.valid c.requires.steps
    c.args.fabric c.args.place.now c.requires.place c.in_default.ensures in
    sym (ap (λ (said : List Entry). c.args.entries.now.items ++ said) (none_differs (Items c.args.fabric c.args.place.now) _ _ same) ∙ append-nil c.args.entries.now.items)

pub returns : goal.returns
returns c = λ ceiling.
    let fabric = c.args.fabric in
    let place = c.args.place.now in
    let old = c.in_ok-old.ensures ∙ ap (array_if row_tree) c.of.ensures ∙ sym (of_rows fabric place c.requires.place c.args.state.now) in
    let set = items_set c.set_rows_stand_in_order.ensures.ascending c.set_rows_stand_in_order.ensures.others c.args.steps.now c.args.state.now c.requires.valid c.requires.steps
    fabric place c.requires.place c.in-Some.values.now c.in-Some.ensures in
    let new = c.in_ok-new.ensures ∙ ap (array_if tree) c.as_slice.ensures ∙ set in
    subst (λ (said : List Entry). OnOk c.push_differing.result (c.push_differing.new.entries.items ≡ c.args.entries.now.items ++ said)) (λ i. differing (Items fabric place) (old i) (new i)) c.push_differing.ensures
