use Rattle.std.proofs.Common.{◌≡◌, ◌∙◌, ◌++◌, sym, ap, subst, List, OnOk, append-nil}
use Rattle.mt_durable.specs.declared.durable.Entry.{Entry}
use Rattle.mt_grammar.specs.declared.keys.Key.TheVariants.{Single}
use Rattle.mt_lasting.specs.Changes.{differing}
use Rattle.mt_lasting.specs.Steps.{first_kept}
use Rattle.mt_lasting.specs.Values.{single_in}
use Rattle.mt_lasting.proofs.Differing.{none_differs}
use Rattle.mt_lasting.proofs.ValuesBehind.{single_set, single_stays}
use Rattle.mt_lasting.proofs.steps.push_single.Goals as goal

pub returns-in_default : goal.returns-in_default
returns-in_default c = λ ceiling.
    let same = single_stays c.set_rows_stand_in_order.ensures.ascending c.set_rows_stand_in_order.ensures.others c.args.steps.now c.args.state.now c.requires.valid c.requires.steps
    c.requires.behind c.args.place.now c.requires.place c.in_default.ensures in
    sym (ap (λ (said : List Entry). c.args.entries.now.items ++ said) (none_differs (Single c.args.place.now) _ _ same) ∙ append-nil c.args.entries.now.items)

pub returns : goal.returns
returns c = λ ceiling.
    let place = c.args.place.now in
    let old = c.in_ok-old.ensures ∙ ap (single_in place) c.at.ensures.value in
    let set = single_set c.set_rows_stand_in_order.ensures.ascending c.set_rows_stand_in_order.ensures.others c.args.steps.now c.args.state.now c.requires.valid c.requires.steps
    c.requires.behind place c.requires.place c.in-Some.values.now c.in-Some.ensures in
    let new = c.in_ok-new.ensures ∙ ap (first_kept place) c.as_slice.ensures ∙ set in
    subst (λ (said : List Entry). OnOk c.push_differing.result (c.push_differing.new.entries.items ≡ c.args.entries.now.items ++ said)) (λ i. differing (Single place) (old i) (new i)) c.push_differing.ensures
