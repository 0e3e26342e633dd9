use Rattle.std.proofs.Common.{◌≡◌, ◌∙◌, ◌++◌, sym, ap, subst, List, OnOk, append-nil, filter}
use Rattle.mt_durable.specs.declared.durable.Entry.{Entry}
use Rattle.mt_grammar.specs.declared.keys.Key.TheVariants.{Items}
use Rattle.mt_model.specs.rows.Setting.{is_entry_of}
use Rattle.mt_lasting.specs.Changes.{differing}
use Rattle.mt_lasting.specs.Keys.{acl_place}
use Rattle.mt_lasting.specs.Values.{array_if, entry_tree}
use Rattle.mt_lasting.proofs.Differing.{none_differs}
use Rattle.mt_lasting.proofs.ValuesBehind.{entries_set_there, entries_stay}
use Rattle.mt_lasting.proofs.steps.push_entries_of.Goals as goal

pub returns-in_default : goal.returns-in_default
returns-in_default c = λ ceiling.
    let same = entries_stay c.set_entries_stand_in_order.ensures.ascending c.set_entries_stand_in_order.ensures.others c.args.steps.now c.args.state.now c.requires.valid c.requires.steps
    c.args.fabric c.in_default.ensures in
    sym (ap (λ (said : List Entry). c.args.entries.now.items ++ said) (none_differs (Items c.args.fabric acl_place) _ _ same) ∙ append-nil c.args.entries.now.items)

pub returns : goal.returns
returns c = λ ceiling.
    let fabric = c.args.fabric in
    let stood = c.entries_of.ensures ∙ ap (filter (is_entry_of fabric)) c.as_slice.ensures in
    let old = c.in_ok-old.ensures ∙ ap (array_if entry_tree) stood in
    let set = entries_set_there c.set_entries_stand_in_order.ensures.ascending c.set_entries_stand_in_order.ensures.others c.args.steps.now c.args.state.now c.requires.valid c.requires.steps
    fabric c.in-Some.new.now c.in-Some.ensures in
    let new = c.in_ok-new.ensures ∙ ap (array_if entry_tree) c.as_slice-2.ensures ∙ set in
    subst (λ (said : List Entry). OnOk c.push_differing.result (c.push_differing.new.entries.items ≡ c.args.entries.now.items ++ said)) (λ i. differing (Items fabric acl_place) (old i) (new i)) c.push_differing.ensures
