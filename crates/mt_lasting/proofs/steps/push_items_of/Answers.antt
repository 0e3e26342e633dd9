use Rattle.std.proofs.Common.{◌≡◌, ◌∙◌, OnOk, None, List, refl, subst, sym}
use Rattle.mt_durable.specs.declared.durable.Entry.{Entry}
use Rattle.mt_grammar.specs.declared.keys.Key.{Key}
use Rattle.mt_machine.specs.Effects.{after_all}
use Rattle.mt_lasting.specs.Changes.{differing_at}
use Rattle.mt_lasting.proofs.SoFar.{one_fabric}
use Rattle.mt_lasting.proofs.Unnamed.{unnamed_stays}
use Rattle.mt_lasting.proofs.steps.push_items_of.Goals as goal

pub returns-then-not-is_named : goal.returns-then-not-is_named
returns-then-not-is_named c = λ ceiling.
    unnamed_stays c.args.fabric c.set_rows_stand_in_order.ensures.ascending c.set_rows_stand_in_order.ensures.others c.set_entries_stand_in_order.ensures.ascending c.set_entries_stand_in_order.ensures.others
    c.args.steps.now c.args.state.now c.requires.valid c.requires.steps (sym c.is_named.ensures ∙ c.if-not-is_named.true) ceiling c.args.entries.now.items

pub returns : goal.returns
returns c = λ ceiling.
    let said : Key → List Entry = differing_at c.args.state.now ceiling (after_all None c.args.steps.now c.args.state.now) ceiling in
    subst (λ (l : List Entry). OnOk c.push_rows_of.result (c.push_rows_of.new.entries.items ≡ l))
    (one_fabric said c.args.fabric c.args.entries.now.items c.push_entries_of.new.entries.items _ (c.in_ok-push_entries_of.ensures ceiling) refl) (c.push_rows_of.ensures ceiling)
