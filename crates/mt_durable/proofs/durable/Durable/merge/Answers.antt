use Rattle.std.proofs.Common.{◌≡◌, List, ap, subst, sym, ◌∙◌}
use Rattle.std.specs.Prelude.{IsTrue}
use Rattle.mt_durable.specs.Maps.{Merged, have_values, keys_ascend}
use Rattle.mt_durable.specs.Setting.{with_all}
use Rattle.mt_durable.specs.declared.durable.Entry.{Entry}
use Rattle.mt_durable.proofs.Merging.{merged}
use Rattle.mt_durable.proofs.durable.Durable.merge.Goals as goal

pub invariant_of-self-2 : goal.invariant_of-self-2
invariant_of-self-2 c =
    let change = c.into_vec-change.result.items in
    let old = c.self.inside.entries.items in
    let items : c.set_all.new.entries.items ≡ with_all change old = c.set_all.ensures.items ∙ ap (λ (l : List Entry). with_all change l) c.reserve.ensures.items in
    let ascend = subst (λ (l : List Entry). IsTrue (keys_ascend l)) (sym c.into_vec-change.ensures.value) c.into_vec-change.ensures.ascend in
    let made = merged change old ascend c.self.invariant.0 c.self.invariant.1 in
    subst (λ (l : List Entry). IsTrue (keys_ascend l) × IsTrue (have_values l)) (sym items) (made.ascend, made.whole)

pub returns-clause-merged : goal.returns-clause-merged
returns-clause-merged c =
    let change = c.into_vec-change.result.items in
    let old = c.self.inside.entries.items in
    let items : c.set_all.new.entries.items ≡ with_all change old = c.set_all.ensures.items ∙ ap (λ (l : List Entry). with_all change l) c.reserve.ensures.items in
    let ascend = subst (λ (l : List Entry). IsTrue (keys_ascend l)) (sym c.into_vec-change.ensures.value) c.into_vec-change.ensures.ascend in
    let made = merged change old ascend c.self.invariant.0 c.self.invariant.1 in
    subst (λ (l : List Entry). Merged l c.args.self.now c.set_all.new.entries.items) c.into_vec-change.ensures.value
    (subst (λ (l : List Entry). Merged change l c.set_all.new.entries.items) c.self.view_is
    (subst (λ (l : List Entry). Merged change old l) (sym items) made))

pub returns-clause-one_by_one : goal.returns-clause-one_by_one
returns-clause-one_by_one c =
    c.set_all.ensures.items
    ∙ ap (λ (l : List Entry). with_all c.into_vec-change.result.items l) (c.reserve.ensures.items ∙ c.self.view_is)
    ∙ ap (λ (l : List Entry). with_all l c.args.self.now) c.into_vec-change.ensures.value
