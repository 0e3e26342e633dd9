use Rattle.std.proofs.Common.{◌≡◌, List, ap, sym, ◌∙◌, subst}
use Rattle.std.specs.Prelude.{Result, Ok, Err, IfOk}
use Rattle.mt_durable.specs.Keeping.{LeadsTo}
use Rattle.mt_durable.specs.Maps.{Merged}
use Rattle.mt_durable.specs.Reading.{entries_or_none}
use Rattle.mt_durable.specs.declared.durable.Entry.{Entry}
use Rattle.mt_durable.proofs.Unique.{only_one}
use Rattle.mt_durable.proofs.rule.is_admitted.Goals as goal

if_then : {T E : Type 0} (result : Result T E) (P Q : T → Type 0) → ((x : T) → P x → Q x) → IfOk result P → IfOk result Q
if_then (Ok x) P Q then p = then x p
if_then (Err e) P Q then p = p

pub returns : goal.returns
returns g c =
    let map = c.args.map.now in
    let after = c.merge.new.self in
    let admits = g.R.Rule.admits in
    let merged : Merged c.args.change map after = subst (λ (m : List Entry). Merged c.args.change m after) c.in_ok-after.ensures c.in_ok-merge.ensures.merged in
    let read = c.bytes_of_a_change_are_read.ensures.read in
    if_then c.admits.result (λ is. is ≡ admits after) _
    (λ is same. λ bytes says.
    (let only : (other : List Entry) → LeadsTo bytes map other → other ≡ after = λ other leads.
    only_one c.args.change map other after (subst (λ (e : List Entry). Merged e map other) (ap entries_or_none (sym (read leads.entries bytes leads.says) ∙ read c.args.change bytes says)) leads.merged) merged in (
      λ may other leads. ap admits (only other leads) ∙ sym same ∙ may,
      λ each. same ∙ each after (record { entries = c.args.change; says = says; merged = merged }),
    )))
    c.admits.ensures
