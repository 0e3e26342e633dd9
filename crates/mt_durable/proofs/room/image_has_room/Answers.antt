use Rattle.std.proofs.Common.{◌≡◌, List, length, ap, sym, ◌∙◌, subst, refl, arith}
use Rattle.std.proofs.lemmas.Bool.{le-leb, leb-true}
use Rattle.mt_durable.specs.Changes.{change_bytes}
use Rattle.mt_durable.specs.Keeping.{LeadsTo}
use Rattle.mt_durable.specs.Maps.{Merged}
use Rattle.mt_durable.specs.Reading.{entries_or_none, said}
use Rattle.mt_durable.specs.Setting.{with_all}
use Rattle.mt_durable.specs.declared.durable.Entry.{Entry}
use Rattle.mt_durable.proofs.Fronts.{says_said}
use Rattle.mt_durable.proofs.Unique.{only_one}
use Rattle.mt_durable.proofs.room.image_has_room.Goals as goal

pub returns-then-finds_room : goal.returns-then-finds_room
returns-then-finds_room c = (λ _. c.finds_room.ensures.room c.if-finds_room.true, λ _. refl)

pub returns : goal.returns
returns c =
    let change = c.args.change.now in
    let map = said c.args.image.now in
    let after = with_all (said change) map in
    let read = c.bytes_of_a_change_are_read.ensures.read in
    let says = says_said read change c.requires.change in
    let merged : Merged (said change) map after = c.changes_lead_on.ensures.merged (said change) map says.ascend c.requires.image.0.ascend c.requires.image.1 in
    let only : (other : List Entry) → LeadsTo change map other → other ≡ after = λ other leads.
    only_one (said change) map other after (subst (λ (e : List Entry). Merged e map other) (ap entries_or_none (sym (read leads.entries change leads.says) ∙ read (said change) change says)) leads.merged) merged in (
      λ room other leads. omega (arith, leb-true c.length_after.result 65535 room, c.length_after.ensures, ap (λ (m : List Entry). length (change_bytes m)) (only other leads)),
      λ fits. le-leb c.length_after.result 65535 (omega (arith, c.length_after.ensures, fits after (record { entries = said change; says = says; merged = merged }))),
    )
