use Rattle.std.proofs.Common.{◌≡◌, List, length, ap, sym, ◌∙◌, subst, arith}
use Rattle.std.proofs.lemmas.Bool.{le-leb, leb-true}
use Rattle.std.proofs.lemmas.Grind.{common_steps}
use Rattle.mt_durable.specs.Changes.{change_bytes}
use Rattle.mt_durable.specs.Keeping.{LeadsTo}
use Rattle.mt_durable.specs.Maps.{Merged}
use Rattle.mt_durable.specs.Reading.{entries_or_none}
use Rattle.mt_durable.specs.declared.durable.Entry.{Entry}
use Rattle.mt_durable.proofs.Unique.{only_one}
use Rattle.mt_durable.proofs.room.has_room.Goals as goal

pub returns : goal.returns
returns c = λ bytes says.
    (let map = c.args.map.now in
    let after = c.merge.new.self in
    let merged : Merged c.args.change map after = subst (λ (m : List Entry). Merged c.args.change m after) c.in_ok-after.ensures c.in_ok-merge.ensures.merged in
    let size : c.len.result ≡ length (change_bytes after) = grind (arith, common_steps) in
    let read = c.bytes_of_a_change_are_read.ensures.read in
    let only : (other : List Entry) → LeadsTo bytes map other → other ≡ after = λ other leads.
    only_one c.args.change map other after (subst (λ (e : List Entry). Merged e map other) (ap entries_or_none (sym (read leads.entries bytes leads.says) ∙ read c.args.change bytes says)) leads.merged) merged in (
      λ room other leads. omega (arith, leb-true c.len.result 65535 room, size, ap (λ (m : List Entry). length (change_bytes m)) (only other leads)),
      λ fits. le-leb c.len.result 65535 (omega (arith, size, fits after (record { entries = c.args.change; says = says; merged = merged }))),
    ))
