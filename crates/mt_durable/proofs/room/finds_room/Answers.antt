use Rattle.std.proofs.Common.{◌≡◌, ◌≤◌, ◌-◌, List, length, ap, arith}
use Rattle.std.proofs.lemmas.Bool.{leb-true}
use Rattle.mt_durable.specs.Changes.{change_bytes}
use Rattle.mt_durable.specs.Reading.{said}
use Rattle.mt_durable.specs.Setting.{with_all}
use Rattle.mt_durable.specs.declared.durable.Entry.{Entry}
use Rattle.mt_durable.proofs.Adding.{adds_no_more}
use Rattle.mt_durable.proofs.Unique.{only_one}
use Rattle.mt_durable.proofs.room.finds_room.Goals as goal

pub returns-then-image-le-LONGEST-clause-room : goal.returns-then-image-le-LONGEST-clause-room
returns-then-image-le-LONGEST-clause-room c = λ fits after leads.
    (let image = c.args.image.now in
    let change = c.args.change.now in
    let map = said image in
    let merged = c.changes_lead_on.ensures.merged leads.entries map leads.says.ascend c.requires.image.0.ascend c.requires.image.1 in
    let same : after ≡ with_all leads.entries map = only_one leads.entries map after (with_all leads.entries map) leads.merged merged in
    let within : length change ≤ 65535 - length image = leb-true (length change) (65535 - length image) fits in
    let size : length (change_bytes after) ≡ length (change_bytes (with_all leads.entries map)) = ap (λ (m : List Entry). length (change_bytes m)) same in
    omega (arith, size, adds_no_more leads.entries map, ap length leads.says.narrow, ap length c.requires.image.0.narrow, within, c.if-image-le-LONGEST.true))
