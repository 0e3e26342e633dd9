use Rattle.std.proofs.Common.{Bor, List, ℕ, ◌∙◌, ap}
use Rattle.mt_meta.specs.Table as rows
use Rattle.mt_meta.specs.declared.rows.EventRow.{EventRow}
use Rattle.mt_names.specs.Columns.{name_in}
use Rattle.mt_names.specs.Names.{events_of}
use Rattle.mt_names.proofs.Lookups.{there}
use Rattle.mt_names.proofs.looking.event_name.Goals as goal

pub returns-clause-there : goal.returns-clause-there
returns-clause-there c =
    there (λ (name : Bor (List ℕ)). name.now) c.name_among.result c.args.event c.event_names.result.now (events_of c.args.cluster) (λ (row : EventRow). row.number) (rows.events_of c.args.cluster)
    (c.name_among.ensures ∙ ap (name_in c.args.event) c.event_names.ensures.names) c.event_names.ensures.names c.event_names.ensures.numbers
