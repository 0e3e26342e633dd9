use Rattle.std.proofs.Common.{Bor, List, ℕ, ◌∙◌, ap}
use Rattle.mt_meta.specs.Table as rows
use Rattle.mt_meta.specs.declared.rows.CommandRow.{CommandRow}
use Rattle.mt_names.specs.Columns.{name_in}
use Rattle.mt_names.specs.Names.{commands_of}
use Rattle.mt_names.proofs.Lookups.{there}
use Rattle.mt_names.proofs.looking.command_name.Goals as goal

pub returns-clause-there : goal.returns-clause-there
returns-clause-there c =
    there (λ (name : Bor (List ℕ)). name.now) c.name_among.result c.args.command c.command_names.result.now (commands_of c.args.cluster) (λ (row : CommandRow). row.number) (rows.commands_of c.args.cluster)
    (c.name_among.ensures ∙ ap (name_in c.args.command) c.command_names.ensures.names) c.command_names.ensures.names c.command_names.ensures.numbers
