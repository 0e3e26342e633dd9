use Rattle.std.proofs.Common.{Bor, List, ℕ, ◌∙◌, ap, sym}
use Rattle.mt_meta.specs.Table as rows
use Rattle.mt_names.specs.Columns.{name_in}
use Rattle.mt_names.specs.Names.{responses_of}
use Rattle.mt_names.proofs.Lookups.{map_same, there}
use Rattle.mt_names.proofs.looking.response_name.Goals as goal

pub returns-clause-there : goal.returns-clause-there
returns-clause-there c =
    there (λ (name : Bor (List ℕ)). name.now) c.name_among.result c.args.command c.response_names.result.now (responses_of c.args.cluster) (λ (number : ℕ). number) (rows.responses_of c.args.cluster)
    (c.name_among.ensures ∙ ap (name_in c.args.command) c.response_names.ensures.names) c.response_names.ensures.names (c.response_names.ensures.numbers ∙ sym (map_same (rows.responses_of c.args.cluster)))
