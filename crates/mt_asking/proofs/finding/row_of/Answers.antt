use Rattle.std.proofs.Common.{ap, ◌∙◌}
use Rattle.std.specs.Prelude.{find}
use Rattle.mt_asking.specs.Rows.{is_named}
use Rattle.mt_asking.proofs.Found.{found_unicast}
use Rattle.mt_asking.proofs.finding.row_of.Goals as goal

pub returns-clause-unicast : goal.returns-clause-unicast
returns-clause-unicast c =
    found_unicast c.args.session c.args.config.now.sessions c.args.config.now.sessions_are_valid c.row_among.result (c.row_among.ensures ∙ ap (find (is_named c.args.session)) c.as_slice.ensures)
