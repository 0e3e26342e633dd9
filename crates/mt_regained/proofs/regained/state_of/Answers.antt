use Rattle.std.proofs.Common.{ap, ◌∙◌, option_map}
use Rattle.mt_machine.specs.Opened.{first_version, versions_at}
use Rattle.mt_regained.specs.Regained.{given_root, rows_with, state_of}
use Rattle.mt_regained.proofs.StoredRows.{stored_rows}
use Rattle.mt_regained.proofs.regained.state_of.Goals as goal

pub rows_with-requires-clause-stored : goal.rows_with-requires-clause-stored
rows_with-requires-clause-stored c =
    rw c.as_slice.ensures (stored_rows c.stored_places_are_those_of_the_model.ensures c.args.kept.fabrics (rows_with c.args.kept.rows) c.requires.row_forms)

-- field by field
pub returns : goal.returns
returns c = λ i. record {
  rows = (c.in_ok-rows.ensures ∙ ap rows_with c.as_slice.ensures) i;
  entries = c.args.kept.entries;
  fabrics = c.args.kept.fabrics;
  roots = c.args.kept.roots;
  networks = c.args.kept.networks;
  armed = (c.in_ok-armed.ensures ∙ (λ j. option_map (given_root (c.as_slice-2.ensures j) (c.as_slice-3.ensures j)) c.args.kept.failsafe)) i;
  versions = (c.in_ok-versions.ensures ∙ ap versions_at c.first_version.ensures ∙ ap (λ boot. versions_at (first_version boot)) c.unwrap_or-boot.ensures) i;
  changes = (c.into_numbers.ensures.value ∙ c.in_ok-new.ensures) i;
  changed = 0;
  sessions = c.new-2.ensures i;
  plain = (state_of c.args.kept).plain;
  boot = c.unwrap_or-boot.ensures i;
  clock = 0;
}
