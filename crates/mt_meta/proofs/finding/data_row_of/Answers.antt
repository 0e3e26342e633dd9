use Rattle.std.proofs.Common.{◌≡◌, ◌==◌, ◌∙◌, Some, option_copied, ap, sym}
use Rattle.mt_meta.specs.Stored.{row_in}
use Rattle.mt_meta.specs.Table.{all_attributes_of, hidden_of}
use Rattle.mt_meta.specs.declared.rows.AttributeRow.{AttributeRow}
use Rattle.mt_meta.proofs.RowFacts.{found-first, found-later}
use Rattle.mt_meta.proofs.finding.data_row_of.Goals as goal

pub returns-in-Some : goal.returns-in-Some
returns-in-Some c =
    let leaf = c.args.place.now.leaf in
    let cluster = c.args.place.now.cluster in
    found-first (λ (row : AttributeRow). row.number == leaf) (all_attributes_of cluster) (hidden_of cluster) c.in-Some.row.now (ap option_copied (sym c.in-Some.is) ∙ c.row_of.ensures)

pub returns : goal.returns
returns c =
    let leaf = c.args.place.now.leaf in
    let cluster = c.args.place.now.cluster in
    found-later (λ (row : AttributeRow). row.number == leaf) (all_attributes_of cluster) (hidden_of cluster) (option_copied c.row_among.result) (ap option_copied (sym c.in_default.is) ∙ c.row_of.ensures)
    (c.row_among.ensures ∙ ap (λ rows. row_in rows leaf) c.hidden_of.ensures)
