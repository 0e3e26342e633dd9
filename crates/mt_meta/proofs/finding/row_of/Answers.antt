use Rattle.std.proofs.Common.{◌≡◌, ◌==◌, ◌++◌, ℕ, List, Option, Some, option_copied, ap, sym, ◌∙◌}
use Rattle.mt_meta.specs.Stored.{row_in}
use Rattle.mt_meta.specs.Table.{attributes_of, extensions_of, globals}
use Rattle.mt_meta.specs.declared.rows.AttributeRow.{AttributeRow}
use Rattle.mt_meta.proofs.RowFacts.{found-first, found-later}
use Rattle.mt_meta.proofs.finding.row_of.Goals as goal

-- what a look into one list says, once the list is known
told : {o p : Option AttributeRow} {rows known : List AttributeRow} (leaf : ℕ) → p ≡ row_in rows leaf → o ≡ p → rows ≡ known → o ≡ row_in known leaf
told leaf said is same = is ∙ said ∙ ap (λ rows. row_in rows leaf) same

pub returns-in-Some : goal.returns-in-Some
returns-in-Some c =
    let leaf = c.args.place.now.leaf in
    let cluster = c.args.place.now.cluster in
    let own = told leaf c.row_among.ensures (ap option_copied (sym c.in-Some.is)) c.attributes_of.ensures in
    found-first (λ (row : AttributeRow). row.number == leaf) (attributes_of cluster) (globals ++ extensions_of cluster) c.in-Some.row.now own

pub returns-in-Some-row_among : goal.returns-in-Some-row_among
returns-in-Some-row_among c =
    let leaf = c.args.place.now.leaf in
    let cluster = c.args.place.now.cluster in
    let test = λ (row : AttributeRow). row.number == leaf in
    let own = told leaf c.row_among.ensures (ap option_copied (sym c.in_default.is)) c.attributes_of.ensures in
    let global = told leaf c.row_among-2.ensures (ap option_copied (sym c.in-Some-row_among.is)) c.globals.ensures in
    found-later test (attributes_of cluster) (globals ++ extensions_of cluster) (Some c.in-Some-row_among.row.now) own
    (found-first test globals (extensions_of cluster) c.in-Some-row_among.row.now global)

pub returns : goal.returns
returns c =
    let leaf = c.args.place.now.leaf in
    let cluster = c.args.place.now.cluster in
    let test = λ (row : AttributeRow). row.number == leaf in
    let own = told leaf c.row_among.ensures (ap option_copied (sym c.in_default.is)) c.attributes_of.ensures in
    let global = told leaf c.row_among-2.ensures (ap option_copied (sym c.in_default-row_among.is)) c.globals.ensures in
    let extension = c.row_among-3.ensures ∙ ap (λ rows. row_in rows leaf) c.extensions_of.ensures in
    found-later test (attributes_of cluster) (globals ++ extensions_of cluster) (option_copied c.row_among-3.result) own
    (found-later test globals (extensions_of cluster) (option_copied c.row_among-3.result) global extension)
