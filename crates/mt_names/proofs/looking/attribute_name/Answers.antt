use Rattle.std.proofs.Common.{Bor, List, ℕ, ◌==◌, ◌||◌, ◌++◌, is_some, ◌∙◌, ap, sym}
use Rattle.std.specs.List.{list_any}
use Rattle.std.proofs.lemmas.List.Folds.{list_any-append}
use Rattle.std.specs.Option.{option_map}
use Rattle.mt_meta.specs.Table as rows
use Rattle.mt_meta.specs.declared.rows.AttributeRow.{AttributeRow}
use Rattle.mt_names.specs.Columns.{name_in}
use Rattle.mt_names.specs.Names.{attributes_of, extensions_of, globals}
use Rattle.mt_names.proofs.Lookups.{named_first, named_second, there}
use Rattle.mt_names.proofs.looking.attribute_name.Goals as goal

pub returns-in-Some-clause-name : goal.returns-in-Some-clause-name
returns-in-Some-clause-name c =
    sym (named_first c.args.attribute c.in-Some.name.now (attributes_of c.args.cluster) (globals ++ extensions_of c.args.cluster)
    (sym (ap (option_map (λ (name : Bor (List ℕ)). name.now)) (sym c.in-Some.is) ∙ (c.name_among.ensures ∙ ap (name_in c.args.attribute) c.attribute_names.ensures.names))))

pub returns-in-None-clause-name : goal.returns-in-None-clause-name
returns-in-None-clause-name c =
    c.other_name.ensures.name
    ∙ sym (named_second c.args.attribute (attributes_of c.args.cluster) (globals ++ extensions_of c.args.cluster)
    (sym (ap (option_map (λ (name : Bor (List ℕ)). name.now)) (sym c.in-None.is) ∙ (c.name_among.ensures ∙ ap (name_in c.args.attribute) c.attribute_names.ensures.names))))

pub returns-in-Some-clause-there : goal.returns-in-Some-clause-there
returns-in-Some-clause-there c =
    let here = there (λ (name : Bor (List ℕ)). name.now) c.name_among.result c.args.attribute c.attribute_names.result.now (attributes_of c.args.cluster) (λ (row : AttributeRow). row.number) (rows.attributes_of c.args.cluster)
    (c.name_among.ensures ∙ ap (name_in c.args.attribute) c.attribute_names.ensures.names) c.attribute_names.ensures.names c.attribute_names.ensures.numbers in
    let is = λ (row : AttributeRow). row.number == c.args.attribute in
    let others = rows.globals ++ rows.extensions_of c.args.cluster in
    sym (list_any-append is (rows.attributes_of c.args.cluster) others ∙ ap (λ b. b || list_any is others) (sym here ∙ ap is_some c.in-Some.is))

pub returns-in-None-clause-there : goal.returns-in-None-clause-there
returns-in-None-clause-there c =
    let here = there (λ (name : Bor (List ℕ)). name.now) c.name_among.result c.args.attribute c.attribute_names.result.now (attributes_of c.args.cluster) (λ (row : AttributeRow). row.number) (rows.attributes_of c.args.cluster)
    (c.name_among.ensures ∙ ap (name_in c.args.attribute) c.attribute_names.ensures.names) c.attribute_names.ensures.names c.attribute_names.ensures.numbers in
    let is = λ (row : AttributeRow). row.number == c.args.attribute in
    let others = rows.globals ++ rows.extensions_of c.args.cluster in
    c.other_name.ensures.there
    ∙ sym (list_any-append is (rows.attributes_of c.args.cluster) others ∙ ap (λ b. b || list_any is others) (sym here ∙ ap is_some c.in-None.is))
