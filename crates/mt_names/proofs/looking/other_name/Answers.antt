use Rattle.std.proofs.Common.{Bor, List, ℕ, ◌==◌, ◌||◌, is_some, ◌∙◌, ap, sym}
use Rattle.std.specs.List.{list_any}
use Rattle.std.proofs.lemmas.List.Folds.{list_any-append}
use Rattle.std.specs.Option.{option_map}
use Rattle.mt_meta.specs.Table as rows
use Rattle.mt_meta.specs.declared.rows.AttributeRow.{AttributeRow}
use Rattle.mt_names.specs.Columns.{name_in}
use Rattle.mt_names.specs.Names.{extensions_of, globals}
use Rattle.mt_names.proofs.Lookups.{named_first, named_second, there, there_two}
use Rattle.mt_names.proofs.looking.other_name.Goals as goal

pub returns-in-Some-clause-name : goal.returns-in-Some-clause-name
returns-in-Some-clause-name c =
    sym (named_first c.args.attribute c.in-Some.name.now globals (extensions_of c.args.cluster)
    (sym (ap (option_map (λ (name : Bor (List ℕ)). name.now)) (sym c.in-Some.is) ∙ (c.name_among.ensures ∙ ap (name_in c.args.attribute) c.global_names.ensures.names))))

pub returns-in-None-clause-name : goal.returns-in-None-clause-name
returns-in-None-clause-name c =
    (c.name_among-in-None.ensures ∙ ap (name_in c.args.attribute) c.extension_names.ensures.names)
    ∙ sym (named_second c.args.attribute globals (extensions_of c.args.cluster)
    (sym (ap (option_map (λ (name : Bor (List ℕ)). name.now)) (sym c.in-None.is) ∙ (c.name_among.ensures ∙ ap (name_in c.args.attribute) c.global_names.ensures.names))))

pub returns-in-Some-clause-there : goal.returns-in-Some-clause-there
returns-in-Some-clause-there c =
    let here = there (λ (name : Bor (List ℕ)). name.now) c.name_among.result c.args.attribute c.global_names.result.now globals (λ (row : AttributeRow). row.number) rows.globals
    (c.name_among.ensures ∙ ap (name_in c.args.attribute) c.global_names.ensures.names) c.global_names.ensures.names c.global_names.ensures.numbers in
    let is = λ (row : AttributeRow). row.number == c.args.attribute in
    let others = rows.extensions_of c.args.cluster in
    sym (list_any-append is rows.globals others ∙ ap (λ b. b || list_any is others) (sym here ∙ ap is_some c.in-Some.is))

pub returns-in-None-clause-there : goal.returns-in-None-clause-there
returns-in-None-clause-there c =
    let first = c.name_among.ensures ∙ ap (name_in c.args.attribute) c.global_names.ensures.names in
    let second = c.name_among-in-None.ensures ∙ ap (name_in c.args.attribute) c.extension_names.ensures.names in
    there_two (λ (name : Bor (List ℕ)). name.now) c.name_among-in-None.result c.args.attribute c.global_names.result.now c.extension_names.result.now globals (extensions_of c.args.cluster) (λ (row : AttributeRow). row.number) rows.globals (rows.extensions_of c.args.cluster)
    (second ∙ sym (named_second c.args.attribute globals (extensions_of c.args.cluster) (sym (ap (option_map (λ (name : Bor (List ℕ)). name.now)) (sym c.in-None.is) ∙ first))))
    c.global_names.ensures.names c.global_names.ensures.numbers c.extension_names.ensures.names c.extension_names.ensures.numbers
