use Rattle.std.proofs.Common.{List, IsOk, All, sym, ◌∙◌, subst}
use Rattle.mt_model.specs.declared.rows.place.Place.{Place}
use Rattle.mt_meta.specs.Finding.{find_of}
use Rattle.mt_meta.proofs.TableFacts.{named-found}
use Rattle.mt_meta.proofs.expansion.expand.Goals as goal

pub returns-in-Ok-clause-found : goal.returns-in-Ok-clause-found
returns-in-Ok-clause-found c =
    let P : List Place → Type 0 = λ named. All (λ place. IsOk (find_of place)) named in
    subst P (sym (c.from_vec.ensures ∙ c.in-Ok.ensures)) (named-found c.args.path.now)
