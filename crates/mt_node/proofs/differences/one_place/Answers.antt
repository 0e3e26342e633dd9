use Rattle.std.proofs.Common.{is_ok, false, List, ◌++◌, [], ◌∷◌, ap, sym, ◌∙◌}
use Rattle.mt_model.specs.declared.rows.place.Place.{Place}
use Rattle.mt_meta.specs.Places.{all_places}
use Rattle.mt_node.specs.Differences.{differs_with}
use Rattle.mt_node.proofs.OnePlace.{none_is_there, none_passes, one_is_there, same_elsewhere}
use Rattle.mt_node.proofs.differences.one_place.Goals.{then-differs+then-is_ok+in_ok-push, else-differs, else-differs-via-then-differs+else-is_ok, else-differs-via-else-differs}
use Rattle.mt_node.proofs.differences.one_place.Goals as goal

pub returns : goal.returns
returns c =
    let place = c.args.place.now in
    let test = differs_with c.args.state.now c.args.steps.now false in
    let elsewhere = same_elsewhere c.args.state.now c.args.steps.now place c.requires in
    let found = c.places_are_found.ensures place in
    elim c.if-differs.branch [
      | then-differs+then-is_ok+in_ok-push w ↦
          w.places-is ∙ w.in_ok-push.ensures.ok ∙ ap (λ (l : List Place). l ++ place ∷ []) c.new-places.ensures
          ∙ sym (one_is_there test place elsewhere (sym c.differs.ensures ∙ w.if-differs.true) all_places c.places_ascend.ensures
          (sym found ∙ ap is_ok (sym w.find.ensures) ∙ sym w.is_ok.ensures.value ∙ w.if-is_ok.true))
      | else-differs w ↦ w.places-is ∙ c.new-places.ensures ∙ sym (elim w.else-differs.branch [
        | else-differs-via-then-differs+else-is_ok w' ↦ none_is_there test place elsewhere all_places (sym found ∙ ap is_ok (sym w'.find.ensures) ∙ sym w'.is_ok.ensures.value ∙ w'.if-is_ok.false)
        | else-differs-via-else-differs w' ↦ none_passes test place elsewhere (sym c.differs.ensures ∙ w'.if-differs.false) all_places
      ])
    ]
