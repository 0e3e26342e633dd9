use Rattle.std.proofs.Common.{◌≡◌, List, [], ◌∷◌, None, refl, ap, ◌∙◌, filter}
use Rattle.mt_model.specs.declared.messages.message.Index.TheVariants.{Whole}
use Rattle.mt_model.specs.declared.messages.message.Path.{Path}
use Rattle.mt_model.specs.declared.rows.place.Place.{Place}
use Rattle.mt_meta.specs.Places.{all_places, is_named}
use Rattle.mt_meta.proofs.expansion.all_places.Goals as goal

abbrev everywhere : Path
everywhere = record { endpoint = None; cluster = None; leaf = None; index = Whole }

-- a path of wildcards names every place
names_all : (places : List Place) → filter (is_named everywhere) places ≡ places
names_all [] = refl
names_all (place ∷ places) = ap (λ (rest : List Place). place ∷ rest) (names_all places)

pub returns : goal.returns
returns c = c.from_vec.ensures ∙ c.in_ok-named.ensures ∙ names_all all_places
