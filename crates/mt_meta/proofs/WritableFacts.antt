-- What the attributes of the table take, by computation.
use Rattle.std.proofs.Common.{◌≡◌, ◌==◌, ◌&&◌, Bool, true, false, List, [], ◌∷◌, refl, sym, subst, ◌∙◌}
use Rattle.std.specs.Prelude.{IsTrue, is_ok}
use Rattle.std.specs.List.{list_all, list_any}
use Rattle.std.proofs.lemmas.Bool.{eqb-true}
use Rattle.mt_model.specs.declared.rows.place.Place.{Place}
use Rattle.mt_meta.specs.Finding.{find_of}
use Rattle.mt_meta.specs.Places.{all_places, is_at}
use Rattle.mt_meta.specs.Stored.{is_stored}
use Rattle.mt_meta.specs.Table.{attributes_of, clusters_of, endpoints, extensions_of, globals}
use Rattle.mt_meta.specs.Writable.{takes_rightly}
use Rattle.mt_meta.proofs.TableFacts.{found-listed}

all-take : IsTrue (list_all takes_rightly all_places)
unfolding endpoints clusters_of attributes_of globals extensions_of is_stored
all-take = refl

-- what holds of all, holds of one of which something else holds

and-both : (a b : Bool) → (a && b) ≡ true → (a ≡ true) × (b ≡ true)
and-both true b h = (refl, h)
and-both false b h = absurd cc

any-step : {X : Type 0} (q p : X → Bool) (x : X) (xs : List X) (here : Bool) → q x ≡ here → list_any q (x ∷ xs) ≡ true → (p x ≡ true) × (list_all p xs ≡ true)
    → (list_any q xs ≡ true → (y : X) × (q y ≡ true) × (p y ≡ true)) → (y : X) × (q y ≡ true) × (p y ≡ true)
any-step q p x xs true is any all rest = (x, is, all.0)
any-step q p x xs false is any all rest = rest (sym (rw is refl) ∙ any)

any-all : {X : Type 0} (q p : X → Bool) (xs : List X) → list_any q xs ≡ true → list_all p xs ≡ true → (y : X) × (q y ≡ true) × (p y ≡ true)
any-all q p [] any all = absurd cc
any-all q p (x ∷ xs) any all =
    let both = and-both (p x) (list_all p xs) all in
    any-step q p x xs (q x) refl any both (λ any_more. any-all q p xs any_more both.1)

at-same : (place listed : Place) → is_at place listed ≡ true → listed ≡ place
at-same place listed at =
    let outer = and-both (listed.endpoint == place.endpoint) (listed.cluster == place.cluster && listed.leaf == place.leaf) at in
    let inner = and-both (listed.cluster == place.cluster) (listed.leaf == place.leaf) outer.1 in
    let endpoint = eqb-true listed.endpoint place.endpoint outer.0 in
    let cluster = eqb-true listed.cluster place.cluster inner.0 in
    let leaf = eqb-true listed.leaf place.leaf inner.1 in
    λ i. record { endpoint = endpoint i; cluster = cluster i; leaf = leaf i }

pub found-takes : (place : Place) → is_ok (find_of place) ≡ true → takes_rightly place ≡ true
found-takes place there =
    let one = any-all (is_at place) takes_rightly all_places (sym (found-listed place) ∙ there) all-take in
    subst (λ p. takes_rightly p ≡ true) (at-same place one.0 one.1) one.2
