-- The places of attributes, and those that a path names (Matter Core Specification, section 8.2.1, Path).
use Rattle.std.specs.Prelude.{ℕ, ◌==◌, nat_lt, ◌&&◌, ◌||◌, not, Bool, true, false, is_none, List, [], ◌∷◌, Option, Some, None, map, filter}
use Rattle.std.specs.List.{flat_map, list_any}
use Rattle.mt_model.specs.Optional.{fits}
use Rattle.mt_model.specs.rows.Order.{stands_before}
use Rattle.mt_model.specs.rows.Sight.{same_place}
use Rattle.mt_model.specs.declared.messages.message.Path.{Path}
use Rattle.mt_model.specs.declared.rows.place.Place.{Place}
use Rattle.mt_meta.specs.declared.rows.AttributeRow.{AttributeRow}
use Rattle.mt_meta.specs.Table.{all_attributes_of, all_data_of, clusters_of, endpoints, globals}

abbrev pub place_of : ℕ → ℕ → AttributeRow → Place
place_of endpoint cluster row = record { endpoint = endpoint; cluster = cluster; leaf = row.number }

-- the places of a cluster on an endpoint
abbrev pub places_of_cluster : ℕ → ℕ → List Place
places_of_cluster endpoint cluster = map (place_of endpoint cluster) (all_attributes_of cluster)

abbrev pub places_of_endpoint : ℕ → List Place
places_of_endpoint endpoint = flat_map (places_of_cluster endpoint) (clusters_of endpoint)

-- all places, ascending by endpoint, cluster and attribute
abbrev pub all_places : List Place
all_places = flat_map places_of_endpoint endpoints

-- The places of all data, which are those at which rows may stand.

abbrev pub data_of_cluster : ℕ → ℕ → List Place
data_of_cluster endpoint cluster = map (place_of endpoint cluster) (all_data_of cluster)

abbrev pub data_of_endpoint : ℕ → List Place
data_of_endpoint endpoint = flat_map (data_of_cluster endpoint) (clusters_of endpoint)

abbrev pub data_places : List Place
data_places = flat_map data_of_endpoint endpoints

-- the place has each field that the path has
abbrev pub is_named : Path → Place → Bool
is_named path place = fits path.endpoint place.endpoint && (fits path.cluster place.cluster && fits path.leaf place.leaf)

-- one of the paths names the place
abbrev pub is_named_by : List Path → Place → Bool
is_named_by paths place = list_any (λ path. is_named path place) paths

-- the places that a path names
abbrev pub places : Path → List Place
places path = filter (is_named path) all_places

-- whether every cluster has the attribute
abbrev pub is_global : ℕ → Bool
is_global attribute = list_any (λ row. row.number == attribute) globals

-- whether an attribute is given, and it is not global
abbrev pub is_particular : Option ℕ → Bool
is_particular None = false
is_particular (Some attribute) = not (is_global attribute)

-- of every cluster only a global attribute may be asked
abbrev pub is_not_global : Path → Bool
is_not_global path = is_none path.cluster && is_particular path.leaf

-- Order.

-- whether each place stands before the next
abbrev pub ascend_from : Place → List Place → Bool
ascend_from p [] = true
ascend_from p (q ∷ places) = stands_before p q && ascend_from q places

abbrev pub ascend : List Place → Bool
ascend [] = true
ascend (p ∷ places) = ascend_from p places

abbrev pub is_at : Place → Place → Bool
is_at place listed = same_place listed place
