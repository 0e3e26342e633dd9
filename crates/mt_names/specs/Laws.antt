-- What holds of the names as a whole.
use Rattle.std.specs.Prelude.{ℕ, Bool, true, not, ◌==◌, ◌&&◌, List, [], ◌∷◌, is_some, bytes_eq}
use Rattle.std.specs.List.{flat_map, list_any}
use Rattle.mt_meta.specs.Table as rows
use Rattle.mt_names.specs.Columns.{Name, name_in}
use Rattle.mt_names.specs.Names.{all_attributes_of, clusters, commands_of, events_of, responses_of}

-- the clusters that stand on an endpoint
abbrev pub standing : List ℕ
standing = flat_map rows.clusters_of rows.endpoints

abbrev pub is_named : ℕ → Bool
is_named cluster = is_some (name_in cluster clusters)

abbrev pub stands : Name → Bool
stands name = list_any (λ cluster. cluster == name.0) standing

-- no two of a column have one number, or one name
abbrev pub differ : List Name → Bool
differ [] = true
differ (name ∷ names) = not (list_any (λ (other : Name). other.0 == name.0) names) && (not (list_any (λ (other : Name). bytes_eq other.1 name.1) names) && differ names)

-- of the columns of a cluster
abbrev pub columns_differ : Name → Bool
columns_differ cluster = differ (all_attributes_of cluster.0) && (differ (commands_of cluster.0) && (differ (responses_of cluster.0) && differ (events_of cluster.0)))
