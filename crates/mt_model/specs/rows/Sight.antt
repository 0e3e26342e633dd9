-- What a fabric may see of the rows of others, and what of a state answers are made of.
use Rattle.std.specs.Prelude.{ℕ, ◌==◌, ◌&&◌, ◌||◌, not, Bool, List, unwrap_or, if◌then◌else◌}
use Rattle.std.specs.List.{find}
use Rattle.std.specs.Option.{option_map}
use Rattle.mt_tlv.specs.Tree.{Elements, none, more}
use Rattle.mt_tlv.specs.declared.value.Tag.{Tag}
use Rattle.mt_tlv.specs.declared.value.Tag.TheVariants.{Context}
use Rattle.mt_tlv.specs.declared.value.Value.{Value}
use Rattle.mt_tlv.specs.declared.value.Value.TheVariants as values
use Rattle.mt_model.specs.declared.rows.place.Place.{Place}
use Rattle.mt_model.specs.declared.rows.place.Row.{Row}
use Rattle.mt_model.specs.declared.node.state.Version.{Version}

abbrev pub same_place : Place → Place → Bool
same_place p q = p.endpoint == q.endpoint && (p.cluster == q.cluster && p.leaf == q.leaf)

abbrev pub stands_at : Place → Row → Bool
stands_at place row = same_place row.place place

-- the version of a cluster on an endpoint, 0 where there is none
abbrev pub version_in : List Version → ℕ → ℕ → ℕ
version_in versions endpoint cluster = unwrap_or (option_map (λ (v : Version). v.version) (find (λ (v : Version). v.endpoint == endpoint && v.cluster == cluster) versions)) 0

-- whether the attribute is the access control list, the list of NOCs, or the bench list, and whether the place is that of the group key sets
abbrev pub is_acl : Place → Bool
is_acl place = place.cluster == 0x1f && place.leaf == 0

abbrev pub is_nocs : Place → Bool
is_nocs place = place.cluster == 0x3e && place.leaf == 0

abbrev pub is_bench_list : Place → Bool
is_bench_list place = place.cluster == 0xfff1fc00 && place.leaf == 0

abbrev pub is_key_sets : Place → Bool
is_key_sets place = place.cluster == 0x3f && place.leaf == 0xfff10000

-- Which fields of an item are sensitive: of an access control entry and of a group key set all but 254, the fabric index; of
-- a NOC item the certificates; of a bench item the secret.
abbrev pub is_sensitive_field : Place → ℕ → Bool
is_sensitive_field place field =
    if is_acl place then not (field == 254)
    else if is_nocs place then field == 1 || field == 2
    else if is_key_sets place then not (field == 254)
    else is_bench_list place && field == 2

abbrev pub is_sensitive : Place → Tag → Bool
is_sensitive place (Context field) = is_sensitive_field place field
is_sensitive place tag = is_acl place || is_key_sets place

-- the members that are not sensitive, in their order
abbrev pub bare_elements : Place → Elements → Elements
bare_elements place none = none
bare_elements place (more tag v es) = if is_sensitive place tag then bare_elements place es else more tag v (bare_elements place es)

-- an item without its sensitive fields
abbrev pub bare_value : Place → Value → Value
bare_value place (values.Struct es) = values.Struct (bare_elements place es)
bare_value place value = value

-- A row as a fabric sees it: what is its own, or nobody's, as it stands, and what is another's
-- without its sensitive fields.
abbrev pub seen_by : ℕ → Row → Row
seen_by fabric row = if row.fabric == fabric || row.fabric == 0 then row else record row { value = bare_value row.place row.value }
