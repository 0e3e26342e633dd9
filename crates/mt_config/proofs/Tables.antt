-- Reading fabrics and their entries one after the other, as a loop does.
use Rattle.std.proofs.Common.{◌≡◌, ℕ, ◌+◌, ◌<◌, List, [], ◌∷◌, ◌++◌, length, drop, get_or, Option, Some, None, option_map, refl, sym, ap, ◌∙◌, append_assoc}
use Rattle.std.proofs.lemmas.List.{drop_more}
use Rattle.serde_json.specs.View.{view, items_view}
use Rattle.serde_json.specs.declared.value.Value.{Value}
use Rattle.mt_model.specs.declared.tables.access.AclEntry.{AclEntry}
use Rattle.mt_model.specs.declared.tables.fabric.Fabric.{Fabric}
use Rattle.mt_config.specs.Gives.{Fails}
use Rattle.mt_config.specs.Json.{◌>>=◌}
use Rattle.mt_config.specs.Lists.{table_from}
use Rattle.mt_config.specs.Rows.{entries_of, fabric_of}
use Rattle.mt_config.specs.declared.json.Unread.{Unread}
use Rattle.mt_config.specs.declared.json.Unread.TheVariants.{Misformed, Memory}
use Rattle.mt_config.specs.declared.lists.Table.{Table}

drop_at : {X : Type 0} (xs : List X) (i : ℕ) (x : X) → i < length xs → x ≡ get_or xs i x → drop i xs ≡ x ∷ drop (i + 1) xs
drop_at xs i x lt is = drop_more xs i x lt ∙ ap (λ y. y ∷ drop (i + 1) xs) (sym is)

-- what was read before, and what is still read
abbrev pub with_fronts : List Fabric → List AclEntry → Option Table → Option Table
with_fronts fabrics entries read = option_map (λ (t : Table). record { fabrics = fabrics ++ t.fabrics; entries = entries ++ t.entries }) read

regroup : (fabrics : List Fabric) (entries : List AclEntry) (f : Fabric) (es : List AclEntry) (read : Option Table)
    → with_fronts fabrics entries (read >>= λ others. Some (record { fabrics = f ∷ others.fabrics; entries = es ++ others.entries })) ≡ with_fronts (fabrics ++ f ∷ []) (entries ++ es) read
regroup fabrics entries f es (Some t) = simp append_assoc
regroup fabrics entries f es None = refl

pub goes_on : (fabrics : List Fabric) (entries : List AclEntry) (vs : List Value) (i : ℕ) (v : Value) (f : Fabric) (es : List AclEntry) (total : Option Table)
    → i < length vs → v ≡ get_or vs i v → fabric_of (i + 1) (view v) ≡ Some f → entries_of (i + 1) (view v) ≡ Some es
    → with_fronts fabrics entries (table_from (i + 1) (items_view (drop i vs))) ≡ total
    → with_fronts (fabrics ++ f ∷ []) (entries ++ es) (table_from (i + 1 + 1) (items_view (drop (i + 1) vs))) ≡ total
goes_on fabrics entries vs i v f es total lt is h g so_far =
    let one : with_fronts fabrics entries (table_from (i + 1) (items_view (drop i vs))) ≡ with_fronts (fabrics ++ f ∷ []) (entries ++ es) (table_from (i + 1 + 1) (items_view (drop (i + 1) vs)))
    = rw (drop_at vs i v lt is, h, g) (regroup fabrics entries f es (table_from (i + 1 + 1) (items_view (drop (i + 1) vs)))) in
    sym one ∙ so_far

pub stops_at_fabric : (e : Unread) (fabrics : List Fabric) (entries : List AclEntry) (vs : List Value) (i : ℕ) (v : Value) (total : Option Table)
    → i < length vs → v ≡ get_or vs i v → Fails e (fabric_of (i + 1) (view v))
    → with_fronts fabrics entries (table_from (i + 1) (items_view (drop i vs))) ≡ total → Fails e total
stops_at_fabric Memory fabrics entries vs i v total lt is h so_far = tt
stops_at_fabric Misformed fabrics entries vs i v total lt is h so_far =
    let one : with_fronts fabrics entries (table_from (i + 1) (items_view (drop i vs))) ≡ None = rw (drop_at vs i v lt is, h) refl in
    sym so_far ∙ one

pub stops_at_entries : (e : Unread) (fabrics : List Fabric) (entries : List AclEntry) (vs : List Value) (i : ℕ) (v : Value) (f : Fabric) (total : Option Table)
    → i < length vs → v ≡ get_or vs i v → fabric_of (i + 1) (view v) ≡ Some f → Fails e (entries_of (i + 1) (view v))
    → with_fronts fabrics entries (table_from (i + 1) (items_view (drop i vs))) ≡ total → Fails e total
stops_at_entries Memory fabrics entries vs i v f total lt is h g so_far = tt
stops_at_entries Misformed fabrics entries vs i v f total lt is h g so_far =
    let one : with_fronts fabrics entries (table_from (i + 1) (items_view (drop i vs))) ≡ None = rw (drop_at vs i v lt is, h, g) refl in
    sym so_far ∙ one
