-- Of its own rows, and of nobody's, a fabric sees all.
use Rattle.std.proofs.Common.{◌≡◌, ◌==◌, ◌||◌, ℕ, Bool, true, false, cond, List, [], ◌∷◌, Ok, refl, ap, sym, ◌∙◌, map, if◌then◌else◌}
use Rattle.mt_tlv.specs.declared.value.Value.{Value}
use Rattle.mt_model.specs.rows.Sight.{bare_value, seen_by}
use Rattle.mt_model.specs.declared.rows.place.Row.{Row}
use Rattle.mt_model.specs.rows.Seen.{Seen}
use Rattle.mt_model.specs.declared.tables.access.Actor.{Actor}
use Rattle.mt_model.specs.declared.node.action.NodeStep.{NodeStep}
use Rattle.mt_model.specs.declared.messages.message.WriteItem.{WriteItem}
use Rattle.mt_model.specs.declared.rows.place.Place.{Place}
use Rattle.mt_meta.specs.declared.meta.Meta.{Meta}
use Rattle.mt_write.specs.Latest.{entries_now, rows_now}
use Rattle.mt_write.specs.Writing.{entries_written, fabric_of, is_entry_list, own_values, rows_written, written_at}

fabric-seen : (fabric : ℕ) (row : Row) → (seen_by fabric row).fabric ≡ row.fabric
fabric-seen fabric row = elim (row.fabric == fabric || row.fabric == 0) as (λ known. (if known then row else record row { value = bare_value row.place row.value }).fabric ≡ row.fabric) [ true ↦ refl | false ↦ refl ]

-- the writer's fabric, or nobody
abbrev pub whose : ℕ → Bool → ℕ
whose fabric scoped = if scoped then fabric else 0

or-true : (b : Bool) → (b || true) ≡ true
or-true true = refl
or-true false = refl

as-it-stands : (row : Row) (fabric : ℕ) (known : Bool) → known ≡ true → (if known then row else record row { value = bare_value row.place row.value }) ≡ row
as-it-stands row fabric true e = refl
as-it-stands row fabric false e = absurd cc

known : (fabric : ℕ) (scoped : Bool) (row : Row) → (row.fabric == whose fabric scoped) ≡ true → (row.fabric == fabric || row.fabric == 0) ≡ true
known fabric true row own = rw own refl
known fabric false row own = rw own (or-true (row.fabric == fabric))

row-seen : (fabric : ℕ) (scoped : Bool) (row : Row) → (row.fabric == whose fabric scoped) ≡ true → seen_by fabric row ≡ row
row-seen fabric scoped row own = as-it-stands row fabric (row.fabric == fabric || row.fabric == 0) (known fabric scoped row own)

abbrev value_in : Row → Value
value_in row = row.value

one_more : (own : Bool) (seen row : Row) (seens rows : List Row) → (own ≡ true → seen ≡ row) → map value_in seens ≡ map value_in rows
    → map value_in (cond own (seen ∷ seens) seens) ≡ map value_in (cond own (row ∷ rows) rows)
one_more true seen row seens rows same rest = λ i. value_in (same refl i) ∷ rest i
one_more false seen row seens rows same rest = rest

pub own_values_seen : (fabric : ℕ) (scoped : Bool) (rows : List Row) → own_values (whose fabric scoped) (map (seen_by fabric) rows) ≡ own_values (whose fabric scoped) rows
own_values_seen fabric scoped [] = refl
own_values_seen fabric scoped (row ∷ rows) =
    rw (fabric-seen fabric row) (one_more (row.fabric == whose fabric scoped) (seen_by fabric row) row _ _ (row-seen fabric scoped row) (own_values_seen fabric scoped rows))

-- the step of an item whose attribute is no access control list
pub rows_step_seen : (seen : Seen) (actor : Actor) (steps : List NodeStep) (item : WriteItem) (place : Place) (meta : Meta) (rows : List Row) (fabric : ℕ)
    → is_entry_list meta.kind ≡ false → fabric ≡ fabric_of actor meta → seen.rows_at place ≡ map (seen_by actor.fabric) rows
    → rows_written item place meta fabric (rows_now place fabric steps (own_values fabric rows)) ≡ written_at seen actor steps item place (Ok meta)
rows_step_seen seen actor steps item place meta rows fabric other whose-it sees =
    let own = fabric_of actor meta in
    ap (λ f. rows_written item place meta f (rows_now place f steps (own_values f rows))) whose-it
    ∙ ap (λ values. rows_written item place meta own (rows_now place own steps values)) (sym (own_values_seen actor.fabric meta.scoped rows))
    ∙ ap (λ all. rows_written item place meta own (rows_now place own steps (own_values own all))) (sym sees)
    ∙ ap (λ b. if b then entries_written item meta actor.fabric (entries_now actor.fabric steps seen.entries) else rows_written item place meta own (rows_now place own steps (own_values own (seen.rows_at place)))) (sym other)
