-- What is shown of rows is made of what the reader's fabric sees of them.
use Rattle.std.proofs.Common.{◌≡◌, ◌==◌, ◌||◌, ◌++◌, ℕ, Bool, true, false, not, cond, List, [], ◌∷◌, refl, sym, ap, filter, map, if◌then◌else◌}
use Rattle.std.specs.List.{flat_map}
use Rattle.mt_tlv.specs.Tree.{more}
use Rattle.mt_tlv.specs.View.{elements, tree}
use Rattle.mt_tlv.specs.declared.value.Tag.{Tag}
use Rattle.mt_tlv.specs.declared.value.Tag.TheVariants.{Anonymous}
use Rattle.mt_tlv.specs.declared.value.Value.{Value}
use Rattle.mt_read.specs.Reading.{row_tree, wanted_rows}
use Rattle.mt_model.specs.Trees.{untagged}
use Rattle.mt_model.specs.rows.Shown.{first_value, shown_item, shown_items, shown_value}
use Rattle.mt_model.specs.rows.Sight.{bare_value, seen_by}
use Rattle.mt_model.specs.declared.tables.access.Actor.{Actor}
use Rattle.mt_model.specs.declared.rows.place.Row.{Row}

fabric-seen : (fabric : ℕ) (row : Row) → (seen_by fabric row).fabric ≡ row.fabric
fabric-seen fabric row = elim (row.fabric == fabric || row.fabric == 0) as (λ known. (if known then row else record row { value = bare_value row.place row.value }).fabric ≡ row.fabric) [ true ↦ refl | false ↦ refl ]

abbrev is_own : ℕ → Row → Bool
is_own fabric row = row.fabric == fabric

one_more : (fabric : ℕ) (row : Row) (rest : List (Tag × Value)) (seen : List Row) (own own_seen : Bool) → own ≡ own_seen → elements rest ≡ untagged row_tree seen
    → elements ((if not own then [] else (Anonymous, (seen_by fabric row).value) ∷ []) ++ rest) ≡ untagged row_tree (cond own_seen (seen_by fabric row ∷ seen) seen)
one_more fabric row rest seen true true same e = ap (λ es. more Anonymous (tree (seen_by fabric row).value) es) e
one_more fabric row rest seen false false same e = e
one_more fabric row rest seen true false same e = cc
one_more fabric row rest seen false true same e = cc

own_items : (fabric : ℕ) (rows : List Row) → shown_items fabric true rows ≡ untagged row_tree (filter (is_own fabric) (map (seen_by fabric) rows))
own_items fabric [] = refl
own_items fabric (row ∷ rows) = one_more fabric row (flat_map (shown_item fabric true) rows) (filter (is_own fabric) (map (seen_by fabric) rows)) (is_own fabric row) (is_own fabric (seen_by fabric row)) (ap (λ owner. owner == fabric) (sym (fabric-seen fabric row))) (own_items fabric rows)

all_items : (fabric : ℕ) (rows : List Row) → shown_items fabric false rows ≡ untagged row_tree (map (seen_by fabric) rows)
all_items fabric [] = refl
all_items fabric (row ∷ rows) = ap (λ es. more Anonymous (tree (seen_by fabric row).value) es) (all_items fabric rows)

pub shown_as_items : (actor : Actor) (filtered : Bool) (rows : List Row) → shown_items actor.fabric filtered rows ≡ untagged row_tree (wanted_rows actor filtered (map (seen_by actor.fabric) rows))
shown_as_items actor true rows = own_items actor.fabric rows
shown_as_items actor false rows = all_items actor.fabric rows

pub shown_as_first : (fabric : ℕ) (rows : List Row) → shown_value fabric rows ≡ first_value (map (seen_by fabric) rows)
shown_as_first fabric [] = refl
shown_as_first fabric (row ∷ rows) = refl
