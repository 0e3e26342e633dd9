-- The value of an attribute with one value is read back as its row.
use Rattle.std.proofs.Common.{◌≡◌, ◌∙◌, sym, ap, inl, inr, ℕ, ◌&&◌, ◌==◌, not, Bool, true, false, List, [], ◌∷◌, Option, Some, filter, length, arith}
use Rattle.std.proofs.lemmas.Bool.{and_parts, cases_Bool, eqb-true}
use Rattle.std.specs.List.{list_all}
use Rattle.mt_tlv.specs.View.{tree}
use Rattle.mt_model.specs.rows.Order.{row_at}
use Rattle.mt_model.specs.rows.Sight.{stands_at}
use Rattle.mt_model.specs.declared.node.state.NodeState.{NodeState}
use Rattle.mt_model.specs.declared.rows.place.Place.{Place}
use Rattle.mt_model.specs.declared.rows.place.Row.{Row}
use Rattle.mt_meta.specs.Forms.{has_form}
use Rattle.mt_meta.specs.declared.meta.Meta.{Meta}
use Rattle.mt_meta.specs.declared.rows.AttributeRow.{AttributeRow}
use Rattle.mt_grammar.specs.Decoding.{kept_after, with_rows}
use Rattle.mt_grammar.specs.Values.{is_first, is_first_at, is_first_in}
use Rattle.mt_grammar.specs.declared.kept.MapContents.{MapContents}
use Rattle.mt_grammar.specs.declared.keys.Key.{Key}
use Rattle.mt_grammar.specs.declared.keys.Key.TheVariants as keys
use Rattle.mt_lasting.specs.Contents.{entry_if}
use Rattle.mt_lasting.specs.Values.{single_in, unless_first}
use Rattle.mt_lasting.proofs.Folding.{IsAdded, and_lists, none_added, one_read, rows_added, with_under}
use Rattle.mt_lasting.proofs.PlaceFacts.{IsSingle}
use Rattle.mt_lasting.proofs.Lists.{filter-both, place-same}

-- a row of this form, that is no fabric's
abbrev pub fits_single : Place → Meta → Row → Bool
fits_single place meta row = stands_at place row && (has_form meta 0 row.value && row.fabric == 0)

module _ (s : NodeState) (ceiling : ℕ) (place : Place) (facts : IsSingle place) where
  abbrev here : Key
  here = keys.Single place

  -- what stands there, unless it is as it first is
  abbrev rows_of_value : Row → List Row
  rows_of_value row = filter (λ (r : Row). not (is_first_at place r.value)) (row ∷ [])

  stands : (kept : MapContents) (row : Row) → fits_single place facts.row.meta row ≡ true → is_first_at place row.value ≡ false → with_under kept (Some row.value) here ≡ Some (and_lists kept (row ∷ []) [] [])
  stands kept row fits differs =
      let parts = and_parts (stands_at place row) (has_form facts.row.meta 0 row.value && row.fabric == 0) fits in
      let form = and_parts (has_form facts.row.meta 0 row.value) (row.fabric == 0) parts.1 in
      let there : row.place ≡ place = place-same row.place place parts.0 in
      let nobody : row.fabric ≡ 0 = eqb-true row.fabric 0 form.1 in
      let not_first : is_first facts.row.origin (tree row.value) ≡ false = ap (λ (r : Option AttributeRow). is_first_in r row.value) (sym facts.is_attribute) ∙ differs in
      let itself : row_at place 0 row.value ≡ row = λ i. record { place = sym there i; fabric = sym nobody i; value = row.value } in
      rw (facts.is_attribute, facts.single, form.0, not_first) (ap (λ (r : Row). with_rows kept (Some (r ∷ []))) itself ∙ rows_added kept (row ∷ []))

  of_value : (kept : MapContents) (row : Row) → fits_single place facts.row.meta row ≡ true → kept_after (Some kept) (entry_if here (unless_first place row.value)) ≡ Some (and_lists kept (rows_of_value row) [] [])
  of_value kept row fits = elim (cases_Bool (is_first_at place row.value)) [
    | inl first ↦ rw first (ap Some (none_added kept))
    | inr differs ↦ rw differs (one_read kept (Some row.value) here facts.key ∙ stands kept row fits differs)
  ]

  -- of one row
  of_rows : (kept : MapContents) (rows : List Row) → length rows ≡ 1 → list_all (fits_single place facts.row.meta) rows ≡ true
      → kept_after (Some kept) (entry_if here (single_in place rows)) ≡ Some (and_lists kept (filter (λ (r : Row). not (is_first_at place r.value)) rows) [] [])
  of_rows kept [] one fit = absurd (omega (arith, one))
  of_rows kept (row ∷ []) one fit = of_value kept row (and_parts (fits_single place facts.row.meta row) true fit).0
  of_rows kept (row ∷ next ∷ rows) one fit = absurd (omega (arith, one))

  pub single_added : length (filter (stands_at place) s.rows) ≡ 1 → list_all (fits_single place facts.row.meta) (filter (stands_at place) s.rows) ≡ true → IsAdded s ceiling here
  single_added one fit kept =
      of_rows kept (filter (stands_at place) s.rows) one fit
      ∙ ap (λ (rows : List Row). Some (and_lists kept rows [] [])) (sym (filter-both (stands_at place) (λ (r : Row). not (is_first_at place r.value)) s.rows))
