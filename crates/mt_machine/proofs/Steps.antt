-- What steps leave of a fabric's own part.
use Rattle.std.proofs.Common.{◌≡◌, ℕ, ◌==◌, ◌&&◌, not, Bool, true, false, List, [], ◌∷◌, ◌++◌, Option, refl, sym, ap, ◌∙◌, filter, map, arith, if◌then◌else◌}
use Rattle.std.specs.List.{list_all}
use Rattle.std.proofs.lemmas.Bool.{and_parts}
use Rattle.std.proofs.lemmas.List.Elements.{filter-append}
use Rattle.mt_tlv.specs.declared.value.Value.{Value}
use Rattle.mt_model.specs.rows.Order.{are_ascending, row_at}
use Rattle.mt_model.specs.rows.Seen.{own_entries}
use Rattle.mt_model.specs.rows.Setting.{is_above, is_at, is_below, is_entry_above, is_entry_below, is_entry_of, with_entries, with_rows}
use Rattle.mt_model.specs.texts.Config.{ascend_from}
use Rattle.mt_model.specs.declared.tables.access.AclEntry.{AclEntry}
use Rattle.mt_model.specs.declared.tables.access.Actor.{Actor}
use Rattle.mt_model.specs.declared.node.action.NodeStep.{NodeStep}
use Rattle.mt_model.specs.declared.node.action.NodeStep.TheVariants.{SetRow, SetEntries, PutNetwork, RemoveNetwork, ConnectNetwork, MoveNetwork, Arm, Renew, Expire, Complete, AddRoot, Csr, AddFabric, UpdateFabric, RemoveFabric, Label, Emit}
use Rattle.mt_model.specs.declared.node.state.NodeState.{NodeState}
use Rattle.mt_model.specs.declared.rows.place.Place.{Place}
use Rattle.mt_model.specs.declared.rows.place.Row.{Row}
use Rattle.mt_machine.specs.Effects.{after, after_all, is_setting_step}
use Rattle.mt_machine.specs.Isolation.{Own, own, owns}
use Rattle.mt_machine.specs.Settings.{setting_cases}

-- Two filters give the same in either order.

rows-swap : (p q : Row → Bool) (rows : List Row) → filter p (filter q rows) ≡ filter q (filter p rows)
rows-swap p q [] = refl
rows-swap p q (row ∷ rows) = grind (arith, rows-swap p q rows)

entries-swap : (p q : AclEntry → Bool) (es : List AclEntry) → filter p (filter q es) ≡ filter q (filter p es)
entries-swap p q [] = refl
entries-swap p q (e ∷ es) = grind (arith, entries-swap p q es)

-- The own part behind a step is made of the own part before it.
module _ (fabric : ℕ) where
  abbrev rows_after : Place → ℕ → List Value → List Row → List Row
  rows_after place whose values mine = filter (is_below place whose) mine ++ (filter (owns fabric) (map (row_at place whose) values) ++ filter (is_above place whose) mine)

  abbrev entries_after : ℕ → List AclEntry → List AclEntry → List AclEntry
  entries_after whose new mine = filter (is_entry_below whose) mine ++ (own_entries fabric new ++ filter (is_entry_above whose) mine)

  abbrev own_after : NodeStep → Own → Own
  own_after (SetRow place whose values) o = record o { rows = rows_after place whose values o.rows }
  own_after (SetEntries whose entries) o = record o { entries = entries_after whose entries o.entries }
  own_after step o = o

  rows-own : (place : Place) (whose : ℕ) (values : List Value) (rows : List Row) → filter (owns fabric) (with_rows place whose values rows) ≡ rows_after place whose values (filter (owns fabric) rows)
  rows-own place whose values rows =
      filter-append (owns fabric) (filter (is_below place whose) rows) (map (row_at place whose) values ++ filter (is_above place whose) rows)
      ∙ ap (λ (rs : List Row). filter (owns fabric) (filter (is_below place whose) rows) ++ rs) (filter-append (owns fabric) (map (row_at place whose) values) (filter (is_above place whose) rows))
      ∙ (λ i. rows-swap (owns fabric) (is_below place whose) rows i ++ (filter (owns fabric) (map (row_at place whose) values) ++ rows-swap (owns fabric) (is_above place whose) rows i))

  entries-own : (whose : ℕ) (new es : List AclEntry) → own_entries fabric (with_entries whose new es) ≡ entries_after whose new (own_entries fabric es)
  entries-own whose new es =
      filter-append (is_entry_of fabric) (filter (is_entry_below whose) es) (new ++ filter (is_entry_above whose) es)
      ∙ ap (λ (rest : List AclEntry). own_entries fabric (filter (is_entry_below whose) es) ++ rest) (filter-append (is_entry_of fabric) new (filter (is_entry_above whose) es))
      ∙ (λ i. entries-swap (is_entry_of fabric) (is_entry_below whose) es i ++ (own_entries fabric new ++ entries-swap (is_entry_of fabric) (is_entry_above whose) es i))

  own-after : (asker : Option Actor) (step : NodeStep) (s : NodeState) → is_setting_step step ≡ true → own fabric (after asker step s) ≡ own_after step (own fabric s)
  own-after asker step s =
      setting_cases (λ (step : NodeStep). own fabric (after asker step s) ≡ own_after step (own fabric s))
      (λ place whose values stored. ap (λ (rows : List Row). record (own fabric s) { rows = rows }) (rows-own place whose values s.rows))
      (λ whose entries all. ap (λ (es : List AclEntry). record (own fabric s) { entries = es }) (entries-own whose entries s.entries))
      (λ place priority whose value. refl) step

  -- so where own parts are equal before such steps, they are behind them
  pub own-alike : (asker other : Option Actor) (steps : List NodeStep) (s t : NodeState) → list_all is_setting_step steps ≡ true → own fabric s ≡ own fabric t → own fabric (after_all asker steps s) ≡ own fabric (after_all other steps t)
  own-alike asker other [] s t sets same = same
  own-alike asker other (step ∷ steps) s t sets same =
      let both = and_parts (is_setting_step step) (list_all is_setting_step steps) sets in
      own-alike asker other steps (after asker step s) (after other step t) both.1 (own-after asker step s both.0 ∙ ap (own_after step) same ∙ sym (own-after other step t both.0))

-- What is set for a fabric is no other's own.

-- a step that sets rows or entries of this fabric, or rows of nobody
abbrev pub is_step_of : ℕ → NodeStep → Bool
is_step_of writer (SetRow place whose values) = if whose == 0 then true else whose == writer
is_step_of writer (SetEntries whose entries) = whose == writer && list_all (is_entry_of whose) entries
is_step_of writer (Emit place priority whose value) = whose == writer
is_step_of writer step = false

none_owned : (fabric whose : ℕ) (place : Place) (values : List Value) → (whose == fabric && not (whose == 0)) ≡ false → filter (owns fabric) (map (row_at place whose) values) ≡ []
none_owned fabric whose place [] other = refl
none_owned fabric whose place (value ∷ values) other = rw other (none_owned fabric whose place values other)

owned_stay : (fabric whose : ℕ) (place : Place) (rows : List Row) → (whose == fabric && not (whose == 0)) ≡ false → filter (owns fabric) (filter (λ (row : Row). not (is_at place whose row)) rows) ≡ filter (owns fabric) rows
owned_stay fabric whose place [] other = refl
owned_stay fabric whose place (row ∷ rows) other = grind (arith, owned_stay fabric whose place rows other, other)

none_of : (fabric whose : ℕ) (new : List AclEntry) → (whose == fabric) ≡ false → list_all (is_entry_of whose) new ≡ true → own_entries fabric new ≡ []
none_of fabric whose [] other all = refl
none_of fabric whose (e ∷ es) other all =
    let parts = and_parts (e.fabric == whose) (list_all (is_entry_of whose) es) all in
    let rest = none_of fabric whose es other parts.1 in
    grind (arith, rest, parts.0, other)

entries_stay : (fabric whose : ℕ) (es : List AclEntry) → (whose == fabric) ≡ false → own_entries fabric (filter (λ (e : AclEntry). not (is_entry_of whose e)) es) ≡ own_entries fabric es
entries_stay fabric whose [] other = refl
entries_stay fabric whose (e ∷ es) other = grind (arith, entries_stay fabric whose es other, other)

-- By the laws of the model on rows and entries that are set.
module _
    (rows_ascend : (rows : List Row) (place : Place) (whose : ℕ) (values : List Value) → are_ascending rows ≡ true → are_ascending (with_rows place whose values rows) ≡ true)
    (rows_apart : (rows : List Row) (place : Place) (whose : ℕ) → are_ascending rows ≡ true → filter (is_below place whose) rows ++ filter (is_above place whose) rows ≡ filter (λ (row : Row). not (is_at place whose row)) rows)
    (entries_ascend : (es new : List AclEntry) (whose : ℕ) → ascend_from 0 es ≡ true → list_all (is_entry_of whose) new ≡ true → ascend_from 0 (with_entries whose new es) ≡ true)
    (entries_apart : (es : List AclEntry) (whose : ℕ) → ascend_from 0 es ≡ true → filter (is_entry_below whose) es ++ filter (is_entry_above whose) es ≡ filter (λ (e : AclEntry). not (is_entry_of whose e)) es)
    (fabric writer : ℕ) (apart : (writer == fabric) ≡ false) where
  not_mine : (whose : ℕ) → (if whose == 0 then true else whose == writer) ≡ true → (whose == fabric && not (whose == 0)) ≡ false
  not_mine whose is = grind (arith, is, apart)

  rows-kept : (place : Place) (whose : ℕ) (values : List Value) (rows : List Row) → (whose == fabric && not (whose == 0)) ≡ false → are_ascending rows ≡ true
      → filter (owns fabric) (with_rows place whose values rows) ≡ filter (owns fabric) rows
  rows-kept place whose values rows other up =
      filter-append (owns fabric) (filter (is_below place whose) rows) (map (row_at place whose) values ++ filter (is_above place whose) rows)
      ∙ ap (λ (rs : List Row). filter (owns fabric) (filter (is_below place whose) rows) ++ rs) (filter-append (owns fabric) (map (row_at place whose) values) (filter (is_above place whose) rows))
      ∙ ap (λ (rs : List Row). filter (owns fabric) (filter (is_below place whose) rows) ++ (rs ++ filter (owns fabric) (filter (is_above place whose) rows))) (none_owned fabric whose place values other)
      ∙ sym (filter-append (owns fabric) (filter (is_below place whose) rows) (filter (is_above place whose) rows))
      ∙ ap (filter (owns fabric)) (rows_apart rows place whose up)
      ∙ owned_stay fabric whose place rows other

  entries-kept : (whose : ℕ) (new es : List AclEntry) → (whose == fabric) ≡ false → list_all (is_entry_of whose) new ≡ true → ascend_from 0 es ≡ true
      → own_entries fabric (with_entries whose new es) ≡ own_entries fabric es
  entries-kept whose new es other all up =
      filter-append (is_entry_of fabric) (filter (is_entry_below whose) es) (new ++ filter (is_entry_above whose) es)
      ∙ ap (λ (rest : List AclEntry). own_entries fabric (filter (is_entry_below whose) es) ++ rest) (filter-append (is_entry_of fabric) new (filter (is_entry_above whose) es))
      ∙ ap (λ (rest : List AclEntry). own_entries fabric (filter (is_entry_below whose) es) ++ (rest ++ own_entries fabric (filter (is_entry_above whose) es))) (none_of fabric whose new other all)
      ∙ sym (filter-append (is_entry_of fabric) (filter (is_entry_below whose) es) (filter (is_entry_above whose) es))
      ∙ ap (own_entries fabric) (entries_apart es whose up)
      ∙ entries_stay fabric whose es other

  same_fabric : (whose : ℕ) → (whose == writer) ≡ true → (whose == fabric) ≡ false
  same_fabric whose is = grind (arith, is, apart)

  -- another's steps leave the own part as it is
  pub own-kept : (asker : Option Actor) (steps : List NodeStep) (s : NodeState) → are_ascending s.rows ≡ true → ascend_from 0 s.entries ≡ true → list_all (is_step_of writer) steps ≡ true → own fabric (after_all asker steps s) ≡ own fabric s
  own-kept asker [] s up up_entries all = refl
  own-kept asker (SetRow place whose values ∷ steps) s up up_entries all =
      let parts = and_parts (if whose == 0 then true else whose == writer) (list_all (is_step_of writer) steps) all in
      own-kept asker steps (after asker (SetRow place whose values) s) (rows_ascend s.rows place whose values up) up_entries parts.1
      ∙ ap (λ (rows : List Row). record (own fabric s) { rows = rows }) (rows-kept place whose values s.rows (not_mine whose parts.0) up)
  own-kept asker (SetEntries whose entries ∷ steps) s up up_entries all =
      let parts = and_parts (whose == writer && list_all (is_entry_of whose) entries) (list_all (is_step_of writer) steps) all in
      let both = and_parts (whose == writer) (list_all (is_entry_of whose) entries) parts.0 in
      own-kept asker steps (after asker (SetEntries whose entries) s) up (entries_ascend s.entries entries whose up_entries both.1) parts.1
      ∙ ap (λ (es : List AclEntry). record (own fabric s) { entries = es }) (entries-kept whose entries s.entries (same_fabric whose both.0) both.1 up_entries)
  own-kept asker (PutNetwork id secret ∷ steps) s up up_entries all = absurd (cc)
  own-kept asker (RemoveNetwork id ∷ steps) s up up_entries all = absurd (cc)
  own-kept asker (ConnectNetwork id ∷ steps) s up up_entries all = absurd (cc)
  own-kept asker (MoveNetwork id index ∷ steps) s up up_entries all = absurd (cc)
  own-kept asker (Arm owner seconds ∷ steps) s up up_entries all = absurd (cc)
  own-kept asker (Renew seconds ∷ steps) s up up_entries all = absurd (cc)
  own-kept asker (Expire ∷ steps) s up up_entries all = absurd (cc)
  own-kept asker (Complete ∷ steps) s up up_entries all = absurd (cc)
  own-kept asker (AddRoot cert ∷ steps) s up up_entries all = absurd (cc)
  own-kept asker (Csr nonce update ∷ steps) s up up_entries all = absurd (cc)
  own-kept asker (AddFabric joins ∷ steps) s up up_entries all = absurd (cc)
  own-kept asker (UpdateFabric index given ∷ steps) s up up_entries all = absurd (cc)
  own-kept asker (RemoveFabric index ∷ steps) s up up_entries all = absurd (cc)
  own-kept asker (Label index label ∷ steps) s up up_entries all = absurd (cc)
  own-kept asker (Emit place priority whose value ∷ steps) s up up_entries all = own-kept asker steps s up up_entries (and_parts (whose == writer) (list_all (is_step_of writer) steps) all).1
