-- When a time step makes an expiry, and what it then leaves to a fabric that was neither added nor updated.
use Rattle.std.proofs.Common.{◌≡◌, ◌≢◌, ℕ, ◌==◌, ◌&&◌, ◌++◌, inl, inr, not, Bool, true, false, List, [], ◌∷◌, Option, Some, None, refl, sym, subst, ap, ◌∙◌, arith, filter, map, if◌then◌else◌}
use Rattle.std.specs.List.{find, list_all}
use Rattle.mt_failsafe.specs.Notes.{was_added, was_updated}
use Rattle.mt_tlv.specs.declared.value.Value.{Value}
use Rattle.mt_model.specs.Optional.{is_that}
use Rattle.mt_model.specs.rows.Order.{are_ascending}
use Rattle.mt_model.specs.rows.Setting.{is_above, is_at, is_below, is_entry_above, is_entry_below, is_entry_of, with_entries, with_rows}
use Rattle.mt_model.specs.tables.Leaving.{stays}
use Rattle.mt_model.specs.texts.Config.{ascend_from}
use Rattle.mt_model.specs.declared.node.action.NodeStep.TheVariants as steps
use Rattle.mt_model.specs.declared.node.action.PlainDeadline.{PlainDeadline}
use Rattle.mt_model.specs.declared.node.state.NodeState.{NodeState}
use Rattle.mt_model.specs.declared.rows.place.Place.{Place}
use Rattle.mt_model.specs.declared.rows.place.Row.{Row}
use Rattle.mt_model.specs.declared.tables.access.AclEntry.{AclEntry}
use Rattle.mt_model.specs.declared.tables.network.Armed.{Armed}
use Rattle.mt_machine.specs.Environment.{Environment}
use Rattle.mt_machine.specs.Changes.{settled}
use Rattle.mt_machine.specs.Effects.{after_all}
use Rattle.mt_machine.specs.Isolation.{is_deadline_in, own, own_of_whole}
use Rattle.mt_machine.specs.Lines.{next_tick}
use Rattle.mt_machine.specs.Rollback.{added_in, breadcrumb, deadlines_left, given_back, is_due, rollback, rolled_back}
use Rattle.mt_machine.specs.State.{IsValid, State, is_added, is_among, is_updated, keeps_facts}
use Rattle.mt_machine.specs.Step.{after_steps, aside_of, at_time, gone_between, window_steps}
use Rattle.mt_machine.proofs.Rolled.{given-index}
use Rattle.mt_machine.proofs.Order.{from_zero}
use Rattle.mt_machine.proofs.Steps.{own-kept}
use Rattle.mt_machine.proofs.Times.{fabrics-stay, gone_none}
use Rattle.mt_machine.proofs.Windows.{nobody_sets, windows_set}
use Rattle.mt_tlv.specs.declared.value.Value.TheVariants as values
use Rattle.mt_model.specs.declared.node.action.Action.TheVariants.{Expire}
use Rattle.mt_model.specs.declared.tables.fabric.Credentials.{Credentials}
use Rattle.mt_model.specs.declared.tables.fabric.Fabric.{Fabric}
use Rattle.std.proofs.lemmas.Bool.{and_parts, cases_Bool, eqb-true, or_left, or_right}
use Rattle.std.specs.Option.{option_map}
use Rattle.mt_machine.proofs.Spared.{both-filters, spared, stays-other}
use Rattle.mt_machine.proofs.Writes.{timed_valid}

same_number : (n : ℕ) → (n == n) ≡ true
same_number n = grind arith

and_false : (b : Bool) → (b && false) ≡ false
and_false true = refl
and_false false = refl

and_true : (b : Bool) → (b && true) ≡ b
and_true true = refl
and_true false = refl

not_not : (b : Bool) → not (not b) ≡ b
not_not true = refl
not_not false = refl

-- a fabric that was added is in the table
abbrev is_there : Option ℕ → List Fabric → Bool
is_there None fs = true
is_there (Some added) fs = is_among fs added

none_found : (fs : List Fabric) → find (λ (f : Fabric). is_that f.index None) fs ≡ None
none_found [] = refl
none_found (f ∷ fs) = none_found fs

one_found : (added : ℕ) (fs : List Fabric) → is_among fs added ≡ true → option_map (λ (f : Fabric). f.index) (find (λ (f : Fabric). is_that f.index (Some added)) fs) ≡ Some added
one_found added [] there = absurd (cc)
one_found added (f ∷ fs) there = elim (cases_Bool (f.index == added)) [
  | inl here ↦
      let same = eqb-true f.index added here in
      let its : (added == f.index) ≡ true = subst (λ n. (added == n) ≡ true) (sym same) (same_number added) in
      rw its (ap Some same)
  | inr other ↦
      let apart : (added == f.index) ≡ false = grind (arith, other) in
      rw apart (one_found added fs (rw other at there))
]

found_added : (added : Option ℕ) (fs : List Fabric) → is_there added fs ≡ true → option_map (λ (f : Fabric). f.index) (find (λ (f : Fabric). is_that f.index added) fs) ≡ added
found_added None fs there = ap (option_map (λ (f : Fabric). f.index)) (none_found fs)
found_added (Some added) fs there = one_found added fs there

-- the state behind a time step where it is due or is not
abbrev ticked : State → ℕ → Bool → State
ticked s ms due = record {
  node = after_steps None ((if due then steps.Expire ∷ [] else []) ++ window_steps s.node ms) (at_time ms s.node);
  deadlines = if due then deadlines_left s.node.armed s.deadlines else s.deadlines;
}

pub rolls : (given : Environment) (s : State) (ms : ℕ) → is_due s.node.armed ms ≡ true → next_tick given s ms ≡ record { node = settled (at_time ms s.node) (after_all None (window_steps s.node ms) (rollback (at_time ms s.node))); deadlines = deadlines_left s.node.armed s.deadlines }
rolls given s ms due = ap (ticked s ms) due

pub passes : (given : Environment) (s : State) (ms : ℕ) → is_due s.node.armed ms ≡ false → next_tick given s ms ≡ record s { node = settled (at_time ms s.node) (after_all None (window_steps s.node ms) (at_time ms s.node)) }
passes given s ms due = ap (ticked s ms) due

-- What leaves the table is the fabric that was added.

module _ (added updated : Option ℕ) (saved : Option Credentials) where
  abbrev behind : List Fabric → List Fabric
  behind fs = map (given_back updated saved) (filter (λ (f : Fabric). stays added f.index) fs)

  -- a fabric is among those behind where it was there and stays
  pub among-behind : (n : ℕ) (fs : List Fabric) → is_among (behind fs) n ≡ (stays added n && is_among fs n)
  among-behind n [] = sym (and_false (stays added n))
  among-behind n (f ∷ fs) =
      let rest = among-behind n fs in
      let same : ((given_back updated saved f).index == n) ≡ (f.index == n) = ap (λ m. m == n) (given-index updated saved f) in
      elim (cases_Bool (f.index == n)) [
        | inl here ↦
            let stay : stays added f.index ≡ stays added n = ap (stays added) (eqb-true f.index n here) in
            elim (cases_Bool (stays added n)) [
              | inl kept ↦
                  let its : stays added f.index ≡ true = stay ∙ kept in
                  rw (its, same, here, kept) refl
              | inr gone ↦
                  let its : stays added f.index ≡ false = stay ∙ gone in
                  rw its (rest ∙ ap (λ b. b && is_among fs n) gone ∙ sym (ap (λ b. b && is_among (f ∷ fs) n) gone))
            ]
        | inr other ↦ elim (cases_Bool (stays added f.index)) [
          | inl kept ↦ rw (kept, same, other) rest
          | inr gone ↦ rw (gone, other) rest
        ]
      ]

  abbrev is_out : List Fabric → Fabric → Bool
  is_out fs f = not (is_among (behind fs) f.index)

  out_is : (fs : List Fabric) (f : Fabric) → is_among fs f.index ≡ true → is_out fs f ≡ is_that f.index added
  out_is fs f there = ap not (among-behind f.index fs ∙ ap (λ b. stays added f.index && b) there ∙ and_true (stays added f.index)) ∙ not_not (is_that f.index added)

  found-alike : (p q : Fabric → Bool) (fs : List Fabric) → ((f : Fabric) → is_among fs f.index ≡ true → p f ≡ q f) → find p fs ≡ find q fs
  found-alike p q [] each = refl
  found-alike p q (f ∷ fs) each =
      let here = each f (or_left _ _ (same_number f.index)) in
      let rest = found-alike p q fs (λ g there. each g (or_right _ _ there)) in
      elim (cases_Bool (q f)) [ inl it_is ↦ rw (here, it_is) refl | inr it_is_not ↦ rw (here, it_is_not) rest ]

pub gone_is : (added updated : Option ℕ) (saved : Option Credentials) (fs : List Fabric) → is_there added fs ≡ true → gone_between fs (behind added updated saved fs) ≡ added
gone_is added updated saved fs there =
    ap (option_map (λ (f : Fabric). f.index)) (found-alike added updated saved (is_out added updated saved fs) (λ (f : Fabric). is_that f.index added) fs (out_is added updated saved fs))
    ∙ found_added added fs there

left_mine : (fabric : ℕ) (armed : Option Armed) (ds : List PlainDeadline) → was_added fabric armed ≡ false → filter (is_deadline_in fabric) (deadlines_left armed ds) ≡ filter (is_deadline_in fabric) ds
left_mine fabric None ds not_added = refl
left_mine fabric (Some armed) ds not_added =
    both-filters (is_deadline_in fabric) (λ (d : PlainDeadline). stays armed.added d.fabric) (λ d mine. stays-other armed.added fabric d.fabric not_added mine) ds

added_there : (fs : List Fabric) (armed : Armed) (added : Option ℕ) → is_added fs armed added ≡ true → is_there added fs ≡ true
added_there fs armed None is = refl
added_there fs armed (Some a) is = (and_parts (armed.context == a) (is_among fs a) is).1

gone_rolled : (armed : Option Armed) (s : NodeState) → keeps_facts s.fabrics armed ≡ true → gone_between s.fabrics (rolled_back armed s).fabrics ≡ added_in armed
gone_rolled None s facts = gone_none s.fabrics
gone_rolled (Some armed) s facts =
    gone_is armed.added armed.updated armed.saved_credentials s.fabrics (added_there s.fabrics armed armed.added (and_parts (is_added s.fabrics armed armed.added) (is_updated s.fabrics armed armed.added armed.updated) facts).0)

gone_where : (s : NodeState) (now : ℕ) (due : Bool) → keeps_facts s.fabrics s.armed ≡ true
    → gone_between s.fabrics (after_steps None ((if due then steps.Expire ∷ [] else []) ++ window_steps s now) (at_time now s)).fabrics ≡ (if due then added_in s.armed else None)
gone_where s now true facts = ap (gone_between s.fabrics) (fabrics-stay None (window_steps s now) (rollback (at_time now s)) (windows_set s now)) ∙ gone_rolled s.armed (at_time now s) facts
gone_where s now false facts = ap (gone_between s.fabrics) (fabrics-stay None (window_steps s now) (at_time now s) (windows_set s now)) ∙ gone_none s.fabrics

pub gone_by_expiry : (given : Environment) (s : NodeState) (now : ℕ) → IsValid s → (aside_of given s Expire now).gone ≡ (if is_due s.armed now then added_in s.armed else None)
gone_by_expiry given s now valid = gone_where s now (is_due s.armed now) valid.failsafe_facts

module _
    (rows_stay : (keep : Row → Bool) (rows : List Row) → are_ascending rows ≡ true → are_ascending (filter keep rows) ≡ true)
    (entries_stay : (keep : AclEntry → Bool) (least : ℕ) (entries : List AclEntry) → ascend_from least entries ≡ true → ascend_from least (filter keep entries) ≡ true)
    (rows_ascend : (rows : List Row) (place : Place) (whose : ℕ) (vs : List Value) → are_ascending rows ≡ true → are_ascending (with_rows place whose vs rows) ≡ true)
    (rows_apart : (rows : List Row) (place : Place) (whose : ℕ) → are_ascending rows ≡ true → filter (is_below place whose) rows ++ filter (is_above place whose) rows ≡ filter (λ (row : Row). not (is_at place whose row)) rows)
    (entries_ascend : (es new : List AclEntry) (whose : ℕ) → ascend_from 0 es ≡ true → list_all (is_entry_of whose) new ≡ true → ascend_from 0 (with_entries whose new es) ≡ true)
    (entries_apart : (es : List AclEntry) (whose : ℕ) → ascend_from 0 es ≡ true → filter (is_entry_below whose) es ++ filter (is_entry_above whose) es ≡ filter (λ (e : AclEntry). not (is_entry_of whose e)) es)
    (fabric : ℕ) where
  -- a rollback leaves rows and entries in their order

  rolled_rows : (armed : Option Armed) (t : NodeState) → are_ascending t.rows ≡ true → are_ascending (rolled_back armed t).rows ≡ true
  rolled_rows None t up = up
  rolled_rows (Some armed) t up =
      rows_ascend (filter (λ (row : Row). stays armed.added row.fabric) t.rows) breadcrumb 0 (values.Uint 0 ∷ []) (rows_stay (λ (row : Row). stays armed.added row.fabric) t.rows up)

  rolled_entries : (armed : Option Armed) (t : NodeState) → ascend_from 0 t.entries ≡ true → ascend_from 0 (rolled_back armed t).entries ≡ true
  rolled_entries None t up = up
  rolled_entries (Some armed) t up = entries_stay (λ (entry : AclEntry). stays armed.added entry.fabric) 0 t.entries up

  -- closing a window leaves the own part as it is
  windows_spare : (s t : NodeState) (now : ℕ) → fabric ≢ 0 → are_ascending t.rows ≡ true → ascend_from 0 t.entries ≡ true → own fabric (after_all None (window_steps s now) t) ≡ own fabric t
  windows_spare s t now some up up_entries =
      let apart : (0 == fabric) ≡ false = grind (arith, some) in
      own-kept rows_ascend rows_apart entries_ascend entries_apart fabric 0 apart None (window_steps s now) t up up_entries (nobody_sets s now)

  ticked_own : (s : State) (ms : ℕ) (due : Bool) → IsValid s.node → fabric ≢ 0 → was_added fabric s.node.armed ≡ false → was_updated fabric s.node.armed ≡ false → own_of_whole fabric (ticked s ms due) ≡ own_of_whole fabric s
  ticked_own s ms true valid some not_added not_updated = λ i. record {
    node = (windows_spare s.node (rollback (at_time ms s.node)) ms some (rolled_rows s.node.armed (at_time ms s.node) valid.rows_rise) (rolled_entries s.node.armed (at_time ms s.node) (from_zero s.node.entries valid.entries_rise))
        ∙ spared rows_stay entries_stay rows_ascend rows_apart entries_ascend entries_apart fabric some s.node.armed (at_time ms s.node) refl (timed_valid s.node ms valid) not_added not_updated) i;
    deadlines = left_mine fabric s.node.armed s.deadlines not_added i;
  }
  ticked_own s ms false valid some not_added not_updated = λ i. record {
    node = windows_spare s.node (at_time ms s.node) ms some valid.rows_rise (from_zero s.node.entries valid.entries_rise) i;
    deadlines = filter (is_deadline_in fabric) s.deadlines;
  }

  pub ticks_spare : (given : Environment) (s : State) (ms : ℕ) → IsValid s.node → fabric ≢ 0 → was_added fabric s.node.armed ≡ false → was_updated fabric s.node.armed ≡ false → own_of_whole fabric (next_tick given s ms) ≡ own_of_whole fabric s
  ticks_spare given s ms = ticked_own s ms (is_due s.node.armed ms)
