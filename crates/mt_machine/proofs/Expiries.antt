-- Expiries come first among the steps of an action, and what a rollback leaves of rows.
use Rattle.std.proofs.Common.{◌≡◌, ℕ, ◌==◌, ◌&&◌, inl, inr, not, Bool, true, false, List, [], ◌∷◌, ◌++◌, Option, Some, None, option_map, append-nil, refl, sym, ap, ◌∙◌, subst, filter, map, drop, if◌then◌else◌}
use Rattle.std.proofs.lemmas.Bool.{and_from, and_parts, cases_Bool, eq-eqb}
use Rattle.std.proofs.lemmas.List.Elements.{filter-append}
use Rattle.std.specs.List.{list_all, list_any}
use Rattle.mt_tlv.specs.declared.value.Value.{Value}
use Rattle.mt_tlv.specs.declared.value.Value.TheVariants as values
use Rattle.mt_commission.specs.Laws as commission_laws
use Rattle.mt_commission.specs.Laws.{StepsAreSound, StepsStandFirst}
use Rattle.mt_failsafe.specs.Calls.{is_context}
use Rattle.mt_model.specs.rows.Order.{are_ascending, row_at}
use Rattle.mt_model.specs.rows.Setting.{is_above, is_at, is_below, with_rows}
use Rattle.mt_model.specs.tables.Known.{Known, bare_armed, bare_network, known_to}
use Rattle.mt_model.specs.tables.Leaving.{stays}
use Rattle.mt_model.specs.declared.messages.message.Request.{Request}
use Rattle.mt_model.specs.declared.node.action.Action.{Action}
use Rattle.mt_model.specs.declared.node.action.Action.TheVariants.{Ask, Nothing}
use Rattle.mt_model.specs.declared.node.action.Action.TheVariants as actions
use Rattle.mt_model.specs.declared.node.action.NodeStep.{NodeStep}
use Rattle.mt_model.specs.declared.node.action.NodeStep.TheVariants.{SetRow, SetEntries, PutNetwork, RemoveNetwork, ConnectNetwork, MoveNetwork, Arm, Renew, Expire, Complete, AddRoot, Csr, AddFabric, UpdateFabric, RemoveFabric, Label, Emit}
use Rattle.mt_model.specs.declared.node.state.NodeState.{NodeState}
use Rattle.mt_model.specs.declared.rows.place.Place.{Place}
use Rattle.mt_model.specs.declared.rows.place.Row.{Row}
use Rattle.mt_model.specs.declared.tables.access.AclEntry.{AclEntry}
use Rattle.mt_model.specs.declared.tables.access.Actor.{Actor}
use Rattle.mt_model.specs.declared.tables.fabric.Fabric.{Fabric}
use Rattle.mt_model.specs.declared.tables.network.Armed.{Armed}
use Rattle.mt_model.specs.declared.tables.network.Network.{Network}
use Rattle.mt_opcreds.specs.Laws.{KeepsRules, StepsAreWellFormed, StepsFit}
use Rattle.mt_opcreds.specs.Moves.{IsMove, StepsAreMoves, expires_and_leaves, joins, leaves, names, nothing, renews, requests, trusts}
use Rattle.mt_opcreds.specs.Moves as moving
use Rattle.mt_opcreds.specs.RemoveFabric.{leaving}
use Rattle.mt_write.specs.Laws.{LeavesSound, NobodySetsScoped, TouchesItsOwn}
use Rattle.mt_machine.specs.Changes.{settled}
use Rattle.mt_machine.specs.Effects.{after_all}
use Rattle.mt_machine.specs.Environment.{Environment}
use Rattle.mt_machine.specs.Expiries.{ComesFirst, IsRolledBack, RollbacksLeave, expires, is_breadcrumb, is_expiry, may_stand_behind, steps_behind}
use Rattle.mt_admin.specs.Windows.{closed, has_ended, number_at, window_end}
use Rattle.mt_machine.specs.Requests.{RequestLaws}
use Rattle.mt_machine.specs.Rollback.{breadcrumb, is_due, rollback, rolled_back, undone}
use Rattle.mt_machine.specs.State.{IsValid}
use Rattle.mt_machine.specs.Step.{after_action, after_steps, asked_steps, asker, asker_of, at_time, steps_of, rows_of_nobody}
use Rattle.mt_machine.specs.Taking.{fits}
use Rattle.mt_machine.proofs.Asked.{asked_by, asker_asks, asker_known, is_asker, is_known}
use Rattle.mt_machine.proofs.Counting.{all-weaker, impossible, not_above, not_below, place-itself}

-- Steps without an expiry.

abbrev CallsFirst : Option Armed → List NodeStep → Type 0
CallsFirst armed steps = list_any is_expiry steps ≡ true → ComesFirst armed steps

none_among : (P : NodeStep → Bool) → ((step : NodeStep) → P step ≡ true → is_expiry step ≡ false) → (steps : List NodeStep) → list_all P steps ≡ true → list_any is_expiry steps ≡ false
none_among P none [] all = refl
none_among P none (step ∷ steps) all =
    let both = and_parts (P step) (list_all P steps) all in
    rw (none step both.0) (none_among P none steps both.1)

none_comes : (armed : Option Armed) (steps : List NodeStep) → list_any is_expiry steps ≡ false → CallsFirst armed steps
none_comes armed steps none any = impossible (sym none ∙ any)

fits_not : (fabrics : List Fabric) (step : NodeStep) → fits fabrics step ≡ true → is_expiry step ≡ false
fits_not fabrics Expire fit = impossible fit
fits_not fabrics (SetRow place whose values) fit = refl
fits_not fabrics (SetEntries whose entries) fit = refl
fits_not fabrics (Emit place priority whose value) fit = refl
fits_not fabrics step fit = refl

values_not : (step : NodeStep) → commission_laws.sets_value step ≡ true → is_expiry step ≡ false
values_not Expire sets = impossible sets
values_not step sets = refl

value_behind : (armed : Option Armed) (step : NodeStep) → commission_laws.sets_value step ≡ true → may_stand_behind armed step ≡ true
value_behind armed (SetRow place whose values) sets = refl
value_behind armed step sets = impossible sets

values_behind : (armed : Option Armed) (steps : List NodeStep) → list_all commission_laws.sets_value steps ≡ true → list_all (may_stand_behind armed) steps ≡ true
values_behind armed = all-weaker commission_laws.sets_value (may_stand_behind armed) (value_behind armed)

-- a command of commissioning
first_called : (armed : Option Armed) (step : NodeStep) (steps : List NodeStep) → list_all commission_laws.sets_value steps ≡ true → CallsFirst armed (step ∷ steps)
first_called armed Expire steps sets any = record { first = refl; behind = values_behind armed steps sets }
first_called armed step steps sets any = impossible (sym (none_among commission_laws.sets_value values_not steps sets) ∙ any)

commission_first : (armed : Option Armed) (steps : List NodeStep) → commission_laws.sets_values_behind steps ≡ true → CallsFirst armed steps
commission_first armed [] behind any = impossible any
commission_first armed (step ∷ steps) behind any = first_called armed step steps behind any

-- a command of Operational Credentials

context_bare : (index : ℕ) (armed : Option Armed) → is_context index (option_map bare_armed armed) ≡ is_context index armed
context_bare index None = refl
context_bare index (Some armed) = refl

moved_first : (fabric : ℕ) (fabrics : List Fabric) (networks : List Network) (armed : Option Armed) (steps : List NodeStep) → IsMove (known_to fabric fabrics networks armed) fabric steps → CallsFirst armed steps
moved_first fabric fabrics networks armed steps (nothing is) = subst (CallsFirst armed) (sym is) (λ any. impossible any)
moved_first fabric fabrics networks armed steps (requests nonce update is) = subst (CallsFirst armed) (sym is) (λ any. impossible any)
moved_first fabric fabrics networks armed steps (trusts cert is) = subst (CallsFirst armed) (sym is) (λ any. impossible any)
moved_first fabric fabrics networks armed steps (joins new entries own_ones is) = subst (CallsFirst armed) (sym is) (λ any. impossible any)
moved_first fabric fabrics networks armed steps (renews given is) = subst (CallsFirst armed) (sym is) (λ any. impossible any)
moved_first fabric fabrics networks armed steps (names label is) = subst (CallsFirst armed) (sym is) (λ any. impossible any)
moved_first fabric fabrics networks armed steps (leaves index free is) = subst (CallsFirst armed) (sym is) (λ any. impossible any)
moved_first fabric fabrics networks armed steps (moving.expires index context was is) = subst (CallsFirst armed) (sym is) (λ any. record { first = refl; behind = refl })
moved_first fabric fabrics networks armed steps (expires_and_leaves index context was_not is) =
    subst (CallsFirst armed) (sym is) (λ any. record { first = refl; behind = and_from (is_context index armed) true (sym (context_bare index armed) ∙ context) refl })

module _ (laws : RequestLaws)
    (given : Environment) (s : NodeState) (keeps : KeepsRules given.judged) (valid : IsValid s) where
  asked_first : (request : Request) (deadline : Option ℕ) (now : ℕ) (asking : Option Actor) → is_known s.fabrics asking ≡ true → is_asker asking ≡ true → CallsFirst s.armed (asked_steps given s request deadline now asking)
  asked_first request deadline now None known asks = λ any. impossible any
  asked_first request deadline now (Some actor) known asks =
      asked_by laws given keeps s valid actor now (CallsFirst s.armed) (λ any. impossible any)
      (λ steps its fit_all. none_comes s.armed steps (none_among (fits s.fabrics) (fits_not s.fabrics) steps fit_all))
      (λ steps sound_all first. commission_first s.armed steps first)
      (λ steps good fit_all move. moved_first actor.fabric s.fabrics s.networks s.armed steps move)
      known asks request deadline

  due_first : (due ended : Bool) → CallsFirst s.armed ((if due then Expire ∷ [] else []) ++ (if ended then closed else []))
  due_first true true any = record { first = refl; behind = refl }
  due_first true false any = record { first = refl; behind = refl }
  due_first false true any = impossible any
  due_first false false any = impossible any

  pub comes_first : (action : Action) (now : ℕ) → expires given s action now ≡ true → ComesFirst s.armed (steps_of given s action now)
  comes_first (Ask actor request deadline) now any = asked_first request deadline now (asker s actor) (asker_known s actor valid) (asker_asks s actor valid) any
  comes_first actions.Expire now any = due_first (is_due s.armed now) (has_ended now (number_at (rows_of_nobody s) window_end)) any
  comes_first Nothing now any = impossible any

  pub rolls_back : (action : Action) (now : ℕ) → expires given s action now ≡ true
      → after_action given s action now ≡ settled (at_time now s) (after_all (asker_of s action) (steps_behind given s action now) (rollback (at_time now s)))
  rolls_back action now any = ap (λ (steps : List NodeStep). after_steps (asker_of s action) steps (at_time now s)) (comes_first action now any).first

-- What is left of rows.

none_kept : (p q : Row → Bool) → ((row : Row) → p row ≡ true → q row ≡ false) → (rows : List Row) → filter p (filter q rows) ≡ []
none_kept p q apart [] = refl
none_kept p q apart (row ∷ rows) = elim (cases_Bool (q row)) [
  | inl kept ↦ elim (cases_Bool (p row)) [
    | inl its ↦ impossible (sym (apart row its) ∙ kept)
    | inr other ↦ rw (kept, other) (none_kept p q apart rows)
  ]
  | inr gone ↦ rw gone (none_kept p q apart rows)
]

all_kept : (p q : Row → Bool) → ((row : Row) → p row ≡ true → q row ≡ false) → (rows : List Row) → filter (λ (row : Row). not (p row)) (filter q rows) ≡ filter q rows
all_kept p q apart [] = refl
all_kept p q apart (row ∷ rows) = elim (cases_Bool (q row)) [
  | inl kept ↦ elim (cases_Bool (p row)) [
    | inl its ↦ impossible (sym (apart row its) ∙ kept)
    | inr other ↦ rw (kept, other) (ap (λ (l : List Row). row ∷ l) (all_kept p q apart rows))
  ]
  | inr gone ↦ rw gone (all_kept p q apart rows)
]

not_other : (place : Place) (fabric : ℕ) (value : Value) → is_at place fabric (row_at place fabric value) ≡ true
not_other place fabric value = and_from _ _ (place-itself place) (eq-eqb fabric fabric refl)

module _ (place : Place) (fabric : ℕ) (value : Value) (rows : List Row) where
  abbrev below : List Row
  below = filter (is_below place fabric) rows

  abbrev above : List Row
  above = filter (is_above place fabric) rows

  abbrev new : Row
  new = row_at place fabric value

  set_here : filter (is_at place fabric) (with_rows place fabric (value ∷ []) rows) ≡ new ∷ []
  set_here =
      filter-append (is_at place fabric) below (new ∷ above)
      ∙ ap (λ (l : List Row). l ++ filter (is_at place fabric) (new ∷ above)) (none_kept (is_at place fabric) (is_below place fabric) (not_below place fabric) rows)
      ∙ ap (λ b. if b then new ∷ filter (is_at place fabric) above else filter (is_at place fabric) above) (not_other place fabric value)
      ∙ ap (λ (l : List Row). new ∷ l) (none_kept (is_at place fabric) (is_above place fabric) (not_above place fabric) rows)

  abbrev others : List Row → List Row
  others l = filter (λ (row : Row). not (is_at place fabric row)) l

  set_beside : below ++ above ≡ others rows → others (with_rows place fabric (value ∷ []) rows) ≡ others rows
  set_beside apart =
      filter-append (λ (row : Row). not (is_at place fabric row)) below (new ∷ above)
      ∙ ap (λ (l : List Row). l ++ others (new ∷ above)) (all_kept (is_at place fabric) (is_below place fabric) (not_below place fabric) rows)
      ∙ ap (λ b. below ++ (if not b then new ∷ others above else others above)) (not_other place fabric value)
      ∙ ap (λ (l : List Row). below ++ l) (all_kept (is_at place fabric) (is_above place fabric) (not_above place fabric) rows)
      ∙ apart

module _
    (rows_stay : (keep : Row → Bool) (rows : List Row) → are_ascending rows ≡ true → are_ascending (filter keep rows) ≡ true)
    (rows_apart : (rows : List Row) (place : Place) (whose : ℕ) → are_ascending rows ≡ true → filter (is_below place whose) rows ++ filter (is_above place whose) rows ≡ filter (λ (row : Row). not (is_at place whose row)) rows)
  where
    armed_rolled : (s : NodeState) (armed : Armed) → IsValid s → IsRolledBack armed s (rolled_back (Some armed) s)
    armed_rolled s armed valid =
        let left = filter (λ (row : Row). stays armed.added row.fabric) s.rows in
        record {
          armed_no_more = refl;
          fabrics = refl;
          networks = refl;
          breadcrumb_is_zero = set_here breadcrumb 0 (values.Uint 0) left;
          rows = set_beside breadcrumb 0 (values.Uint 0) left (rows_apart left breadcrumb 0 (rows_stay (λ (row : Row). stays armed.added row.fabric) s.rows valid.rows_rise));
          entries = refl;
          roots = refl;
          sessions = refl;
          plain = refl;
          versions = refl;
          changes = refl;
          changed = refl;
          boot = refl;
          clock = refl;
        }

    pub rollbacks_leave : RollbacksLeave
    rollbacks_leave s armed valid is = subst (λ (a : Option Armed). IsRolledBack armed s (rolled_back a s)) (sym is) (armed_rolled s armed valid)
