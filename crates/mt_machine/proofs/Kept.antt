-- What the steps of a request leave of what is another fabric's own, and of the asker's own on its veil: by the laws of the crates that
-- answer, those of the model on rows and entries that are set, and those of steps.
use Rattle.std.proofs.Common.{◌≡◌, ◌≢◌, ℕ, ◌≤◌, ◌==◌, ◌&&◌, ◌||◌, ◌++◌, inl, inr, not, Bool, true, false, List, [], Option, Result, Some, option_map, refl, sym, ap, ◌∙◌, subst, filter, map, is_ok, arith}
use Rattle.std.proofs.lemmas.Bool.{eqb-true, false_from_ne_true, or_cases}
use Rattle.std.specs.List.{list_all}
use Rattle.mt_tlv.specs.declared.value.Value.{Value}
use Rattle.mt_commission.specs.Laws.{StepsAreSound, StepsStandFirst}
use Rattle.mt_fabrics.specs.Table.{IsLeastUnused, IsTable, least_unused}
use Rattle.mt_meta.specs.Finding.{find_data_of}
use Rattle.mt_meta.specs.Stored.{is_stored}
use Rattle.mt_model.specs.texts.Config.{ascend_from}
use Rattle.mt_model.specs.rows.Order.{are_ascending}
use Rattle.mt_model.specs.rows.Setting.{is_above, is_at, is_below, is_entry_above, is_entry_below, is_entry_of, with_entries, with_rows}
use Rattle.mt_model.specs.rows.Stored.{is_stored_place}
use Rattle.mt_model.specs.tables.Known.{bare_armed, bare_network, known_to}
use Rattle.mt_model.specs.declared.tables.access.AclEntry.{AclEntry}
use Rattle.mt_model.specs.declared.tables.access.Actor.{Actor}
use Rattle.mt_model.specs.declared.tables.fabric.Fabric.{Fabric}
use Rattle.mt_model.specs.declared.messages.message.Request.{Request}
use Rattle.mt_model.specs.declared.node.action.Action.TheVariants as actions
use Rattle.mt_model.specs.declared.node.action.NodeStep.{NodeStep}
use Rattle.mt_model.specs.declared.node.state.NodeState.{NodeState}
use Rattle.mt_model.specs.declared.rows.place.Place.{Place}
use Rattle.mt_model.specs.declared.rows.place.Row.{Row}
use Rattle.mt_model.specs.declared.texts.recording.Event.{Event}
use Rattle.mt_opcreds.specs.Laws.{KeepsRules, StepsAreWellFormed, StepsFit}
use Rattle.mt_opcreds.specs.Moves.{StepsAreMoves}
use Rattle.mt_write.specs.Laws.{LeavesSound, NobodySetsScoped, TouchesItsOwn}
use Rattle.mt_machine.specs.Effects.{after, after_all}
use Rattle.mt_machine.specs.Environment.{Environment}
use Rattle.mt_machine.specs.Isolation as isolation
use Rattle.mt_machine.specs.Isolation.{own_of_whole}
use Rattle.mt_machine.specs.Laws.{RemovalsSeeTheVeil, StepsSeeTheVeil}
use Rattle.mt_im.specs.declared.fault.ImFault.{ImFault}
use Rattle.mt_machine.specs.Lines.{action_of, behind_action, fabric_of, is_tick, plain_next}
use Rattle.mt_machine.specs.Requests.{RequestLaws}
use Rattle.mt_machine.specs.State.{IsValid, State, is_among}
use Rattle.mt_machine.specs.Step.{after_action, asked_steps, asker, at_time}
use Rattle.mt_machine.specs.Taking.{may_take}
use Rattle.mt_machine.specs.Touching.{StaysThere}
use Rattle.mt_machine.proofs.Asked.{asked_by, asker_asks, asker_known, is_asker, is_known}
use Rattle.mt_machine.proofs.Good.{setting_steps, steps_of_its}
use Rattle.mt_machine.proofs.OnVeil.{commission_alike, moved_alike, setting_alike}
use Rattle.mt_machine.proofs.Sparing.{commission_kept, moved_kept, values_kept}
use Rattle.mt_machine.proofs.ValidParts.{its_fabrics, table_of}
use Rattle.mt_machine.proofs.Veiled as veiled
use Rattle.mt_machine.proofs.Counting.{impossible}
use Rattle.mt_machine.proofs.Writes.{timed_valid}

-- the least index that no fabric has is neither 0 nor that of a fabric
new_is_other : (s : NodeState) (fabric : ℕ) → IsLeastUnused (least_unused s.fabrics) s.fabrics → (fabric == 0 || is_among s.fabrics fabric) ≡ true → not (fabric == least_unused s.fabrics) ≡ true
new_is_other s fabric is known = ap not (false_from_ne_true (fabric == least_unused s.fabrics) (λ same.
    let its : fabric ≡ least_unused s.fabrics = eqb-true fabric (least_unused s.fabrics) same in
    elim (or_cases (fabric == 0) (is_among s.fabrics fabric) known) [
      | inl zero ↦
          let one : 1 ≤ fabric = subst (λ n. 1 ≤ n) (sym its) is.from_one in
          absurd (omega (arith, one, eqb-true fabric 0 zero))
      | inr there ↦ impossible (sym is.unused ∙ subst (λ n. is_among s.fabrics n ≡ true) its there)
    ]))

module _ (laws : RequestLaws) where
  -- Another's own part.
  module _
      (rows_stay : (keep : Row → Bool) (rows : List Row) → are_ascending rows ≡ true → are_ascending (filter keep rows) ≡ true)
      (entries_stay : (keep : AclEntry → Bool) (least : ℕ) (entries : List AclEntry) → ascend_from least entries ≡ true → ascend_from least (filter keep entries) ≡ true)
      (rows_ascend : (rows : List Row) (place : Place) (whose : ℕ) (vs : List Value) → are_ascending rows ≡ true → are_ascending (with_rows place whose vs rows) ≡ true)
      (rows_apart : (rows : List Row) (place : Place) (whose : ℕ) → are_ascending rows ≡ true → filter (is_below place whose) rows ++ filter (is_above place whose) rows ≡ filter (λ (row : Row). not (is_at place whose row)) rows)
      (entries_ascend : (es new : List AclEntry) (whose : ℕ) → ascend_from 0 es ≡ true → list_all (is_entry_of whose) new ≡ true → ascend_from 0 (with_entries whose new es) ≡ true)
      (entries_apart : (es : List AclEntry) (whose : ℕ) → ascend_from 0 es ≡ true → filter (is_entry_below whose) es ++ filter (is_entry_above whose) es ≡ filter (λ (e : AclEntry). not (is_entry_of whose e)) es)
      (least : (fabrics : List Fabric) → IsTable fabrics → IsLeastUnused (least_unused fabrics) fabrics)
      (still : (asker : Option Actor) (step : NodeStep) (s : NodeState) → IsValid s → may_take s step ≡ true → IsValid (after asker step s))
    where
      steps_kept : (given : Environment) → KeepsRules given.judged → (s : NodeState) → IsValid s → (asking : Actor) (fabric : ℕ) → (asking.fabric == fabric) ≡ false → is_known s.fabrics (Some asking) ≡ true → is_asker (Some asking) ≡ true
          → (request : Request) (deadline : Option ℕ) (ms : ℕ)
          → StaysThere fabric (at_time ms s) (after_all (Some asking) (asked_steps given s request deadline ms (Some asking)) (at_time ms s))
          → isolation.own fabric (after_all (Some asking) (asked_steps given s request deadline ms (Some asking)) (at_time ms s)) ≡ isolation.own fabric (at_time ms s)
      steps_kept given keeps s valid asking fabric apart known asks request deadline ms =
          let t = at_time ms s in
          let its = timed_valid s ms valid in
          asked_by laws given keeps s valid asking ms
          (λ (steps : List NodeStep). StaysThere fabric t (after_all (Some asking) steps t) → isolation.own fabric (after_all (Some asking) steps t) ≡ isolation.own fabric t)
          (λ there. refl)
          (λ steps own_all fit_all there.
          values_kept fabric asking.fabric apart rows_stay entries_stay rows_ascend rows_apart entries_ascend entries_apart least still asking.fabric (Some asking) steps t apart its (steps_of_its asking s.fabrics steps own_all fit_all))
          (λ steps sound_all first.
          commission_kept fabric asking.fabric apart rows_stay entries_stay rows_ascend rows_apart entries_ascend entries_apart least still (map bare_network s.networks) t its known (Some asking) steps sound_all first)
          (λ steps good fit_all move.
          moved_kept fabric asking.fabric apart rows_stay entries_stay rows_ascend rows_apart entries_ascend entries_apart least still t its (Some asking) steps good fit_all move)
          known asks request deadline

      action_kept : (given : Environment) → KeepsRules given.judged → (s : NodeState) → IsValid s → (fabric : ℕ) (actor asking : Actor) (request : Request) (deadline : Option ℕ) (ms : ℕ) → asker s actor ≡ Some asking → (asking.fabric == fabric) ≡ false
          → StaysThere fabric s (after_action given s (actions.Ask actor request deadline) ms) → isolation.own fabric (after_action given s (actions.Ask actor request deadline) ms) ≡ isolation.own fabric s
      action_kept given keeps s valid fabric actor asking request deadline ms is apart there =
          let behind : Option Actor → NodeState = λ (o : Option Actor). after_all o (asked_steps given s request deadline ms o) (at_time ms s) in
          ap (λ (o : Option Actor). isolation.own fabric (behind o)) is
          ∙ steps_kept given keeps s valid asking fabric apart (subst (λ (o : Option Actor). is_known s.fabrics o ≡ true) is (asker_known s actor valid)) (subst (λ (o : Option Actor). is_asker o ≡ true) is (asker_asks s actor valid))
          request deadline ms
          (record {
            member = ap (λ (o : Option Actor). is_among (behind o).fabrics fabric) (sym is) ∙ there.member;
            nobody = λ zero. ap (λ (o : Option Actor). (behind o).armed) (sym is) ∙ there.nobody zero;
          })

      pub keeps_own : (given : Environment) (fabric : ℕ) (s : State) (e : Event) → KeepsRules given.judged → IsValid s.node → is_tick e ≡ false → fabric ≢ fabric_of s.node e → StaysThere fabric s.node (plain_next given s e).node
          → own_of_whole fabric (plain_next given s e) ≡ own_of_whole fabric s
      keeps_own given fabric s e keeps valid no_tick differ there =
          veiled.keeps_own given fabric s valid (λ actor asking request deadline ms is apart. action_kept given keeps s.node valid fabric actor asking request deadline ms is apart) e no_tick differ there

      pub action_keeps_own : (given : Environment) (fabric : ℕ) (s : State) (actor asking : Actor) (asked : Result Request ImFault) (deadline : Option ℕ) (ms : ℕ) → KeepsRules given.judged → IsValid s.node → asker s.node actor ≡ Some asking → fabric ≢ asking.fabric
          → StaysThere fabric s.node (behind_action given s (action_of actor deadline asked) ms).node → own_of_whole fabric (behind_action given s (action_of actor deadline asked) ms) ≡ own_of_whole fabric s
      action_keeps_own given fabric s actor asking asked deadline ms keeps valid is differ there =
          veiled.kept_behind given fabric s valid (λ actor asking request deadline ms is apart. action_kept given keeps s.node valid fabric actor asking request deadline ms is apart) actor asking asked deadline ms is differ there

  -- The asker's own part, on its veil.

  pub alike_on : ((place : Place) → is_stored_place place ≡ (is_stored place && is_ok (find_data_of place))) → StepsSeeTheVeil → RemovalsSeeTheVeil → ((fabrics : List Fabric) → IsTable fabrics → IsLeastUnused (least_unused fabrics) fabrics)
      → (given : Environment) → KeepsRules given.judged → (s : NodeState) → IsValid s → veiled.AlikeOn given s
  alike_on kept each removal least given keeps s valid actor asking request deadline ms is =
      let t = at_time ms s in
      let its = timed_valid s ms valid in
      let f = asking.fabric in
      let known = subst (λ (o : Option Actor). is_known s.fabrics o ≡ true) is (asker_known s actor valid) in
      asked_by laws given keeps s valid asking ms
      (λ (steps : List NodeStep). isolation.own f (after_all (Some asking) steps (isolation.veil f t)) ≡ isolation.own f (after_all (Some asking) steps t))
      (setting_alike kept each removal f (Some asking) t its [] refl)
      (λ steps own_all fit_all. setting_alike kept each removal f (Some asking) t its steps (setting_steps kept s.fabrics steps fit_all))
      (λ steps sound_all first. commission_alike kept each removal f (Some asking) t its (map bare_network s.networks) (option_map bare_armed s.armed) f steps sound_all first)
      (λ steps good fit_all move.
      moved_alike kept each removal f (Some asking) t its (known_to f s.fabrics s.networks s.armed) steps good
      (λ new. new_is_other t f (least s.fabrics (table_of s.fabrics (its_fabrics s valid))) known) move)
      known (subst (λ (o : Option Actor). is_asker o ≡ true) is (asker_asks s actor valid)) request deadline
