-- What a line makes of the group key sets of a fabric, whatever becomes of it, is what the run's list says.
use Rattle.std.proofs.Common.{◌≡◌, ◌≢◌, ℕ, ◌+◌, ◌≤◌, ◌^◌, ◌==◌, ◌&&◌, ◌||◌, not, inl, inr, Bool, true, false, List, [], Option, Some, None, refl, sym, ap, ◌∙◌, subst, filter, if◌then◌else◌}
use Rattle.std.proofs.lemmas.Bool.{and_parts, cases_Bool, eqb-true, not-true}
use Rattle.mt_tlv.specs.declared.value.Value.{Value}
use Rattle.mt_failsafe.specs.Notes.{was_added}
use Rattle.mt_im.specs.Reading.{request_in}
use Rattle.mt_groupkeys.specs.Sets.{values_of}
use Rattle.mt_lasting.specs.Laws.{ActionsKeepTheBoot}
use Rattle.mt_ledger.specs.Behind.{action_in}
use Rattle.mt_model.specs.rows.Sight.{stands_at}
use Rattle.mt_model.specs.tables.KeySets.{key_sets}
use Rattle.mt_model.specs.texts.Config.{are_sessions}
use Rattle.mt_model.specs.declared.node.action.Action.{Action}
use Rattle.mt_model.specs.declared.node.action.Action.TheVariants as actions
use Rattle.mt_model.specs.declared.node.state.NodeState.{NodeState}
use Rattle.mt_model.specs.declared.tables.access.Actor.{Actor}
use Rattle.mt_model.specs.declared.texts.config.SessionRow.{SessionRow}
use Rattle.mt_model.specs.declared.texts.recording.Event.{Event}
use Rattle.mt_model.specs.declared.texts.recording.Event.TheVariants as events
use Rattle.mt_opcreds.specs.Laws.{KeepsRules}
use Rattle.mt_opcreds.specs.Moves.{StepsAreMoves}
use Rattle.mt_commission.specs.Laws.{StepsAreSound}
use Rattle.mt_machine.specs.Environment.{Environment}
use Rattle.mt_machine.specs.Isolation.{own}
use Rattle.mt_machine.specs.Laws.{AskersAreKnown, LinesAskOnTheVeil}
use Rattle.mt_machine.specs.Lines.{line_actor}
use Rattle.mt_machine.specs.State.{IsValid, is_member}
use Rattle.mt_machine.specs.Step.{asker}
use Rattle.mt_runs.specs.Course.{Course, goes, stops, surviving}
use Rattle.mt_runs.specs.Course as courses
use Rattle.mt_runs.specs.Datagrams.{session_named}
use Rattle.mt_runs.specs.Expiries.{action_at, time_of}
use Rattle.mt_runs.specs.Isolation.{IsValidWhole, OwnPart}
use Rattle.mt_runs.specs.Laws.{WholeReopensValid, WholeReopeningsSeeTheOwn, WholeReopeningsTakeTheAdded}
use Rattle.mt_runs.specs.LineLaws.{WholeStaysValid}
use Rattle.mt_runs.specs.Lines.{action_asked, activity_named, fabric_of, next}
use Rattle.mt_runs.specs.Marks.{is_in}
use Rattle.mt_runs.specs.Reopening.{reopened}
use Rattle.mt_runs.specs.Whole.{Whole, talk_of}
use Rattle.mt_keysets.specs.Changes.{behind_action, behind_line, behind_request, is_its_own, succeeds}
use Rattle.mt_keysets.specs.Runs.{enters_or_leaves, sets_in_course}
use Rattle.mt_keysets.specs.Sets.{sets_of}
use Rattle.mt_keysets.proofs.Actions.{acted_follows}
use Rattle.mt_keysets.proofs.Others.{course_leaves}
use Rattle.mt_keysets.proofs.Rows.{by_own, impossible, not_nobody}
use Rattle.mt_keysets.proofs.Steps.{strangers_have_none}

-- What is known of each line, and of each reopening.
pub record Known : Type 0 where
  pub stays : WholeStaysValid
  pub askers : AskersAreKnown
  pub moves : StepsAreMoves
  pub sound : StepsAreSound
  pub boots : ActionsKeepTheBoot
  pub reopens : WholeReopensValid
  pub taken : WholeReopeningsTakeTheAdded
  pub sees : WholeReopeningsSeeTheOwn

-- No line begins another boot.
boot_stays : ActionsKeepTheBoot → (given : Environment) (w : Whole) (e : Event) → (next given w e).state.node.boot ≡ w.state.node.boot
boot_stays boots given w (events.Ask ms fabric node cats opcode payload) = boots given w.state.node (action_asked w.state (line_actor fabric node cats) (request_in opcode payload)) ms
boot_stays boots given w (events.Datagram ms from bytes) = boots given w.state.node (action_in (activity_named w.state.node bytes (talk_of (session_named bytes) w.talks))) ms
boot_stays boots given w (events.Tick ms) = boots given w.state.node actions.Expire ms
boot_stays boots given w (events.Report ms fabric subscription) = boots given w.state.node actions.Nothing ms
boot_stays boots given w (events.Resend ms session) = boots given w.state.node actions.Nothing ms
boot_stays boots given w (events.Stop calls fate) = refl

module _ (given : Environment) (k : Known) (rules : KeepsRules given.judged) where
  pub surviving_valid : (w : Whole) (e : Event) → IsValidWhole w → (survived : Bool) → IsValidWhole (surviving given w e survived)
  surviving_valid w e valid true = k.stays given w e rules valid
  surviving_valid w e valid false = valid

  pub surviving_boot : (w : Whole) (e : Event) (survived : Bool) → (surviving given w e survived).state.node.boot ≡ w.state.node.boot
  surviving_boot w e true = boot_stays k.boots given w e
  surviving_boot w e false = refl

  pub course_valid : (sessions : List SessionRow) → are_sessions sessions ≡ true → (w : Whole) (e : Event) (c : Course) → IsValidWhole w → w.state.node.boot + 1 ≤ 2 ^ 31 → IsValidWhole (courses.behind_course given sessions w e c).whole
  course_valid sessions rows w e (goes stop) valid room = k.stays given w e rules valid
  course_valid sessions rows w e (stops line survived) valid room =
      k.reopens sessions (surviving given w e survived) rows (surviving_valid w e valid survived) (subst (λ (boot : ℕ). boot + 1 ≤ 2 ^ 31) (sym (surviving_boot w e survived)) room)

  module _ (fabric : ℕ) (some : fabric ≢ 0) where
    -- A line that is carried out.

    line_follows : (w : Whole) (e : Event) → is_in fabric (next given w e) ≡ true → sets_of fabric (next given w e).state.node ≡ behind_line given fabric w e (sets_of fabric w.state.node)
    line_follows w (events.Ask ms other node cats opcode payload) there = acted_follows k.moves k.sound given fabric some w.state.node (action_at w (events.Ask ms other node cats opcode payload)) ms there
    line_follows w (events.Datagram ms from bytes) there = acted_follows k.moves k.sound given fabric some w.state.node (action_at w (events.Datagram ms from bytes)) ms there
    line_follows w (events.Tick ms) there = acted_follows k.moves k.sound given fabric some w.state.node actions.Expire ms there
    line_follows w (events.Report ms other subscription) there = refl
    line_follows w (events.Resend ms session) there = refl
    line_follows w (events.Stop calls fate) there = refl

    -- Who is not in the table asks nothing.

    none_asks : (s : NodeState) → IsValid s → is_member fabric s ≡ false → (actor : Actor) (found : Option Actor) → asker s actor ≡ found → is_its_own fabric found ≡ false
    none_asks s valid out actor None is = refl
    none_asks s valid out actor (Some asking) is = elim (cases_Bool (asking.fabric == fabric)) [
      | inl its ↦
          impossible
          (sym (ap (λ (n : ℕ). n == 0 || is_member n s) (eqb-true asking.fabric fabric its) ∙ ap (λ (b : Bool). b || is_member fabric s) (not_nobody fabric some) ∙ out)
          ∙ k.askers s actor asking valid is)
      | inr other ↦ other
    ]

    stranger_acts : (s : NodeState) (action : Action) (now : ℕ) (sets : List Value) → IsValid s → is_member fabric s ≡ false → behind_action given fabric s action now sets ≡ sets
    stranger_acts s (actions.Ask actor request deadline) now sets valid out =
        ap (λ (b : Bool). if b && succeeds given s actor request deadline now then behind_request fabric request sets else sets) (none_asks s valid out actor (asker s actor) refl)
    stranger_acts s actions.Expire now sets valid out = refl
    stranger_acts s actions.Nothing now sets valid out = refl

    -- A reopening.

    same_sets : (s t : NodeState) → (own fabric s).rows ≡ (own fabric t).rows → sets_of fabric s ≡ sets_of fabric t
    same_sets s t same = ap values_of (by_own key_sets fabric some s.rows ∙ ap (filter (stands_at key_sets)) same ∙ sym (by_own key_sets fabric some t.rows))

    reopened_keeps : (sessions : List SessionRow) (u : Whole) → IsValidWhole u → is_in fabric (reopened sessions u) ≡ true
        → (is_in fabric u ≡ true) × (sets_of fabric (reopened sessions u).state.node ≡ sets_of fabric u.state.node)
    reopened_keeps sessions u valid there =
        let parts = and_parts (is_in fabric u) (not (was_added fabric u.state.node.armed)) (sym (k.taken sessions fabric u valid) ∙ there) in
        let sees = k.sees sessions fabric u valid some parts.0 (not-true _ parts.1) in
        (parts.0, same_sets (reopened sessions u).state.node u.state.node (ap (λ (o : OwnPart). o.whole.node.rows) sees))

    -- From one moment to the next.

    module _ (w v : Whole) (valid : IsValidWhole w) (valid_then : IsValidWhole v) (sets : List Value)
        (there : is_in fabric v ≡ true → sets_of fabric v.state.node ≡ sets) (out : is_in fabric w ≡ false → sets ≡ sets_of fabric w.state.node)
      where
        shown : (passes : Bool) → enters_or_leaves fabric w v ≡ passes → (if passes then [] else sets) ≡ (if enters_or_leaves fabric w v then [] else sets)
        shown passes is = ap (λ (b : Bool). if b then [] else sets) (sym is)

        before : (was : Bool) → is_in fabric w ≡ was → enters_or_leaves fabric w v ≡ (if was then not (is_in fabric v) else is_in fabric v)
        before was is = ap (λ (b : Bool). if b then not (is_in fabric v) else is_in fabric v) is

        none_then : is_in fabric v ≡ false → sets_of fabric v.state.node ≡ []
        none_then gone = strangers_have_none fabric v.state.node valid_then.node gone

        none_before : is_in fabric w ≡ false → sets ≡ []
        none_before was_out = out was_out ∙ strangers_have_none fabric w.state.node valid.node was_out

        moment_follows : sets_of fabric v.state.node ≡ (if enters_or_leaves fabric w v then [] else sets)
        moment_follows = elim (cases_Bool (is_in fabric w)) [
          | inl was ↦ elim (cases_Bool (is_in fabric v)) [
            | inl is ↦ there is ∙ shown false (before true was ∙ ap not is)
            | inr gone ↦ none_then gone ∙ shown true (before true was ∙ ap not gone)
          ]
          | inr was_out ↦ elim (cases_Bool (is_in fabric v)) [
            | inl enters ↦ there enters ∙ none_before was_out ∙ shown true (before false was_out ∙ enters)
            | inr still_out ↦ none_then still_out ∙ sym (none_before was_out) ∙ shown false (before false was_out ∙ still_out)
          ]
        ]

    -- WHATEVER BECOMES OF A LINE

    survived_follows : (w : Whole) (e : Event) (survived : Bool) → is_in fabric (surviving given w e survived) ≡ true
        → sets_of fabric (surviving given w e survived).state.node ≡ (if survived then behind_line given fabric w e (sets_of fabric w.state.node) else sets_of fabric w.state.node)
    survived_follows w e true there = line_follows w e there
    survived_follows w e false there = refl

    stranger_survives : (w : Whole) (e : Event) → IsValidWhole w → (survived : Bool) → is_in fabric w ≡ false
        → (if survived then behind_line given fabric w e (sets_of fabric w.state.node) else sets_of fabric w.state.node) ≡ sets_of fabric w.state.node
    stranger_survives w e valid true out = stranger_acts w.state.node (action_at w e) (time_of e) (sets_of fabric w.state.node) valid.node out
    stranger_survives w e valid false out = refl

    pub course_follows : (sessions : List SessionRow) → are_sessions sessions ≡ true → (w : Whole) (e : Event) (c : Course) → IsValidWhole w → w.state.node.boot + 1 ≤ 2 ^ 31
        → sets_of fabric (courses.behind_course given sessions w e c).whole.state.node
        ≡ (if enters_or_leaves fabric w (courses.behind_course given sessions w e c).whole then [] else sets_in_course given fabric w e c (sets_of fabric w.state.node))
    course_follows sessions rows w e (goes stop) valid room =
        moment_follows w (next given w e) valid (k.stays given w e rules valid) (behind_line given fabric w e (sets_of fabric w.state.node))
        (line_follows w e) (stranger_acts w.state.node (action_at w e) (time_of e) (sets_of fabric w.state.node) valid.node)
    course_follows sessions rows w e (stops line survived) valid room =
        let u = surviving given w e survived in
        moment_follows w (reopened sessions u) valid (course_valid sessions rows w e (stops line survived) valid room)
        (if survived then behind_line given fabric w e (sets_of fabric w.state.node) else sets_of fabric w.state.node)
        (λ there. let kept = reopened_keeps sessions u (surviving_valid w e valid survived) there in kept.1 ∙ survived_follows w e survived kept.0)
        (stranger_survives w e valid survived)

    -- A line of another, where it stays in the table.
    pub others_leave : LinesAskOnTheVeil → (sessions : List SessionRow) → are_sessions sessions ≡ true → (w : Whole) (e : Event) (c : Course) → IsValidWhole w → w.state.node.boot + 1 ≤ 2 ^ 31
        → is_in fabric w ≡ true → is_in fabric (courses.behind_course given sessions w e c).whole ≡ true → fabric_of w.state.node e ≢ fabric
        → sets_of fabric (courses.behind_course given sessions w e c).whole.state.node ≡ sets_of fabric w.state.node
    others_leave asks_there sessions rows w e c valid room was is other =
        let v = (courses.behind_course given sessions w e c).whole in
        let sets = sets_in_course given fabric w e c (sets_of fabric w.state.node) in
        course_follows sessions rows w e c valid room
        ∙ ap (λ (b : Bool). if b then [] else sets) (ap (λ (b : Bool). if b then not (is_in fabric v) else is_in fabric v) was ∙ ap not is)
        ∙ course_leaves asks_there given fabric w valid.node (sets_of fabric w.state.node) e other c
