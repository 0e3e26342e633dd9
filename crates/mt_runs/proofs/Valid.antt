-- The whole that a configuration begins is valid, and lines leave it so.
use Rattle.std.proofs.Common.{◌≡◌, ℕ, ◌^◌, ◌==◌, ◌&&◌, not, inl, inr, Bool, true, false, nat_le, List, [], ◌∷◌, arith, refl, sym, ap, ◌∙◌, subst, filter, length, map, Option, Some, None, if◌then◌else◌}
use Rattle.std.proofs.lemmas.Bool.{and_from, and_parts, cases_Bool, eqb-true}
use Rattle.std.specs.List.{list_all, list_any}
use Rattle.mt_model.specs.texts.Config.{are_entries, are_fabrics, are_sessions, have_one_session, is_session, none_alike}
use Rattle.mt_model.specs.declared.limits.TheConstants.{SESSIONS}
use Rattle.mt_model.specs.declared.node.action.Action.{Action}
use Rattle.mt_model.specs.declared.node.action.Action.TheVariants as actions
use Rattle.mt_model.specs.declared.node.state.NodeState.{NodeState}
use Rattle.mt_model.specs.declared.tables.access.AclEntry.{AclEntry}
use Rattle.mt_model.specs.declared.tables.fabric.Fabric.{Fabric}
use Rattle.mt_model.specs.declared.texts.config.SessionRow.{SessionRow}
use Rattle.mt_model.specs.declared.texts.recording.Event.{Event}
use Rattle.mt_model.specs.declared.texts.recording.Event.TheVariants as events
use Rattle.mt_opcreds.specs.Laws.{KeepsRules}
use Rattle.mt_talk.specs.Talks.{ended_in}
use Rattle.mt_im.specs.Reading.{request_in}
use Rattle.mt_machine.specs.Deadlines.{ActionsKeepDeadlines, AreDeadlines, PlainLinesKeepDeadlines}
use Rattle.mt_machine.specs.Environment.{Environment}
use Rattle.mt_machine.specs.Laws as machine
use Rattle.mt_machine.specs.Lines.{action_of, deadline_for, line_actor}
use Rattle.mt_machine.specs.Opened.{session_of}
use Rattle.mt_machine.specs.State.{IsValid}
use Rattle.mt_machine.specs.Step.{after_action, asker}
use Rattle.mt_ledger.specs.Behind.{action_in, acts, reports}
use Rattle.mt_ledger.specs.Behind as activities
use Rattle.mt_ledger.specs.Ledger.{IsLedger}
use Rattle.mt_ledger.specs.Laws as ledger_laws
use Rattle.mt_opcreds.specs.Judged.{judged_by}
use Rattle.mt_runs.specs.Datagrams.{session_named}
use Rattle.mt_runs.specs.Isolation.{IsValidWhole, have_one_id}
use Rattle.mt_runs.specs.Lines.{action_asked, activity_again, activity_named, ledger_after, next, state_behind, talks_behind}
use Rattle.mt_runs.specs.Whole.{SessionTalk, Whole, fabric_over, is_live, is_of_boot, talk_of, whole_with}
use Rattle.mt_runs.proofs.Ids.{differ_still, ids_of, not_false, or_parts}
use Rattle.mt_runs.proofs.Standing.{begun_names, begun_quiet, behind_quiet, let_go_quiet, next_names}

-- Rows of one boot with different ids give sessions with different ids.

turned : (a b : ℕ) → (a == b) ≡ true → (b == a) ≡ true
turned a b same = grind (arith, same)

none_alike_row : (boot : ℕ) (fabrics : List Fabric) (row : SessionRow) (rows : List SessionRow) → is_of_boot boot row ≡ true → list_any (have_one_session row) rows ≡ false
    → list_any (have_one_id (session_of fabrics row)) (map (session_of fabrics) (filter (is_of_boot boot) rows)) ≡ false
none_alike_row boot fabrics row [] first none = refl
none_alike_row boot fabrics row (other ∷ others) first none =
    let both = or_parts (have_one_session row other) (list_any (have_one_session row) others) none in
    let rest = none_alike_row boot fabrics row others first both.1 in
    elim (cases_Bool (is_of_boot boot other)) [
      | inl here ↦
          let boots : (row.boot == other.boot) ≡ true = ap (λ n. row.boot == n) (eqb-true other.boot boot here) ∙ first in
          let apart : (row.session == other.session) ≡ false = sym (ap (λ (b : Bool). b && (row.session == other.session)) boots) ∙ both.0 in
          rw (here, apart) rest
      | inr later ↦ rw later rest
    ]

pub rows_differ : (boot : ℕ) (fabrics : List Fabric) (rows : List SessionRow) → none_alike have_one_session rows ≡ true → none_alike have_one_id (map (session_of fabrics) (filter (is_of_boot boot) rows)) ≡ true
rows_differ boot fabrics [] apart = refl
rows_differ boot fabrics (row ∷ rows) apart =
    let both = and_parts (not (list_any (have_one_session row) rows)) (none_alike have_one_session rows) apart in
    elim (cases_Bool (is_of_boot boot row)) [
      | inl here ↦
          rw here (and_from _ _ (ap not (none_alike_row boot fabrics row rows here (not_false (list_any (have_one_session row) rows) both.0))) (rows_differ boot fabrics rows both.1))
      | inr later ↦ rw later (rows_differ boot fabrics rows both.1)
    ]

-- rows of sessions have different ids in one boot
pub ids_differ : (sessions : List SessionRow) → are_sessions sessions ≡ true → none_alike have_one_session sessions ≡ true
unfolding are_sessions
ids_differ sessions fit =
    let front = and_parts (nat_le (length sessions) SESSIONS && list_all is_session sessions && none_alike have_one_session sessions && _) _ fit in
    let before = and_parts (nat_le (length sessions) SESSIONS && list_all is_session sessions && none_alike have_one_session sessions) _ front.0 in
    (and_parts (nat_le (length sessions) SESSIONS && list_all is_session sessions) (none_alike have_one_session sessions) before.0).1

pub opens : machine.OpensValid → ledger_laws.OpensLedger → (boot ceiling : ℕ) (fabrics : List Fabric) (entries : List AclEntry) (sessions : List SessionRow) → nat_le boot (2 ^ 31) ≡ true → are_fabrics fabrics ≡ true → are_entries fabrics entries ≡ true → are_sessions sessions ≡ true
    → IsValidWhole (whole_with boot ceiling fabrics entries sessions)
opens opens_valid opens_ledger boot ceiling fabrics entries sessions boots fabrics_fit entries_fit sessions_fit = record {
  node = opens_valid boot fabrics entries sessions boots fabrics_fit entries_fit;
  deadlines = record { few = λ fabric. refl; differ = refl; known = refl };
  ledger = opens_ledger (whole_with boot ceiling fabrics entries sessions).state.node ceiling;
  sessions_differ = rows_differ boot fabrics sessions (ids_differ sessions sessions_fit);
  talks_stand = begun_names fabrics (filter (is_of_boot boot) sessions);
  quiet = begun_quiet (whole_with boot ceiling fabrics entries sessions).state.node (filter (is_of_boot boot) sessions);
}

-- Sessions keep their ids.

pub ids_behind : machine.SessionsKeepTheirIds → (given : Environment) (w : Whole) (e : Event) → ids_of (state_behind given w e).node.sessions ≡ ids_of w.state.node.sessions
ids_behind kept given w (events.Ask ms fabric node cats opcode payload) =
    let actor = line_actor fabric node cats in
    kept given w.state.node (action_of actor (deadline_for w.state (asker w.state.node actor)) (request_in opcode payload)) ms
ids_behind kept given w (events.Datagram ms from bytes) = kept given w.state.node (action_in (activity_named w.state.node bytes (talk_of (session_named bytes) w.talks))) ms
ids_behind kept given w (events.Tick ms) = kept given w.state.node actions.Expire ms
ids_behind kept given w (events.Report ms fabric subscription) = kept given w.state.node actions.Nothing ms
ids_behind kept given w (events.Resend ms session) = kept given w.state.node actions.Nothing ms
ids_behind kept given w (events.Stop calls fate) = refl

node_stays : machine.StaysValid → (given : Environment) (w : Whole) (e : Event) → KeepsRules given.judged → IsValid w.state.node → IsValid (state_behind given w e).node
node_stays stays given w (events.Ask ms fabric node cats opcode payload) keeps valid =
    let actor = line_actor fabric node cats in
    stays given w.state.node (action_of actor (deadline_for w.state (asker w.state.node actor)) (request_in opcode payload)) ms keeps valid
node_stays stays given w (events.Datagram ms from bytes) keeps valid = stays given w.state.node (action_in (activity_named w.state.node bytes (talk_of (session_named bytes) w.talks))) ms keeps valid
node_stays stays given w (events.Tick ms) keeps valid = stays given w.state.node actions.Expire ms keeps valid
node_stays stays given w (events.Report ms fabric subscription) keeps valid = stays given w.state.node actions.Nothing ms keeps valid
node_stays stays given w (events.Resend ms session) keeps valid = stays given w.state.node actions.Nothing ms keeps valid
node_stays stays given w (events.Stop calls fate) keeps valid = valid

deadlines_stay : PlainLinesKeepDeadlines → ActionsKeepDeadlines → (given : Environment) (w : Whole) (e : Event) → IsValid w.state.node → AreDeadlines w.state → AreDeadlines (state_behind given w e)
deadlines_stay lines actions_keep given w (events.Ask ms fabric node cats opcode payload) valid are = lines given w.state (events.Ask ms fabric node cats opcode payload) valid are
deadlines_stay lines actions_keep given w (events.Datagram ms from bytes) valid are = actions_keep given w.state (action_in (activity_named w.state.node bytes (talk_of (session_named bytes) w.talks))) ms are
deadlines_stay lines actions_keep given w (events.Tick ms) valid are = lines given w.state (events.Tick ms) valid are
deadlines_stay lines actions_keep given w (events.Report ms fabric subscription) valid are = actions_keep given w.state actions.Nothing ms are
deadlines_stay lines actions_keep given w (events.Resend ms session) valid are = actions_keep given w.state actions.Nothing ms are
deadlines_stay lines actions_keep given w (events.Stop calls fate) valid are = are

-- What ends with resends is no action of the node.

ends_act_not : (ends : Bool) (fabric : ℕ) (ids : List ℕ) → action_in (if ends then activities.ends fabric ids else acts actions.Nothing) ≡ actions.Nothing
ends_act_not true fabric ids = refl
ends_act_not false fabric ids = refl

again_acts_not : (s : NodeState) (ms : ℕ) (found : Option SessionTalk) → action_in (activity_again s ms found) ≡ actions.Nothing
again_acts_not s ms None = refl
again_acts_not s ms (Some t) = ends_act_not (is_live s t.row.session) (fabric_over s t.row.session) (ended_in t.row ms t.talk)

ledger_stays : ledger_laws.StaysLedger → (given : Environment) (w : Whole) (e : Event) → KeepsRules given.judged → IsValid w.state.node → IsLedger w.state.node w.ledger → IsLedger (state_behind given w e).node (ledger_after given w e)
ledger_stays stays given w (events.Ask ms fabric node cats opcode payload) keeps valid is = stays given w.state.node (acts (action_asked w.state (line_actor fabric node cats) (request_in opcode payload))) ms w.ledger keeps valid is
ledger_stays stays given w (events.Datagram ms from bytes) keeps valid is = stays given w.state.node (activity_named w.state.node bytes (talk_of (session_named bytes) w.talks)) ms w.ledger keeps valid is
ledger_stays stays given w (events.Tick ms) keeps valid is = stays given w.state.node (acts actions.Expire) ms w.ledger keeps valid is
ledger_stays stays given w (events.Report ms fabric subscription) keeps valid is = stays given w.state.node (reports fabric subscription) ms w.ledger keeps valid is
ledger_stays stays given w (events.Resend ms session) keeps valid is =
    let found = talk_of (Some session) w.talks in
    subst (λ (action : Action). IsLedger (after_action given w.state.node action ms) (ledger_after given w (events.Resend ms session))) (again_acts_not w.state.node ms found)
    (stays given w.state.node (activity_again w.state.node ms found) ms w.ledger keeps valid is)
ledger_stays stays given w (events.Stop calls fate) keeps valid is = is

-- What is given where nobody asks: no verdicts, which keep all rules.

abbrev pub bare : Environment → Environment
bare given = record { judged = judged_by [] [] []; reachable = given.reachable }

pub bare_keeps : (given : Environment) → KeepsRules (bare given).judged
bare_keeps given = record { roots = refl; csrs = refl; joins = refl }

pub stays : machine.StaysValid → ledger_laws.StaysLedger → machine.SessionsKeepTheirIds → PlainLinesKeepDeadlines → ActionsKeepDeadlines → (given : Environment) (w : Whole) (e : Event) → KeepsRules given.judged → IsValidWhole w → IsValidWhole (next given w e)
stays node ledger kept lines actions_keep given w e keeps valid = record {
  node = node_stays node given w e keeps valid.node;
  deadlines = deadlines_stay lines actions_keep given w e valid.node valid.deadlines;
  ledger = ledger_stays ledger given w e keeps valid.node valid.ledger;
  sessions_differ = differ_still w.state.node.sessions (state_behind given w e).node.sessions (ids_behind kept given w e) valid.sessions_differ;
  talks_stand = next_names given w e ∙ valid.talks_stand ∙ sym (ids_behind kept given w e);
  quiet = let_go_quiet w.state.node (state_behind given w e).node (ids_behind kept given w e) (talks_behind given w e) (behind_quiet given w e valid.ledger valid.sessions_differ valid.quiet);
}
