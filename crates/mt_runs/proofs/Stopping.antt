-- One line in which the disk stops: it sends a fabric nothing, and what it leaves that, and which of its lives it ends, is what is made of its
-- marks. And whatever becomes of a line.
use Rattle.std.proofs.Common.{◌≡◌, ◌≢◌, ℕ, ◌+◌, ◌&&◌, ◌||◌, not, Bool, true, false, List, [], ◌∷◌, ◌++◌, Option, Some, None, inl, inr, refl, sym, ap, ◌∙◌, map, if◌then◌else◌}
use Rattle.std.proofs.lemmas.Bool.{and_parts, cases_Bool, not-true}
use Rattle.mt_fabrics.specs.Table.{has_index, is_used}
use Rattle.mt_failsafe.specs.Notes.{was_added}
use Rattle.mt_im.specs.Reading.{request_in}
use Rattle.mt_regained.specs.mt_lasting.Laws.{ActionsKeepTheBoot}
use Rattle.mt_ledger.specs.Behind.{action_in}
use Rattle.mt_model.specs.declared.node.action.Action.TheVariants as actions
use Rattle.mt_model.specs.declared.tables.fabric.Credentials.{Credentials}
use Rattle.mt_model.specs.declared.tables.fabric.Fabric.{Fabric}
use Rattle.mt_model.specs.declared.texts.config.SessionRow.{SessionRow}
use Rattle.mt_model.specs.declared.texts.recording.Event.{Event}
use Rattle.mt_model.specs.declared.texts.recording.Event.TheVariants as events
use Rattle.mt_opcreds.specs.Laws.{KeepsRules}
use Rattle.mt_regained.specs.Reopening as nodes
use Rattle.mt_machine.specs.Environment.{Environment}
use Rattle.mt_machine.specs.Lines.{is_tick, line_actor}
use Rattle.mt_runs.specs.Course.{Course, behind_course, goes, stops, surviving}
use Rattle.mt_runs.specs.Datagrams.{session_named}
use Rattle.mt_runs.specs.Isolation.{IsValidWhole, OwnPart, PublicPart, own_part, public_part}
use Rattle.mt_runs.specs.Lines.{action_asked, activity_named, is_stop, next}
use Rattle.mt_runs.specs.Marks.{Unanswered, if_seen, is_in, is_of, is_seen, left_unanswered, marks_in}
use Rattle.mt_runs.specs.Messages.{messages_in, messages_to}
use Rattle.mt_runs.specs.Reopening as reopenings
use Rattle.mt_runs.specs.Reopening.{reopened_own}
use Rattle.mt_runs.specs.Replay.{ends_by, ends_in, held, held_after, held_again, held_seen, left_by_reopening, replayed}
use Rattle.mt_runs.specs.Whole.{Whole, talk_of}
use Rattle.mt_runs.proofs.Absent.{contradiction}
use Rattle.mt_runs.proofs.Ending.{ends_of_stop, ends_once, ends_through, stays_on}
use Rattle.mt_runs.proofs.Holding.{held_in, held_out, stop_leaves, used_own}
use Rattle.mt_runs.proofs.Marking.{held_of_stop, held_until, left_if, marks_of_stop, none_until, other_unsent, own_unsent}
use Rattle.mt_runs.proofs.Steps.{Known, common_quiet, going_ends, going_held, going_sent, hidden_keeps, hidden_parts, quiet_seen, seen_common, seen_held}

-- No line begins another boot.
pub boot_stays : ActionsKeepTheBoot → (given : Environment) (w : Whole) (e : Event) → (next given w e).state.node.boot ≡ w.state.node.boot
boot_stays boots given w (events.Ask ms fabric node cats opcode payload) = boots given w.state.node (action_asked w.state (line_actor fabric node cats) (request_in opcode payload)) ms
boot_stays boots given w (events.Datagram ms from bytes) = boots given w.state.node (action_in (activity_named w.state.node bytes (talk_of (session_named bytes) w.talks))) ms
boot_stays boots given w (events.Tick ms) = boots given w.state.node actions.Expire ms
boot_stays boots given w (events.Report ms fabric subscription) = boots given w.state.node actions.Nothing ms
boot_stays boots given w (events.Resend ms session) = boots given w.state.node actions.Nothing ms
boot_stays boots given w (events.Stop calls fate) = refl

-- A fabric that a reopening gives its credentials back has them in its own row: it stays in the table.

used_back : (fabric : ℕ) (saved : Option Credentials) (fabrics : List Fabric) → is_used fabric (map (nodes.with_given_back saved) fabrics) ≡ is_used fabric fabrics
used_back fabric saved [] = refl
used_back fabric None (f ∷ fabrics) = ap (λ (rest : Bool). has_index fabric f || rest) (used_back fabric None fabrics)
used_back fabric (Some saved) (f ∷ fabrics) = ap (λ (rest : Bool). has_index fabric f || rest) (used_back fabric (Some saved) fabrics)

-- whether it is in the table, as what a reopening leaves of its own part tells
back_in : (sessions : List SessionRow) (boot fabric : ℕ) (w : Whole) → is_used fabric (reopened_own sessions boot fabric (own_part fabric w)).whole.node.fabrics ≡ is_in fabric w
back_in sessions boot fabric w =
    used_back fabric (own_part fabric w).whole.node.saved (own_part fabric w).whole.node.fabrics ∙ used_own fabric w.state.node.fabrics

module _ (given : Environment) (k : Known) (rules : KeepsRules given.judged) (w : Whole) (valid : IsValidWhole w) (e : Event) where
  -- The whole with which a node is reopened is valid, and of the boot before.

  pub surviving_valid : (survived : Bool) → IsValidWhole (surviving given w e survived)
  surviving_valid true = k.stays given w e rules valid
  surviving_valid false = valid

  pub surviving_boot : (survived : Bool) → (surviving given w e survived).state.node.boot ≡ w.state.node.boot
  surviving_boot true = boot_stays k.boots given w e
  surviving_boot false = refl

module _ (given : Environment) (sessions : List SessionRow) (k : Known) (rules : KeepsRules given.judged) (fabric : ℕ) (some : fabric ≢ 0) (w : Whole) (valid : IsValidWhole w) where
  abbrev public : PublicPart
  public = public_part fabric w

  abbrev boot : ℕ
  boot = w.state.node.boot + 1

  abbrev again : Option OwnPart → Option OwnPart
  again o = held_again sessions boot fabric o

  abbrev back : Whole → Option OwnPart
  back v = Some (reopened_own sessions boot fabric (own_part fabric v))

  -- Reopened behind a time step, or a line that stops the disk, it holds the same whether that survived or not.

  tick_again : (ms : ℕ) → is_in fabric w ≡ true → was_added fabric w.state.node.armed ≡ false → again (held fabric (next given w (events.Tick ms))) ≡ back w
  tick_again ms there kept =
      let now = next given w (events.Tick ms) in
      let once = k.once given sessions boot fabric ms w rules valid some there kept in
      let still : is_in fabric now ≡ true = sym (back_in sessions boot fabric now) ∙ ap (λ (o : OwnPart). is_used fabric o.whole.node.fabrics) once ∙ back_in sessions boot fabric w ∙ there in
      ap again (held_in fabric now still) ∙ ap (λ (o : OwnPart). Some o) once

  common_again : (e : Event) (survived : Bool) → (is_tick e || is_stop e) ≡ true → is_in fabric w ≡ true → is_in fabric (surviving given w e survived) ≡ true → was_added fabric (surviving given w e survived).state.node.armed ≡ false
      → again (held fabric (surviving given w e (is_tick e))) ≡ back (surviving given w e survived)
  common_again (events.Ask ms other node cats opcode payload) survived is there still kept = absurd (contradiction (sym is))
  common_again (events.Datagram ms from bytes) survived is there still kept = absurd (contradiction (sym is))
  common_again (events.Tick ms) true is there still kept = ap again (held_in fabric (next given w (events.Tick ms)) still)
  common_again (events.Tick ms) false is there still kept = tick_again ms there kept
  common_again (events.Report ms other subscription) survived is there still kept = absurd (contradiction (sym is))
  common_again (events.Resend ms session) survived is there still kept = absurd (contradiction (sym is))
  common_again (events.Stop calls fate) true is there still kept = ap again (held_in fabric w there) ∙ sym (ap back (stop_leaves given w (events.Stop calls fate) refl))
  common_again (events.Stop calls fate) false is there still kept = ap again (held_in fabric w there)

  -- what they leave, of the two
  common_change : (e : Event) → (is_tick e || is_stop e) ≡ true → held fabric (next given w e) ≡ held fabric (surviving given w e (is_tick e))
  common_change (events.Ask ms other node cats opcode payload) is = absurd (contradiction (sym is))
  common_change (events.Datagram ms from bytes) is = absurd (contradiction (sym is))
  common_change (events.Tick ms) is = refl
  common_change (events.Report ms other subscription) is = absurd (contradiction (sym is))
  common_change (events.Resend ms session) is = absurd (contradiction (sym is))
  common_change (events.Stop calls fate) is = ap (held fabric) (stop_leaves given w (events.Stop calls fate) refl)

  module _ (e : Event) where
    -- A LINE IN WHICH THE DISK STOPS.

    module _ (line : Event) (survived : Bool) where
      abbrev survivor : Whole
      survivor = surviving given w e survived

      abbrev now : Whole
      now = reopenings.reopened sessions survivor

      abbrev lost : Bool
      lost = is_in fabric w && not (is_in fabric now)

      abbrev unanswered : Option Unanswered
      unanswered = left_unanswered fabric w e survived

      -- It sends nothing.
      stopped_sent : replayed given sessions fabric (held fabric w) (marks_of_stop e line public unanswered (is_seen fabric w e) lost) ≡ []
      stopped_sent = elim (cases_Bool (is_of fabric w e)) [
        | inl its ↦
            ap (λ (b : Bool). replayed given sessions fabric (held fabric w) (marks_of_stop e line public (left_if e survived b) (is_seen fabric w e) lost)) its
            ∙ own_unsent given sessions fabric e line public (record { event = e; survived = survived }) (is_seen fabric w e) lost (held fabric w)
        | inr other ↦
            ap (λ (b : Bool). replayed given sessions fabric (held fabric w) (marks_of_stop e line public (left_if e survived b) (is_seen fabric w e) lost)) other
            ∙ other_unsent given sessions fabric e line public (is_seen fabric w e) lost (held fabric w)
            (λ sees. quiet_seen given k rules fabric some w valid e (λ v. common_quiet given v e (seen_common given k rules fabric some w valid e other sees)) (held fabric w))
      ]

      -- WHAT IT HOLDS as the node is reopened: of its own event what survived, of a time step what that left, and nothing of another's.

      abbrev held_with : Bool → Option OwnPart
      held_with its = held fabric (surviving given w e (if its then survived else is_tick e))

      abbrev until : Option OwnPart
      until = held_until given fabric e public unanswered (is_seen fabric w e) (held fabric w)

      own_change : (b : Bool) → is_in fabric w ≡ true → is_seen fabric w e ≡ true → (if b then held_seen given fabric e public (held fabric w) else held fabric w) ≡ held fabric (surviving given w e b)
      own_change true there sees = seen_held given k rules fabric some w valid e there sees
      own_change false there sees = refl

      own_until : is_of fabric w e ≡ true → is_in fabric w ≡ true → until ≡ held_with true
      own_until its there =
          ap (λ (b : Bool). held_until given fabric e public (left_if e survived b) (is_seen fabric w e) (held fabric w)) its
          ∙ own_change survived there (ap (λ (b : Bool). b || (is_tick e || is_stop e)) its)

      other_until : is_of fabric w e ≡ false → is_in fabric w ≡ true → until ≡ held_with false
      other_until other there = elim (cases_Bool (is_seen fabric w e)) [
        | inl sees ↦
            (λ i. held_until given fabric e public (left_if e survived (other i)) (sees i) (held fabric w))
            ∙ seen_held given k rules fabric some w valid e there sees
            ∙ common_change e (seen_common given k rules fabric some w valid e other sees)
        | inr hidden ↦
            (λ i. held_until given fabric e public (left_if e survived (other i)) (hidden i) (held fabric w))
            ∙ sym (ap (λ (b : Bool). held fabric (surviving given w e b)) (hidden_parts given k rules fabric some w valid e hidden).1)
      ]

      as_until : is_in fabric w ≡ true → until ≡ held_with (is_of fabric w e)
      as_until there = elim (cases_Bool (is_of fabric w e)) [
        | inl its ↦ own_until its there ∙ sym (ap held_with its)
        | inr other ↦ other_until other there ∙ sym (ap held_with other)
      ]

      -- REOPENED, where it stays in the table. Then it was there before, and was not added under the fail-safe.

      stays_in : is_in fabric now ≡ true → (is_in fabric survivor ≡ true) × (not (was_added fabric survivor.state.node.armed) ≡ true)
      stays_in still = and_parts (is_in fabric survivor) (not (was_added fabric survivor.state.node.armed)) (sym (k.taken sessions fabric survivor (surviving_valid given k rules w valid e survived)) ∙ still)

      not_added : is_in fabric now ≡ true → was_added fabric survivor.state.node.armed ≡ false
      not_added still = not-true (was_added fabric survivor.state.node.armed) (stays_in still).1

      now_held : is_in fabric now ≡ true → held fabric now ≡ back survivor
      now_held still =
          held_in fabric now still
          ∙ ap (λ (o : OwnPart). Some o) (k.sees sessions fabric survivor (surviving_valid given k rules w valid e survived) some (stays_in still).0 (not_added still))
          ∙ ap (λ (before : ℕ). Some (reopened_own sessions (before + 1) fabric (own_part fabric survivor))) (surviving_boot given k rules w valid e survived)

      hidden_back : (b : Bool) → is_seen fabric w e ≡ false → is_in fabric w ≡ true → is_in fabric (surviving given w e b) ≡ true → back w ≡ back (surviving given w e b)
      hidden_back true hidden there still =
          ap (λ (o : OwnPart). Some (reopened_own sessions boot fabric o)) (sym (hidden_keeps given k rules fabric some w valid e hidden there still))
      hidden_back false hidden there still = refl

      other_again : is_of fabric w e ≡ false → is_in fabric w ≡ true → is_in fabric now ≡ true → again (held_with false) ≡ back survivor
      other_again other there still = elim (cases_Bool (is_seen fabric w e)) [
        | inl sees ↦ common_again e survived (seen_common given k rules fabric some w valid e other sees) there (stays_in still).0 (not_added still)
        | inr hidden ↦
            ap (λ (b : Bool). again (held fabric (surviving given w e b))) (hidden_parts given k rules fabric some w valid e hidden).1
            ∙ ap again (held_in fabric w there)
            ∙ hidden_back survived hidden there (stays_in still).0
      ]

      again_back : is_in fabric w ≡ true → is_in fabric now ≡ true → again (held_with (is_of fabric w e)) ≡ back survivor
      again_back there still = elim (cases_Bool (is_of fabric w e)) [
        | inl its ↦ ap (λ (b : Bool). again (held_with b)) its ∙ ap again (held_in fabric survivor (stays_in still).0)
        | inr other ↦ ap (λ (b : Bool). again (held_with b)) other ∙ other_again other there still
      ]

      again_held : is_in fabric w ≡ true → is_in fabric now ≡ true → again until ≡ held fabric now
      again_held there still = ap again (as_until there) ∙ again_back there still ∙ sym (now_held still)

      -- Nobody is born through it.
      nobody_comes : (b : Bool) → is_in fabric w ≡ false → is_in fabric (reopenings.reopened sessions (surviving given w e b)) ≡ false
      nobody_comes true out = k.nobody given sessions fabric w e rules valid out
      nobody_comes false out = k.taken sessions fabric w valid ∙ ap (λ (b : Bool). b && not (was_added fabric w.state.node.armed)) out

      -- WHAT IS HELD BEHIND IT.

      abbrev held_if : Bool → Bool → Option OwnPart → Option OwnPart
      held_if there still o = if there && not still then None else again o

      held_behind_it : held_if (is_in fabric w) (is_in fabric now) until ≡ held fabric now
      held_behind_it = elim (cases_Bool (is_in fabric w)) [
        | inl there ↦ elim (cases_Bool (is_in fabric now)) [
          | inl still ↦ (λ i. held_if (there i) (still i) until) ∙ again_held there still
          | inr gone ↦ (λ i. held_if (there i) (gone i) until) ∙ sym (held_out fabric now gone)
        ]
        | inr out ↦
            (λ i. held_if (out i) (is_in fabric now) (held_until given fabric e public unanswered (is_seen fabric w e) (held_out fabric w out i)))
            ∙ ap again (none_until given fabric e public unanswered (is_seen fabric w e))
            ∙ sym (held_out fabric now (nobody_comes survived out))
      ]

      stopped_held : held_after given sessions fabric (held fabric w) (marks_of_stop e line public unanswered (is_seen fabric w e) lost) ≡ held fabric now
      stopped_held = held_of_stop given sessions fabric e line public unanswered (is_seen fabric w e) lost (held fabric w) ∙ held_behind_it

      -- WHICH LIFE ENDS.

      abbrev ends_if : Bool → Bool → List OwnPart
      ends_if there still = if there && not still then left_by_reopening given sessions fabric w e survived ∷ [] else []

      ends_here : ends_through (held fabric w) (again until) lost ≡ ends_if (is_in fabric w) (is_in fabric now)
      ends_here = elim (cases_Bool (is_in fabric w)) [
        | inl there ↦ elim (cases_Bool (is_in fabric now)) [
          | inl still ↦
              (λ i. ends_through (held fabric w) ((again_held there still ∙ held_in fabric now still) i) (there i && not (still i)))
              ∙ ap (λ (first : List OwnPart). first ++ []) (stays_on (held fabric w) (own_part fabric now))
              ∙ (λ i. ends_if (sym there i) (sym still i))
          | inr gone ↦
              (λ i. ends_through (held_in fabric w there i) (again (as_until there i)) (there i && not (gone i)))
              ∙ ends_once (own_part fabric w) (again (held_with (is_of fabric w e)))
              ∙ (λ i. ends_if (sym there i) (sym gone i))
        ]
        | inr out ↦
            (λ i. ends_through (held_out fabric w out i) (again until) (out i && not (is_in fabric now)))
            ∙ (λ i. ends_if (sym out i) (is_in fabric now))
      ]

      stopped_ends : ends_by given sessions fabric (held fabric w) (marks_of_stop e line public unanswered (is_seen fabric w e) lost) ≡ ends_if (is_in fabric w) (is_in fabric now)
      stopped_ends = ends_of_stop given sessions fabric e line public unanswered (is_seen fabric w e) lost (held fabric w) ∙ ends_here

    -- WHATEVER BECOMES OF THE LINE.

    pub course_sent : (c : Course) → messages_to fabric (messages_in given w e c) ≡ replayed given sessions fabric (held fabric w) (if_seen fabric w e ++ marks_in given sessions fabric w e c)
    course_sent (goes stop) = going_sent given k rules fabric some w valid e sessions stop
    course_sent (stops line survived) = sym (stopped_sent line survived)

    pub course_held : (c : Course) → held_after given sessions fabric (held fabric w) (if_seen fabric w e ++ marks_in given sessions fabric w e c) ≡ held fabric (behind_course given sessions w e c).whole
    course_held (goes stop) = going_held given k rules fabric some w valid e sessions stop
    course_held (stops line survived) = stopped_held line survived

    pub course_ends : (c : Course) → ends_by given sessions fabric (held fabric w) (if_seen fabric w e ++ marks_in given sessions fabric w e c) ≡ ends_in given sessions fabric w e c
    course_ends (goes stop) = going_ends given k rules fabric some w valid e sessions stop
    course_ends (stops line survived) = stopped_ends line survived
