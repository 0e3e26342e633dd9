-- Whole runs, by induction over their events.
use Rattle.std.proofs.Common.{◌≡◌, ◌≢◌, ℕ, ◌+◌, ◌≤◌, ◌^◌, true, List, [], ◌∷◌, ◌++◌, Option, arith, refl, sym, ap, subst, ◌∙◌, length, map, suc}
use Rattle.std.proofs.lemmas.List.{map-append}
use Rattle.std.proofs.lemmas.List.Elements.{filter-append}
use Rattle.mt_model.specs.texts.Config.{are_sessions}
use Rattle.mt_model.specs.declared.texts.config.SessionRow.{SessionRow}
use Rattle.mt_model.specs.declared.texts.recording.Event.{Event}
use Rattle.mt_model.specs.declared.texts.recording.Sent.{Sent}
use Rattle.mt_opcreds.specs.Laws.{KeepsRules}
use Rattle.mt_machine.specs.Environment.{Environment}
use Rattle.mt_runs.specs.Course.{Course, Going, behind_course, course, goes, stepped, stops, surviving}
use Rattle.mt_runs.specs.Isolation.{IsValidWhole, OwnPart}
use Rattle.mt_runs.specs.Laws.{HasRoom}
use Rattle.mt_runs.specs.Lines.{fabric_of, next, sent}
use Rattle.mt_runs.specs.Marks.{marks, marks_at}
use Rattle.mt_runs.specs.Messages.{Message, behind, is_to, message_to, messages, messages_in, messages_on_way, messages_to, run, sent_in}
use Rattle.mt_runs.specs.Replay.{ends, ends_by, held, held_after, replayed}
use Rattle.mt_runs.specs.Whole.{Whole}
use Rattle.mt_runs.proofs.Marking.{ends_append, held_append, not_left, replayed_append}
use Rattle.mt_runs.proofs.Steps.{Known}
use Rattle.mt_runs.proofs.Stopping.{boot_stays, course_ends, course_held, course_sent, surviving_boot, surviving_valid}

-- The messages, without their fabrics.

abbrev text_of : Message → Sent
text_of message = message.sent

texts_to : (fabric : ℕ) (xs : List Sent) → map text_of (map (message_to fabric) xs) ≡ xs
texts_to fabric [] = refl
texts_to fabric (x ∷ xs) = ap (λ (rest : List Sent). x ∷ rest) (texts_to fabric xs)

course_texts : (given : Environment) (w : Whole) (e : Event) (c : Course) → sent_in given w e c ≡ map text_of (messages_in given w e c)
course_texts given w e (goes stop) = sym (texts_to (fabric_of w.state.node e) (sent given w e))
course_texts given w e (stops line survived) = refl

pub texts : (given : Environment) (sessions : List SessionRow) (es : List Event) (g : Going) → run given sessions g es ≡ map text_of (messages given sessions g es)
texts given sessions [] g = refl
texts given sessions (e ∷ es) g =
    let now = stepped given sessions g e in
    (λ i. course_texts given g.whole e (course given g e) i ++ texts given sessions es now i)
    ∙ sym (map-append text_of (messages_on_way given g e) (messages given sessions now es))

-- Room for the boots that may come.

room_here : (boot n : ℕ) → boot + suc n ≤ 2 ^ 31 → boot + 1 ≤ 2 ^ 31
room_here boot n room = omega arith

room_later : (boot later n : ℕ) → boot + suc n ≤ 2 ^ 31 → later ≤ boot + 1 → later + n ≤ 2 ^ 31
room_later boot later n room rises = omega arith

same_boot : (boot later : ℕ) → later ≡ boot → later ≤ boot + 1
same_boot boot later same = omega arith

next_boot : (boot later : ℕ) → later ≡ boot → later + 1 ≤ boot + 1
next_boot boot later same = omega arith

module _ (given : Environment) (sessions : List SessionRow) (k : Known) (rules : KeepsRules given.judged) where
  -- A line leaves a valid whole, at most one boot later.

  course_valid : are_sessions sessions ≡ true → (w : Whole) (e : Event) (c : Course) → IsValidWhole w → w.state.node.boot + 1 ≤ 2 ^ 31 → IsValidWhole (behind_course given sessions w e c).whole
  course_valid rows w e (goes stop) valid room = k.stays given w e rules valid
  course_valid rows w e (stops line survived) valid room =
      k.valid sessions (surviving given w e survived) rows (surviving_valid given k rules w valid e survived)
      (subst (λ (boot : ℕ). boot + 1 ≤ 2 ^ 31) (sym (surviving_boot given k rules w valid e survived)) room)

  course_boot : (w : Whole) (e : Event) (c : Course) → IsValidWhole w → (behind_course given sessions w e c).whole.state.node.boot ≤ w.state.node.boot + 1
  course_boot w e (goes stop) valid = same_boot w.state.node.boot (next given w e).state.node.boot (boot_stays k.boots given w e)
  course_boot w e (stops line survived) valid = next_boot w.state.node.boot (surviving given w e survived).state.node.boot (surviving_boot given k rules w valid e survived)

  module _ (rows : are_sessions sessions ≡ true) (e : Event) (es : List Event) (g : Going) (valid : IsValidWhole g.whole) (room : HasRoom g (e ∷ es)) where
    step_valid : IsValidWhole (stepped given sessions g e).whole
    step_valid = course_valid rows g.whole e (course given g e) valid (room_here g.whole.state.node.boot (length es) room)

    step_room : HasRoom (stepped given sessions g e) es
    step_room = room_later g.whole.state.node.boot (stepped given sessions g e).whole.state.node.boot (length es) room (course_boot g.whole e (course given g e) valid)

  -- A RUN.

  pub stay_valid : are_sessions sessions ≡ true → (es : List Event) (g : Going) → IsValidWhole g.whole → HasRoom g es → IsValidWhole (behind given sessions g es).whole
  stay_valid rows [] g valid room = valid
  stay_valid rows (e ∷ es) g valid room = stay_valid rows es (stepped given sessions g e) (step_valid rows e es g valid room) (step_room rows e es g valid room)

  module _ (rows : are_sessions sessions ≡ true) (fabric : ℕ) (some : fabric ≢ 0) where
    -- what is sent
    pub replays : (es : List Event) (g : Going) → IsValidWhole g.whole → HasRoom g es → messages_to fabric (messages given sessions g es) ≡ replayed given sessions fabric (held fabric g.whole) (marks given sessions fabric g es)
    replays [] g valid room = refl
    replays (e ∷ es) g valid room =
        let now = stepped given sessions g e in
        let c = course given g e in
        filter-append (is_to fabric) (messages_on_way given g e) (messages given sessions now es)
        ∙ (λ i.
        course_sent given sessions k rules fabric some g.whole valid e c i
        ++ replays es now (step_valid rows e es g valid room) (step_room rows e es g valid room) i)
        ∙ ap (λ (o : Option OwnPart). replayed given sessions fabric (held fabric g.whole) (marks_at given sessions fabric g e) ++ replayed given sessions fabric o (marks given sessions fabric now es))
        (sym (course_held given sessions k rules fabric some g.whole valid e c))
        ∙ sym (replayed_append given sessions fabric (marks_at given sessions fabric g e) (marks given sessions fabric now es) (not_left given sessions fabric es now) (held fabric g.whole))

    -- what is left
    pub replays_left : (es : List Event) (g : Going) → IsValidWhole g.whole → HasRoom g es → held fabric (behind given sessions g es).whole ≡ held_after given sessions fabric (held fabric g.whole) (marks given sessions fabric g es)
    replays_left [] g valid room = refl
    replays_left (e ∷ es) g valid room =
        let now = stepped given sessions g e in
        replays_left es now (step_valid rows e es g valid room) (step_room rows e es g valid room)
        ∙ ap (λ (o : Option OwnPart). held_after given sessions fabric o (marks given sessions fabric now es)) (sym (course_held given sessions k rules fabric some g.whole valid e (course given g e)))
        ∙ sym (held_append given sessions fabric (marks_at given sessions fabric g e) (marks given sessions fabric now es) (not_left given sessions fabric es now) (held fabric g.whole))

    -- with what lives end
    pub replays_ends : (es : List Event) (g : Going) → IsValidWhole g.whole → HasRoom g es → ends given sessions fabric g es ≡ ends_by given sessions fabric (held fabric g.whole) (marks given sessions fabric g es)
    replays_ends [] g valid room = refl
    replays_ends (e ∷ es) g valid room =
        let now = stepped given sessions g e in
        let c = course given g e in
        (λ i.
        sym (course_ends given sessions k rules fabric some g.whole valid e c) i
        ++ replays_ends es now (step_valid rows e es g valid room) (step_room rows e es g valid room) i)
        ∙ ap (λ (o : Option OwnPart). ends_by given sessions fabric (held fabric g.whole) (marks_at given sessions fabric g e) ++ ends_by given sessions fabric o (marks given sessions fabric now es))
        (sym (course_held given sessions k rules fabric some g.whole valid e c))
        ∙ sym (ends_append given sessions fabric (marks_at given sessions fabric g e) (marks given sessions fabric now es) (not_left given sessions fabric es now) (held fabric g.whole))
