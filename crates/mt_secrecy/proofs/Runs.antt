-- Recordings that are alike, by induction over their lines.
use Rattle.std.proofs.Common.{◌≡◌, ℕ, ◌==◌, Bool, true, false, List, [], ◌∷◌, ◌++◌, Option, Some, None, refl, sym, ap, ◌∙◌, map, if◌then◌else◌}
use Rattle.mt_im.specs.Reading.{request_in}
use Rattle.mt_model.specs.declared.texts.config.SessionRow.{SessionRow}
use Rattle.mt_model.specs.declared.texts.recording.Event.{Event}
use Rattle.mt_model.specs.declared.texts.recording.Event.TheVariants as events
use Rattle.mt_outside.specs.declared.fate.Fate.{Fate}
use Rattle.mt_machine.specs.Environment.{Environment}
use Rattle.mt_machine.specs.Lines.{line_actor}
use Rattle.mt_ledger.specs.Reporting.{due_now}
use Rattle.mt_runs.specs.Course.{Course, Going, Stop, behind_course, call_by_call, changes_what_lasts, course, course_of_line, course_of_stop, goes, stepped, stops}
use Rattle.mt_runs.specs.Lines.{fabric_of, next, sent, sent_asked}
use Rattle.mt_runs.specs.Messages.{behind, message_to, messages, messages_in, messages_on_way, run, sent_in, sent_on_way}
use Rattle.mt_runs.specs.Reopening.{reopened}
use Rattle.mt_runs.specs.Whole.{Whole}
use Rattle.mt_secrecy.specs.Alike.{AllAlike, AreAlike, masked_whole}
use Rattle.mt_masks.specs.Laws.{ActionsStayMasked, LinesStayMasked, ReadsAreTheSame, RepliesAreTheSame, StatesStayMasked, TicksStayMasked, ToldIsTheSame}
use Rattle.mt_secrecy.proofs.Lines.{sent_due_same, sent_same}
use Rattle.mt_secrecy.proofs.Next.{asked_masked, next_asked, reopens_masked, report_masked, tick_masked}

-- What is known of the node where keys are masked.
pub record Known : Type 0 where
  pub replies : RepliesAreTheSame
  pub reads : ReadsAreTheSame
  pub states : StatesStayMasked
  pub told : ToldIsTheSame
  pub lines : LinesStayMasked
  pub acted : ActionsStayMasked
  pub ticks : TicksStayMasked

-- Two nodes on their way that are the same but for keys, where no stop is to come.
pub record GoAlike (g h : Going) : Type 0 where
  pub whole : masked_whole g.whole ≡ masked_whole h.whole
  pub stop : g.stop ≡ None
  pub other : h.stop ≡ None

-- No line is stopped but by itself.

course_goes : (changes : Bool) (stop : Option Stop) → stop ≡ None → course_of_line changes stop ≡ goes None
course_goes true stop none = ap call_by_call none
course_goes false stop none = ap goes none

course_at_once : (calls : ℕ) (fate : Fate) → calls ≡ 0 → course_of_stop calls fate ≡ stops (events.Stop calls fate) false
course_at_once calls fate at_once = ap (λ (n : ℕ). if n == 0 then stops (events.Stop calls fate) false else goes (Some (record { calls = calls; fate = fate; line = events.Stop calls fate }))) at_once

module _ (k : Known) (given : Environment) where
  -- LINES THAT ARE ALIKE send the same, for the same fabric, and leave wholes that are the same but for keys.

  module _ (w v : Whole) (same : masked_whole w ≡ masked_whole v) where
    sent_alike : (e f : Event) → AreAlike e f → sent given w e ≡ sent given v f
    sent_alike (events.Ask ms fabric node cats opcode payload) f alike =
        let actor = line_actor fabric node cats in
        sym (sent_same k.reads k.replies given w.state w.ledger actor ms (request_in opcode payload))
        ∙ (λ i. sent_asked given (same i).state (same i).ledger actor ms (alike.alike i))
        ∙ sent_same k.reads k.replies given v.state v.ledger actor ms (request_in opcode alike.asked)
        ∙ ap (sent given v) (sym alike.same)
    sent_alike (events.Tick ms) f alike = ap (sent given v) (sym alike)
    sent_alike (events.Report ms fabric id) f alike =
        sym (sent_due_same k.reads w.state.node w.ledger w.talks ms fabric id (due_now w.state.node w.ledger ms fabric id))
        ∙ (λ i. sent given (same i) (events.Report ms fabric id))
        ∙ sent_due_same k.reads v.state.node v.ledger v.talks ms fabric id (due_now v.state.node v.ledger ms fabric id)
        ∙ ap (sent given v) (sym alike)
    sent_alike (events.Stop calls fate) f alike = ap (sent given v) (sym alike.same)
    sent_alike (events.Datagram ms from bytes) f alike = absurd alike
    sent_alike (events.Resend ms session) f alike = absurd alike

    fabric_alike : (e f : Event) → AreAlike e f → fabric_of w.state.node e ≡ fabric_of v.state.node f
    fabric_alike (events.Ask ms fabric node cats opcode payload) f alike = (λ i. fabric_of (same i).state.node (events.Ask ms fabric node cats opcode payload)) ∙ ap (fabric_of v.state.node) (sym alike.same)
    fabric_alike (events.Tick ms) f alike = ap (fabric_of v.state.node) (sym alike)
    fabric_alike (events.Report ms fabric id) f alike = ap (fabric_of v.state.node) (sym alike)
    fabric_alike (events.Stop calls fate) f alike = ap (fabric_of v.state.node) (sym alike.same)
    fabric_alike (events.Datagram ms from bytes) f alike = absurd alike
    fabric_alike (events.Resend ms session) f alike = absurd alike

    next_alike : (e f : Event) → AreAlike e f → masked_whole (next given w e) ≡ masked_whole (next given v f)
    next_alike (events.Ask ms fabric node cats opcode payload) f alike =
        let actor = line_actor fabric node cats in
        sym (asked_masked k.states k.told given k.lines w actor ms (request_in opcode payload))
        ∙ (λ i. next_asked k.states k.told given (same i) actor ms (alike.alike i))
        ∙ asked_masked k.states k.told given k.lines v actor ms (request_in opcode alike.asked)
        ∙ ap (λ (line : Event). masked_whole (next given v line)) (sym alike.same)
    next_alike (events.Tick ms) f alike =
        sym (tick_masked k.states k.told given k.ticks w ms)
        ∙ (λ i. next given (same i) (events.Tick ms))
        ∙ tick_masked k.states k.told given k.ticks v ms
        ∙ ap (λ (line : Event). masked_whole (next given v line)) (sym alike)
    next_alike (events.Report ms fabric id) f alike =
        sym (report_masked k.states k.told given k.acted k.reads w ms fabric id)
        ∙ (λ i. next given (same i) (events.Report ms fabric id))
        ∙ report_masked k.states k.told given k.acted k.reads v ms fabric id
        ∙ ap (λ (line : Event). masked_whole (next given v line)) (sym alike)
    next_alike (events.Stop calls fate) f alike = (λ i. next given (same i) (events.Stop calls fate)) ∙ ap (λ (line : Event). masked_whole (next given v line)) (sym alike.same)
    next_alike (events.Datagram ms from bytes) f alike = absurd alike
    next_alike (events.Resend ms session) f alike = absurd alike

  -- On their way.

  module _ (sessions : List SessionRow) where
    record OnWay (g h : Going) (e f : Event) : Type 0 where
      sent : sent_on_way given g e ≡ sent_on_way given h f
      messages : messages_on_way given g e ≡ messages_on_way given h f
      behind : GoAlike (stepped given sessions g e) (stepped given sessions h f)

    abbrev whole_in : Going → Event → Course → Whole
    whole_in g e c = masked_whole (behind_course given sessions g.whole e c).whole

    -- lines that are carried out
    go_on : (g h : Going) → GoAlike g h → (e f : Event) → AreAlike e f → course given g e ≡ goes None → course given h f ≡ goes None → OnWay g h e f
    go_on g h same e f alike c d =
        let told = sent_alike g.whole h.whole same.whole e f alike in
        let whose = fabric_alike g.whole h.whole same.whole e f alike in
        record {
          sent = ap (sent_in given g.whole e) c ∙ told ∙ sym (ap (sent_in given h.whole f) d);
          messages = ap (messages_in given g.whole e) c ∙ (λ i. map (message_to (whose i)) (told i)) ∙ sym (ap (messages_in given h.whole f) d);
          behind = record {
            whole = ap (whole_in g e) c ∙ next_alike g.whole h.whole same.whole e f alike ∙ sym (ap (whole_in h f) d);
            stop = ap (λ (x : Course). (behind_course given sessions g.whole e x).stop) c;
            other = ap (λ (x : Course). (behind_course given sessions h.whole f x).stop) d;
          };
        }

    -- stops
    stop_both : (g h : Going) → GoAlike g h → (e f line : Event) → course given g e ≡ stops line false → course given h f ≡ stops line false → OnWay g h e f
    stop_both g h same e f line c d = record {
      sent = ap (sent_in given g.whole e) c ∙ sym (ap (sent_in given h.whole f) d);
      messages = ap (messages_in given g.whole e) c ∙ sym (ap (messages_in given h.whole f) d);
      behind = record {
        whole =
            ap (whole_in g e) c
            ∙ sym (reopens_masked sessions g.whole)
            ∙ ap (reopened sessions) same.whole
            ∙ reopens_masked sessions h.whole
            ∙ sym (ap (whole_in h f) d);
        stop = ap (λ (x : Course). (behind_course given sessions g.whole e x).stop) c;
        other = ap (λ (x : Course). (behind_course given sessions h.whole f x).stop) d;
      };
    }

    on_way : (g h : Going) → GoAlike g h → (e f : Event) → AreAlike e f → OnWay g h e f
    on_way g h same (events.Ask ms fabric node cats opcode payload) f alike =
        let e = events.Ask ms fabric node cats opcode payload in
        go_on g h same e f alike (course_goes (changes_what_lasts given g.whole e) g.stop same.stop)
        (ap (course given h) alike.same ∙ course_goes (changes_what_lasts given h.whole (events.Ask ms fabric node cats opcode alike.asked)) h.stop same.other)
    on_way g h same (events.Tick ms) f alike =
        let e = events.Tick ms in
        go_on g h same e f alike (course_goes (changes_what_lasts given g.whole e) g.stop same.stop)
        (ap (course given h) alike ∙ course_goes (changes_what_lasts given h.whole e) h.stop same.other)
    on_way g h same (events.Report ms fabric id) f alike =
        let e = events.Report ms fabric id in
        go_on g h same e f alike (course_goes (changes_what_lasts given g.whole e) g.stop same.stop)
        (ap (course given h) alike ∙ course_goes (changes_what_lasts given h.whole e) h.stop same.other)
    on_way g h same (events.Stop calls fate) f alike =
        let e = events.Stop calls fate in
        stop_both g h same e f e (course_at_once calls fate alike.at_once) (ap (course given h) alike.same ∙ course_at_once calls fate alike.at_once)
    on_way g h same (events.Datagram ms from bytes) f alike = absurd alike
    on_way g h same (events.Resend ms session) f alike = absurd alike

    -- WHOLE RUNS

    pub runs_alike : (es fs : List Event) (g h : Going) → GoAlike g h → AllAlike es fs → run given sessions g es ≡ run given sessions h fs
    runs_alike [] [] g h same alike = refl
    runs_alike [] (f ∷ fs) g h same alike = absurd alike
    runs_alike (e ∷ es) [] g h same alike = absurd alike
    runs_alike (e ∷ es) (f ∷ fs) g h same alike =
        let way = on_way g h same e f alike.0 in
        λ i. way.sent i ++ runs_alike es fs (stepped given sessions g e) (stepped given sessions h f) way.behind alike.1 i

    pub messages_alike : (es fs : List Event) (g h : Going) → GoAlike g h → AllAlike es fs → messages given sessions g es ≡ messages given sessions h fs
    messages_alike [] [] g h same alike = refl
    messages_alike [] (f ∷ fs) g h same alike = absurd alike
    messages_alike (e ∷ es) [] g h same alike = absurd alike
    messages_alike (e ∷ es) (f ∷ fs) g h same alike =
        let way = on_way g h same e f alike.0 in
        λ i. way.messages i ++ messages_alike es fs (stepped given sessions g e) (stepped given sessions h f) way.behind alike.1 i

    pub left_alike : (es fs : List Event) (g h : Going) → GoAlike g h → AllAlike es fs → masked_whole (behind given sessions g es).whole ≡ masked_whole (behind given sessions h fs).whole
    left_alike [] [] g h same alike = same.whole
    left_alike [] (f ∷ fs) g h same alike = absurd alike
    left_alike (e ∷ es) [] g h same alike = absurd alike
    left_alike (e ∷ es) (f ∷ fs) g h same alike = left_alike es fs (stepped given sessions g e) (stepped given sessions h f) (on_way g h same e f alike.0).behind alike.1
