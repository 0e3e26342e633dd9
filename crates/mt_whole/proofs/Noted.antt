-- From what is noted of one talk to what a line adds to all.
use Rattle.std.proofs.Common.{◌≡◌, ℕ, inl, inr, Bool, true, false, List, [], ◌∷◌, ◌++◌, Option, Some, None, Result, Ok, Err, is_some, refl, sym, ap, ◌∙◌, append_assoc, append-nil, map, option_map, if◌then◌else◌}
use Rattle.std.proofs.lemmas.Bool.{cases_Bool}
use Rattle.std.proofs.lemmas.List.{map-append}
use Rattle.std.specs.List.{find}
use Rattle.mt_model.specs.declared.messages.message.Payload.{Payload}
use Rattle.mt_model.specs.declared.texts.config.SessionRow.{SessionRow}
use Rattle.mt_model.specs.declared.texts.recording.Event.TheVariants as events
use Rattle.mt_session.specs.Opening.{Arrival}
use Rattle.mt_session.specs.declared.fault.SealFault.{SealFault}
use Rattle.mt_session.specs.declared.fault.SealFault.TheVariants.{Exhausted, Memory, TooLong}
use Rattle.mt_session.specs.declared.opening.Dropped.{Dropped}
use Rattle.mt_outside.specs.declared.network.Peer.{Peer}
use Rattle.mt_exchange.specs.Parts.{outgoing_in}
use Rattle.mt_exchange.specs.Runs.{answered, reported}
use Rattle.mt_exchange.specs.Shown as showing
use Rattle.mt_exchange.specs.Shown.{answer_outgoing, report_outgoing, shown_answer, shown_report}
use Rattle.mt_exchange.specs.declared.exchange.Key.{Key}
use Rattle.mt_exchange.specs.declared.telling.Outgoing.{Outgoing}
use Rattle.mt_talk.specs.Hearing.{after_received, fresh_by}
use Rattle.mt_talk.specs.Talks.{Talk, after_answer, after_report, answer_in, behind_unless_refused, behind_unless_too_long, refusal_in, report_in, run_in}
use Rattle.mt_interactions.specs.mt_machine.Environment.{Environment}
use Rattle.mt_interactions.specs.mt_ledger.Reporting.{due_now}
use Rattle.mt_interactions.specs.mt_runs.Lines.{talks_behind, with_next}
use Rattle.mt_interactions.specs.mt_runs.Whole.{SessionTalk, Whole, is_talk_of, with_talk}
use Rattle.mt_interactions.specs.Reporting.{reported_over}
use Rattle.mt_marks.specs.Noted.{noted, noted_if, shown_in}
use Rattle.mt_marks.specs.Remembered.{ToldTalk, remembered}
use Rattle.mt_marks.specs.declared.shown.Note.{Note}
use Rattle.mt_marks.specs.declared.shown.Shown.{Shown}
use Rattle.mt_whole.specs.Noting.{IsNoteOf, IsShownBehind, listed, sent_if, told_if}
use Rattle.mt_whole.proofs.Listed.{some_is}
use Rattle.mt_whole.proofs.Planned.{due_to_plain, due_to_session, found_is, talk_told}

-- The talk that is found becomes another.

-- of which no more is shown
stays_shown : (id : ℕ) (t : SessionTalk) (talk : Talk) (ts : List SessionTalk) → find (is_talk_of id) ts ≡ Some t → talk.shown ≡ t.talk.shown → map remembered ts ≡ map remembered (with_talk id talk ts)
stays_shown id t talk [] is same = refl
stays_shown id t talk (s ∷ ss) is same = elim (cases_Bool (is_talk_of id s)) [
  | inl here ↦
      let its : s ≡ t = some_is s t (sym (ap (λ (b : Bool). if b then Some s else find (is_talk_of id) ss) here) ∙ is) in
      let shows : s.talk.shown ≡ talk.shown = ap (λ (x : SessionTalk). x.talk.shown) its ∙ sym same in
      rw here (λ i. record { row = s.row; shown = shows i } ∷ map remembered ss)
  | inr other ↦
      rw other (ap (λ (rest : List ToldTalk). remembered s ∷ rest) (stays_shown id t talk ss (sym (ap (λ (b : Bool). if b then Some s else find (is_talk_of id) ss) other) ∙ is) same))
]

-- of which more is shown, by what is noted
more_shown : (note : Note) (t : SessionTalk) (talk : Talk) (ts : List SessionTalk) → find (is_talk_of note.session) ts ≡ Some t → t.talk.shown ++ map shown_in note.shown ≡ talk.shown
    → noted note (map remembered ts) ≡ map remembered (with_talk note.session talk ts)
more_shown note t talk [] is adds = refl
more_shown note t talk (s ∷ ss) is adds = elim (cases_Bool (is_talk_of note.session s)) [
  | inl here ↦
      let its : s ≡ t = some_is s t (sym (ap (λ (b : Bool). if b then Some s else find (is_talk_of note.session) ss) here) ∙ is) in
      let shows : s.talk.shown ++ map shown_in note.shown ≡ talk.shown = ap (λ (x : SessionTalk). x.talk.shown ++ map shown_in note.shown) its ∙ adds in
      rw here (λ i. record { row = s.row; shown = shows i } ∷ map remembered ss)
  | inr other ↦
      rw other (ap (λ (rest : List ToldTalk). remembered s ∷ rest) (more_shown note t talk ss (sym (ap (λ (b : Bool). if b then Some s else find (is_talk_of note.session) ss) other) ∙ is) adds))
]

pub noted_over : (id : ℕ) (t : SessionTalk) (ts : List SessionTalk) (note : Option Note) (next : SessionTalk → Talk) → find (is_talk_of id) ts ≡ Some t → IsNoteOf note t (next t)
    → noted_if note (map remembered ts) ≡ map remembered (with_next next (find (is_talk_of id) ts) ts)
noted_over id t ts None next is stays =
    let its : t.row.session ≡ id = found_is id t ts is in
    stays_shown id t (next t) ts is stays
    ∙ sym (ap (λ (o : Option SessionTalk). map remembered (with_next next o ts)) is ∙ ap (λ (n : ℕ). map remembered (with_talk n (next t) ts)) its)
noted_over id t ts (Some note) next is both =
    let named : note.session ≡ id = both.0 ∙ found_is id t ts is in
    let at : find (is_talk_of note.session) ts ≡ Some t = ap (λ (n : ℕ). find (is_talk_of n) ts) named ∙ is in
    more_shown note t (next t) ts at both.1
    ∙ ap (λ (n : ℕ). map remembered (with_talk n (next t) ts)) both.0
    ∙ sym (ap (λ (o : Option SessionTalk). map remembered (with_next next o ts)) is)

-- What a report step adds, by what is reported over which session.

module _ (given : Environment) (w : Whole) (ms fabric id : ℕ) where
  abbrev pub reported_now : Option (ℕ × List Payload)
  reported_now = reported_over w.state.node w.ledger.history fabric id (due_now w.state.node w.ledger ms fabric id)

  pub none_reported : reported_now ≡ None → map remembered w.talks ≡ map remembered (talks_behind given w (events.Report ms fabric id))
  none_reported none = ap (map remembered) (sym (due_to_plain w.state.node w.ledger w.talks ms fabric id (due_now w.state.node w.ledger ms fabric id) none).stay)

  pub nobody_told : (session : ℕ) (payloads : List Payload) → reported_now ≡ Some (session, payloads) → find (is_talk_of session) w.talks ≡ None
      → map remembered w.talks ≡ map remembered (talks_behind given w (events.Report ms fabric id))
  nobody_told session payloads due none =
      let told = due_to_session w.state.node w.ledger w.talks ms fabric id (due_now w.state.node w.ledger ms fabric id) session payloads due in
      ap (map remembered) (sym (told.next ∙ ap (λ (o : Option SessionTalk). with_next (talk_told ms id payloads) o w.talks) none))

  pub told_noted : (session : ℕ) (payloads : List Payload) (t : SessionTalk) (note : Option Note) → reported_now ≡ Some (session, payloads) → find (is_talk_of session) w.talks ≡ Some t
      → IsNoteOf note t (after_report t.row id payloads ms t.talk) → noted_if note (map remembered w.talks) ≡ map remembered (talks_behind given w (events.Report ms fabric id))
  told_noted session payloads t note due is is_noted =
      let told = due_to_session w.state.node w.ledger w.talks ms fabric id (due_now w.state.node w.ledger ms fabric id) session payloads due in
      noted_over session t w.talks note (talk_told ms id payloads) is is_noted ∙ ap (map remembered) (sym told.next)

-- What is shown, in lists.

pub heard_list : (live : Bool) (from : Peer) (received : Result Arrival Dropped) (t : Talk) (came : Option Shown) → option_map shown_in came ≡ option_map (showing.heard live) (fresh_by received)
    → IsShownBehind came t (after_received live from received t)
heard_list live from (Ok a) t None is = absurd (cc)
heard_list live from (Err dropped) t None is = append-nil t.shown
heard_list live from (Ok a) t (Some one) is =
    let same : shown_in one ≡ showing.heard live a = cc in
    ap (λ (s : showing.Shown). t.shown ++ (s ∷ [])) same
heard_list live from (Err dropped) t (Some one) is = absurd (cc)

-- of what is heard, and of what is then sent
pub both_shown : (t heard next : Talk) (came went : Option Shown) (all : List Shown) → all ≡ listed came ++ listed went → IsShownBehind came t heard → IsShownBehind went heard next → t.shown ++ map shown_in all ≡ next.shown
both_shown t heard next came went all are first second =
    ap (λ (l : List Shown). t.shown ++ map shown_in l) are
    ∙ ap (λ (l : List showing.Shown). t.shown ++ l) (map-append shown_in (listed came) (listed went))
    ∙ sym (append_assoc t.shown (map shown_in (listed came)) (map shown_in (listed went)))
    ∙ ap (λ (l : List showing.Shown). l ++ map shown_in (listed went)) first
    ∙ second

-- nothing more is shown
pub none_noted : (t : SessionTalk) (talk : Talk) → IsShownBehind None t.talk talk → IsNoteOf None t talk
none_noted t talk shows = sym shows ∙ append-nil t.talk.shown

-- one thing more is
pub one_noted : (note : Note) (t : SessionTalk) (talk : Talk) (one : Shown) → note.session ≡ t.row.session → note.shown ≡ one ∷ [] → IsShownBehind (Some one) t.talk talk → IsNoteOf (Some note) t talk
one_noted note t talk one named are shows = (named, ap (λ (l : List Shown). t.talk.shown ++ map shown_in l) are ∙ shows)

-- What is shown of an answer, by what the session says to it.

refused_answer : (message : Option showing.Outgoing) (fault : SealFault) (ms : ℕ) → shown_answer message (Err fault) ms ≡ []
refused_answer None fault ms = refl
refused_answer (Some message) fault ms = refl

none_if_refused : (message : Option showing.Outgoing) (answer : Result (Option (List ℕ)) SealFault) (ms : ℕ) → is_some (refusal_in answer) ≡ true → shown_answer message answer ms ≡ []
none_if_refused message (Ok sent) ms is = absurd (cc)
none_if_refused message (Err fault) ms is = refused_answer message fault ms

sent_if_sealed : (outgoing : Option Outgoing) (answer : Result (Option (List ℕ)) SealFault) (ms : ℕ) → is_some (refusal_in answer) ≡ false → map shown_in (listed (sent_if outgoing ms)) ≡ shown_answer (option_map outgoing_in outgoing) answer ms
sent_if_sealed None (Ok sent) ms is = refl
sent_if_sealed None (Err fault) ms is = refl
sent_if_sealed (Some outgoing) (Ok sent) ms is = refl
sent_if_sealed (Some outgoing) (Err fault) ms is = absurd (cc)

module _ (row : SessionRow) (t : Talk) (key : Key) (acknowledge : Option ℕ) (payloads : List Payload) (ms : ℕ) where
  -- of a message that is too long nothing is shown, as of each that is refused
  answer_shown : (answer : Result (Option (List ℕ)) SealFault) → answer_in row t key acknowledge payloads ≡ answer
      → (behind_unless_too_long row answer (answered key acknowledge payloads ms) t).shown ≡ t.shown ++ shown_answer (answer_outgoing (run_in t) key acknowledge payloads) answer ms
  answer_shown (Ok sent) is = ap (λ (a : Result (Option (List ℕ)) SealFault). t.shown ++ shown_answer (answer_outgoing (run_in t) key acknowledge payloads) a ms) is
  answer_shown (Err Exhausted) is = ap (λ (a : Result (Option (List ℕ)) SealFault). t.shown ++ shown_answer (answer_outgoing (run_in t) key acknowledge payloads) a ms) is
  answer_shown (Err TooLong) is = sym (ap (λ (l : List showing.Shown). t.shown ++ l) (refused_answer (answer_outgoing (run_in t) key acknowledge payloads) TooLong ms) ∙ append-nil t.shown)
  answer_shown (Err Memory) is = ap (λ (a : Result (Option (List ℕ)) SealFault). t.shown ++ shown_answer (answer_outgoing (run_in t) key acknowledge payloads) a ms) is

  pub answer_refused : is_some (refusal_in (answer_in row t key acknowledge payloads)) ≡ true → IsShownBehind None t (after_answer row key acknowledge payloads ms t)
  answer_refused is =
      ap (λ (l : List showing.Shown). t.shown ++ l) (sym (none_if_refused (answer_outgoing (run_in t) key acknowledge payloads) (answer_in row t key acknowledge payloads) ms is))
      ∙ sym (answer_shown (answer_in row t key acknowledge payloads) refl)

  pub answer_sent : (outgoing : Option Outgoing) → is_some (refusal_in (answer_in row t key acknowledge payloads)) ≡ false → option_map outgoing_in outgoing ≡ answer_outgoing (run_in t) key acknowledge payloads
      → IsShownBehind (sent_if outgoing ms) t (after_answer row key acknowledge payloads ms t)
  answer_sent outgoing sealed is =
      ap (λ (l : List showing.Shown). t.shown ++ l) (sent_if_sealed outgoing (answer_in row t key acknowledge payloads) ms sealed)
      ∙ ap (λ (message : Option showing.Outgoing). t.shown ++ shown_answer message (answer_in row t key acknowledge payloads) ms) is
      ∙ sym (answer_shown (answer_in row t key acknowledge payloads) refl)

-- What is shown of a report.

refused_report : (subscription : ℕ) (message : Option showing.Outgoing) (fault : SealFault) (ms : ℕ) → shown_report subscription message (Err fault) ms ≡ []
refused_report subscription None fault ms = refl
refused_report subscription (Some message) fault ms = refl

no_report_if_refused : (subscription : ℕ) (message : Option showing.Outgoing) (answer : Result (Option (List ℕ)) SealFault) (ms : ℕ) → is_some (refusal_in answer) ≡ true → shown_report subscription message answer ms ≡ []
no_report_if_refused subscription message (Ok sent) ms is = absurd (cc)
no_report_if_refused subscription message (Err fault) ms is = refused_report subscription message fault ms

told_if_sealed : (subscription : ℕ) (outgoing : Option Outgoing) (answer : Result (Option (List ℕ)) SealFault) (ms : ℕ) → is_some (refusal_in answer) ≡ false
    → map shown_in (listed (told_if subscription outgoing ms)) ≡ shown_report subscription (option_map outgoing_in outgoing) answer ms
told_if_sealed subscription None (Ok sent) ms is = refl
told_if_sealed subscription None (Err fault) ms is = refl
told_if_sealed subscription (Some outgoing) (Ok sent) ms is = refl
told_if_sealed subscription (Some outgoing) (Err fault) ms is = absurd (cc)

module _ (row : SessionRow) (t : Talk) (subscription : ℕ) (payloads : List Payload) (ms : ℕ) where
  report_shown : (answer : Result (Option (List ℕ)) SealFault) → report_in row t payloads ≡ answer
      → (behind_unless_refused row answer (reported subscription payloads ms) t).shown ≡ t.shown ++ shown_report subscription (report_outgoing (run_in t) payloads) answer ms
  report_shown (Ok sent) is = ap (λ (a : Result (Option (List ℕ)) SealFault). t.shown ++ shown_report subscription (report_outgoing (run_in t) payloads) a ms) is
  report_shown (Err fault) is = sym (ap (λ (l : List showing.Shown). t.shown ++ l) (refused_report subscription (report_outgoing (run_in t) payloads) fault ms) ∙ append-nil t.shown)

  pub report_refused : is_some (refusal_in (report_in row t payloads)) ≡ true → IsShownBehind None t (after_report row subscription payloads ms t)
  report_refused is =
      ap (λ (l : List showing.Shown). t.shown ++ l) (sym (no_report_if_refused subscription (report_outgoing (run_in t) payloads) (report_in row t payloads) ms is))
      ∙ sym (report_shown (report_in row t payloads) refl)

  pub report_sent : (outgoing : Option Outgoing) → is_some (refusal_in (report_in row t payloads)) ≡ false → option_map outgoing_in outgoing ≡ report_outgoing (run_in t) payloads
      → IsShownBehind (told_if subscription outgoing ms) t (after_report row subscription payloads ms t)
  report_sent outgoing sealed is =
      ap (λ (l : List showing.Shown). t.shown ++ l) (told_if_sealed subscription outgoing (report_in row t payloads) ms sealed)
      ∙ ap (λ (message : Option showing.Outgoing). t.shown ++ shown_report subscription message (report_in row t payloads) ms) is
      ∙ sym (report_shown (report_in row t payloads) refl)
