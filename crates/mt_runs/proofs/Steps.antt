-- One line that is carried out: what it sends a fabric, what it leaves that, and which of its lives it ends, is what is made of its marks.
use Rattle.std.proofs.Common.{◌≡◌, ◌≢◌, ℕ, ◌==◌, ◌&&◌, ◌||◌, not, Bool, true, false, List, [], ◌∷◌, ◌++◌, Option, Some, None, inl, inr, arith, refl, sym, ap, ◌∙◌, map, if◌then◌else◌}
use Rattle.std.proofs.lemmas.Bool.{cases_Bool, eqb-true, or_parts}
use Rattle.mt_regained.specs.mt_lasting.Laws.{ActionsKeepTheBoot}
use Rattle.mt_model.specs.declared.texts.config.SessionRow.{SessionRow}
use Rattle.mt_model.specs.declared.texts.recording.Event.{Event}
use Rattle.mt_model.specs.declared.texts.recording.Event.TheVariants as events
use Rattle.mt_model.specs.declared.texts.recording.Sent.{Sent}
use Rattle.mt_opcreds.specs.Laws.{KeepsRules}
use Rattle.mt_machine.specs.Environment.{Environment}
use Rattle.mt_machine.specs.Lines.{is_tick}
use Rattle.mt_runs.specs.Course.{Stop, goes}
use Rattle.mt_runs.specs.Isolation.{IsValidWhole, OwnPart, PublicPart, own_part, public_part, seen_whole, veil}
use Rattle.mt_runs.specs.Laws.{NobodyIsBornInStops, StrangersAreSentNothing, TicksGiveBackOnce, WholeReopeningsSeeTheOwn, WholeReopeningsTakeTheAdded, WholeReopensValid}
use Rattle.mt_runs.specs.LineLaws as laws
use Rattle.mt_runs.specs.Lines.{fabric_of, is_stop, next, sent}
use Rattle.mt_runs.specs.Marks.{if_seen, is_in, is_of, is_seen, marks_in}
use Rattle.mt_runs.specs.Messages.{Message, message_to, messages_at, messages_to}
use Rattle.mt_runs.specs.Replay.{ends_by, ends_in, held, held_after, held_seen, if_there, replayed, sent_seen}
use Rattle.mt_runs.specs.Whole.{Whole}
use Rattle.mt_runs.proofs.Absent.{contradiction}
use Rattle.mt_runs.proofs.Ending.{ends_of_line, ends_through, none_lost, none_of_line, stays_on}
use Rattle.mt_runs.proofs.Holding.{as_held, held_in, held_out, stop_leaves}
use Rattle.mt_runs.proofs.Marking.{held_line, held_of_line, marks_of_line, sent_of_line}

same_number : (n : ℕ) → (n == n) ≡ true
same_number n = grind arith

-- What is known of each line, and of each reopening.
pub record Known : Type 0 where
  pub stays : laws.WholeStaysValid
  pub sends : laws.WholeSendsOnTheVeil
  pub strangers : StrangersAreSentNothing
  pub leaves : laws.WholeLeavesTheOwnOnTheVeil
  pub ticks : laws.WholeTicksOnTheVeil
  pub keeps : laws.WholeKeepsTheOwn
  pub again : laws.WholeKeepsItsOwnPart
  pub boots : ActionsKeepTheBoot
  pub valid : WholeReopensValid
  pub taken : WholeReopeningsTakeTheAdded
  pub sees : WholeReopeningsSeeTheOwn
  pub once : TicksGiveBackOnce
  pub nobody : NobodyIsBornInStops

-- Messages to a fabric, and to another.

to_it : (fabric : ℕ) (xs : List Sent) → messages_to fabric (map (message_to fabric) xs) ≡ map (message_to fabric) xs
to_it fabric [] = refl
to_it fabric (x ∷ xs) =
    ap (λ (b : Bool). if b then message_to fabric x ∷ messages_to fabric (map (message_to fabric) xs) else messages_to fabric (map (message_to fabric) xs)) (same_number fabric)
    ∙ ap (λ (rest : List Message). message_to fabric x ∷ rest) (to_it fabric xs)

to_another : (fabric other : ℕ) → (other == fabric) ≡ false → (xs : List Sent) → messages_to fabric (map (message_to other) xs) ≡ []
to_another fabric other apart [] = refl
to_another fabric other apart (x ∷ xs) =
    ap (λ (b : Bool). if b then message_to other x ∷ messages_to fabric (map (message_to other) xs) else messages_to fabric (map (message_to other) xs)) apart
    ∙ to_another fabric other apart xs

-- Time steps, and lines that stop the disk: they send nothing, and leave a fabric on its veil what they leave it.

pub common_quiet : (given : Environment) (v : Whole) (e : Event) → (is_tick e || is_stop e) ≡ true → sent given v e ≡ []
common_quiet given v (events.Ask ms fabric node cats opcode payload) is = absurd (contradiction (sym is))
common_quiet given v (events.Datagram ms from bytes) is = absurd (contradiction (sym is))
common_quiet given v (events.Tick ms) is = refl
common_quiet given v (events.Report ms fabric subscription) is = absurd (contradiction (sym is))
common_quiet given v (events.Resend ms session) is = absurd (contradiction (sym is))
common_quiet given v (events.Stop calls fate) is = refl

common_leaves : (given : Environment) (k : Known) (fabric : ℕ) (w : Whole) (e : Event) → IsValidWhole w → (is_tick e || is_stop e) ≡ true → own_part fabric (next given (veil fabric w) e) ≡ own_part fabric (next given w e)
common_leaves given k fabric w (events.Ask ms other node cats opcode payload) valid is = absurd (contradiction (sym is))
common_leaves given k fabric w (events.Datagram ms from bytes) valid is = absurd (contradiction (sym is))
common_leaves given k fabric w (events.Tick ms) valid is = k.ticks given fabric w ms valid
common_leaves given k fabric w (events.Report ms other subscription) valid is = absurd (contradiction (sym is))
common_leaves given k fabric w (events.Resend ms session) valid is = absurd (contradiction (sym is))
common_leaves given k fabric w (events.Stop calls fate) valid is =
    ap (own_part fabric) (stop_leaves given (veil fabric w) (events.Stop calls fate) refl)
    ∙ k.again fabric w valid
    ∙ sym (ap (own_part fabric) (stop_leaves given w (events.Stop calls fate) refl))

module _ (given : Environment) (k : Known) (rules : KeepsRules given.judged) (fabric : ℕ) (some : fabric ≢ 0) (w : Whole) (valid : IsValidWhole w) (e : Event) where
  abbrev public : PublicPart
  public = public_part fabric w

  abbrev now : Whole
  now = next given w e

  -- what is seen and is not its own is a time step, or stops the disk
  pub seen_common : is_of fabric w e ≡ false → is_seen fabric w e ≡ true → (is_tick e || is_stop e) ≡ true
  seen_common other sees = sym (ap (λ (b : Bool). b || (is_tick e || is_stop e)) other) ∙ sees

  pub hidden_parts : is_seen fabric w e ≡ false → (is_of fabric w e ≡ false) × (is_tick e ≡ false)
  hidden_parts hidden =
      let parts = or_parts (is_of fabric w e) (is_tick e || is_stop e) hidden in
      (parts.0, (or_parts (is_tick e) (is_stop e) parts.1).0)

  -- WHAT IS SENT.

  pub quiet_seen : ((v : Whole) → sent given v e ≡ []) → (o : Option OwnPart) → sent_seen given fabric e public o ≡ []
  quiet_seen quiet None = refl
  quiet_seen quiet (Some own) = ap (map (message_to fabric)) (quiet (seen_whole fabric own public))

  -- an event of its own
  own_sent : is_of fabric w e ≡ true → map (message_to fabric) (sent given w e) ≡ sent_seen given fabric e public (held fabric w)
  own_sent its =
      let of_it : fabric_of w.state.node e ≡ fabric = eqb-true (fabric_of w.state.node e) fabric its in
      elim (cases_Bool (is_in fabric w)) [
        | inl there ↦
            ap (map (message_to fabric)) (sym (k.sends given w e valid) ∙ ap (λ (n : ℕ). sent given (veil n w) e) of_it)
            ∙ ap (sent_seen given fabric e public) (sym (held_in fabric w there))
        | inr out ↦
            ap (map (message_to fabric)) (k.strangers given fabric w e valid some out of_it)
            ∙ ap (sent_seen given fabric e public) (sym (held_out fabric w out))
      ]

  -- another's event, a time step among these, which is nobody's
  other_sent : is_of fabric w e ≡ false → (sees : Bool) → is_seen fabric w e ≡ sees → (if sees then sent_seen given fabric e public (held fabric w) else []) ≡ []
  other_sent other false is = refl
  other_sent other true is = quiet_seen (λ v. common_quiet given v e (seen_common other is)) (held fabric w)

  line_sent : messages_to fabric (messages_at given w e) ≡ (if is_seen fabric w e then sent_seen given fabric e public (held fabric w) else [])
  line_sent = elim (cases_Bool (is_of fabric w e)) [
    | inl its ↦
        ap (λ (n : ℕ). messages_to fabric (map (message_to n) (sent given w e))) (eqb-true (fabric_of w.state.node e) fabric its)
        ∙ to_it fabric (sent given w e)
        ∙ own_sent its
        ∙ sym (ap (λ (b : Bool). if b || (is_tick e || is_stop e) then sent_seen given fabric e public (held fabric w) else []) its)
    | inr other ↦
        to_another fabric (fabric_of w.state.node e) other (sent given w e)
        ∙ sym (other_sent other (is_seen fabric w e) refl)
  ]

  -- WHAT IS LEFT.

  -- what it sees leaves it on its veil what it leaves on the whole
  seen_leaves : is_seen fabric w e ≡ true → own_part fabric (next given (veil fabric w) e) ≡ own_part fabric now
  seen_leaves sees = elim (cases_Bool (is_of fabric w e)) [
    | inl its ↦
        let of_it : fabric_of w.state.node e ≡ fabric = eqb-true (fabric_of w.state.node e) fabric its in
        sym (ap (λ (n : ℕ). own_part n (next given (veil n w) e)) of_it) ∙ k.leaves given w e rules valid ∙ ap (λ (n : ℕ). own_part n now) of_it
    | inr other ↦ common_leaves given k fabric w e valid (seen_common other sees)
  ]

  -- and so it makes of what it held what it holds behind it
  pub seen_held : is_in fabric w ≡ true → is_seen fabric w e ≡ true → held_seen given fabric e public (held fabric w) ≡ held fabric now
  seen_held there sees =
      ap (held_seen given fabric e public) (held_in fabric w there)
      ∙ ap (if_there fabric) (seen_leaves sees)
      ∙ as_held fabric now

  -- what it does not see leaves it its own part, where it stays in the table

  pub hidden_keeps : is_seen fabric w e ≡ false → is_in fabric w ≡ true → is_in fabric now ≡ true → own_part fabric now ≡ own_part fabric w
  hidden_keeps hidden there still =
      let parts = hidden_parts hidden in
      k.keeps given fabric w e rules valid parts.1
      (λ same. contradiction (sym (same_number fabric) ∙ ap (λ (n : ℕ). n == fabric) same ∙ parts.0))
      (record { member = still ∙ sym there; nobody = λ is. absurd (some is) })

  hidden_held : is_in fabric w ≡ true → is_in fabric now ≡ true → is_seen fabric w e ≡ false → held fabric w ≡ held fabric now
  hidden_held there still hidden =
      held_in fabric w there ∙ ap (λ (o : OwnPart). Some o) (sym (hidden_keeps hidden there still)) ∙ sym (held_in fabric now still)

  -- What is held behind its marks, by whether it was in the table, is there behind it, and whether the event is its own and is seen.

  abbrev own_now : OwnPart
  own_now = own_part fabric now

  abbrev behind_marks : Bool → Bool → Bool → Bool → Option OwnPart → Option OwnPart
  behind_marks there still its sees o = held_line given fabric e public own_now sees (not there && still) (there && (not still && not its)) o

  abbrev held_marks : Option OwnPart
  held_marks = behind_marks (is_in fabric w) (is_in fabric now) (is_of fabric w e) (is_seen fabric w e) (held fabric w)

  none_either : (leaves : Bool) (o : Option OwnPart) → o ≡ None → (if leaves then None else o) ≡ None
  none_either true o none = refl
  none_either false o none = none

  none_seen : (sees : Bool) → (if sees then held_seen given fabric e public None else None) ≡ None
  none_seen true = refl
  none_seen false = refl

  stays_held : is_in fabric w ≡ true → is_in fabric now ≡ true → held_marks ≡ held fabric now
  stays_held there still = elim (cases_Bool (is_seen fabric w e)) [
    | inl sees ↦ (λ i. behind_marks (there i) (still i) (is_of fabric w e) (sees i) (held fabric w)) ∙ seen_held there sees
    | inr hidden ↦ (λ i. behind_marks (there i) (still i) (is_of fabric w e) (hidden i) (held fabric w)) ∙ hidden_held there still hidden
  ]

  leaves_held : is_in fabric w ≡ true → is_in fabric now ≡ false → held_marks ≡ held fabric now
  leaves_held there out =
      let none = held_out fabric now out in
      elim (cases_Bool (is_seen fabric w e)) [
        | inl sees ↦
            (λ i. behind_marks (there i) (out i) (is_of fabric w e) (sees i) (held fabric w))
            ∙ none_either (not (is_of fabric w e)) (held_seen given fabric e public (held fabric w)) (seen_held there sees ∙ none)
            ∙ sym none
        | inr hidden ↦ (λ i. behind_marks (there i) (out i) ((hidden_parts hidden).0 i) (hidden i) (held fabric w)) ∙ sym none
      ]

  out_held : is_in fabric w ≡ false → held_marks ≡ held fabric now
  out_held out = elim (cases_Bool (is_in fabric now)) [
    | inl comes ↦ (λ i. behind_marks (out i) (comes i) (is_of fabric w e) (is_seen fabric w e) (held fabric w)) ∙ sym (held_in fabric now comes)
    | inr still_out ↦
        (λ i. behind_marks (out i) (still_out i) (is_of fabric w e) (is_seen fabric w e) (held_out fabric w out i))
        ∙ none_seen (is_seen fabric w e)
        ∙ sym (held_out fabric now still_out)
  ]

  line_held : held_marks ≡ held fabric now
  line_held = elim (cases_Bool (is_in fabric w)) [
    | inl there ↦ elim (cases_Bool (is_in fabric now)) [
      | inl still ↦ stays_held there still
      | inr out ↦ leaves_held there out
    ]
    | inr out ↦ out_held out
  ]

  module _ (sessions : List SessionRow) where
    abbrev comes : Bool
    comes = not (is_in fabric w) && is_in fabric now

    abbrev leaves : Bool
    leaves = is_in fabric w && (not (is_in fabric now) && not (is_of fabric w e))

    pub going_sent : (stop : Option Stop) → messages_to fabric (messages_at given w e) ≡ replayed given sessions fabric (held fabric w) (if_seen fabric w e ++ marks_in given sessions fabric w e (goes stop))
    going_sent stop = line_sent ∙ sym (sent_of_line given sessions fabric e public own_now (is_seen fabric w e) comes leaves (held fabric w))

    pub going_held : (stop : Option Stop) → held_after given sessions fabric (held fabric w) (if_seen fabric w e ++ marks_in given sessions fabric w e (goes stop)) ≡ held fabric now
    going_held stop = held_of_line given sessions fabric e public own_now (is_seen fabric w e) comes leaves (held fabric w) ∙ line_held

    -- WHICH LIVES END.

    abbrev ends_marked : Bool → Bool → Bool → Bool → Option OwnPart → List OwnPart
    ends_marked there still its sees o = ends_by given sessions fabric o (marks_of_line e public own_now sees (not there && still) (there && (not still && not its)))

    abbrev ends_here : List OwnPart
    ends_here = ends_marked (is_in fabric w) (is_in fabric now) (is_of fabric w e) (is_seen fabric w e) (held fabric w)

    ends_stays : is_in fabric w ≡ true → is_in fabric now ≡ true → ends_here ≡ []
    ends_stays there still =
        let its = is_of fabric w e in
        elim (cases_Bool (is_seen fabric w e)) [
          | inl sees ↦
              (λ i. ends_marked (there i) (still i) its (sees i) (held fabric w))
              ∙ ends_of_line given sessions fabric e public own_now true false (held fabric w)
              ∙ (λ i. ends_through (held fabric w) ((seen_held there sees ∙ held_in fabric now still) i) false)
              ∙ ap (λ (first : List OwnPart). first ++ []) (stays_on (held fabric w) own_now)
          | inr hidden ↦
              (λ i. ends_marked (there i) (still i) its (hidden i) (held fabric w))
              ∙ ends_of_line given sessions fabric e public own_now false false (held fabric w)
        ]

    ends_leaves : is_in fabric w ≡ true → is_in fabric now ≡ false → ends_here ≡ own_part fabric w ∷ []
    ends_leaves there out =
        let its = is_of fabric w e in
        elim (cases_Bool (is_seen fabric w e)) [
          | inl sees ↦
              (λ i. ends_marked (there i) (out i) its (sees i) (held fabric w))
              ∙ ends_of_line given sessions fabric e public own_now true (not its) (held fabric w)
              ∙ (λ i. ends_through (held_in fabric w there i) ((seen_held there sees ∙ held_out fabric now out) i) (not its))
              ∙ ap (λ (rest : List OwnPart). own_part fabric w ∷ rest) (none_lost (not its))
          | inr hidden ↦
              (λ i. ends_marked (there i) (out i) ((hidden_parts hidden).0 i) (hidden i) (held_in fabric w there i))
              ∙ ends_of_line given sessions fabric e public own_now false true (Some (own_part fabric w))
        ]

    ends_out : is_in fabric w ≡ false → ends_here ≡ []
    ends_out out =
        (λ i. ends_marked (out i) (is_in fabric now) (is_of fabric w e) (is_seen fabric w e) (held_out fabric w out i))
        ∙ none_of_line given sessions fabric e public own_now (is_seen fabric w e) (is_in fabric now)

    -- where it was in the table, and is not behind the line
    abbrev ends_if : Bool → Bool → List OwnPart
    ends_if there still = if there && not still then own_part fabric w ∷ [] else []

    pub going_ends : (stop : Option Stop) → ends_by given sessions fabric (held fabric w) (if_seen fabric w e ++ marks_in given sessions fabric w e (goes stop)) ≡ ends_in given sessions fabric w e (goes stop)
    going_ends stop = elim (cases_Bool (is_in fabric w)) [
      | inl there ↦ elim (cases_Bool (is_in fabric now)) [
        | inl still ↦ ends_stays there still ∙ (λ i. ends_if (sym there i) (sym still i))
        | inr out ↦ ends_leaves there out ∙ (λ i. ends_if (sym there i) (sym out i))
      ]
      | inr out ↦ ends_out out ∙ (λ i. ends_if (sym out i) (is_in fabric now))
    ]
