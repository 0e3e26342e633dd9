-- A fabric that is not in the table: no session is live for it, nobody has subscribed for it, and nobody is taken as asking for it. So what
-- would act for it sends nothing.
use Rattle.std.proofs.Common.{◌≡◌, ◌≢◌, ℕ, ◌==◌, ◌&&◌, ◌||◌, Bool, true, false, List, [], ◌∷◌, Option, Some, None, inl, inr, arith, refl, sym, ap, subst, ◌∙◌, unwrap_or, if◌then◌else◌}
use Rattle.std.proofs.lemmas.Bool.{and_parts, cases_Bool, eqb-true}
use Rattle.std.specs.List.{find, list_all, list_any}
use Rattle.std.specs.Option.{option_and_then, option_map}
use Rattle.mt_fabrics.specs.Table.{has_index}
use Rattle.mt_im.specs.Reading.{request_in}
use Rattle.mt_model.specs.texts.Config.{has_identity}
use Rattle.mt_model.specs.Optional.{is_that}
use Rattle.mt_model.specs.declared.node.state.NodeSession.{NodeSession}
use Rattle.mt_model.specs.declared.node.state.NodeState.{NodeState}
use Rattle.mt_model.specs.declared.node.state.Standing.{Standing}
use Rattle.mt_model.specs.declared.node.state.Standing.TheVariants.{Ended, Live, Waits}
use Rattle.mt_model.specs.declared.tables.access.Actor.{Actor}
use Rattle.mt_model.specs.declared.tables.access.Auth.{Auth}
use Rattle.mt_model.specs.declared.tables.access.Auth.TheVariants.{Case, Group, Pase}
use Rattle.mt_model.specs.declared.tables.fabric.Fabric.{Fabric}
use Rattle.mt_model.specs.declared.texts.recording.Event.{Event}
use Rattle.mt_model.specs.declared.texts.recording.Event.TheVariants as events
use Rattle.mt_machine.specs.Environment.{Environment}
use Rattle.mt_machine.specs.Lines.{line_actor}
use Rattle.mt_machine.specs.State.{IsValid, is_among, is_member, is_plain_of, is_session, stands_rightly}
use Rattle.mt_machine.specs.Step.{asker, case_actor, live_actor, pase_actor}
use Rattle.mt_subs.specs.Leaving.{is_live_as, is_live_over, is_there, stands_in}
use Rattle.mt_subs.specs.Subscriptions.{is_named, kept_at}
use Rattle.mt_subs.specs.declared.subscription.Kept.{Kept}
use Rattle.mt_subs.specs.declared.subscription.Subscription.{Subscription}
use Rattle.mt_ledger.specs.Ledger.{IsLedger, Ledger}
use Rattle.mt_ledger.specs.Reporting.{due_kept, due_now}
use Rattle.mt_runs.specs.Datagrams.{session_named}
use Rattle.mt_runs.specs.Isolation.{IsValidWhole}
use Rattle.mt_runs.specs.Lines.{fabric_named, fabric_of, sent, sent_due, sent_line}
use Rattle.mt_runs.specs.Whole.{Whole}
use Rattle.mt_runs.specs.Marks.{is_in}

pub contradiction : true ≡ false → ⊥
contradiction is = absurd (cc)

not_nobody : (fabric : ℕ) → fabric ≢ 0 → (fabric == 0) ≡ false
not_nobody fabric some = grind (arith, some)

first_alone : (p q : Fabric → Bool) (fabrics : List Fabric) → list_any (λ (f : Fabric). p f && q f) fabrics ≡ true → list_any p fabrics ≡ true
first_alone p q [] there = there
first_alone p q (f ∷ fabrics) there = elim (cases_Bool (p f)) [
  | inl its ↦ ap (λ (b : Bool). b || list_any p fabrics) its
  | inr other ↦
      ap (λ (b : Bool). b || list_any p fabrics) other
      ∙ first_alone p q fabrics (subst (λ (b : Bool). ((b && q f) || list_any (λ (g : Fabric). p g && q g) fabrics) ≡ true) other there)
]

-- for which fabric the session that was found is live, 0 where it is for none
abbrev fabric_found : Option NodeSession → ℕ
fabric_found found = unwrap_or (option_map (λ (actor : Actor). actor.fabric) (option_and_then (λ (session : NodeSession). live_actor session session.standing) found)) 0

abbrev has_id : ℕ → NodeSession → Bool
has_id id session = session.session == id

module _ (s : NodeState) (valid : IsValid s) (fabric : ℕ) (some : fabric ≢ 0) (out : is_member fabric s ≡ false) where
  -- What has no fabric, or one of the table, has not this one.

  not_it : (other : ℕ) → (other == 0 || is_among s.fabrics other) ≡ true → other ≡ fabric → ⊥
  not_it other stands is =
      contradiction (sym stands ∙ ap (λ (n : ℕ). n == 0 || is_among s.fabrics n) is ∙ ap (λ (b : Bool). b || is_among s.fabrics fabric) (not_nobody fabric some) ∙ out)

  not_there : (other : ℕ) → list_any (has_index other) s.fabrics ≡ true → other ≡ fabric → ⊥
  not_there other there is = contradiction (sym there ∙ ap (is_among s.fabrics) is ∙ out)

  -- Sessions.

  live_for_another : (session : NodeSession) (auth : Auth) (other : ℕ) → stands_rightly s.fabrics session auth (Live other) ≡ true → other ≡ fabric → ⊥
  live_for_another session Pase other stands is = not_it other stands is
  live_for_another session Case other stands is = not_there other (first_alone (has_index other) (has_identity session.root_key session.fabric_id) s.fabrics stands) is
  live_for_another session Group other stands is = not_there other (first_alone (has_index other) (has_identity session.root_key session.fabric_id) s.fabrics stands) is

  acts_for_another : (session : NodeSession) (auth : Auth) (standing : Standing) → stands_rightly s.fabrics session auth standing ≡ true
      → unwrap_or (option_map (λ (actor : Actor). actor.fabric) (live_actor session standing)) 0 ≡ fabric → ⊥
  acts_for_another session auth Waits stands is = some (sym is)
  acts_for_another session auth Ended stands is = some (sym is)
  acts_for_another session auth (Live other) stands is = live_for_another session auth other stands is

  found_for_another : (id : ℕ) (sessions : List NodeSession) → list_all (is_session s.fabrics) sessions ≡ true → fabric_found (find (has_id id) sessions) ≡ fabric → ⊥
  found_for_another id [] stand is = some (sym is)
  found_for_another id (session ∷ sessions) stand is =
      let both = and_parts (is_session s.fabrics session) (list_all (is_session s.fabrics) sessions) stand in
      elim (cases_Bool (has_id id session)) [
        | inl its ↦ acts_for_another session session.auth session.standing both.0 (subst (λ (b : Bool). fabric_found (if b then Some session else find (has_id id) sessions) ≡ fabric) its is)
        | inr other ↦ found_for_another id sessions both.1 (subst (λ (b : Bool). fabric_found (if b then Some session else find (has_id id) sessions) ≡ fabric) other is)
      ]

  -- the session that is named is not live for it
  pub named_for_another : (named : Option ℕ) → fabric_named s named ≡ fabric → ⊥
  named_for_another None is = some (sym is)
  named_for_another (Some id) is = found_for_another id s.sessions valid.sessions_stand is

  -- Subscribers.

  live_not : (session : NodeSession) (auth : Auth) (standing : Standing) → stands_rightly s.fabrics session auth standing ≡ true → is_live_as fabric standing ≡ true → ⊥
  live_not session auth Waits stands live = contradiction (sym live)
  live_not session auth Ended stands live = contradiction (sym live)
  live_not session auth (Live other) stands live = live_for_another session auth other stands (eqb-true other fabric live)

  none_over : (id : ℕ) (sessions : List NodeSession) → list_all (is_session s.fabrics) sessions ≡ true → list_any (is_live_over fabric id) sessions ≡ true → ⊥
  none_over id [] stand there = contradiction (sym there)
  none_over id (session ∷ sessions) stand there =
      let both = and_parts (is_session s.fabrics session) (list_all (is_session s.fabrics) sessions) stand in
      elim (cases_Bool (is_live_over fabric id session)) [
        | inl live ↦ live_not session session.auth session.standing both.0 (and_parts (session.session == id) (is_live_as fabric session.standing) live).1
        | inr other ↦ none_over id sessions both.1 (subst (λ (b : Bool). (b || list_any (is_live_over fabric id) sessions) ≡ true) other there)
      ]

  plain_not : (plain : Option ℕ) → is_plain_of s.fabrics plain ≡ true → is_that fabric plain ≡ true → ⊥
  plain_not None stands its = contradiction (sym its)
  plain_not (Some other) stands its = not_it other stands (eqb-true other fabric its)

  subscriber_not : (auth : Auth) (session : Option ℕ) → is_there s fabric auth session ≡ true → ⊥
  subscriber_not auth (Some id) there = none_over id s.sessions valid.sessions_stand there
  subscriber_not Case None there = not_there fabric there refl
  subscriber_not Pase None there = plain_not s.plain valid.plain_stands there
  subscriber_not Group None there = contradiction (sym there)

  none_kept : (id : ℕ) (xs : List Subscription) → list_all (stands_in s) xs ≡ true → option_map (λ (x : Subscription). x.kept) (find (is_named fabric id) xs) ≡ None
  none_kept id [] stand = refl
  none_kept id (x ∷ xs) stand =
      let both = and_parts (stands_in s x) (list_all (stands_in s) xs) stand in
      elim (cases_Bool (is_named fabric id x)) [
        | inl its ↦
            let same : x.fabric ≡ fabric = eqb-true x.fabric fabric (and_parts (x.fabric == fabric) (x.id == id) its).0 in
            absurd (subscriber_not x.kept.sub.actor.auth x.kept.sub.actor.session (subst (λ (n : ℕ). is_there s n x.kept.sub.actor.auth x.kept.sub.actor.session ≡ true) same both.0))
        | inr other ↦ ap (λ (b : Bool). option_map (λ (y : Subscription). y.kept) (if b then Some x else find (is_named fabric id) xs)) other ∙ none_kept id xs both.1
      ]

  pub nobody_subscribed : (l : Ledger) → IsLedger s l → (id : ℕ) → kept_at fabric id l.subs ≡ None
  nobody_subscribed l is id = none_kept id l.subs.subscriptions is.there

  -- Plain actors.

  plain_nobody : (plain : Option ℕ) → is_plain_of s.fabrics plain ≡ true → unwrap_or plain 0 ≡ fabric → option_map pase_actor plain ≡ None
  plain_nobody None stands is = refl
  plain_nobody (Some other) stands is = absurd (not_it other stands is)

  pub nobody_asks : (other node : ℕ) (cats : List ℕ) (pase : Bool) → (if pase then unwrap_or s.plain 0 else other) ≡ fabric → asker s (if pase then pase_actor 0 else case_actor other node cats) ≡ None
  nobody_asks other node cats true is = plain_nobody s.plain valid.plain_stands is
  nobody_asks other node cats false is =
      ap (λ (n : ℕ). if is_member n s then Some (case_actor other node cats) else None) is
      ∙ ap (λ (b : Bool). if b then Some (case_actor other node cats) else None) out

module _ (given : Environment) (fabric : ℕ) (w : Whole) (valid : IsValidWhole w) (some : fabric ≢ 0) (out : is_in fabric w ≡ false) where
  abbrev s : NodeState
  s = w.state.node

  abbrev l : Ledger
  l = w.ledger

  none_due : (ms other id : ℕ) → other ≡ fabric → sent_due s l w.talks ms other id (due_now s l ms other id) ≡ []
  none_due ms other id is =
      ap (λ (kept : Option Kept). sent_due s l w.talks ms other id (due_kept s l.history ms other kept))
      (ap (λ (n : ℕ). kept_at n id l.subs) is ∙ nobody_subscribed s valid.node fabric some out l valid.ledger id)

  -- WHAT ACTS FOR IT sends nothing.
  pub sends_nothing : (e : Event) → fabric_of s e ≡ fabric → sent given w e ≡ []
  sends_nothing (events.Ask ms other node cats opcode payload) is =
      ap (sent_line given w.state l (line_actor other node cats) ms (request_in opcode payload)) (nobody_asks s valid.node fabric some out other node cats (other == 0) is)
  sends_nothing (events.Datagram ms from bytes) is = absurd (named_for_another s valid.node fabric some out (session_named bytes) is)
  sends_nothing (events.Tick ms) is = refl
  sends_nothing (events.Report ms other id) is = none_due ms other id is
  sends_nothing (events.Resend ms session) is = absurd (named_for_another s valid.node fabric some out (Some session) is)
  sends_nothing (events.Stop calls fate) is = refl
