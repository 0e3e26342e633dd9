-- What a line sends and leaves on the veil of its fabric, and what stays of other fabrics' own.
use Rattle.std.proofs.Common.{◌≡◌, ◌≢◌, ℕ, ◌==◌, ◌&&◌, not, Bool, true, false, List, [], Option, Some, None, Result, Ok, Err, refl, sym, ap, ◌∙◌, arith, if◌then◌else◌, is_some, unwrap_or, inl, inr, ◌∷◌, filter}
use Rattle.mt_fabrics.specs.Table.{has_index}
use Rattle.mt_im.specs.Reading.{request_in}
use Rattle.mt_im.specs.declared.fault.ImFault.{ImFault}
use Rattle.mt_model.specs.rows.Seen.{Observation}
use Rattle.mt_model.specs.messages.Status.{code_of}
use Rattle.mt_model.specs.declared.tables.access.Actor.{Actor}
use Rattle.mt_model.specs.declared.node.action.Action.TheVariants as actions
use Rattle.mt_model.specs.declared.node.action.NodeStep.{NodeStep}
use Rattle.mt_model.specs.declared.messages.message.Reply.{Reply}
use Rattle.mt_model.specs.declared.messages.message.Request.{Request}
use Rattle.mt_model.specs.declared.texts.recording.Event.{Event}
use Rattle.mt_model.specs.declared.texts.recording.Event.TheVariants as events
use Rattle.mt_model.specs.declared.messages.status.Status.TheVariants.{Busy, Timeout}
use Rattle.mt_machine.specs.Isolation.{Own, own, own_of_whole, veil, veil_of_whole}
use Rattle.mt_machine.specs.Lines.{action_of, behind_action, deadline_for, deadline_of, deadlines_after, deadlines_of_those_left, fabric_of, is_refused, is_tick, is_timed, line_reply, next_for, plain_next, plain_sent, sent_as, sent_for, sent_to}
use Rattle.mt_machine.specs.Environment.{Environment}
use Rattle.mt_machine.specs.Leaving.{has_left}
use Rattle.mt_machine.specs.Touching.{StaysThere}
use Rattle.mt_machine.specs.State.{IsValid, State, is_among, is_member}
use Rattle.mt_machine.specs.Effects.{after_all}
use Rattle.mt_machine.specs.Step.{after_action, asked_reply, asked_steps, asker, at_time, case_actor, is_late, pase_actor, refusal, reply_to, steps_to}
use Rattle.mt_machine.proofs.Deadlines.{deadline-own, kept_by, left_by, own_deadlines, own_twice, room-own}
use Rattle.mt_machine.proofs.Seeing.{members-veil, sees-veil}
use Rattle.mt_machine.proofs.Again.{own-again}
use Rattle.mt_machine.proofs.Ticks.{ticks_on_veil}
use Rattle.mt_model.specs.declared.node.action.PlainDeadline.{PlainDeadline}
use Rattle.mt_model.specs.declared.tables.fabric.Fabric.{Fabric}
use Rattle.std.proofs.lemmas.Bool.{cases_Bool, eqb-true}
use Rattle.mt_model.specs.declared.node.state.NodeState.{NodeState}

-- The deadlines of a fabric that leaves the table go with it: so its own part says, before and behind.

-- a fabric is in the table where its own part has it
member_own : (fabric : ℕ) (fs : List Fabric) → is_among fs fabric ≡ is_among (filter (has_index fabric) fs) fabric
member_own fabric [] = refl
member_own fabric (f ∷ fs) = elim (cases_Bool (f.index == fabric)) [
  | inl mine ↦ rw (mine, mine) refl
  | inr other ↦ rw other (member_own fabric fs)
]

member_alike : (fabric : ℕ) (s t : NodeState) → own fabric s ≡ own fabric t → is_member fabric s ≡ is_member fabric t
member_alike fabric s t same = member_own fabric s.fabrics ∙ ap (λ (o : Own). is_among o.fabrics fabric) same ∙ sym (member_own fabric t.fabrics)

left_same : (fabric : ℕ) (s t u v : NodeState) → own fabric s ≡ own fabric t → own fabric u ≡ own fabric v → has_left s u fabric ≡ has_left t v fabric
left_same fabric s t u v before behind = λ i. member_alike fabric s t before i && not (member_alike fabric u v behind i)

-- a fabric's own deadlines all stay, or all go
own_left : (fabric : ℕ) (s u : NodeState) (ds : List PlainDeadline) → own_deadlines fabric (deadlines_of_those_left s u ds) ≡ (if has_left s u fabric then [] else own_deadlines fabric ds)
own_left fabric s u [] = elim (cases_Bool (has_left s u fabric)) [ inl left ↦ rw left refl | inr not_left ↦ rw not_left refl ]
own_left fabric s u (d ∷ ds) =
    let rest = own_left fabric s u ds in
    elim (cases_Bool (d.fabric == fabric)) [
      | inl mine ↦
          let its : has_left s u d.fabric ≡ has_left s u fabric = ap (has_left s u) (eqb-true d.fabric fabric mine) in
          elim (cases_Bool (has_left s u fabric)) [
            | inl left ↦ rw (its ∙ left, left) (rest ∙ ap (λ (b : Bool). if b then [] else own_deadlines fabric ds) left)
            | inr not_left ↦ rw (its ∙ not_left, mine, not_left) (ap (λ (l : List PlainDeadline). d ∷ l) (rest ∙ ap (λ (b : Bool). if b then [] else own_deadlines fabric ds) not_left))
          ]
      | inr other ↦ elim (cases_Bool (has_left s u d.fabric)) [
        | inl left ↦ rw (left, other) rest
        | inr not_left ↦ rw (not_left, other) rest
      ]
    ]

left_alike : (fabric : ℕ) (s t u v : NodeState) → own fabric s ≡ own fabric t → own fabric u ≡ own fabric v → (ds es : List PlainDeadline) → own_deadlines fabric ds ≡ own_deadlines fabric es
    → own_deadlines fabric (deadlines_of_those_left s u ds) ≡ own_deadlines fabric (deadlines_of_those_left t v es)
left_alike fabric s t u v before behind ds es same =
    own_left fabric s u ds ∙ (λ i. if left_same fabric s t u v before behind i then [] else same i) ∙ sym (own_left fabric t v es)

and_not : (b : Bool) → (b && not b) ≡ false
and_not true = refl
and_not false = refl

-- where the own part is kept, they stay
left_of_kept : (fabric : ℕ) (s u : NodeState) → own fabric u ≡ own fabric s → (ds : List PlainDeadline) → own_deadlines fabric (deadlines_of_those_left s u ds) ≡ own_deadlines fabric ds
left_of_kept fabric s u same ds =
    own_left fabric s u ds
    ∙ ap (λ (b : Bool). if b then [] else own_deadlines fabric ds) (ap (λ (b : Bool). is_member fabric s && not b) (member_alike fabric u s same) ∙ and_not (is_member fabric s))

same_number : (n : ℕ) → (n == n) ≡ true
same_number n = grind arith

-- A line's actor is taken as the same one on the veil of its fabric as on the state, or as nobody on both.
module _ (s : NodeState) (valid : IsValid s) (P : ℕ → Actor → Type 0)
    (one : (actor asking : Actor) → asker (veil asking.fabric s) actor ≡ Some asking → asker s actor ≡ Some asking → P asking.fabric actor)
    (nobody : (fabric : ℕ) (actor : Actor) → asker (veil fabric s) actor ≡ None → asker s actor ≡ None → P fabric actor) where
  over_pase : (plain : Option ℕ) → s.plain ≡ plain → P (unwrap_or plain 0) (pase_actor 0)
  over_pase None is = nobody 0 (pase_actor 0) (rw is refl) (rw is refl)
  over_pase (Some p) is = one (pase_actor 0) (pase_actor p) (rw (is, same_number p) refl) (rw is refl)

  over_case : (fabric node : ℕ) (cats : List ℕ) (member : Bool) → is_member fabric s ≡ member → P fabric (case_actor fabric node cats)
  over_case fabric node cats true is =
      one (case_actor fabric node cats) (case_actor fabric node cats)
      (ap (λ (there : Bool). if there then Some (case_actor fabric node cats) else None) (members-veil fabric s valid.fabrics_rise ∙ is))
      (ap (λ (there : Bool). if there then Some (case_actor fabric node cats) else None) is)
  over_case fabric node cats false is =
      nobody fabric (case_actor fabric node cats)
      (ap (λ (there : Bool). if there then Some (case_actor fabric node cats) else None) (members-veil fabric s valid.fabrics_rise ∙ is))
      (ap (λ (there : Bool). if there then Some (case_actor fabric node cats) else None) is)

  pub by_line : (fabric node : ℕ) (cats : List ℕ) (none : Bool) → P (if none then unwrap_or s.plain 0 else fabric) (if none then pase_actor 0 else case_actor fabric node cats)
  by_line fabric node cats true = over_pase s.plain refl
  by_line fabric node cats false = over_case fabric node cats (is_member fabric s) refl

module _ (given : Environment) where
  -- The steps of a request leave the same own part on the veil of whoever asks as on the state.
  abbrev pub AlikeOn : NodeState → Type 0
  AlikeOn s = (actor asking : Actor) (request : Request) (deadline : Option ℕ) (ms : ℕ) → asker s actor ≡ Some asking
      → own asking.fabric (after_all (Some asking) (asked_steps given s request deadline ms (Some asking)) (at_time ms (veil asking.fabric s)))
      ≡ own asking.fabric (after_all (Some asking) (asked_steps given s request deadline ms (Some asking)) (at_time ms s))

  -- The reply where this actor is taken as asking, on both.
  module _ (s : State) (valid : IsValid s.node) (actor asking : Actor) (on_veil : asker (veil asking.fabric s.node) actor ≡ Some asking) (on_state : asker s.node actor ≡ Some asking) where
    abbrev veiled : State
    veiled = veil_of_whole asking.fabric s

    asked_same : (request : Request) (deadline : Option ℕ) (ms : ℕ) → asked_reply given veiled.node request deadline ms (asker veiled.node actor) ≡ asked_reply given s.node request deadline ms (asker s.node actor)
    asked_same request deadline ms =
        ap (asked_reply given veiled.node request deadline ms) on_veil
        ∙ ap (λ (o : Observation). if is_late deadline ms then refusal (code_of Timeout) else reply_to given (record o { clock = ms }) asking (is_some deadline) request) (sees-veil asking.fabric s.node valid)
        ∙ sym (ap (asked_reply given s.node request deadline ms) on_state)

    pub reply_same : (ms : ℕ) (asked : Result Request ImFault) → line_reply given veiled actor asking ms asked ≡ line_reply given s actor asking ms asked
    reply_same ms (Ok request) =
        (λ i. if is_timed request && (not (room-own asking s.deadlines i) && not (is_late (deadline-own asking s.deadlines i) ms)) then refusal (code_of Busy)
        else asked_reply given veiled.node request (deadline-own asking s.deadlines i) ms (asker veiled.node actor))
        ∙ ap (λ (reply : Reply). if is_refused asking s.deadlines ms request then refusal (code_of Busy) else reply) (asked_same request (deadline_of asking s.deadlines) ms)
    reply_same ms (Err fault) = refl

    pub sends_same : (ms : ℕ) (asked : Result Request ImFault) → sent_for given veiled actor ms asked ≡ sent_for given s actor ms asked
    sends_same ms asked =
        ap (sent_to given veiled actor ms asked) on_veil
        ∙ ap (sent_as ms asking.fabric) (reply_same ms asked)
        ∙ sym (ap (sent_to given s actor ms asked) on_state)

    -- What it leaves of the own part.

    pub steps_same : (request : Request) (deadline : Option ℕ) (ms : ℕ) → asked_steps given veiled.node request deadline ms (asker veiled.node actor) ≡ asked_steps given s.node request deadline ms (asker s.node actor)
    steps_same request deadline ms =
        ap (asked_steps given veiled.node request deadline ms) on_veil
        ∙ ap (λ (o : Observation). if is_late deadline ms then [] else steps_to given (record o { clock = ms }) asking (is_some deadline) request) (sees-veil asking.fabric s.node valid)
        ∙ sym (ap (asked_steps given s.node request deadline ms) on_state)

    node_left : AlikeOn s.node → (asked : Result Request ImFault) (deadline : Option ℕ) (ms : ℕ) → own asking.fabric (after_action given veiled.node (action_of actor deadline asked) ms) ≡ own asking.fabric (after_action given s.node (action_of actor deadline asked) ms)
    node_left alike (Ok request) deadline ms =
        ap (λ (o : Option Actor). own asking.fabric (after_all o (asked_steps given veiled.node request deadline ms (asker veiled.node actor)) (at_time ms veiled.node))) on_veil
        ∙ ap (λ (steps : List NodeStep). own asking.fabric (after_all (Some asking) steps (at_time ms veiled.node))) (steps_same request deadline ms ∙ ap (asked_steps given s.node request deadline ms) on_state)
        ∙ alike actor asking request deadline ms on_state
        ∙ ap (λ (o : Option Actor). own asking.fabric (after_all o (asked_steps given s.node request deadline ms o) (at_time ms s.node))) (sym on_state)
    node_left alike (Err fault) deadline ms = own-again asking.fabric s.node valid.fabrics_rise

    deadline_same : deadline_for veiled (asker veiled.node actor) ≡ deadline_for s (asker s.node actor)
    deadline_same = ap (deadline_for veiled) on_veil ∙ deadline-own asking s.deadlines ∙ sym (ap (deadline_for s) on_state)

    deadlines_left : (asked : Result Request ImFault) (ms : ℕ) → own_deadlines asking.fabric (deadlines_after (asker veiled.node actor) veiled.deadlines ms asked) ≡ own_deadlines asking.fabric (deadlines_after (asker s.node actor) s.deadlines ms asked)
    deadlines_left asked ms =
        ap (λ (o : Option Actor). own_deadlines asking.fabric (deadlines_after o veiled.deadlines ms asked)) on_veil
        ∙ left_by asking s.deadlines ms asked
        ∙ sym (ap (λ (o : Option Actor). own_deadlines asking.fabric (deadlines_after o s.deadlines ms asked)) on_state)

    -- the deadlines of a fabric that leaves go with it, on both
    pub leaves_same : AlikeOn s.node → (ms : ℕ) (asked : Result Request ImFault) → own_of_whole asking.fabric (next_for given veiled actor ms asked) ≡ own_of_whole asking.fabric (next_for given s actor ms asked)
    leaves_same alike ms asked =
        let nodes = ap (λ (deadline : Option ℕ). own asking.fabric (after_action given veiled.node (action_of actor deadline asked) ms)) deadline_same ∙ node_left alike asked (deadline_for s (asker s.node actor)) ms in
        λ i. record {
          node = nodes i;
          deadlines = left_alike asking.fabric veiled.node s.node
              (after_action given veiled.node (action_of actor (deadline_for veiled (asker veiled.node actor)) asked) ms) (after_action given s.node (action_of actor (deadline_for s (asker s.node actor)) asked) ms)
              (own-again asking.fabric s.node valid.fabrics_rise) nodes
              (deadlines_after (asker veiled.node actor) veiled.deadlines ms asked) (deadlines_after (asker s.node actor) s.deadlines ms asked) (deadlines_left asked ms) i;
        }

    pub action_leaves_same : AlikeOn s.node → (asked : Result Request ImFault) (deadline : Option ℕ) (ms : ℕ) → own_of_whole asking.fabric (behind_action given veiled (action_of actor deadline asked) ms) ≡ own_of_whole asking.fabric (behind_action given s (action_of actor deadline asked) ms)
    action_leaves_same alike asked deadline ms =
        let nodes = node_left alike asked deadline ms in
        λ i. record {
          node = nodes i;
          deadlines = left_alike asking.fabric veiled.node s.node (after_action given veiled.node (action_of actor deadline asked) ms) (after_action given s.node (action_of actor deadline asked) ms)
              (own-again asking.fabric s.node valid.fabrics_rise) nodes veiled.deadlines s.deadlines (own_twice asking.fabric s.deadlines) i;
        }

  pub time_keeps : (fabric : ℕ) (s : State) (ms : ℕ) → own_of_whole fabric (behind_action given s actions.Nothing ms) ≡ own_of_whole fabric s
  time_keeps fabric s ms = λ i. record {
    node = own fabric s.node;
    deadlines = left_of_kept fabric s.node (after_action given s.node actions.Nothing ms) refl s.deadlines i;
  }

  -- Where nobody is taken as asking.

  sends_none : (s t : State) (actor : Actor) (ms : ℕ) (asked : Result Request ImFault) → asker s.node actor ≡ None → asker t.node actor ≡ None → sent_for given s actor ms asked ≡ sent_for given t actor ms asked
  sends_none s t actor ms asked none none_there = ap (sent_to given s actor ms asked) none ∙ sym (ap (sent_to given t actor ms asked) none_there)

  own_alone : (fabric : ℕ) (s : State) (actor : Actor) (deadline : Option ℕ) (ms : ℕ) (asked : Result Request ImFault) → asker s.node actor ≡ None → own fabric (after_action given s.node (action_of actor deadline asked) ms) ≡ own fabric s.node
  own_alone fabric s actor deadline ms (Ok request) none = ap (λ (steps : List NodeStep). own fabric (after_all (asker s.node actor) steps (at_time ms s.node))) (ap (asked_steps given s.node request deadline ms) none)
  own_alone fabric s actor deadline ms (Err fault) none = refl

  -- what is the fabric's own stays
  own_stays : (fabric : ℕ) (s : State) (actor : Actor) (ms : ℕ) (asked : Result Request ImFault) → asker s.node actor ≡ None → own_of_whole fabric (next_for given s actor ms asked) ≡ own_of_whole fabric s
  own_stays fabric s actor ms asked none =
      let node = own_alone fabric s actor (deadline_for s (asker s.node actor)) ms asked none in
      λ i. record {
        node = node i;
        deadlines = (left_of_kept fabric s.node (after_action given s.node (action_of actor (deadline_for s (asker s.node actor)) asked) ms) node (deadlines_after (asker s.node actor) s.deadlines ms asked)
            ∙ ap (λ (o : Option Actor). own_deadlines fabric (deadlines_after o s.deadlines ms asked)) none) i;
      }

  whole-again : (fabric : ℕ) (s : State) → IsValid s.node → own_of_whole fabric (veil_of_whole fabric s) ≡ own_of_whole fabric s
  whole-again fabric s valid = λ i. record { node = own-again fabric s.node valid.fabrics_rise i; deadlines = own_twice fabric s.deadlines i }

  pub sends_on_veil : (s : State) (e : Event) → IsValid s.node → plain_sent given (veil_of_whole (fabric_of s.node e) s) e ≡ plain_sent given s e
  sends_on_veil s (events.Ask ms fabric node cats opcode payload) valid =
      by_line s.node valid (λ f actor. sent_for given (veil_of_whole f s) actor ms (request_in opcode payload) ≡ sent_for given s actor ms (request_in opcode payload))
      (λ actor asking on_veil on_state. sends_same s valid actor asking on_veil on_state ms (request_in opcode payload))
      (λ f actor on_veil on_state. sends_none (veil_of_whole f s) s actor ms (request_in opcode payload) on_veil on_state)
      fabric node cats (fabric == 0)
  sends_on_veil s (events.Datagram ms peer bytes) valid = refl
  sends_on_veil s (events.Tick ms) valid = refl
  sends_on_veil s (events.Report ms fabric subscription) valid = refl
  sends_on_veil s (events.Resend ms session) valid = refl
  sends_on_veil s (events.Stop calls fate) valid = refl

  pub leaves_on_veil : (s : State) (e : Event) → IsValid s.node → AlikeOn s.node → own_of_whole (fabric_of s.node e) (plain_next given (veil_of_whole (fabric_of s.node e) s) e) ≡ own_of_whole (fabric_of s.node e) (plain_next given s e)
  leaves_on_veil s (events.Ask ms fabric node cats opcode payload) valid alike =
      by_line s.node valid (λ f actor. own_of_whole f (next_for given (veil_of_whole f s) actor ms (request_in opcode payload)) ≡ own_of_whole f (next_for given s actor ms (request_in opcode payload)))
      (λ actor asking on_veil on_state. leaves_same s valid actor asking on_veil on_state alike ms (request_in opcode payload))
      (λ f actor on_veil on_state. own_stays f (veil_of_whole f s) actor ms (request_in opcode payload) on_veil ∙ whole-again f s valid ∙ sym (own_stays f s actor ms (request_in opcode payload) on_state))
      fabric node cats (fabric == 0)
  leaves_on_veil s (events.Datagram ms peer bytes) valid alike = whole-again 0 s valid
  leaves_on_veil s (events.Tick ms) valid alike = ticks_on_veil 0 given s ms valid
  leaves_on_veil s (events.Report ms fabric subscription) valid alike = whole-again 0 s valid
  leaves_on_veil s (events.Resend ms session) valid alike = whole-again 0 s valid
  leaves_on_veil s (events.Stop calls fate) valid alike = whole-again 0 s valid

  -- Others' own, where the steps of an action are its asker's.

  not_equal : (a b : ℕ) → a ≢ b → (b == a) ≡ false
  not_equal a b differ = grind (arith, differ)

  module _ (fabric : ℕ) (s : State) (valid : IsValid s.node)
      (kept : (actor asking : Actor) (request : Request) (deadline : Option ℕ) (ms : ℕ) → asker s.node actor ≡ Some asking → (asking.fabric == fabric) ≡ false
      → StaysThere fabric s.node (after_action given s.node (actions.Ask actor request deadline) ms)
      → own fabric (after_action given s.node (actions.Ask actor request deadline) ms) ≡ own fabric s.node) where
    kept_node : (actor asking : Actor) (asked : Result Request ImFault) (deadline : Option ℕ) (ms : ℕ) → asker s.node actor ≡ Some asking → (asking.fabric == fabric) ≡ false
        → StaysThere fabric s.node (after_action given s.node (action_of actor deadline asked) ms)
        → own fabric (after_action given s.node (action_of actor deadline asked) ms) ≡ own fabric s.node
    kept_node actor asking (Ok request) deadline ms is other there = kept actor asking request deadline ms is other there
    kept_node actor asking (Err fault) deadline ms is other there = refl

    pub kept_behind : (actor asking : Actor) (asked : Result Request ImFault) (deadline : Option ℕ) (ms : ℕ) → asker s.node actor ≡ Some asking → fabric ≢ asking.fabric
        → StaysThere fabric s.node (behind_action given s (action_of actor deadline asked) ms).node → own_of_whole fabric (behind_action given s (action_of actor deadline asked) ms) ≡ own_of_whole fabric s
    kept_behind actor asking asked deadline ms is differ there =
        let node = kept_node actor asking asked deadline ms is (not_equal fabric asking.fabric differ) there in
        λ i. record {
          node = node i;
          deadlines = left_of_kept fabric s.node (after_action given s.node (action_of actor deadline asked) ms) node s.deadlines i;
        }

    kept_whole : (actor asking : Actor) (ms : ℕ) (asked : Result Request ImFault) → asker s.node actor ≡ Some asking → (asking.fabric == fabric) ≡ false
        → StaysThere fabric s.node (next_for given s actor ms asked).node → own_of_whole fabric (next_for given s actor ms asked) ≡ own_of_whole fabric s
    kept_whole actor asking ms asked is other there =
        let node = kept_node actor asking asked (deadline_for s (asker s.node actor)) ms is other there in
        λ i. record {
          node = node i;
          deadlines = (left_of_kept fabric s.node (after_action given s.node (action_of actor (deadline_for s (asker s.node actor)) asked) ms) node (deadlines_after (asker s.node actor) s.deadlines ms asked)
              ∙ ap (λ (o : Option Actor). own_deadlines fabric (deadlines_after o s.deadlines ms asked)) is ∙ kept_by fabric asking other s.deadlines ms asked) i;
        }

    pub keeps_own : (e : Event) → is_tick e ≡ false → fabric ≢ fabric_of s.node e → StaysThere fabric s.node (plain_next given s e).node → own_of_whole fabric (plain_next given s e) ≡ own_of_whole fabric s
    keeps_own (events.Ask ms other node cats opcode payload) no_tick differ there =
        by_line s.node valid (λ f actor. fabric ≢ f → StaysThere fabric s.node (next_for given s actor ms (request_in opcode payload)).node → own_of_whole fabric (next_for given s actor ms (request_in opcode payload)) ≡ own_of_whole fabric s)
        (λ actor asking on_veil on_state apart stay. kept_whole actor asking ms (request_in opcode payload) on_state (not_equal fabric asking.fabric apart) stay)
        (λ f actor on_veil on_state apart stay. own_stays fabric s actor ms (request_in opcode payload) on_state)
        other node cats (other == 0) differ there
    keeps_own (events.Datagram ms peer bytes) no_tick differ there = refl
    keeps_own (events.Tick ms) no_tick differ there = absurd (cc)
    keeps_own (events.Report ms other subscription) no_tick differ there = refl
    keeps_own (events.Resend ms session) no_tick differ there = refl
    keeps_own (events.Stop calls fate) no_tick differ there = refl
