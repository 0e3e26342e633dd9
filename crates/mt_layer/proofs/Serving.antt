-- Talks that agree before an action agree behind it, where sessions that end let go.
use Rattle.std.proofs.Common.{◌≡◌, ℕ, inl, inr, Bool, true, false, List, [], ◌∷◌, ◌++◌, Some, refl, ap, sym, ◌∙◌, append-nil, map, if◌then◌else◌}
use Rattle.std.proofs.lemmas.Bool.{cases_Bool}
use Rattle.std.specs.List.{find}
use Rattle.mt_exchange.specs.Shown.{closed}
use Rattle.mt_model.specs.texts.Config.{none_alike}
use Rattle.mt_model.specs.declared.node.state.NodeState.{NodeState}
use Rattle.mt_model.specs.declared.texts.config.SessionRow.{SessionRow}
use Rattle.mt_session.specs.Opening.{Arrival}
use Rattle.mt_session.specs.Sessions.{Message}
use Rattle.mt_talk.specs.Talks.{Talk, after_drop}
use Rattle.mt_shared.specs.mt_machine.Step.{closed_between}
use Rattle.mt_shared.specs.mt_runs.Isolation.{have_one_id}
use Rattle.mt_shared.specs.mt_runs.Whole.{SessionTalk, Whole, has_closed, is_talk_of, let_go}
use Rattle.mt_layer.specs.Agreeing.{Agrees, Serves, has_ended}
use Rattle.mt_layer.specs.Saying.{unless_closed}
use Rattle.mt_layer.proofs.Alike.{arrivals_more, messages_more}
use Rattle.mt_layer.proofs.Ending.{FollowAll, closed_ended, stay_ended}
use Rattle.mt_layer.proofs.Listed.{found_let_go, let_go_on, talk_on}

contradiction : {A : Type 0} → false ≡ true → A
contradiction is = absurd (cc)

-- Dropped, they agree wholly; and so do one that is dropped and one of which nothing is open.

dropped_agree : (one other : Bool) (u t : Talk) → Agrees one u t → Agrees other (after_drop u) (after_drop t)
dropped_agree one other u t a = record {
  arrivals = arrivals_more u.shown (closed ∷ []) ∙ ap (λ (l : List Arrival). l ++ []) a.arrivals ∙ sym (arrivals_more t.shown (closed ∷ []));
  messages = messages_more u.shown (closed ∷ []) ∙ ap (λ (l : List Message). l ++ []) a.messages ∙ sym (messages_more t.shown (closed ∷ []));
  next_id = a.next_id;
  latest = a.latest;
  open_ones = λ going. refl;
}

one_dropped : (one other : Bool) (u t : Talk) → Agrees one u t → t.open_ones ≡ [] → Agrees other (after_drop u) t
one_dropped one other u t a none = record {
  arrivals = arrivals_more u.shown (closed ∷ []) ∙ ap (λ (l : List Arrival). l ++ []) a.arrivals ∙ append-nil _;
  messages = messages_more u.shown (closed ∷ []) ∙ ap (λ (l : List Message). l ++ []) a.messages ∙ append-nil _;
  next_id = a.next_id;
  latest = a.latest;
  open_ones = λ going. sym none;
}

other_dropped : (one : Bool) (u t : Talk) → Agrees one u t → Agrees true u (after_drop t)
other_dropped one u t a = record {
  arrivals = a.arrivals ∙ sym (append-nil _) ∙ sym (arrivals_more t.shown (closed ∷ []));
  messages = a.messages ∙ sym (append-nil _) ∙ sym (messages_more t.shown (closed ∷ []));
  next_id = a.next_id;
  latest = a.latest;
  open_ones = λ going. contradiction (sym going);
}

module _ (before now : NodeState) (follow : FollowAll before.sessions now.sessions) (apart : none_alike have_one_id before.sessions ≡ true) (row : SessionRow) where
  abbrev id : ℕ
  id = row.session

  going_before : has_ended now id ≡ false → has_ended before id ≡ false
  going_before going = elim (cases_Bool (has_ended before id)) [
    | inl ended ↦ contradiction (sym going ∙ stay_ended id before.sessions now.sessions follow ended)
    | inr is ↦ is
  ]

  still : (u t : Talk) → Agrees (has_ended before id) u t → Agrees (has_ended now id) u t
  still u t a = record { arrivals = a.arrivals; messages = a.messages; next_id = a.next_id; latest = a.latest; open_ones = λ going. a.open_ones (going_before going) }

  -- the worker's own session, of which it is told whether it has ended
  pub own_agree : (u t : Talk) → Agrees (has_ended before id) u t → Agrees (has_ended now id) (unless_closed (closed_between before.sessions now.sessions) id u) (let_go before now (talk_on row t)).talk
  own_agree u t a = by_test (has_closed before now id)
    where
      by_test : (closes : Bool) → Agrees (has_ended now id) (if closes then after_drop u else u) (if closes then talk_on row (after_drop t) else talk_on row t).talk
      by_test true = dropped_agree (has_ended before id) (has_ended now id) u t a
      by_test false = still u t a

  -- another's, which is not told
  pub other_agree : (u t : Talk) → Agrees (has_ended before id) u t → Agrees (has_ended now id) u (let_go before now (talk_on row t)).talk
  other_agree u t a = by_test (has_closed before now id) refl
    where
      by_test : (closes : Bool) → has_closed before now id ≡ closes → Agrees (has_ended now id) u (if closes then talk_on row (after_drop t) else talk_on row t).talk
      by_test true is = record {
        arrivals = (other_dropped (has_ended before id) u t a).arrivals;
        messages = (other_dropped (has_ended before id) u t a).messages;
        next_id = a.next_id;
        latest = a.latest;
        open_ones = λ going. contradiction (sym going ∙ closed_ended id before.sessions now.sessions follow apart is);
      }
      by_test false is = still u t a

  -- one that is not live, which is dropped
  pub silent_agree : (u t : Talk) → Agrees true u t → t.open_ones ≡ [] → Agrees (has_ended now id) (after_drop u) (let_go before now (talk_on row t)).talk
  silent_agree u t a none = by_test (has_closed before now id)
    where
      by_test : (closes : Bool) → Agrees (has_ended now id) (after_drop u) (if closes then talk_on row (after_drop t) else talk_on row t).talk
      by_test true = dropped_agree true (has_ended now id) u t a
      by_test false = one_dropped true (has_ended now id) u t a none

-- A talk serves behind an action that agrees with what is then said over its session.
pub serving : (before : NodeState) (now : Whole) (spoken : List SessionTalk) → now.talks ≡ map (let_go before now.state.node) spoken → (row : SessionRow) (t u : Talk) → find (is_talk_of row.session) spoken ≡ Some (talk_on row t)
    → Agrees (has_ended now.state.node row.session) u (let_go before now.state.node (talk_on row t)).talk → Serves now row u
serving before now spoken are row t u found a = record {
  told = (let_go before now.state.node (talk_on row t)).talk;
  there = ap (find (is_talk_of row.session)) are ∙ found_let_go before now.state.node row.session spoken (talk_on row t) found ∙ ap (λ (x : SessionTalk). Some x) (let_go_on before now.state.node row t);
  agrees = a;
}
