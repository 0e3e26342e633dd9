-- What is a fabric's own of the whole, and the whole that is built of that and of what is public to it.
use Rattle.std.specs.Prelude.{◌≡◌, ℕ, ◌==◌, ◌||◌, Bool, true, List, filter, length, map}
use Rattle.std.specs.List.{list_all, list_any}
use Rattle.mt_model.specs.texts.Config.{none_alike}
use Rattle.mt_model.specs.declared.node.state.NodeSession.{NodeSession}
use Rattle.mt_model.specs.declared.node.state.NodeState.{NodeState}
use Rattle.mt_talk.specs.Talks.{open_in}
use Rattle.mt_ledger.specs.history.Isolation.{Recent, recent}
use Rattle.mt_ledger.specs.Isolation.{OwnLedger, own_ledger, seen_ledger}
use Rattle.mt_ledger.specs.Ledger.{IsLedger}
use Rattle.mt_machine.specs.Deadlines.{AreDeadlines}
use Rattle.mt_machine.specs.Isolation.{OwnOfWhole, PublicView, own, own_of_whole, public_view, whole_of}
use Rattle.mt_machine.specs.State.{IsValid}
use Rattle.mt_runs.specs.Whole.{SessionTalk, Whole, is_live}

-- the talk of one of these sessions
abbrev pub is_talk_among : List NodeSession → SessionTalk → Bool
is_talk_among sessions t = list_any (λ (session : NodeSession). session.session == t.row.session) sessions

-- the talks of these sessions
abbrev pub talks_among : List NodeSession → List SessionTalk → List SessionTalk
talks_among sessions talks = filter (is_talk_among sessions) talks

-- Its part of the node, the deadlines of its plain actors, its private events and its subscriptions, and what is said over its live
-- sessions.
pub record OwnPart : Type 0 where
  pub whole : OwnOfWhole
  pub ledger : OwnLedger
  pub talks : List SessionTalk

abbrev pub own_part : ℕ → Whole → OwnPart
own_part fabric w = record { whole = own_of_whole fabric w.state; ledger = own_ledger fabric w.ledger; talks = talks_among (own fabric w.state.node).sessions w.talks }

-- What is public to it of the node, and of events: those that all may see, and the next number. What is said over a session is public to
-- nobody.
pub record PublicPart : Type 0 where
  pub node : PublicView
  pub events : Recent

abbrev pub public_part : ℕ → Whole → PublicPart
public_part fabric w = record { node = public_view fabric w.state.node; events = recent w.ledger.history }

abbrev pub seen_whole : ℕ → OwnPart → PublicPart → Whole
seen_whole fabric o p = record { state = whole_of fabric o.whole p.node; ledger = seen_ledger fabric o.ledger p.events; talks = o.talks }

abbrev pub veil : ℕ → Whole → Whole
veil fabric w = seen_whole fabric (own_part fabric w) (public_part fabric w)

-- What holds of every whole: the node is valid, the deadlines and the ledger are such as stand beside it, the ids of its sessions differ, and
-- each session has its talk.

abbrev pub have_one_id : NodeSession → NodeSession → Bool
have_one_id a b = a.session == b.session

abbrev pub talk_id : SessionTalk → ℕ
talk_id t = t.row.session

abbrev pub session_id : NodeSession → ℕ
session_id session = session.session

-- over a session that is not live nothing is open
abbrev pub is_quiet : NodeState → SessionTalk → Bool
is_quiet s t = is_live s t.row.session || length (open_in t.row t.talk) == 0

pub record IsValidWhole (w : Whole) : Type 0 where
  pub node : IsValid w.state.node
  pub deadlines : AreDeadlines w.state
  pub ledger : IsLedger w.state.node w.ledger
  pub sessions_differ : none_alike have_one_id w.state.node.sessions ≡ true
  pub talks_stand : map talk_id w.talks ≡ map session_id w.state.node.sessions
  pub quiet : list_all (is_quiet w.state.node) w.talks ≡ true
