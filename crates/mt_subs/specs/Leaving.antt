-- Which subscriptions end, and which stay as they are.
use Rattle.std.specs.Prelude.{ℕ, ◌==◌, ◌&&◌, not, Bool, false, List, Option, Some, None, filter}
use Rattle.std.specs.List.{list_any}
use Rattle.mt_model.specs.Optional.{is_that}
use Rattle.mt_model.specs.declared.node.state.NodeSession.{NodeSession}
use Rattle.mt_model.specs.declared.node.state.NodeState.{NodeState}
use Rattle.mt_model.specs.declared.node.state.Standing.{Standing}
use Rattle.mt_model.specs.declared.node.state.Standing.TheVariants.{Waits, Live, Ended}
use Rattle.mt_model.specs.declared.tables.access.Auth.{Auth}
use Rattle.mt_model.specs.declared.tables.access.Auth.TheVariants.{Case, Group, Pase}
use Rattle.mt_model.specs.declared.tables.fabric.Fabric.{Fabric}
use Rattle.mt_subs.specs.Subscriptions.{is_of}
use Rattle.mt_subs.specs.declared.subscription.SubState.{SubState}
use Rattle.mt_subs.specs.declared.subscription.Subscription.{Subscription}

-- those of which this is true stay, and the ids that were given stay given
abbrev pub staying : (Subscription → Bool) → SubState → SubState
staying stays subs = record subs { subscriptions = filter stays subs.subscriptions }

-- Who subscribed must be there, for the fabric of the subscription: a session must be live for it; a plain actor over PASE must
-- have it, and over CASE it must be in the table.

abbrev pub is_live_as : ℕ → Standing → Bool
is_live_as fabric Waits = false
is_live_as fabric (Live other) = other == fabric
is_live_as fabric Ended = false

abbrev pub is_live_over : ℕ → ℕ → NodeSession → Bool
is_live_over fabric id session = session.session == id && is_live_as fabric session.standing

abbrev pub is_there_plainly : NodeState → ℕ → Auth → Bool
is_there_plainly s fabric Case = list_any (λ (f : Fabric). f.index == fabric) s.fabrics
is_there_plainly s fabric Pase = is_that fabric s.plain
is_there_plainly s fabric Group = false

abbrev pub is_there : NodeState → ℕ → Auth → Option ℕ → Bool
is_there s fabric auth (Some id) = list_any (is_live_over fabric id) s.sessions
is_there s fabric auth None = is_there_plainly s fabric auth

abbrev pub stands_in : NodeState → Subscription → Bool
stands_in s x = is_there s x.fabric x.kept.sub.actor.auth x.kept.sub.actor.session

-- THOSE THAT STAY where this is the state of the node
abbrev pub left_in : NodeState → SubState → SubState
left_in s subs = staying (stands_in s) subs

-- Those of a fabric and node end, whatever CATs or session their subscriber has.

abbrev pub is_by_another : ℕ → ℕ → Subscription → Bool
is_by_another fabric node x = not (is_of fabric x && x.kept.sub.actor.node == node)

abbrev pub without_node : ℕ → ℕ → SubState → SubState
without_node fabric node subs = staying (is_by_another fabric node) subs

-- Those of a fabric with one of these ids end.

abbrev pub is_none_of : ℕ → List ℕ → Subscription → Bool
is_none_of fabric ids x = not (is_of fabric x && list_any (λ (id : ℕ). id == x.id) ids)

abbrev pub without_ids : ℕ → List ℕ → SubState → SubState
without_ids fabric ids subs = staying (is_none_of fabric ids) subs
