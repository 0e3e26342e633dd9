-- What is known of the threads that call.
use Rattle.std.specs.Prelude.{◌≡◌}
use Rattle.cases_turns.specs.declared.callers.Caller.{Caller}
use Rattle.mt_shared.specs.Shared.{IsPassOf, SharedView}

-- A thread's pass is one of this node, is outside, and has one share.
abbrev pub MayCall : SharedView → Caller → Type 0
MayCall node one = IsPassOf node one.pass × (one.pass.share ≡ 1)
