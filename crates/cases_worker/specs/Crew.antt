-- What is known of the threads of a case before they serve, and behind that.
use Rattle.std.specs.Prelude.{◌≡◌, [], None, All, map, IfSome}
use Rattle.cases_worker.specs.declared.crew.Hired.{Hired}
use Rattle.cases_worker.specs.declared.crew.Post.{Post}
use Rattle.cases_worker.specs.declared.crew.Start.{Start}
use Rattle.mt_shared.specs.Shared.{IsPassOf, NodePass, SharedView}
use Rattle.mt_worker.specs.Due.{AreRising, IsServed, id_of}

-- a pass of this node that is outside, with one share
abbrev pub IsOfThread : SharedView → NodePass → Type 0
IsOfThread node pass = IsPassOf node pass × (pass.share ≡ 1)

-- rows that a worker may have
abbrev pub IsPost : Post → Type 0
IsPost post = All IsServed post.rows × AreRising (map id_of post.rows)

-- what a thread may begin with: nothing was taken of its queue
abbrev pub IsStart : SharedView → Start → Type 0
IsStart node start = IsOfThread node start.pass × (start.jobs.taken ≡ []) × IfSome start.post IsPost

-- a thread that has not begun
pub record MayServe (node : SharedView) (one : Hired) : Type 0 where
  pub start : IfSome one.start (IsStart node)
  pub left : one.left ≡ None

-- a thread that is over
pub record HasServed (node : SharedView) (one : Hired) : Type 0 where
  pub left : IfSome one.left (λ left. IsOfThread node left.pass)
