-- A worker before its thread begins, and behind it.
use Rattle.std.specs.Prelude.{◌≡◌, ℕ, List, [], Option, Some, None, All, map, ⊤}
use Rattle.std.specs.List.{filter_map}
use Rattle.mt_model.specs.declared.texts.config.SessionRow.{SessionRow}
use Rattle.mt_outside.specs.declared.network.Parcel.{Parcel}
use Rattle.mt_queue.specs.Ends.{Taken}
use Rattle.mt_queue.specs.Jobs.{IsEnded}
use Rattle.mt_owners.specs.mt_shared.Shared.{IsPassOf, NodePass, SharedView}
use Rattle.mt_owners.specs.mt_worker.Accounts.{Accounts}
use Rattle.mt_owners.specs.mt_worker.Due.{AreRising, HaveBegun, IsServed, id_of}
use Rattle.mt_owners.specs.mt_worker.Done.{Done}
use Rattle.mt_owners.specs.mt_worker.Works.{Reported, Worked}
use Rattle.mt_crew.specs.declared.member.Member.{Member}
use Rattle.mt_crew.specs.declared.member.Post.{Post}
use Rattle.mt_crew.specs.declared.member.Post.TheVariants.{Waits, Left, Serves}

abbrev pub start_of : {O : Type 0} → Post O → Option (NodePass × Taken × O)
start_of (Waits pass jobs outlet) = Some (pass, jobs, outlet)
start_of (Left ended) = None
start_of Serves = None

abbrev pub left_of : {O : Type 0} → Post O → Option (Done O)
left_of (Left ended) = Some ended
left_of (Waits pass jobs outlet) = None
left_of Serves = None

-- a pass of this node that is outside, with one share
abbrev pub IsOfThread : SharedView → NodePass → Type 0
IsOfThread node pass = IsPassOf node pass × (pass.share ≡ 1)

-- rows that a worker may have
pub record MayHave (rows : List SessionRow) : Type 0 where
  pub served : All IsServed rows
  pub rising : AreRising (map id_of rows)

-- WHAT A THREAD BEGINS WITH: a pass of the node, rows that a worker may have, and a queue of which nothing was taken.
pub record IsReady (node : SharedView) (rows : List SessionRow) (pass : NodePass) (jobs : Taken) : Type 0 where
  pub own : IsOfThread node pass
  pub may : MayHave rows
  pub fresh : jobs.taken ≡ []

abbrev pub IsWaiting : {O : Type 0} → SharedView → List SessionRow → Post O → Type 0
IsWaiting node rows (Waits pass jobs outlet) = IsReady node rows pass jobs
IsWaiting node rows (Left ended) = ⊥
IsWaiting node rows Serves = ⊥

abbrev pub MayWork : {O : Type 0} → SharedView → Member O → Type 0
MayWork node member = IsWaiting node member.rows member.post

-- WHAT THE WORKERS HAVE, in their order.

abbrev pub number_of : {O : Type 0} → Member O → ℕ
number_of member = member.number

abbrev pub rows_of : {O : Type 0} → Member O → List SessionRow
rows_of member = member.rows

abbrev pub pass_at : {O : Type 0} → Post O → Option NodePass
pass_at (Waits pass jobs outlet) = Some pass
pass_at (Left ended) = None
pass_at Serves = None

abbrev pub jobs_at : {O : Type 0} → Post O → Option Taken
jobs_at (Waits pass jobs outlet) = Some jobs
jobs_at (Left ended) = None
jobs_at Serves = None

abbrev pub outlet_at : {O : Type 0} → Post O → Option O
outlet_at (Waits pass jobs outlet) = Some outlet
outlet_at (Left ended) = None
outlet_at Serves = None

abbrev pub jobs_in : {O : Type 0} → List (Member O) → List Taken
jobs_in {O} members = filter_map (λ (member : Member O). jobs_at member.post) members

abbrev pub outlets_in : {O : Type 0} → List (Member O) → List O
outlets_in {O} members = filter_map (λ (member : Member O). outlet_at member.post) members

-- it begins with this pass
abbrev pub BeginsWith : {O : Type 0} → NodePass → Member O → Type 0
BeginsWith pass member = pass_at member.post ≡ Some pass

-- WHAT IS LEFT of one: a pass of this node, and a queue that was taken to its end.

pub record IsLeft {O : Type 0} (node : SharedView) (ended : Done O) : Type 0 where
  pub own : IsOfThread node ended.pass
  pub to_end : IsEnded ended.queue.taken

abbrev pub IsBack : {O : Type 0} → SharedView → Post O → Type 0
IsBack node (Left ended) = IsLeft node ended
IsBack node (Waits pass jobs outlet) = ⊥
IsBack node Serves = ⊥

abbrev pub HasLeft : {O : Type 0} → SharedView → Member O → Type 0
HasLeft node member = IsBack node member.post

-- what all have left
abbrev pub lefts : {O : Type 0} → List (Member O) → List (Done O)
lefts {O} members = filter_map (λ (member : Member O). left_of member.post) members

-- WHAT A WORKER DID, from the pass and the outlet that it began with: it kept its number and its rows, and took its own queue to the end.
module _ {O : Type 0} (given : O → Option (List Parcel)) (faults : O → ℕ) where
  pub record HasWorked (node : SharedView) (before after : Member O) : Type 0 where
    pub pass : NodePass
    pub jobs : Taken
    pub outlet : O
    pub ended : Done O
    pub began : before.post ≡ Waits pass jobs outlet
    pub left : after.post ≡ Left ended
    pub number : after.number ≡ before.number
    pub rows : after.rows ≡ before.rows
    pub is_left : IsLeft node ended
    pub queue : ended.queue.queue ≡ jobs.queue
    pub worked : (accounts : Accounts) → HaveBegun before.rows accounts → Worked given faults before.rows accounts pass outlet ended

-- What the reporter did, from this pass and this queue on.
pub record HasReported (node : SharedView) (pass : NodePass) (jobs : Taken) (clerk : Done ⊤) : Type 0 where
  pub is_left : IsLeft node clerk
  pub queue : clerk.queue.queue ≡ jobs.queue
  pub reported : Reported pass clerk
