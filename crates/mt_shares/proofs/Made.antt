-- Calls that were made among those of one worker were made among those of all.
use Rattle.std.proofs.Common.{◌≡◌, ℕ, Bool, true, List, [], ◌∷◌, refl, subst, inl, inr}
use mathlib.Core.Logic.{dite}
use native.Mathlib.Decide.{ℕ_discrete}
use Rattle.mt_worker.specs.Accounts.{Account, Accounts, behind}
use Rattle.mt_worker.specs.Gots.{Each, Got}
use Rattle.mt_worker.specs.Made.{AreMade, AreTicks, IsMade}
use Rattle.mt_worker.specs.Works.{AreOver}
use Rattle.mt_shares.specs.Laws.{MergedCallsAreMade}
use Rattle.mt_shares.specs.Threads.{calls_of, thread_of}
use Rattle.mt_shares.proofs.Sessions.{Agree, agree_behind, agree_other, has_session, of_worker, over_its, with_it, without_it}

-- whether calls were made is told by the accounts of their sessions
made_alike : (passes : ℕ → Bool) (f g : Accounts) (gots : List Got) → Agree passes f g → Each (λ (got : Got). passes got.session ≡ true) gots → AreMade f gots → AreMade g gots
made_alike passes f g [] agree over made = tt
made_alike passes f g (got ∷ gots) agree over made = (
  subst (λ (a : Account). IsMade a got) (agree got.session over.0) made.0,
  made_alike passes (behind f got) (behind g got) gots (agree_behind passes f g got agree) over.1 made.1,
)

abbrev WereMade : List ℕ → Accounts → List Got → Type 0
WereMade ids accounts gots = AreOver ids gots × AreMade accounts gots

-- behind a call of anyone the later calls of a worker are made
made_behind : (workers worker : ℕ) (ids : List ℕ) (f : Accounts) (got : Got) (all : List Got) → WereMade ids f (calls_of workers worker (got ∷ all)) → WereMade ids (behind f got) (calls_of workers worker all)
made_behind workers worker ids f got all made = dite (ℕ_discrete (thread_of workers got) worker)
    (λ its. let m = subst (WereMade ids f) (with_it workers worker got all its) made in (m.0.1, m.1.1))
    (λ other.
    let m = subst (WereMade ids f) (without_it workers worker got all other) made in
    (m.0, made_alike (has_session workers worker) f (behind f got) (calls_of workers worker all) (agree_other workers worker f got other) (over_its workers worker all) m.1))

pub ticks_behind : (workers : ℕ) (got : Got) (all : List Got) → AreTicks (calls_of workers workers (got ∷ all)) → AreTicks (calls_of workers workers all)
ticks_behind workers got all ticks = dite (ℕ_discrete (thread_of workers got) workers)
    (λ its. (subst AreTicks (with_it workers workers got all its) ticks).1)
    (λ other. subst AreTicks (without_it workers workers got all other) ticks)

pub merged_calls_are_made : MergedCallsAreMade
merged_calls_are_made workers ids f [] some made ticks = tt
merged_calls_are_made workers ids f (got ∷ all) some made ticks = (
  dite (ℕ_discrete (thread_of workers got) workers)
      (λ its. inr (subst AreTicks (with_it workers workers got all its) ticks).0)
      (λ other.
      let worker = of_worker workers got some other in
      let m = subst (WereMade ids f) (with_it workers (thread_of workers got) got all refl) (made (thread_of workers got) worker.0) in
      inl (m.0.0, m.1.0)),
  merged_calls_are_made workers ids (behind f got) all some (λ worker less. made_behind workers worker ids f got all (made worker less)) (ticks_behind workers got all ticks),
)
