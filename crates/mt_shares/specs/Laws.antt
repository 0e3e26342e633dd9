-- The laws of calls that several threads made of one book.
use Rattle.std.specs.Prelude.{◌≡◌, ◌<◌, ℕ, Bool, true, List, filter}
use Rattle.mt_worker.specs.Accounts.{Accounts, all_behind, all_sent}
use Rattle.mt_worker.specs.Gots.{Got, place_of}
use Rattle.mt_worker.specs.Made.{AreMade, AreTicks}
use Rattle.mt_worker.specs.Works.{AreOver}
use Rattle.mt_shares.specs.Merging.{AreShares, Merged}
use Rattle.mt_shares.specs.Threads.{AreMadeOrTicks, HaveTheirIds, calls_of, is_over, is_over_such, is_to_worker}

-- WHAT THREADS GOT of a book, each place once, is put together in the order of the book.
abbrev pub SharesAreMerged : Type 0
SharesAreMerged = (thread : Got → ℕ) (count : ℕ) (lists : List (List Got)) → AreShares place_of thread count lists → Merged place_of thread count lists

-- THE ACCOUNT OF A SESSION behind calls depends on those over it alone,
abbrev pub AccountsAreTheirSessions : Type 0
AccountsAreTheirSessions = (accounts : Accounts) (gots : List Got) (id : ℕ) → all_behind accounts gots id ≡ all_behind accounts (filter (is_over id) gots) id

-- and so on those over any sessions of which it is one.
abbrev pub AccountsAreTheirs : Type 0
AccountsAreTheirs = (passes : ℕ → Bool) (accounts : Accounts) (gots : List Got) (id : ℕ) → passes id ≡ true
    → all_behind accounts gots id ≡ all_behind accounts (filter (is_over_such passes) gots) id

-- CALLS THAT WERE MADE where there are those of one worker alone, were made among those of all.
abbrev pub MergedCallsAreMade : Type 0
MergedCallsAreMade = (workers : ℕ) (ids : List ℕ) (accounts : Accounts) (all : List Got) → 0 < workers
    → ((worker : ℕ) → worker < workers → AreOver ids (calls_of workers worker all) × AreMade accounts (calls_of workers worker all))
    → AreTicks (calls_of workers workers all)
    → AreMadeOrTicks ids accounts all

-- WHAT IS SENT over the sessions of one worker, by the calls of all, is what that worker's own calls send.
abbrev pub WorkersSendTheirOwn : Type 0
WorkersSendTheirOwn = (workers worker : ℕ) (accounts : Accounts) (all : List Got) → worker < workers → HaveTheirIds accounts → AreTicks (calls_of workers workers all)
    → filter (is_to_worker workers worker) (all_sent accounts all) ≡ all_sent accounts (calls_of workers worker all)
