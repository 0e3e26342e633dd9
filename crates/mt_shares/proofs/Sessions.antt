-- Accounts that agree over some sessions do so behind the same calls over these, whatever calls there are over others.
use Rattle.std.proofs.Common.{◌≡◌, ◌≢◌, ◌∙◌, ℕ, ◌<◌, Bool, true, false, true≢false, List, [], ◌∷◌, refl, sym, ap, arith, eq-eqb, ne_eqb}
use Rattle.std.specs.Prelude.{◌==◌, ◌%◌, filter, if◌then◌else◌}
use Rattle.mt_worker.specs.Accounts.{Account, Accounts, account_behind, all_behind, behind}
use Rattle.mt_worker.specs.Gots.{Each, Got}
use Rattle.mt_shares.specs.Laws.{AccountsAreTheirSessions, AccountsAreTheirs}
use Rattle.mt_shares.specs.Threads.{calls_of, is_over_such, thread_of, thread_over}

-- the same accounts over the sessions that pass
abbrev pub Agree : (ℕ → Bool) → Accounts → Accounts → Type 0
Agree passes f g = (id : ℕ) → passes id ≡ true → f id ≡ g id

pub agree_behind : (passes : ℕ → Bool) (f g : Accounts) (got : Got) → Agree passes f g → Agree passes (behind f got) (behind g got)
agree_behind passes f g got agree id its = ap (λ (a : Account). if id == got.session then account_behind a got.told else a) (agree id its)

pub agree_else : (passes : ℕ → Bool) (f g : Accounts) (got : Got) → passes got.session ≡ false → Agree passes f g → Agree passes (behind f got) g
agree_else passes f g got not agree id its =
    let apart : id ≢ got.session = λ same. true≢false (sym its ∙ ap passes same ∙ not) in
    ap (λ (b : Bool). if b then account_behind (f id) got.told else f id) (ne_eqb id got.session apart) ∙ agree id its

agree_all : (passes : ℕ → Bool) (f g : Accounts) (gots : List Got) → Agree passes f g → Agree passes (all_behind f gots) (all_behind g (filter (is_over_such passes) gots))
agree_all passes f g [] agree = agree
agree_all passes f g (got ∷ gots) agree =
    let rest : List Got = filter (is_over_such passes) gots in
    let by : (b : Bool) → passes got.session ≡ b → Agree passes (all_behind (behind f got) gots) (all_behind g (if b then got ∷ rest else rest)) = elim [
      | true ↦ λ its. agree_all passes (behind f got) (behind g got) gots (agree_behind passes f g got agree)
      | false ↦ λ not. agree_all passes (behind f got) g gots (agree_else passes f g got not agree)
    ] in
    by (passes got.session) refl

pub accounts_are_theirs : AccountsAreTheirs
accounts_are_theirs passes accounts gots id its = agree_all passes accounts accounts gots (λ other passed. refl) id its

pub accounts_are_their_sessions : AccountsAreTheirSessions
accounts_are_their_sessions accounts gots id = accounts_are_theirs (λ (other : ℕ). other == id) accounts gots id (eq-eqb id id refl)

-- THE CALLS OF A THREAD

abbrev pub has_session : ℕ → ℕ → ℕ → Bool
has_session workers thread session = thread_over workers session == thread

pub with_it : (workers thread : ℕ) (got : Got) (gots : List Got) → thread_of workers got ≡ thread → calls_of workers thread (got ∷ gots) ≡ got ∷ calls_of workers thread gots
with_it workers thread got gots its = ap (λ (b : Bool). if b then got ∷ calls_of workers thread gots else calls_of workers thread gots) (eq-eqb (thread_of workers got) thread its)

pub without_it : (workers thread : ℕ) (got : Got) (gots : List Got) → thread_of workers got ≢ thread → calls_of workers thread (got ∷ gots) ≡ calls_of workers thread gots
without_it workers thread got gots other = ap (λ (b : Bool). if b then got ∷ calls_of workers thread gots else calls_of workers thread gots) (ne_eqb (thread_of workers got) thread other)

-- they are over its sessions
pub over_its : (workers thread : ℕ) (gots : List Got) → Each (λ (got : Got). has_session workers thread got.session ≡ true) (calls_of workers thread gots)
over_its workers thread [] = tt
over_its workers thread (got ∷ gots) =
    let rest : List Got = calls_of workers thread gots in
    let by : (b : Bool) → has_session workers thread got.session ≡ b → Each (λ (other : Got). has_session workers thread other.session ≡ true) (if b then got ∷ rest else rest) = elim [
      | true ↦ λ its. (its, over_its workers thread gots)
      | false ↦ λ not. over_its workers thread gots
    ] in
    by (has_session workers thread got.session) refl

-- a call of another thread leaves their accounts as they are
pub agree_other : (workers thread : ℕ) (f : Accounts) (got : Got) → thread_of workers got ≢ thread → Agree (has_session workers thread) f (behind f got)
agree_other workers thread f got other id its = sym (agree_else (has_session workers thread) f f got (ne_eqb (thread_of workers got) thread other) (λ n passed. refl) id its)

-- what is not the reporter's is a worker's, by the id of its session
pub of_worker : (workers : ℕ) (got : Got) → 0 < workers → thread_of workers got ≢ workers → (thread_of workers got < workers) × (thread_of workers got ≡ got.session % workers)
of_worker workers got some not =
    let by : (b : Bool) → (if b then workers else got.session % workers) ≢ workers → ((if b then workers else got.session % workers) < workers) × ((if b then workers else got.session % workers) ≡ got.session % workers) = elim [
      | true ↦ λ n. absurd (n refl)
      | false ↦ λ n. (omega arith, refl)
    ] in
    by (got.session == 0) not
