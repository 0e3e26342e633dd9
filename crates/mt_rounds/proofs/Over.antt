-- Which of several calls are over one session, and the account of it behind all of them.
use Rattle.std.proofs.Common.{◌≡◌, ◌≢◌, ◌∙◌, refl, sym, ap, subst, ℕ, ◌==◌, Bool, true, false, cond, List, [], ◌∷◌, ◌++◌, Option, Some, None, filter, if◌then◌else◌, eq-eqb, ne_eqb}
use mathlib.Core.Logic.{dite}
use native.Mathlib.Decide.{ℕ_discrete}
use Rattle.std.proofs.lemmas.List.Elements.{filter-append}
use Rattle.mt_outside.specs.declared.network.Peer.{Peer}
use Rattle.mt_owners.specs.mt_shared.Replay.{unless_stopped}
use Rattle.mt_owners.specs.mt_shared.Call.{Call}
use Rattle.mt_owners.specs.mt_shared.Stop.{Stop}
use Rattle.mt_owners.specs.mt_worker.Accounts.{Account, Accounts, account_behind, account_over, all_behind, behind}
use Rattle.mt_owners.specs.mt_worker.Due.{Hears, IsNone, IsOf, Reports, Then, Wakes, call_heard, last_three}
use Rattle.mt_owners.specs.mt_worker.Gots.{Got, Told}
use Rattle.mt_owners.specs.mt_worker.Works.{AreOverOne}
use Rattle.mt_owners.specs.mt_worker.Subscription.{Subscription}
use Rattle.mt_rounds.specs.Laws.{AreTheirOwn, is_over}

-- THOSE OVER ONE SESSION: all of what is over it, and none of what is over another.

pub all_over : (session : ℕ) (gots : List Got) → AreOverOne session gots → filter (is_over session) gots ≡ gots
all_over session [] over = refl
all_over session (got ∷ gots) over =
    ap (λ (b : Bool). cond b (got ∷ filter (is_over session) gots) (filter (is_over session) gots)) (eq-eqb got.session session over.0)
    ∙ ap (λ (mine : List Got). got ∷ mine) (all_over session gots over.1)

pub none_over : (session other : ℕ) (gots : List Got) → other ≢ session → AreOverOne other gots → filter (is_over session) gots ≡ []
none_over session other [] differs over = refl
none_over session other (got ∷ gots) differs over =
    ap (λ (b : Bool). cond b (got ∷ filter (is_over session) gots) (filter (is_over session) gots)) (ne_eqb got.session session (λ same. differs (sym over.0 ∙ same)))
    ∙ none_over session other gots differs over.1

-- of two parts, one after the other
pub both_over : (session : ℕ) (gots first second mine later : List Got) → gots ≡ first ++ second → filter (is_over session) first ≡ mine → filter (is_over session) second ≡ later → filter (is_over session) gots ≡ mine ++ later
both_over session gots first second mine later is here there =
    ap (filter (is_over session)) is
    ∙ filter-append (is_over session) first second
    ∙ ap (λ (front : List Got). front ++ filter (is_over session) second) here
    ∙ ap (λ (back : List Got). mine ++ back) there

-- THE ACCOUNT OF A SESSION comes from what is over it alone.

same_way : (m n : ℕ) → (m == n) ≡ (n == m)
same_way m n = dite (ℕ_discrete m n) (λ same. eq-eqb m n same ∙ sym (eq-eqb n m (sym same))) (λ differs. ne_eqb m n differs ∙ sym (ne_eqb n m (λ same. differs (sym same))))

pub account_of : (accounts : Accounts) (session : ℕ) (gots : List Got) → all_behind accounts gots session ≡ account_over (accounts session) (filter (is_over session) gots)
account_of accounts session [] = refl
account_of accounts session (got ∷ gots) =
    let mine : List Got = filter (is_over session) gots in
    let Goal : Bool → Type 0 = λ b. account_over (if b then account_behind (accounts session) got.told else accounts session) mine ≡ account_over (accounts session) (cond b (got ∷ mine) mine) in
    let each : (b : Bool) → Goal b = elim [ true ↦ refl | false ↦ refl ] in
    account_of (behind accounts got) session gots
    ∙ ap (λ (b : Bool). account_over (if b then account_behind (accounts session) got.told else accounts session) mine) (same_way session got.session)
    ∙ each (got.session == session)

pub accounts_both : (accounts : Accounts) (first second : List Got) → all_behind accounts (first ++ second) ≡ all_behind (all_behind accounts first) second
accounts_both accounts [] second = refl
accounts_both accounts (got ∷ gots) second = accounts_both (behind accounts got) gots second

pub account_both : (a : Account) (first second : List Got) → account_over a (first ++ second) ≡ account_over (account_over a first) second
account_both a [] second = refl
account_both a (got ∷ gots) second = account_both (account_behind a got.told) gots second

-- THE ROW of an account stays.

row_unless : (o : Option Stop) (a going : Account) → going.row ≡ a.row → (unless_stopped o going a).row ≡ a.row
row_unless None a going same = same
row_unless (Some stop) a going same = refl

row_stays : (a : Account) (told : Told) → (account_behind a told).row ≡ a.row
row_stays a told = row_unless told.0.stop a _ refl

own_behind : (accounts : Accounts) (got : Got) → AreTheirOwn accounts → AreTheirOwn (behind accounts got)
own_behind accounts got own id =
    let Goal : Bool → Type 0 = λ b. (if b then account_behind (accounts id) got.told else accounts id).row.session ≡ id in
    let each : (b : Bool) → Goal b = elim [ true ↦ ap (λ row. row.session) (row_stays (accounts id) got.told) ∙ own id | false ↦ own id ] in
    each (id == got.session)

pub own_all : (accounts : Accounts) (gots : List Got) → AreTheirOwn accounts → AreTheirOwn (all_behind accounts gots)
own_all accounts [] own = own
own_all accounts (got ∷ gots) own = own_all (behind accounts got) gots (own_behind accounts got own)

-- THE CALLS that are due over a session are over it.

reports_over : (session now : ℕ) (subscriptions : List Subscription) (gots : List Got) → Reports session now subscriptions gots → AreOverOne session gots
reports_over session now [] gots due = subst (AreOverOne session) (sym due) tt
reports_over session now (subscription ∷ subscriptions) gots due = subst (AreOverOne session) (sym due.2) (due.3.session_is, reports_over session now subscriptions due.1 due.4)

wakes_over : (a : Account) (now : ℕ) (gots : List Got) → Wakes a now gots → AreOverOne a.row.session gots
wakes_over a now gots due =
    subst (AreOverOne a.row.session) (sym due.2) (due.3.session_is, reports_over a.row.session now (last_three (account_behind a due.0.told).subscriptions) due.1 due.4)

one_over : (session : ℕ) (call : Call) (gots : List Got) → Then (IsOf session call) IsNone gots → AreOverOne session gots
one_over session call gots due = subst (AreOverOne session) (sym due.2) (due.3.session_is, subst (AreOverOne session) (sym due.4) tt)

module _ (accounts : Accounts) (own : AreTheirOwn accounts) (id : ℕ) where
  pub wakes_its : (now : ℕ) (gots : List Got) → Wakes (accounts id) now gots → AreOverOne id gots
  wakes_its now gots due = subst (λ (i : ℕ). AreOverOne i gots) (own id) (wakes_over (accounts id) now gots due)

  pub hears_its : (now : ℕ) (from : Peer) (bytes : List ℕ) (gots : List Got) → Hears (accounts id) now from bytes gots → AreOverOne id gots
  hears_its now from bytes gots due = subst (λ (i : ℕ). AreOverOne i gots) (own id) (one_over (accounts id).row.session (call_heard (accounts id) now from bytes) gots due)
