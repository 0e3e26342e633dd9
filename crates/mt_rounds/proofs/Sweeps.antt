-- What a worker does for one job, seen from one of its sessions.
use Rattle.std.proofs.Common.{◌≡◌, ◌≢◌, ◌∙◌, refl, sym, ap, subst, ℕ, ◌<◌, ◌||◌, Bool, true, false, true≢false, List, [], ◌∷◌, Option, Some, None, MatchBool, filter, eq-eqb, ne_eqb, append-nil, arith}
use mathlib.Core.Logic.{dite}
use native.Mathlib.Decide.{ℕ_discrete}
use Rattle.mt_outside.specs.declared.network.Peer.{Peer}
use Rattle.mt_owners.specs.mt_worker.Accounts.{Account, Accounts, account_over, all_behind}
use Rattle.mt_owners.specs.mt_worker.Due.{AreRising, Hears, Sweeps, Takes, Wakes, is_in}
use Rattle.mt_owners.specs.mt_worker.Gots.{Each, Got}
use Rattle.mt_owners.specs.mt_worker.Works.{AreOverOne}
use Rattle.mt_rounds.specs.Following.{names_it}
use Rattle.mt_rounds.specs.Laws.{AreTheirOwn, is_over}
use Rattle.mt_rounds.proofs.Over.{account_of, all_over, both_over, hears_its, none_over, own_all, wakes_its}

-- A WAKE. Over a session that is not among these there is no call.

differ_all : (session : ℕ) (ids : List ℕ) → Each (λ (later : ℕ). session < later) ids → Each (λ (other : ℕ). other ≢ session) ids
differ_all session [] above = tt
differ_all session (id ∷ ids) above = ((λ same. let less = above.0 in omega (arith, less, same)), differ_all session ids above.1)

none_swept : (now session : ℕ) (ids : List ℕ) (accounts : Accounts) (gots : List Got) → AreTheirOwn accounts → Each (λ (other : ℕ). other ≢ session) ids → Sweeps now ids accounts gots → filter (is_over session) gots ≡ []
none_swept now session [] accounts gots own differ sweeps = ap (filter (is_over session)) sweeps
none_swept now session (id ∷ ids) accounts gots own differ sweeps =
    let mine : List Got = sweeps.0 in
    let here : filter (is_over session) mine ≡ [] = none_over session id mine differ.0 (wakes_its accounts own id now mine sweeps.3) in
    let there : filter (is_over session) sweeps.1 ≡ [] = none_swept now session ids (all_behind accounts mine) sweeps.1 (own_all accounts mine own) differ.1 sweeps.4 in
    both_over session gots mine sweeps.1 [] [] sweeps.2 here there

-- Over one that is, there are those of its wake.
pub swept : (now session : ℕ) (ids : List ℕ) (accounts : Accounts) (gots : List Got) → AreRising ids → AreTheirOwn accounts → is_in ids session ≡ true → Sweeps now ids accounts gots → Wakes (accounts session) now (filter (is_over session) gots)
swept now session [] accounts gots rising own is sweeps = absurd (true≢false (sym is))
swept now session (id ∷ ids) accounts gots rising own is sweeps =
    let mine : List Got = sweeps.0 in
    let rest : List Got = sweeps.1 in
    let mid : Accounts = all_behind accounts mine in
    let its : AreOverOne id mine = wakes_its accounts own id now mine sweeps.3 in
    dite (ℕ_discrete id session)
    (λ same.
    let here : filter (is_over session) mine ≡ mine = all_over session mine (subst (λ (i : ℕ). AreOverOne i mine) same its) in
    let above : Each (λ (later : ℕ). session < later) ids = subst (λ (i : ℕ). Each (λ (later : ℕ). i < later) ids) same rising.0 in
    let there : filter (is_over session) rest ≡ [] = none_swept now session ids mid rest (own_all accounts mine own) (differ_all session ids above) sweeps.4 in
    let all : filter (is_over session) gots ≡ mine = both_over session gots mine rest mine [] sweeps.2 here there ∙ append-nil mine in
    subst (Wakes (accounts session) now) (sym all) (subst (λ (i : ℕ). Wakes (accounts i) now mine) same sweeps.3))
    (λ differs.
    let here : filter (is_over session) mine ≡ [] = none_over session id mine differs its in
    let all : filter (is_over session) gots ≡ filter (is_over session) rest = both_over session gots mine rest [] (filter (is_over session) rest) sweeps.2 here refl in
    let stays : mid session ≡ accounts session = account_of accounts session mine ∙ ap (account_over (accounts session)) here in
    let later : is_in ids session ≡ true = sym (ap (λ (b : Bool). b || is_in ids session) (ne_eqb id session differs)) ∙ is in
    let wakes : Wakes (mid session) now (filter (is_over session) rest) = swept now session ids mid rest rising.1 (own_all accounts mine own) later sweeps.4 in
    subst (Wakes (accounts session) now) (sym all) (subst (λ (a : Account). Wakes a now (filter (is_over session) rest)) stays wakes))

-- A DATAGRAM. The session that it names hears it, and over another there is no call.
module _ (session now : ℕ) (from : Peer) (bytes : List ℕ) (ids : List ℕ) (accounts : Accounts) (own : AreTheirOwn accounts) (gots : List Got) where
  abbrev HearsWhere : Bool → Type 0
  HearsWhere named = MatchBool named (Hears (accounts session) now from bytes (filter (is_over session) gots)) (filter (is_over session) gots ≡ [])

  abbrev TakesWhere : ℕ → Bool → Type 0
  TakesWhere id is = MatchBool is (Hears (accounts id) now from bytes gots) (gots ≡ [])

  by_it : (id : ℕ) → id ≡ session → Hears (accounts id) now from bytes gots → Hears (accounts session) now from bytes (filter (is_over session) gots)
  by_it id same hears =
      let all : filter (is_over session) gots ≡ gots = all_over session gots (subst (λ (i : ℕ). AreOverOne i gots) same (hears_its accounts own id now from bytes gots hears)) in
      subst (Hears (accounts session) now from bytes) (sym all) (subst (λ (i : ℕ). Hears (accounts i) now from bytes gots) same hears)

  by_another : (id : ℕ) → id ≢ session → (is : Bool) → TakesWhere id is → filter (is_over session) gots ≡ []
  by_another id differs = elim [
    | true ↦ λ hears. none_over session id gots differs (hears_its accounts own id now from bytes gots hears)
    | false ↦ λ none. ap (filter (is_over session)) none
  ]

  pub heard : (o : Option ℕ) → is_in ids session ≡ true → Takes ids accounts now from bytes o gots → HearsWhere (names_it (accounts session).row.session o)
  heard None is takes = ap (filter (is_over session)) takes
  heard (Some id) is takes = dite (ℕ_discrete id session)
      (λ same. subst HearsWhere (sym (eq-eqb id (accounts session).row.session (same ∙ sym (own session)))) (by_it id same (subst (TakesWhere id) (ap (is_in ids) same ∙ is) takes)))
      (λ differs. subst HearsWhere (sym (ne_eqb id (accounts session).row.session (λ same. differs (same ∙ own session)))) (by_another id differs (is_in ids id) takes))
