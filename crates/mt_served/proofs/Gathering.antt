-- What all threads got: the work of each, with these accounts as all began, and the lists of what they got, each at the number of its thread.
use Rattle.std.proofs.Common.{◌≡◌, ◌∙◌, refl, sym, ap, subst, inl, inr, ℕ, zero, suc, ◌<◌, ◌⊎◌, arith, length, length-append, List, [], ◌∷◌, ◌++◌, Option, map}
use Rattle.std.specs.Prelude.{All, ⊤}
use Rattle.std.proofs.lemmas.List.Elements.{All-head, All-tail}
use mathlib.Core.List.{IsPrefix}
use mathlib.Core.Option as options
use lib.ListN.{get_elem?}
use Rattle.atomic_table.specs.Seated.{TableId}
use Rattle.mt_legal.specs.mt_interactions.Configured.{ConfiguredInteractions}
use Rattle.mt_legal.specs.mt_shares.Merging.{upto}
use Rattle.mt_model.specs.declared.texts.config.SessionRow.{SessionRow}
use Rattle.mt_outside.specs.declared.network.Parcel.{Parcel}
use Rattle.mt_rounds.specs.mt_owners.Laws.{RowsHaveBegun}
use Rattle.mt_rounds.specs.mt_owners.Rows.{AreRowsOf, rows_in}
use Rattle.mt_rounds.specs.mt_shared.Entry.{Entry}
use Rattle.mt_rounds.specs.mt_worker.Accounts.{Accounts}
use Rattle.mt_rounds.specs.mt_worker.Done.{Done}
use Rattle.mt_rounds.specs.mt_worker.Due.{HaveBegun}
use Rattle.mt_rounds.specs.mt_worker.Gots.{Got}
use Rattle.mt_rounds.specs.mt_worker.Works.{Reported, Worked}
use Rattle.mt_served.specs.Crews.{DidItsWork, IsCrew, Service, begun_pass, number_of}

-- LISTS BY INDEX.

-- in a list with one item more, what stands there stood there before, or is the last
pub at_more : {A : Type 0} (xs : List A) (y : A) (j : ℕ) (x : A) → get_elem? (xs ++ y ∷ []) j ≡ options.some x → (get_elem? xs j ≡ options.some x) ⊎ ((j ≡ length xs) × (y ≡ x))
at_more [] y zero x at = inr (refl, options.some-injective y x at)
at_more [] y (suc j) x at = absurd (options.some-ne-none x (sym at))
at_more (z ∷ xs) y zero x at = inl at
at_more (z ∷ xs) y (suc j) x at = elim (at_more xs y j x at) [ inl there ↦ inl there | inr last ↦ inr (ap suc last.0, last.1) ]

pub at_last : {A : Type 0} (xs : List A) (y : A) → get_elem? (xs ++ y ∷ []) (length xs) ≡ options.some y
at_last [] y = refl
at_last (x ∷ xs) y = at_last xs y

pub at_front : {A : Type 0} (xs ys : List A) (j : ℕ) → j < length xs → get_elem? (xs ++ ys) j ≡ get_elem? xs j
at_front [] ys j less = absurd (omega (arith, less))
at_front (x ∷ xs) ys zero less = refl
at_front (x ∷ xs) ys (suc j) less = at_front xs ys j (omega (arith, less))

-- an index at which something stands is below the length
pub within : {A : Type 0} (xs : List A) (j : ℕ) (x : A) → get_elem? xs j ≡ options.some x → j < length xs
within [] j x at = absurd (options.some-ne-none x (sym at))
within (y ∷ xs) zero x at = omega arith
within (y ∷ xs) (suc j) x at = omega (arith, within xs j x at)

pub at_map : {A B : Type 0} (f : A → B) (xs : List A) (j : ℕ) (x : A) → get_elem? xs j ≡ options.some x → get_elem? (map f xs) j ≡ options.some (f x)
at_map f [] j x at = absurd (options.some-ne-none x (sym at))
at_map f (y ∷ xs) zero x at = ap (λ z. options.some (f z)) (options.some-injective y x at)
at_map f (y ∷ xs) (suc j) x at = at_map f xs j x at

pub at_all : {A : Type 0} (P : A → Type 0) (xs : List A) (j : ℕ) (x : A) → All P xs → get_elem? xs j ≡ options.some x → P x
at_all P [] j x all at = absurd (options.some-ne-none x (sym at))
at_all P (y ∷ xs) zero x all at = subst P (options.some-injective y x at) (All-head P y xs all)
at_all P (y ∷ xs) (suc j) x all at = at_all P xs j x (All-tail P y xs all) at

pub length_upto : (n : ℕ) → length (upto n) ≡ n
length_upto zero = refl
length_upto (suc n) = omega (arith, length-append (upto n) (n ∷ []), length_upto n)

pub at_upto : (n j k : ℕ) → get_elem? (upto n) j ≡ options.some k → k ≡ j
at_upto zero j k at = absurd (options.some-ne-none k (sym at))
at_upto (suc n) j k at = elim (at_more (upto n) n j k at) [
  | inl there ↦ at_upto n j k there
  | inr last ↦ sym last.1 ∙ sym (length_upto n) ∙ sym last.0
]

module _ {O : Type 0} (given : O → Option (List Parcel)) (faults : O → ℕ) (lock : TableId) (origin : ConfiguredInteractions) (accounts : Accounts) where
  -- WHAT EACH WORKER DID, with these accounts as it began

  abbrev pub Did : Service O → Type 0
  Did service = Worked given faults service.rows accounts (begun_pass lock origin) service.lent service.left

  abbrev pub DidAll : List (Service O) → Type 0
  DidAll [] = ⊤
  DidAll (service ∷ services) = Did service × DidAll services

  did_these : RowsHaveBegun → (boot workers : ℕ) (sessions : List SessionRow) (services : List (Service O)) → HaveBegun (rows_in boot sessions) accounts
      → All (λ (service : Service O). AreRowsOf boot workers service.number sessions service.rows) services → All (DidItsWork given faults (begun_pass lock origin)) services → DidAll services
  did_these begun boot workers sessions [] silent rows worked = tt
  did_these begun boot workers sessions (service ∷ services) silent rows worked =
      let Rows = λ (other : Service O). AreRowsOf boot workers other.number sessions other.rows in
      let Works = DidItsWork given faults (begun_pass lock origin) in
      let own = begun boot workers service.number sessions service.rows accounts silent (All-head Rows service services rows) in
      (All-head Works service services worked accounts own, did_these begun boot workers sessions services silent (All-tail Rows service services rows) (All-tail Works service services worked))

  pub did_all : RowsHaveBegun → (boot : ℕ) (sessions : List SessionRow) (book : List Entry) (services : List (Service O)) (clerk : Done ⊤)
      → IsCrew given faults lock origin boot sessions book services clerk → HaveBegun (rows_in boot sessions) accounts → DidAll services
  did_all begun boot sessions book services clerk crew silent = did_these begun boot (length services) sessions services silent crew.rows crew.worked

  -- WHAT ALL OF THEM GOT, worker by worker, and the reporter last

  abbrev pub gots_in : (services : List (Service O)) → DidAll services → List (List Got)
  gots_in [] did = []
  gots_in (service ∷ services) did = did.0.gots ∷ gots_in services did.1

  abbrev pub lists_of : (services : List (Service O)) → DidAll services → {done : Done ⊤} → Reported (begun_pass lock origin) done → List (List Got)
  lists_of services did clerk = gots_in services did ++ clerk.gots ∷ []

  pub length_gots : (services : List (Service O)) (did : DidAll services) → length (gots_in services did) ≡ length services
  length_gots [] did = refl
  length_gots (service ∷ services) did = ap suc (length_gots services did.1)

  -- a list there is that of the worker there
  record Found (services : List (Service O)) (j : ℕ) (xs : List Got) : Type 0 where
    service : Service O
    its : Did service
    gots_are : its.gots ≡ xs
    there : get_elem? services j ≡ options.some service

  found : (services : List (Service O)) (did : DidAll services) (j : ℕ) (xs : List Got) → get_elem? (gots_in services did) j ≡ options.some xs → Found services j xs
  found [] did j xs at = absurd (options.some-ne-none xs (sym at))
  found (service ∷ services) did zero xs at = record { service = service; its = did.0; gots_are = options.some-injective did.0.gots xs at; there = refl }
  found (service ∷ services) did (suc j) xs at =
      let it = found services did.1 j xs at in
      record { service = it.service; its = it.its; gots_are = it.gots_are; there = it.there }

  -- The worker of this number, of so many, whose list this is.
  pub record At (boot : ℕ) (sessions : List SessionRow) (book : List Entry) (services : List (Service O)) (j : ℕ) (xs : List Got) : Type 0 where
    pub service : Service O
    pub its : Did service
    pub gots_are : its.gots ≡ xs
    pub there : get_elem? services j ≡ options.some service
    pub number_is : service.number ≡ j
    pub below : j < length services
    pub rows : AreRowsOf boot (length services) service.number sessions service.rows
    pub heard : IsPrefix service.left.pass.seen book

  pub at_worker : (boot : ℕ) (sessions : List SessionRow) (book : List Entry) (services : List (Service O)) (clerk : Done ⊤) (did : DidAll services)
      → IsCrew given faults lock origin boot sessions book services clerk → (j : ℕ) (xs : List Got) → get_elem? (gots_in services did) j ≡ options.some xs → At boot sessions book services j xs
  at_worker boot sessions book services clerk did crew j xs at =
      let it = found services did j xs at in
      let numbered = at_map number_of services j it.service it.there in
      record {
        service = it.service;
        its = it.its;
        gots_are = it.gots_are;
        there = it.there;
        number_is = at_upto (length services) j it.service.number (ap (λ (numbers : List ℕ). get_elem? numbers j) (sym crew.numbers) ∙ numbered);
        below = within services j it.service it.there;
        rows = at_all (λ (service : Service O). AreRowsOf boot (length services) service.number sessions service.rows) services j it.service crew.rows it.there;
        heard = at_all (λ (service : Service O). IsPrefix service.left.pass.seen book) services j it.service crew.heard it.there;
      }

  -- THE LISTS BY INDEX

  pub of_worker : (services : List (Service O)) (did : DidAll services) {done : Done ⊤} (clerk : Reported (begun_pass lock origin) done) (j : ℕ) → j < length services
      → get_elem? (lists_of services did clerk) j ≡ get_elem? (gots_in services did) j
  of_worker services did clerk j less = at_front (gots_in services did) (clerk.gots ∷ []) j (omega (arith, less, length_gots services did))

  pub of_reporter : (services : List (Service O)) (did : DidAll services) {done : Done ⊤} (clerk : Reported (begun_pass lock origin) done)
      → get_elem? (lists_of services did clerk) (length services) ≡ options.some clerk.gots
  of_reporter services did clerk = ap (get_elem? (lists_of services did clerk)) (sym (length_gots services did)) ∙ at_last (gots_in services did) clerk.gots

  -- every list there is one of these
  pub of_whom : (services : List (Service O)) (did : DidAll services) {done : Done ⊤} (clerk : Reported (begun_pass lock origin) done) (j : ℕ) (xs : List Got)
      → get_elem? (lists_of services did clerk) j ≡ options.some xs → (get_elem? (gots_in services did) j ≡ options.some xs) ⊎ ((j ≡ length services) × (clerk.gots ≡ xs))
  of_whom services did clerk j xs at = elim (at_more (gots_in services did) clerk.gots j xs at) [
    | inl there ↦ inl there
    | inr last ↦ inr (last.0 ∙ length_gots services did, last.1)
  ]
