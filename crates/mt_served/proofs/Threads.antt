-- What there is of each thread among the calls of all.
use Rattle.std.proofs.Common.{◌≡◌, ◌≢◌, ◌∙◌, ℕ, ◌<◌, ◌≤◌, ◌%◌, ◌==◌, Bool, true, false, true≢false, List, [], ◌∷◌, filter, if◌then◌else◌, refl, sym, ap, subst, arith, eq-eqb, ne_eqb}
use Rattle.std.proofs.lemmas.Bool.{eqb-true}
use Rattle.std.proofs.lemmas.List.Elements.{filter_agree}
use mathlib.Core.Logic.{dite}
use native.Mathlib.Decide.{ℕ_discrete}
use Rattle.mt_legal.specs.mt_shares.Merging.{is_of_thread}
use Rattle.mt_legal.specs.mt_shares.Threads.{calls_of, thread_of, thread_over}
use Rattle.mt_rounds.specs.Laws.{is_over}
use Rattle.mt_rounds.specs.mt_worker.Gots.{Each, Got, place_of}

one_within : {A : Type 0} (p q : A → Bool) (x : A) (those these : List A) → (p x ≡ true → q x ≡ true) → filter p those ≡ these → (b c : Bool) → p x ≡ b → q x ≡ c → filter p (if c then x ∷ those else those) ≡ (if b then x ∷ these else these)
one_within {A = A} p q x those these implies rest b true passes too =
    ap (λ (d : Bool). if d then x ∷ filter p those else filter p those) passes ∙ ap (λ (ys : List A). if b then x ∷ ys else ys) rest
one_within p q x those these implies rest false false not nor = rest
one_within p q x those these implies rest true false passes nor = absurd (true≢false (sym (implies passes) ∙ nor))

-- Of what passes one test, all passes another that it implies.
pub filter_within : {A : Type 0} (p q : A → Bool) → ((x : A) → p x ≡ true → q x ≡ true) → (xs : List A) → filter p (filter q xs) ≡ filter p xs
filter_within p q implies [] = refl
filter_within p q implies (x ∷ xs) = one_within p q x (filter q xs) (filter p xs) (implies x) (filter_within p q implies xs) (p x) (q x) refl refl

module _ (workers : ℕ) where
  pub with_it : (thread : ℕ) (got : Got) (gots : List Got) → thread_of workers got ≡ thread → calls_of workers thread (got ∷ gots) ≡ got ∷ calls_of workers thread gots
  with_it thread got gots its = ap (λ (b : Bool). if b then got ∷ calls_of workers thread gots else calls_of workers thread gots) (eq-eqb (thread_of workers got) thread its)

  pub without_it : (thread : ℕ) (got : Got) (gots : List Got) → thread_of workers got ≢ thread → calls_of workers thread (got ∷ gots) ≡ calls_of workers thread gots
  without_it thread got gots other = ap (λ (b : Bool). if b then got ∷ calls_of workers thread gots else calls_of workers thread gots) (ne_eqb (thread_of workers got) thread other)

  module _ (some : 0 < workers) where
    -- a worker's number is below theirs, and the reporter's is theirs
    pub is_one : (session : ℕ) → thread_over workers session ≤ workers
    is_one session =
        let by : (b : Bool) → (if b then workers else session % workers) ≤ workers = elim [ true ↦ omega arith | false ↦ omega (arith, some) ] in
        by (session == 0)

    -- what holds of the calls of each thread holds of all
    pub of_all : (P : Got → Type 0) (all : List Got) → ((thread : ℕ) → thread ≤ workers → Each P (calls_of workers thread all)) → Each P all
    of_all P [] each = tt
    of_all P (got ∷ all) each = (
      (subst (Each P) (with_it (thread_of workers got) got all refl) (each (thread_of workers got) (is_one got.session))).0,
      of_all P all (λ thread one. dite (ℕ_discrete (thread_of workers got) thread)
          (λ its. (subst (Each P) (with_it thread got all its) (each thread one)).1)
          (λ other. subst (Each P) (without_it thread got all other) (each thread one))),
    )

    -- what is over a session is its worker's
    pub over_its : (id : ℕ) → id ≢ 0 → (all : List Got) → filter (is_over id) (calls_of workers (id % workers) all) ≡ filter (is_over id) all
    over_its id some_session all = filter_within (is_over id) (is_of_thread place_of (thread_of workers) (id % workers)) its all
      where
        its : (got : Got) → is_over id got ≡ true → is_of_thread place_of (thread_of workers) (id % workers) got ≡ true
        its got over =
            let is : got.session ≡ id = eqb-true got.session id over in
            eq-eqb (thread_of workers got) (id % workers) (ap (thread_over workers) is ∙ ap (λ (b : Bool). if b then workers else id % workers) (ne_eqb id 0 some_session))

    -- and what is over none the reporter's
    pub over_none : (all : List Got) → filter (is_over 0) all ≡ calls_of workers workers all
    over_none all = filter_agree (is_over 0) (is_of_thread place_of (thread_of workers) workers) (λ got. by got.session (got.session == 0)) all
      where
        by : (session : ℕ) (b : Bool) → b ≡ ((if b then workers else session % workers) == workers)
        by session true = sym (eq-eqb workers workers refl)
        by session false = sym (ne_eqb (session % workers) workers (λ same. let less : session % workers < workers = omega (arith, some) in absurd (omega (arith, same))))
