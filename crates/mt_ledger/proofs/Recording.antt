-- What goes on to hold of histories as events are recorded, whoever tells them.
use Rattle.std.proofs.Common.{◌≡◌, ℕ, ◌+◌, ◌==◌, ◌⊎◌, if◌then◌else◌, Bool, true, false, List, [], ◌∷◌, ◌++◌, length, Option, Some, None, refl, ap, sym, ◌∙◌, inl, inr, eqb-true}
use Rattle.std.specs.List.{list_all}
use Rattle.std.proofs.lemmas.Bool.{and_parts, cases_Bool, eqb-false, ne_eqb, or_cases}
use Rattle.mt_tlv.specs.declared.value.Value.{Value}
use Rattle.mt_model.specs.Optional.{is_that}
use Rattle.mt_model.specs.declared.messages.message.Happened.{Happened}
use Rattle.mt_model.specs.declared.node.action.NodeStep.{NodeStep}
use Rattle.mt_model.specs.declared.node.action.NodeStep.TheVariants.{SetRow, SetEntries, PutNetwork, RemoveNetwork, ConnectNetwork, MoveNetwork, Arm, Renew, Expire, Complete, AddRoot, Csr, AddFabric, UpdateFabric, RemoveFabric, Label, Emit}
use Rattle.mt_model.specs.declared.rows.place.Place.{Place}
use Rattle.mt_model.specs.declared.tables.access.Actor.{Actor}
use Rattle.mt_events.specs.Rings.{pushed}
use Rattle.mt_events.specs.Telling.{own_of}
use Rattle.mt_machine.specs.Telling.{is_told_as}
use Rattle.mt_ledger.specs.history.History.{History, happened, recorded, recorded_all, with_event, without_left}
use Rattle.mt_ledger.specs.history.Isolation.{own_events}
use Rattle.mt_ledger.proofs.Rings.{forgotten_many, forgotten_own, nobodys, pushed_alike, pushed_elsewhere, pushed_many}

-- Where events pass a test, and each that does keeps something of two histories, all of them keep it.
module _ (passes : NodeStep → Bool) (now : ℕ) (P : History → History → Type 0)
    (one : (place : Place) (priority fabric : ℕ) (value : Value) (h k : History) → passes (Emit place priority fabric value) ≡ true → P h k
    → P (with_event (happened h.numbers.next place priority now fabric value) h) (with_event (happened k.numbers.next place priority now fabric value) k))
  where
    step_keeps : (step : NodeStep) (h k : History) → passes step ≡ true → P h k → P (recorded now step h) (recorded now step k)
    step_keeps (SetRow place fabric values) h k passed is = is
    step_keeps (SetEntries fabric entries) h k passed is = is
    step_keeps (PutNetwork id secret) h k passed is = is
    step_keeps (RemoveNetwork id) h k passed is = is
    step_keeps (ConnectNetwork id) h k passed is = is
    step_keeps (MoveNetwork id index) h k passed is = is
    step_keeps (Arm owner seconds) h k passed is = is
    step_keeps (Renew seconds) h k passed is = is
    step_keeps Expire h k passed is = is
    step_keeps Complete h k passed is = is
    step_keeps (AddRoot cert) h k passed is = is
    step_keeps (Csr nonce update) h k passed is = is
    step_keeps (AddFabric joins) h k passed is = is
    step_keeps (UpdateFabric index credentials) h k passed is = is
    step_keeps (RemoveFabric index) h k passed is = is
    step_keeps (Label index label) h k passed is = is
    step_keeps (Emit place priority fabric value) h k passed is = one place priority fabric value h k passed is

    pub all_keep : (steps : List NodeStep) (h k : History) → list_all passes steps ≡ true → P h k → P (recorded_all now steps h) (recorded_all now steps k)
    all_keep [] h k passed is = is
    all_keep (step ∷ steps) h k passed is =
        let both = and_parts (passes step) (list_all passes steps) passed in
        all_keep steps (recorded now step h) (recorded now step k) both.1 (step_keeps step h k both.0 is)

pub recorded-append : (now : ℕ) (steps more : List NodeStep) (h : History) → recorded_all now (steps ++ more) h ≡ recorded_all now more (recorded_all now steps h)
recorded-append now [] more h = refl
recorded-append now (step ∷ steps) more h = recorded-append now steps more (recorded now step h)

-- The fabric to which whoever is taken as asking tells, besides all.
abbrev pub fabric_for : Option Actor → ℕ
fabric_for None = 0
fabric_for (Some actor) = actor.fabric

pub told_cases : (asking : Option Actor) (place : Place) (priority fabric : ℕ) (value : Value) → is_told_as asking (Emit place priority fabric value) ≡ true → (fabric ≡ 0) ⊎ (fabric ≡ fabric_for asking)
told_cases None place priority fabric value told = inl (eqb-true fabric 0 told)
told_cases (Some actor) place priority fabric value told = elim (or_cases (fabric == 0) (fabric == actor.fabric) told) [
  | inl shared ↦ inl (eqb-true fabric 0 shared)
  | inr own ↦ inr (eqb-true fabric actor.fabric own)
]

-- What another tells leaves a fabric's own events as they are.
pub own_apart : (fabric : ℕ) (asking : Option Actor) (now : ℕ) (steps : List NodeStep) (h : History) → list_all (is_told_as asking) steps ≡ true → ((fabric == 0) ≡ false → fabric ≡ fabric_for asking → ⊥)
    → own_events fabric (recorded_all now steps h) ≡ own_events fabric h
own_apart fabric asking now steps h told apart = elim (cases_Bool (fabric == 0)) [
  | inl nobody ↦ nobodys fabric (recorded_all now steps h).rings nobody ∙ sym (nobodys fabric h.rings nobody)
  | inr somebody ↦
      all_keep (is_told_as asking) now (λ h1 h2. own_events fabric h1 ≡ own_events fabric h)
      (λ place priority whose value h1 h2 its is. pushed_elsewhere fabric (happened h1.numbers.next place priority now whose value) h1.rings (ne_eqb whose fabric (another somebody whose (told_cases asking place priority whose value its))) ∙ is)
      steps h h told refl
]
  where
    another : (fabric == 0) ≡ false → (whose : ℕ) → (whose ≡ 0) ⊎ (whose ≡ fabric_for asking) → whose ≡ fabric → ⊥
    another somebody whose (inl shared) same = eqb-false fabric 0 somebody (sym same ∙ shared)
    another somebody whose (inr own) same = apart somebody (sym same ∙ own)

-- Two histories that are alike for a fabric stay so as the same events are recorded.
pub record Alike (fabric : ℕ) (h k : History) : Type 0 where
  pub own : own_events fabric h ≡ own_events fabric k
  pub next : h.numbers.next ≡ k.numbers.next
  pub many : length h.rings ≡ length k.rings

one_alike : (fabric now : ℕ) (place : Place) (priority whose : ℕ) (value : Value) (h k : History) → Alike fabric h k
    → Alike fabric (with_event (happened h.numbers.next place priority now whose value) h) (with_event (happened k.numbers.next place priority now whose value) k)
one_alike fabric now place priority whose value h k alike =
    let event : ℕ → Happened = λ number. happened number place priority now whose value in
    record {
      own = ap (λ number. own_of fabric (pushed (event number) h.rings)) alike.next ∙ pushed_alike fabric (event k.numbers.next) h.rings k.rings alike.many alike.own;
      next = ap (λ number. number + 1) alike.next;
      many = pushed_many (event h.numbers.next) h.rings ∙ alike.many ∙ sym (pushed_many (event k.numbers.next) k.rings);
    }

any_pass : (steps : List NodeStep) → list_all (λ (step : NodeStep). true) steps ≡ true
any_pass [] = refl
any_pass (step ∷ steps) = any_pass steps

pub all_alike : (fabric now : ℕ) (steps : List NodeStep) (h k : History) → Alike fabric h k → Alike fabric (recorded_all now steps h) (recorded_all now steps k)
all_alike fabric now steps h k alike =
    all_keep (λ (step : NodeStep). true) now (λ h1 h2. Alike fabric h1 h2) (λ place priority whose value h1 h2 passed is. one_alike fabric now place priority whose value h1 h2 is) steps h k (any_pass steps) alike

-- Where a fabric leaves.

pub own_left : (fabric : ℕ) (gone : Option ℕ) (h : History) → own_events fabric (without_left gone h) ≡ (if is_that fabric gone then [] else own_events fabric h)
own_left fabric None h = refl
own_left fabric (Some other) h = forgotten_own fabric other h.rings

left_next : (gone : Option ℕ) (h : History) → (without_left gone h).numbers.next ≡ h.numbers.next
left_next None h = refl
left_next (Some other) h = refl

left_many : (gone : Option ℕ) (h : History) → length (without_left gone h).rings ≡ length h.rings
left_many None h = refl
left_many (Some other) h = forgotten_many other h.rings

pub left_alike : (fabric : ℕ) (gone other : Option ℕ) (h k : History) → is_that fabric gone ≡ is_that fabric other → Alike fabric h k → Alike fabric (without_left gone h) (without_left other k)
left_alike fabric gone other h k same alike = record {
  own = own_left fabric gone h ∙ (λ i. if same i then [] else alike.own i) ∙ sym (own_left fabric other k);
  next = left_next gone h ∙ alike.next ∙ sym (left_next other k);
  many = left_many gone h ∙ alike.many ∙ sym (left_many other k);
}
