-- What stands over the sessions of a fabric, as the code has it, and its own part, part by part.
use Rattle.std.proofs.Common.{◌≡◌, ℕ, ◌==◌, ◌&&◌, ◌||◌, inl, inr, Bool, true, false, List, [], ◌∷◌, refl, sym, ap, ◌∙◌, filter, map}
use Rattle.std.proofs.lemmas.Bool.{cases_Bool}
use Rattle.std.specs.List.{list_any}
use Rattle.mt_model.specs.declared.node.state.NodeSession.{NodeSession}
use Rattle.mt_events.specs.Telling.{own_of}
use Rattle.mt_subs.specs.Leaving.{is_live_as}
use Rattle.mt_subs.specs.Subscriptions.{is_of, next_id}
use Rattle.mt_interactions.specs.mt_machine.Isolation.{OwnOfWhole, is_deadline_in, own, own_of_whole}
use Rattle.mt_interactions.specs.mt_machine.State.{State}
use Rattle.mt_interactions.specs.mt_ledger.Isolation.{OwnLedger, own_ledger}
use Rattle.mt_interactions.specs.mt_ledger.Ledger.{Ledger}
use Rattle.mt_interactions.specs.mt_runs.Isolation.{OwnPart, is_talk_among, own_part, talks_among}
use Rattle.mt_interactions.specs.mt_runs.Whole.{SessionTalk, Whole}
use Rattle.mt_marks.specs.Remembered.{remembered}
use Rattle.mt_whole.specs.declared.talks.SessionTalk as code
use Rattle.mt_whole.specs.declared.whole.Whole as whole
use Rattle.mt_whole.specs.Seeing.{OwnStanding, Standing, is_live_for, own_standing, standing, standing_in, standings_in, standings_of}
use Rattle.mt_whole.specs.Talks.{AreTalks, IsTalkAt, IsWholeOf}

-- Own parts, and what stands of them.

abbrev pub stands_of : OwnPart → OwnStanding
stands_of o = record { whole = o.whole; ledger = o.ledger; standings = map standing o.talks }

pub parts_stand : (fabric : ℕ) (w v : Whole) → own_part fabric w ≡ own_part fabric v → (own_standing fabric w ≡ own_standing fabric v) × (map remembered (own_part fabric w).talks ≡ map remembered (own_part fabric v).talks)
parts_stand fabric w v same = (ap stands_of same, ap (λ (o : OwnPart). map remembered o.talks) same)

-- a talk is what stands over its session and what is shown of that
one_same : (x y : SessionTalk) → standing x ≡ standing y → remembered x ≡ remembered y → x ≡ y
one_same x y stand told = λ i. record { row = (told i).row; talk = record { shown = (told i).shown; open_ones = (stand i).open_ones; next_id = (stand i).next_id; latest = (stand i).latest } }

heads_same : {A : Type 0} (x y : A) (xs ys : List A) → x ∷ xs ≡ y ∷ ys → (x ≡ y) × (xs ≡ ys)
heads_same x y xs ys same = (cc, cc)

-- and so are talks
talks_same : (xs ys : List SessionTalk) → map standing xs ≡ map standing ys → map remembered xs ≡ map remembered ys → xs ≡ ys
talks_same [] [] stand told = refl
talks_same [] (y ∷ ys) stand told = absurd (cc)
talks_same (x ∷ xs) [] stand told = absurd (cc)
talks_same (x ∷ xs) (y ∷ ys) stand told =
    let stands = heads_same (standing x) (standing y) (map standing xs) (map standing ys) stand in
    let tells = heads_same (remembered x) (remembered y) (map remembered xs) (map remembered ys) told in
    let first = one_same x y stands.0 tells.0 in
    let rest = talks_same xs ys stands.1 tells.1 in
    λ i. first i ∷ rest i

pub parts_same : (fabric : ℕ) (w v : Whole) → (own_standing fabric w ≡ own_standing fabric v) × (map remembered (own_part fabric w).talks ≡ map remembered (own_part fabric v).talks) → own_part fabric w ≡ own_part fabric v
parts_same fabric w v both =
    let talks = talks_same (own_part fabric w).talks (own_part fabric v).talks (ap (λ (o : OwnStanding). o.standings) both.0) both.1 in
    λ i. record { whole = (both.0 i).whole; ledger = (both.0 i).ledger; talks = talks i }

-- The talks of the live sessions.

stands_as : (talk : code.SessionTalk) (t : SessionTalk) → IsTalkAt talk t → standing_in talk ≡ standing t
stands_as talk t at =
    let open_ones = at.talk.exchanges.open_ones ∙ sym at.talk.open_ones in
    let next_id = at.talk.exchanges.next_id ∙ sym at.talk.next_id in
    λ i. record { session = at.id i; latest = at.talk.latest i; open_ones = open_ones i; next_id = next_id i }

abbrev pub live_for : ℕ → List NodeSession → List NodeSession
live_for fabric sessions = filter (λ (session : NodeSession). is_live_as fabric session.standing) sessions

any_filtered : {X : Type 0} (p q : X → Bool) (xs : List X) → list_any (λ (x : X). p x && q x) xs ≡ list_any q (filter p xs)
any_filtered p q [] = refl
any_filtered p q (x ∷ xs) = elim (cases_Bool (p x)) [
  | inl here ↦ rw here (ap (λ (b : Bool). q x || b) (any_filtered p q xs))
  | inr other ↦ rw other (any_filtered p q xs)
]

standings_stand : (fabric : ℕ) (sessions : List NodeSession) (talks : List code.SessionTalk) (ts : List SessionTalk) → AreTalks talks ts → standings_in fabric sessions talks ≡ map standing (talks_among (live_for fabric sessions) ts)
standings_stand fabric sessions [] [] are = refl
standings_stand fabric sessions [] (t ∷ ts) are = absurd are
standings_stand fabric sessions (talk ∷ talks) [] are = absurd are
standings_stand fabric sessions (talk ∷ talks) (t ∷ ts) are =
    let test : is_live_for fabric sessions talk.id ≡ is_talk_among (live_for fabric sessions) t =
    ap (λ (id : ℕ). is_live_for fabric sessions id) are.0.id
    ∙ any_filtered (λ (session : NodeSession). is_live_as fabric session.standing) (λ (session : NodeSession). session.session == t.row.session) sessions in
    let rest = standings_stand fabric sessions talks ts are.1 in
    elim (cases_Bool (is_talk_among (live_for fabric sessions) t)) [
      | inl among ↦ rw (test ∙ among, among) (λ i. stands_as talk t are.0 i ∷ rest i)
      | inr other ↦ rw (test ∙ other, other) rest
    ]

-- What stands of a whole.

abbrev pub own_in : ℕ → whole.Whole → OwnStanding
own_in fabric one = record { whole = own_of_whole fabric one.interactions.state; ledger = own_ledger fabric one.interactions.ledger; standings = standings_of fabric one }

pub own_stands : (fabric : ℕ) (one : whole.Whole) (w : Whole) → IsWholeOf one w → own_in fabric one ≡ own_standing fabric w
own_stands fabric one w is =
    let standings : standings_of fabric one ≡ map standing (own_part fabric w).talks =
    standings_stand fabric one.interactions.state.node.sessions one.talks.items w.talks is.talks ∙ ap (λ (s : State). map standing (talks_among (live_for fabric s.node.sessions) w.talks)) is.state in
    λ i. record { whole = own_of_whole fabric (is.state i); ledger = own_ledger fabric (is.ledger i); standings = standings i }

-- Two wholes.

pub alike_so : (fabric : ℕ) (one other : whole.Whole) (w v : Whole) → IsWholeOf one w → IsWholeOf other v
    → (own_of_whole fabric one.interactions.state ≡ own_of_whole fabric other.interactions.state) × (own_ledger fabric one.interactions.ledger ≡ own_ledger fabric other.interactions.ledger)
    → standings_of fabric one ≡ standings_of fabric other → own_standing fabric w ≡ own_standing fabric v
alike_so fabric one other w v is its interactions standings =
    let both : own_in fabric one ≡ own_in fabric other = λ i. record { whole = interactions.0 i; ledger = interactions.1 i; standings = standings i } in
    sym (own_stands fabric one w is) ∙ both ∙ own_stands fabric other v its

pub alike_in : (fabric : ℕ) (one other : whole.Whole) (w v : Whole) → IsWholeOf one w → IsWholeOf other v → own_standing fabric w ≡ own_standing fabric v → own_in fabric one ≡ own_in fabric other
alike_in fabric one other w v is its same = own_stands fabric one w is ∙ same ∙ sym (own_stands fabric other v its)

-- What is a fabric's own of the node and of what it remembers, part by part.

module _ (fabric : ℕ) (s t : State) (l k : Ledger) where
  abbrev pub ArePartsSame : Type 0
  ArePartsSame =
      (own fabric s.node ≡ own fabric t.node)
      × (filter (is_deadline_in fabric) s.deadlines ≡ filter (is_deadline_in fabric) t.deadlines)
      × (own_of fabric l.history.rings ≡ own_of fabric k.history.rings)
      × ((filter (is_of fabric) l.subs.subscriptions ≡ filter (is_of fabric) k.subs.subscriptions) × (next_id fabric l.subs ≡ next_id fabric k.subs))

  abbrev pub IsOwnSame : Type 0
  IsOwnSame = (own_of_whole fabric s ≡ own_of_whole fabric t) × (own_ledger fabric l ≡ own_ledger fabric k)

  pub own_of_parts : ArePartsSame → IsOwnSame
  own_of_parts same = (
    λ i. record { node = same.0 i; deadlines = same.1 i },
    λ i. record { events = same.2 i; subs = same.3.0 i; next = same.3.1 i },
  )

  pub parts_of_own : IsOwnSame → ArePartsSame
  parts_of_own same = (
    ap (λ (o : OwnOfWhole). o.node) same.0,
    ap (λ (o : OwnOfWhole). o.deadlines) same.0,
    ap (λ (o : OwnLedger). o.events) same.1,
    (ap (λ (o : OwnLedger). o.subs) same.1, ap (λ (o : OwnLedger). o.next) same.1),
  )
