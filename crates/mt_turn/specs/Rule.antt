-- The rule of the lock, and what each step tells its pass.
-- Word 0 is the next ticket and word 1 the number of turns that have ended, both modulo 2^64. Of the
-- others, the bells and one that never changes, the rule says nothing. The one slot has the value.
use Rattle.std.specs.Prelude.{◌≡◌, ℕ, ◌+◌, ◌-◌, ◌%◌, ◌<◌, ◌≤◌, ◌⊎◌, ◌∷◌, ◌++◌, cond, eqb, List, [], Option, Some, None, length}
use mathlib.Core.Option.{Option as Maybe, none, some}
use mathlib.Core.List.{IsPrefix}
use lib.ListN.{get_elem?}
use Rattle.atomic_table.specs.Seated.{TableId}
use Rattle.atomic_table.specs.Table.{State, Me, Step}
use Rattle.atomic_table.specs.declared.shared.Seat.{Seat}
use Rattle.mt_turn.specs.declared.rule.Notes.{Notes}
use Rattle.mt_turn.specs.Counts.{total, how_often, once_below}
use Rattle.mt_turn.specs.Known.{longer, shorter, places_after}

module _ {E O : Type 0} where
  -- the notes of the first pass
  abbrev pub first_notes : O → Notes E O
  first_notes origin = record { queued = 0; ticket = 0; inside = 0; emptied = 0; found = []; seen = []; told = []; places = []; share = 64; origin = Some origin }

  -- those of a pass that another took in
  abbrev pub spent : Notes E O
  spent = record { queued = 0; ticket = 0; inside = 0; emptied = 0; found = []; seen = []; told = []; places = []; share = 0; origin = None }

  -- with a ticket
  abbrev pub in_line : Notes E O → ℕ → Notes E O
  in_line v t = record v { queued = 1; ticket = t }

  -- served, where the value's book is this one
  abbrev pub served_with : Notes E O → List E → Notes E O
  served_with v book = record v { inside = 1; found = book }

  -- the slot is back, with nothing in it
  abbrev pub slot_back : Notes E O → Notes E O
  slot_back v = record v { emptied = 1 }

  -- the slot is out again
  abbrev pub slot_out : Notes E O → Notes E O
  slot_out v = record v { emptied = 0 }

  -- the turn has ended, and the book is this one
  abbrev pub turn_over : Notes E O → List E → Notes E O
  turn_over v book = record v { queued = 0; inside = 0; found = []; seen = book; told = []; places = places_after v.found book v.places }

  abbrev pub notes_kept : Notes E O → Notes E O
  notes_kept v = record v { share = v.share - 1 }

  abbrev pub notes_given : Notes E O → Notes E O
  notes_given v = record { queued = 0; ticket = 0; inside = 0; emptied = 0; found = []; seen = v.seen; told = []; places = []; share = 1; origin = v.origin }

  -- the longer list was seen, and the shorter is told until the two are compared
  abbrev pub notes_joined : Notes E O → Notes E O → Notes E O
  notes_joined v w = record v { seen = longer v.seen w.seen; told = shorter v.seen w.seen; places = v.places ++ w.places; share = v.share + w.share }

  -- what was told is compared
  abbrev pub compared : Notes E O → Notes E O
  compared v = record v { told = [] }

  -- 1 where the notes have this ticket
  abbrev pub has_ticket : ℕ → Notes E O → ℕ
  has_ticket t v = cond (eqb v.ticket t) v.queued 0

-- the notes of a pass, and the slot where it holds it
abbrev pub Holding : Type 0 → Type 0 → Type 0 → Type 0
Holding T E O = Me (Option T) (Notes E O)

-- the words of a lock, 64 of them bells, and its slot
abbrev pub IsLock : TableId → Type 0
IsLock id = (id.words ≡ 67) × (id.slots ≡ 1)

module _ {E O : Type 0} where
  -- inside, with the value in the caller's hands; the ticket may be any
  abbrev pub IsTaken : List E → Notes E O → Notes E O → Type 0
  IsTaken book v w = (t : ℕ) × (w ≡ slot_back (served_with (in_line v t) book))

module _ {T E O : Type 0} where
  -- the same pass of the same lock
  abbrev pub IsSame : Seat (Option T) (Notes E O) → Seat (Option T) (Notes E O) → Type 0
  IsSame p q = (q.table_id ≡ p.table_id) × (q.id ≡ p.id)

  -- one pass has the slot
  abbrev pub IsOut : List (Maybe (Option T)) → List (Notes E O) → Type 0
  IsOut homes views = (homes ≡ none ∷ []) × (total (λ v. v.inside) views ≡ 1) × (total (λ v. v.emptied) views ≡ 0)

  -- one pass has the value, and the slot is back
  abbrev pub IsEmptied : List (Maybe (Option T)) → List (Notes E O) → Type 0
  IsEmptied homes views = (homes ≡ some None ∷ []) × (total (λ v. v.inside) views ≡ 1) × (total (λ v. v.emptied) views ≡ 1)

  -- the word found is the ticket
  abbrev pub Draws : Step (Option T) → Holding T E O → ℕ → Holding T E O → Type 0
  Draws s m r n = (t : ℕ) × (t % 18446744073709551616 ≡ r) × (n ≡ (in_line m.0 t, m.1))

  -- the slot is back
  abbrev pub PutsBack : Step (Option T) → Holding T E O → ℕ → Holding T E O → Type 0
  PutsBack s m r n = n ≡ (slot_back m.0, [])

  -- the slot is out again, with nothing in it
  abbrev pub TakesOut : Step (Option T) → Holding T E O → ℕ → Holding T E O → Type 0
  TakesOut s m r n = n ≡ (slot_out m.0, (0, None) ∷ [])

  -- nothing is told
  abbrev pub Rings : Step (Option T) → Holding T E O → ℕ → Holding T E O → Type 0
  Rings s m r n = n ≡ m

  -- what was told begins what was seen
  abbrev pub Compares : Step (Option T) → Holding T E O → ℕ → Holding T E O → Type 0
  Compares s m r n = (n ≡ (compared m.0, m.1)) × IsPrefix m.0.told m.0.seen

module _ {T E O : Type 0} (book : T → List E) (origin : T → O) where
  -- what the notes of one pass may say, where this many turns have ended and the book is `now`
  pub record Fits (ended : ℕ) (now : List E) (base : O) (v : Notes E O) : Type 0 where
    pub emptied_inside : v.emptied ≤ v.inside
    pub inside_queued : v.inside ≤ v.queued
    pub one_ticket : v.queued ≤ 1
    pub queued_share : v.queued ≤ v.share
    pub served : v.inside ≡ 1 → (v.ticket ≡ ended) × (v.found ≡ now)
    pub seen : IsPrefix v.seen now
    pub told : IsPrefix v.told v.seen
    pub own : (k : ℕ) → 0 < how_often k v.places → k < length v.seen
    pub spent_has_none : v.share ≡ 0 → v.places ≡ []
    pub origin_is : 0 < v.share → v.origin ≡ Some base

  -- the value is at home
  abbrev pub IsHome : List (Maybe (Option T)) → List (Notes E O) → List E → O → Type 0
  IsHome homes views now base =
      (x : T) × (homes ≡ some (Some x) ∷ []) × (book x ≡ now) × (origin x ≡ base) × (total (λ v. v.inside) views ≡ 0)

  abbrev pub Lies : List (Maybe (Option T)) → List (Notes E O) → List E → O → Type 0
  Lies homes views now base = IsHome homes views now base ⊎ (IsOut homes views ⊎ IsEmptied homes views)

  -- The tickets drawn and not yet ended are those of the passes in line, each once. The shares make up 64.
  -- Each place of the book belongs to one pass, once.
  pub record IsKept (s : State (Option T) (Notes E O)) : Type 0 where
    pub ended : ℕ
    pub drawn : ℕ
    pub now : List E
    pub base : O
    pub others : List ℕ
    pub words : s.words ≡ drawn % 18446744073709551616 ∷ ended % 18446744073709551616 ∷ others
    pub tickets : (t : ℕ) → total (has_ticket t) s.views + once_below t ended ≡ once_below t drawn
    pub line : ended + total (λ v. v.queued) s.views ≡ drawn
    pub shares : total (λ v. v.share) s.views ≡ 64
    pub once : (k : ℕ) → total (λ v. how_often k v.places) s.views ≡ once_below k (length now)
    pub lies : Lies s.homes s.views now base
    pub each : (j : ℕ) (v : Notes E O) → get_elem? s.views j ≡ some v → Fits ended now base v

  -- the slot is out, with a value whose book begins with what was seen and has all places of the pass
  abbrev pub IsServed : Holding T E O → Holding T E O → Type 0
  IsServed m n = (x : T) × (n ≡ (served_with m.0 (book x), (0, Some x) ∷ m.1)) × IsPrefix m.0.seen (book x) × (m.0.origin ≡ Some (origin x))
      × ((k : ℕ) → 0 < how_often k m.0.places → k < length (book x))

  -- served where the word is the ticket
  abbrev pub Looks : Step (Option T) → Holding T E O → ℕ → Holding T E O → Type 0
  Looks s m r n = cond (eqb r (m.0.ticket % 18446744073709551616)) (IsServed m n) (n ≡ m)

module _ {T E O : Type 0} (book : T → List E) where
  -- the book is that of the value in the slot
  abbrev pub Ends : Step (Option T) → Holding T E O → ℕ → Holding T E O → Type 0
  Ends s m r n = (x : T) (rest : List (ℕ × Option T)) → m.1 ≡ (0, Some x) ∷ rest → n ≡ (turn_over m.0 (book x), rest)
