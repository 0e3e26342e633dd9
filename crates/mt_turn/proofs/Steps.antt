-- Each step of a turn keeps the rule.
use Rattle.std.proofs.Common.{◌≡◌, ℕ, zero, suc, ◌+◌, ◌-◌, ◌%◌, ◌<◌, ◌≤◌, cond, eqb, List, [], ◌∷◌, ◌++◌, length, get_or, set, sym, refl, ap, ◌∙◌, subst, inl, inr, ⊎_elim, arith, Bool, Option, Some, None, length-append, eq-eqb, ne_eqb, lt-ltb, le-ltb}
use mathlib.Core.Logic.{dite}
use mathlib.Core.Option.{Option as Maybe, none, some}
use mathlib.Core.List.{IsPrefix}
use native.Mathlib.Decide.{ℕ_discrete}
use lib.ListN.{get_elem?}
use Rattle.atomic_table.specs.Table.{State, Step, Act, keeps, takes, gives, Valid, carried_after, homes_after, step, Allows}
use Rattle.atomic_table.proofs.Lists.{one_turn, set_again}
use Rattle.mt_turn.specs.declared.rule.Notes.{Notes}
use Rattle.mt_turn.specs.Counts.{total, is_it, how_often, once_below}
use Rattle.mt_turn.specs.Known.{GrowsByOne, places_after}
use Rattle.mt_turn.specs.Rule.{in_line, served_with, slot_back, slot_out, turn_over, compared, has_ticket, Holding, Fits, IsOut, IsEmptied, Lies, IsKept, Draws, Looks, IsServed, PutsBack, TakesOut, Rings, Ends, Compares}
use Rattle.mt_turn.proofs.Sums.{total-set, two-le-total, total-le, is_it-other, how_often-push}
use Rattle.mt_turn.proofs.Beginnings.{begins_itself, begins_further, begins-length}
use Rattle.mt_turn.proofs.InLine.{no_ticket, each_set, ticket_range, served_at_home, slot_is_out, slot_is_empty}

one_more : (n : ℕ) → (n % 18446744073709551616 + 1) % 18446744073709551616 ≡ suc n % 18446744073709551616
one_more n = omega arith

set_same : (words : List ℕ) (i : ℕ) → set words i (get_or words i 0) ≡ words
set_same [] i = refl
set_same (x ∷ xs) zero = refl
set_same (x ∷ xs) (suc i) = ap (λ (l : List ℕ). x ∷ l) (set_same xs i)

set_bell : (a b : ℕ) (rest : List ℕ) (i n : ℕ) → 2 ≤ i → set (a ∷ b ∷ rest) i n ≡ a ∷ b ∷ set rest (i - 2) n
set_bell a b rest zero n le = absurd (omega arith)
set_bell a b rest (suc zero) n le = absurd (omega arith)
set_bell a b rest (suc (suc i)) n le = let e : suc (suc i) - 2 ≡ i = omega arith in rw e refl

-- the value in the first slot, or another where there is none
abbrev value_in : {T : Type 0} → T → List (ℕ × Option T) → T
value_in other [] = other
value_in other ((k, Some x) ∷ held) = x
value_in other ((k, None) ∷ held) = other

abbrev others : {A : Type 0} → List A → List A
others [] = []
others (x ∷ xs) = xs

module _ {T E O : Type 0} (book : T → List E) (origin : T → O) where
  abbrev N : Type 0
  N = Notes E O

  abbrev S : Type 0
  S = State (Option T) N

  abbrev K : S → Type 0
  K = IsKept book origin

  abbrev Slot : Type 0
  Slot = Maybe (Option T)

  -- what a step owes where the words are these
  abbrev Keeps : ℕ → (ℕ → ℕ) → (ℕ → Holding T E O → Type 0) → S → ℕ → Holding T E O → List ℕ → Type 0
  Keeps i f tells s id m words = (w : N) × (a : Act (Option T)) × Valid s.homes m.1 a
      × K record { words = set words i (f (get_or words i 0)); homes = homes_after s.homes m.1 a; views = set s.views id w }
      × tells (get_or words i 0) (w, carried_after m.1 a)

  -- the value lies as it lay, where as many are inside and as many slots empty
  pub lies_still : (homes : List Slot) (old new : List N) (now : List E) (base : O) → total (λ u. u.inside) new ≡ total (λ u. u.inside) old → total (λ u. u.emptied) new ≡ total (λ u. u.emptied) old
      → Lies book origin homes old now base → Lies book origin homes new now base
  lies_still homes old new now base same_in same_empty lies = ⊎_elim
      (λ h. inl (h.0, h.1, h.2, h.3, same_in ∙ h.4))
      (λ rest. inr (⊎_elim (λ (h : IsOut homes old). inl (h.0, same_in ∙ h.1, same_empty ∙ h.2)) (λ (h : IsEmptied homes old). inr (h.0, same_in ∙ h.1, same_empty ∙ h.2)) rest)) lies

  -- a step that leaves the ticket, the share and the places of its pass, and all words
  same_line : (s : S) (r : K s) (id : ℕ) (v w : N) (homes : List Slot) → get_elem? s.views id ≡ some v
      → ((t : ℕ) → has_ticket t w ≡ has_ticket t v) → w.queued ≡ v.queued → w.share ≡ v.share → w.places ≡ v.places
      → Lies book origin homes (set s.views id w) r.now r.base → Fits book origin r.ended r.now r.base w
      → K record { words = r.drawn % 18446744073709551616 ∷ r.ended % 18446744073709551616 ∷ r.others; homes = homes; views = set s.views id w }
  same_line s r id v w homes at ticket queued share places lies fits = record {
    ended = r.ended;
    drawn = r.drawn;
    now = r.now;
    base = r.base;
    others = r.others;
    words = refl;
    tickets = λ t. omega (arith, total-set (has_ticket t) s.views id v w at, ticket t, r.tickets t);
    line = omega (arith, total-set (λ (u : N). u.queued) s.views id v w at, queued, r.line);
    shares = omega (arith, total-set (λ (u : N). u.share) s.views id v w at, share, r.shares);
    once = λ k. omega (arith, total-set (λ (u : N). how_often k u.places) s.views id v w at, ap (how_often k) places, r.once k);
    lies = lies;
    each = each_set book origin (Fits book origin r.ended r.now r.base) s.views id w fits (λ j u _ there. r.each j u there);
  }

  -- nobody inside, no slot empty
  none_empty : (s : S) (r : K s) → total (λ (u : N). u.inside) s.views ≡ 0 → total (λ (u : N). u.emptied) s.views ≡ 0
  none_empty s r none_in = omega (arith, none_in, total-le (λ (u : N). u.emptied) (λ (u : N). u.inside) s.views (λ j u there. (r.each j u there).emptied_inside))

  pub draws : (slots id : ℕ) (v : N) (held : List (ℕ × Option T)) → v.queued ≡ 0 → v.inside ≡ 0 → 0 < v.share
      → Allows K slots id (v, held) 0 (λ n. (n + 1) % 18446744073709551616) (Draws (step slots 0 1 0 none) (v, held))
  draws slots id v held idle out share s r len at small =
      let w : N = in_line v r.drawn in
      let mine = r.each id v at in
      subst (Keeps 0 (λ n. (n + 1) % 18446744073709551616) (Draws (step slots 0 1 0 none) (v, held)) s id (v, held)) (sym r.words) (
        w,
        keeps,
        tt,
        record {
          ended = r.ended;
          drawn = suc r.drawn;
          now = r.now;
          base = r.base;
          others = r.others;
          words = ap (λ k. k ∷ r.ended % 18446744073709551616 ∷ r.others) (one_more r.drawn);
          tickets = λ t. omega (arith, total-set (has_ticket t) s.views id v w at, no_ticket book origin t v idle, r.tickets t);
          line = omega (arith, total-set (λ (u : N). u.queued) s.views id v w at, r.line);
          shares = omega (arith, total-set (λ (u : N). u.share) s.views id v w at, r.shares);
          once = λ k. omega (arith, total-set (λ (u : N). how_often k u.places) s.views id v w at, r.once k);
          lies = lies_still s.homes s.views (set s.views id w) r.now r.base (omega (arith, total-set (λ (u : N). u.inside) s.views id v w at)) (omega (arith, total-set (λ (u : N). u.emptied) s.views id v w at)) r.lies;
          each = each_set book origin (Fits book origin r.ended r.now r.base) s.views id w record {
            emptied_inside = mine.emptied_inside;
            inside_queued = omega arith;
            one_ticket = omega arith;
            queued_share = omega arith;
            served = λ h. absurd (omega arith);
            seen = mine.seen;
            told = mine.told;
            own = mine.own;
            spent_has_none = mine.spent_has_none;
            origin_is = mine.origin_is;
          } (λ j u _ there. r.each j u there);
        },
        (r.drawn, refl, refl),
      )

  pub looks : (slots id : ℕ) (v : N) (held : List (ℕ × Option T)) → v.queued ≡ 1 → v.inside ≡ 0 → v.emptied ≡ 0
      → Allows K slots id (v, held) 1 (λ n. n) (Looks book origin (step slots 1 0 0 none) (v, held))
  looks slots id v held one out full s r len at small =
      let n : ℕ = r.ended % 18446744073709551616 in
      let Tells : N → List (ℕ × Option T) → Bool → Type 0 = λ w c b. cond b (IsServed book origin (v, held) (w, c)) (◌≡◌ {A = Holding T E O} (w, c) (v, held)) in
      let mine = r.each id v at in
      let range = ticket_range book origin s r id v at one in
      subst (Keeps 1 (λ n. n) (Looks book origin (step slots 1 0 0 none) (v, held)) s id (v, held)) (sym r.words) (dite (ℕ_discrete n (v.ticket % 18446744073709551616))
      (λ yes.
      let now : v.ticket ≡ r.ended = sym (one_turn r.ended v.ticket 18446744073709551616 range.0 (omega (arith, range.1, range.2)) yes) in
      let home = served_at_home book origin s r id v at one out now in
      let x : T = home.0 in
      let w : N = served_with v (book x) in (
        w,
        takes 0 (Some x),
        ap (λ (l : List Slot). get_elem? l 0) home.1,
        same_line s r id v w (set s.homes 0 none) at (λ t. refl) refl refl refl
            (inr (inl (ap (λ (l : List Slot). set l 0 none) home.1, omega (arith, total-set (λ (u : N). u.inside) s.views id v w at, home.4), omega (arith, total-set (λ (u : N). u.emptied) s.views id v w at, none_empty s r home.4))))
            record {
              emptied_inside = omega arith;
              inside_queued = omega arith;
              one_ticket = mine.one_ticket;
              queued_share = mine.queued_share;
              served = λ _. (now, home.2);
              seen = mine.seen;
              told = mine.told;
              own = mine.own;
              spent_has_none = mine.spent_has_none;
              origin_is = mine.origin_is;
            },
        subst (Tells w ((0, Some x) ∷ held)) (sym (eq-eqb n (v.ticket % 18446744073709551616) yes)) (
          x,
          refl,
          subst (IsPrefix v.seen) (sym home.2) mine.seen,
          mine.origin_is (omega (arith, mine.queued_share)) ∙ ap Some (sym home.3),
          λ k own. omega (arith, mine.own k own, begins-length v.seen r.now mine.seen, ap length home.2),
        ),
      ))
      (λ no. (
        v,
        keeps,
        tt,
        same_line s r id v v s.homes at (λ t. refl) refl refl refl
            (lies_still s.homes s.views (set s.views id v) r.now r.base (omega (arith, total-set (λ (u : N). u.inside) s.views id v v at)) (omega (arith, total-set (λ (u : N). u.emptied) s.views id v v at)) r.lies) mine,
        subst (Tells v held) (sym (ne_eqb n (v.ticket % 18446744073709551616) no)) refl,
      )))

  -- the slot goes back once the value is out of it
  pub puts_back : (slots id i : ℕ) (v : N) (m : Holding T E O) → m ≡ (v, (0, None) ∷ []) → v.inside ≡ 1 → v.emptied ≡ 0
      → Allows K slots id m i (λ n. n) (PutsBack (step slots i 0 0 none) m)
  puts_back slots id i v m holds is_in full = subst (λ (n : Holding T E O). Allows K slots id n i (λ k. k) (PutsBack (step slots i 0 0 none) n)) (sym holds) (λ s r len at small.
      let w : N = slot_back v in
      let mine = r.each id v at in
      let out = slot_is_out book origin s r id v at is_in full in (
        w,
        gives,
        tt,
        subst (λ (ws : List ℕ). K record { words = ws; homes = set s.homes 0 (some None); views = set s.views id w }) (sym (set_same s.words i ∙ r.words)) (same_line s r id v w (set s.homes 0 (some None)) at (λ t. refl) refl refl refl
            (inr (inr (ap (λ (l : List Slot). set l 0 (some None)) out.0, omega (arith, total-set (λ (u : N). u.inside) s.views id v w at, out.1), omega (arith, total-set (λ (u : N). u.emptied) s.views id v w at, out.2))))
            record {
              emptied_inside = omega arith;
              inside_queued = mine.inside_queued;
              one_ticket = mine.one_ticket;
              queued_share = mine.queued_share;
              served = mine.served;
              seen = mine.seen;
              told = mine.told;
              own = mine.own;
              spent_has_none = mine.spent_has_none;
              origin_is = mine.origin_is;
            }),
        refl,
      ))

  -- the slot comes out again, with nothing in it
  pub takes_out : (slots id i : ℕ) (v : N) (m : Holding T E O) → m ≡ (v, []) → v.inside ≡ 1 → v.emptied ≡ 1
      → Allows K slots id m i (λ n. n) (TakesOut (step slots i 0 0 none) m)
  takes_out slots id i v m holds is_in empty = subst (λ (n : Holding T E O). Allows K slots id n i (λ k. k) (TakesOut (step slots i 0 0 none) n)) (sym holds) (λ s r len at small.
      let w : N = slot_out v in
      let mine = r.each id v at in
      let back = slot_is_empty book origin s r id v at is_in empty in (
        w,
        takes 0 None,
        ap (λ (l : List Slot). get_elem? l 0) back.0,
        subst (λ (ws : List ℕ). K record { words = ws; homes = set s.homes 0 none; views = set s.views id w }) (sym (set_same s.words i ∙ r.words)) (same_line s r id v w (set s.homes 0 none) at (λ t. refl) refl refl refl
            (inr (inl (ap (λ (l : List Slot). set l 0 none) back.0, omega (arith, total-set (λ (u : N). u.inside) s.views id v w at, back.1), omega (arith, total-set (λ (u : N). u.emptied) s.views id v w at, back.2))))
            record {
              emptied_inside = omega arith;
              inside_queued = mine.inside_queued;
              one_ticket = mine.one_ticket;
              queued_share = mine.queued_share;
              served = mine.served;
              seen = mine.seen;
              told = mine.told;
              own = mine.own;
              spent_has_none = mine.spent_has_none;
              origin_is = mine.origin_is;
            }),
        refl,
      ))

  -- a bell changes, and nothing else
  pub rings : (slots id i n : ℕ) (v : N) (held : List (ℕ × Option T)) → 2 ≤ i
      → Allows K slots id (v, held) i (λ _. n) (λ _. Rings (step slots i n 0 none) (v, held) n)
  rings slots id i n v held bell s r len at small =
      subst (Keeps i (λ _. n) (λ _. Rings (step slots i n 0 none) (v, held) n) s id (v, held)) (sym r.words) (
        v,
        keeps,
        tt,
        subst (λ (vs : List N). K record { words = set (r.drawn % 18446744073709551616 ∷ r.ended % 18446744073709551616 ∷ r.others) i n; homes = s.homes; views = vs }) (sym (set_again s.views id v at)) record {
          ended = r.ended;
          drawn = r.drawn;
          now = r.now;
          base = r.base;
          others = set r.others (i - 2) n;
          words = set_bell (r.drawn % 18446744073709551616) (r.ended % 18446744073709551616) r.others i n bell;
          tickets = r.tickets;
          line = r.line;
          shares = r.shares;
          once = r.once;
          lies = r.lies;
          each = r.each;
        },
        refl,
      )

  -- what was told is compared with what was seen
  pub compares : (slots id : ℕ) (v : N) (held : List (ℕ × Option T))
      → Allows K slots id (v, held) 0 (λ n. n) (Compares (step slots 0 0 0 none) (v, held))
  compares slots id v held s r len at small =
      let w : N = compared v in
      let mine = r.each id v at in
      subst (Keeps 0 (λ n. n) (Compares (step slots 0 0 0 none) (v, held)) s id (v, held)) (sym r.words) (
        w,
        keeps,
        tt,
        same_line s r id v w s.homes at (λ t. refl) refl refl refl
            (lies_still s.homes s.views (set s.views id w) r.now r.base (omega (arith, total-set (λ (u : N). u.inside) s.views id v w at)) (omega (arith, total-set (λ (u : N). u.emptied) s.views id v w at)) r.lies)
            record {
              emptied_inside = mine.emptied_inside;
              inside_queued = mine.inside_queued;
              one_ticket = mine.one_ticket;
              queued_share = mine.queued_share;
              served = mine.served;
              seen = mine.seen;
              told = (v.seen, refl);
              own = mine.own;
              spent_has_none = mine.spent_has_none;
              origin_is = mine.origin_is;
            },
        (refl, mine.told),
      )

  -- the places after a turn are those before it, and that of the new entry where there is one
  abbrev OneMorePlace : List E → List ℕ → List E → List ℕ → Type 0
  OneMorePlace found places now places' = IsPrefix found now
      × ((k : ℕ) → how_often k places' + once_below k (length found) ≡ how_often k places + once_below k (length now))
      × (((k : ℕ) → 0 < how_often k places → k < length found) → (k : ℕ) → 0 < how_often k places' → k < length now)

  one_more_place : (found : List E) (places : List ℕ) (now : List E) → GrowsByOne found now → OneMorePlace found places now (places_after found now places)
  one_more_place found places now grows = ⊎_elim
      (λ (e : now ≡ found).
      let none_new : places_after found now places ≡ places = ap (λ b. cond b (places ++ length found ∷ []) places) (le-ltb (length found) (length now) (omega (arith, ap length e))) in
      subst (OneMorePlace found places now) (sym none_new) (
        subst (λ (l : List E). IsPrefix found l) (sym e) (begins_itself found),
        (λ k. ap (λ (l : List E). how_often k places + once_below k (length l)) (sym e)),
        λ own k more. omega (arith, own k more, ap length e),
      ))
      (λ (t : (entry : E) × (now ≡ found ++ entry ∷ [])).
      let n : length now ≡ suc (length found) = ap length t.1 ∙ (length-append found (t.0 ∷ []) ∙ omega arith) in
      let one_new : places_after found now places ≡ places ++ length found ∷ [] = ap (λ b. cond b (places ++ length found ∷ []) places) (lt-ltb (length found) (length now) (omega (arith, n))) in
      subst (OneMorePlace found places now) (sym one_new) (
        subst (λ (l : List E). IsPrefix found l) (sym t.1) (t.0 ∷ [], refl),
        (λ k. let below : once_below k (length now) ≡ is_it k (length found) + once_below k (length found) = ap (once_below k) n in omega (arith, how_often-push k (length found) places, below)),
        λ own k more. dite (ℕ_discrete (length found) k) (λ here. omega (arith, here, n))
            (λ other. let before = own k (omega (arith, more, how_often-push k (length found) places, is_it-other k (length found) other)) in omega (arith, before, n)),
      ))
      grows

  -- the value in the slot is the one that was put there
  ends_so : (v : N) (x : T) (st : Step (Option T)) (n : ℕ) → Ends book st (v, (0, Some x) ∷ []) n (turn_over v (book x), [])
  ends_so v x st n y rest e =
      let same : x ≡ y = ap (value_in x) e in
      let none_left : [] ≡ rest = ap others e in
      λ i. (turn_over v (book (same i)), none_left i)

  -- the turn of v ends with a value whose book is at most one entry longer
  pub ends_turn : (slots id : ℕ) (v : N) (x : T) (m : Holding T E O) → m ≡ (v, (0, Some x) ∷ []) → v.inside ≡ 1 → v.emptied ≡ 0 → v.origin ≡ Some (origin x) → GrowsByOne v.found (book x)
      → Allows K slots id m 1 (λ n. (n + 1) % 18446744073709551616) (Ends book (step slots 1 1 0 none) m)
  ends_turn slots id v x m holds is_in full same grows = subst (λ (n : Holding T E O). Allows K slots id n 1 (λ k. (k + 1) % 18446744073709551616) (Ends book (step slots 1 1 0 none) n)) (sym holds) (λ s r len at small.
      let held : List (ℕ × Option T) = (0, Some x) ∷ [] in
      let w : N = turn_over v (book x) in
      let mine = r.each id v at in
      let out = slot_is_out book origin s r id v at is_in full in
      let one : v.queued ≡ 1 = omega (arith, mine.inside_queued, mine.one_ticket) in
      let share : 0 < v.share = omega (arith, mine.queued_share) in
      let served = mine.served is_in in
      let found_length : length v.found ≡ length r.now = ap length served.1 in
      let more = one_more_place v.found v.places (book x) grows in
      let longer_book : IsPrefix r.now (book x) = subst (λ (l : List E). IsPrefix l (book x)) served.1 more.0 in
      let base : origin x ≡ r.base = cc (same, mine.origin_is share) in
      subst (Keeps 1 (λ n. (n + 1) % 18446744073709551616) (Ends book (step slots 1 1 0 none) (v, held)) s id (v, held)) (sym r.words) (
        w,
        gives,
        tt,
        record {
          ended = suc r.ended;
          drawn = r.drawn;
          now = book x;
          base = r.base;
          others = r.others;
          words = ap (λ k. r.drawn % 18446744073709551616 ∷ k ∷ r.others) (one_more r.ended);
          tickets = λ t.
              let it : has_ticket t v ≡ is_it t r.ended = ap (λ (k : ℕ). cond (eqb k t) v.queued 0) served.0 ∙ ap (λ (k : ℕ). cond (eqb r.ended t) k 0) one in
              omega (arith, total-set (has_ticket t) s.views id v w at, no_ticket book origin t w refl, it, r.tickets t);
          line = omega (arith, total-set (λ (u : N). u.queued) s.views id v w at, r.line);
          shares = omega (arith, total-set (λ (u : N). u.share) s.views id v w at, r.shares);
          once = λ k. omega (arith, total-set (λ (u : N). how_often k u.places) s.views id v w at, r.once k, more.1 k, ap (λ (l : List E). once_below k (length l)) served.1);
          lies = inl (x, ap (λ (l : List Slot). set l 0 (some (Some x))) out.0, refl, base, omega (arith, total-set (λ (u : N). u.inside) s.views id v w at, out.1));
          each = each_set book origin (Fits book origin (suc r.ended) (book x) r.base) s.views id w record {
            emptied_inside = omega arith;
            inside_queued = omega arith;
            one_ticket = omega arith;
            queued_share = omega arith;
            served = λ h. absurd (omega arith);
            seen = begins_itself (book x);
            told = (book x, refl);
            own = more.2 (λ k has. omega (arith, mine.own k has, begins-length v.seen r.now mine.seen, found_length));
            spent_has_none = λ none_left. absurd (omega arith);
            origin_is = mine.origin_is;
          } (λ j u apart there.
              let theirs = r.each j u there in
              let outside : u.inside ≡ 0 = omega (arith, two-le-total (λ (z : N). z.inside) s.views id j v u apart at there, out.1) in
              record {
                emptied_inside = theirs.emptied_inside;
                inside_queued = theirs.inside_queued;
                one_ticket = theirs.one_ticket;
                queued_share = theirs.queued_share;
                served = λ h. absurd (omega arith);
                seen = begins_further u.seen r.now (book x) theirs.seen longer_book;
                told = theirs.told;
                own = theirs.own;
                spent_has_none = theirs.spent_has_none;
                origin_is = theirs.origin_is;
              });
        },
        ends_so v x (step slots 1 1 0 none) (r.ended % 18446744073709551616),
      ))
