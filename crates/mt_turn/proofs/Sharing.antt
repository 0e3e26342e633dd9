-- Passes that are cut in two and joined, the first one, and the last.
use Rattle.std.proofs.Common.{◌≡◌, ◌≢◌, ℕ, zero, suc, ◌+◌, ◌<◌, ◌≤◌, ◌⊎◌, cond, List, [], ◌∷◌, ◌++◌, length, set, sym, refl, ap, ◌∙◌, subst, inl, inr, ⊎_elim, arith, Option, Some, None, lt-ltb, le-ltb}
use mathlib.Core.Logic.{dite}
use mathlib.Core.Option.{Option as Maybe, some, some-injective, some-ne-none}
use mathlib.Core.List.{IsPrefix}
use native.Mathlib.Decide.{ℕ_discrete, dec_le}
use lib.ListN.{get_elem?}
use Rattle.atomic_table.specs.Seated.{TableId}
use Rattle.atomic_table.specs.Table.{State, opening, Splits, Joins, Final, Seen}
use Rattle.atomic_table.proofs.Lists.{set_else, at_snoc}
use Rattle.mt_turn.specs.declared.rule.Notes.{Notes}
use Rattle.mt_turn.specs.Counts.{total, is_it, how_often, once_below}
use Rattle.mt_turn.specs.Known.{Known, longer, shorter}
use Rattle.mt_turn.specs.Resting.{known}
use Rattle.mt_turn.specs.Rule.{first_notes, spent, notes_kept, notes_given, notes_joined, has_ticket, Fits, IsOut, IsEmptied, IsKept}
use Rattle.mt_turn.proofs.Sums.{total-append, total-set, two-le-total, the_only, once_below-within, once_below-beyond}
use Rattle.mt_turn.proofs.Beginnings.{begins_itself, begins_whole, two_beginnings}
use Rattle.mt_turn.proofs.InLine.{no_ticket, each_set}
use Rattle.mt_turn.proofs.Steps.{lies_still}

module _ {E : Type 0} where
  -- the longer of two lists is one of them, and no shorter than either
  abbrev pub IsLonger : List E → List E → List E → Type 0
  IsLonger xs ys zs = ((zs ≡ xs) ⊎ (zs ≡ ys)) × (length xs ≤ length zs) × (length ys ≤ length zs)

  pub longer_is : (xs ys : List E) → IsLonger xs ys (longer xs ys)
  longer_is xs ys = dite (dec_le (length ys) (length xs))
      (λ le. subst (λ b. IsLonger xs ys (cond b ys xs)) (sym (le-ltb (length xs) (length ys) le)) (inl refl, omega arith, le))
      (λ n. let less : length xs < length ys = omega arith in subst (λ b. IsLonger xs ys (cond b ys xs)) (sym (lt-ltb (length xs) (length ys) less)) (inr refl, omega arith, omega arith))

  -- of two beginnings of one list the shorter begins the longer
  shorter_begins : (xs ys zs : List E) → IsPrefix xs zs → IsPrefix ys zs → IsPrefix (shorter xs ys) (longer xs ys)
  shorter_begins xs ys zs p q = dite (dec_le (length ys) (length xs))
      (λ le. subst (λ b. IsPrefix (cond b xs ys) (cond b ys xs)) (sym (le-ltb (length xs) (length ys) le)) (two_beginnings ys xs zs q p le))
      (λ n. let less : length xs < length ys = omega arith in subst (λ b. IsPrefix (cond b xs ys) (cond b ys xs)) (sym (lt-ltb (length xs) (length ys) less)) (two_beginnings xs ys zs p q (omega arith)))

  -- both begin the longer where the shorter does
  pub both_begin : (xs ys : List E) → IsPrefix (shorter xs ys) (longer xs ys) → IsPrefix xs (longer xs ys) × IsPrefix ys (longer xs ys)
  both_begin xs ys = dite (dec_le (length ys) (length xs))
      (λ le. subst (λ b. IsPrefix (cond b xs ys) (cond b ys xs) → IsPrefix xs (cond b ys xs) × IsPrefix ys (cond b ys xs)) (sym (le-ltb (length xs) (length ys) le)) (λ p. (begins_itself xs, p)))
      (λ n. let less : length xs < length ys = omega arith in subst (λ b. IsPrefix (cond b xs ys) (cond b ys xs) → IsPrefix xs (cond b ys xs) × IsPrefix ys (cond b ys xs)) (sym (lt-ltb (length xs) (length ys) less)) (λ p. (p, begins_itself ys)))

module _ {T E O : Type 0} (book : T → List E) (origin : T → O) where
  abbrev N : Type 0
  N = Notes E O

  abbrev S : Type 0
  S = State (Option T) N

  abbrev K : S → Type 0
  K = IsKept book origin

  pub splits : (id : ℕ) (v : N) → v.queued ≡ 0 → v.inside ≡ 0 → v.emptied ≡ 0 → 1 < v.share → Splits K id v (notes_kept v) (notes_given v)
  splits id v idle out full two s r at =
      let kept : N = notes_kept v in
      let given : N = notes_given v in
      let mine = r.each id v at in
      let vs : List N = set s.views id kept in
      let sum : (f : N → ℕ) → total f (vs ++ given ∷ []) + f v ≡ total f s.views + f kept + f given = λ f. omega (arith, total-append f vs (given ∷ []), total-set f s.views id v kept at) in
      let fits : Fits book origin r.ended r.now r.base given = record {
        emptied_inside = omega arith;
        inside_queued = omega arith;
        one_ticket = omega arith;
        queued_share = omega arith;
        served = λ h. absurd (omega arith);
        seen = mine.seen;
        told = (v.seen, refl);
        own = λ k has. absurd (omega arith);
        spent_has_none = λ h. refl;
        origin_is = λ h. mine.origin_is (omega arith);
      } in
      record {
        ended = r.ended;
        drawn = r.drawn;
        now = r.now;
        base = r.base;
        others = r.others;
        words = r.words;
        tickets = λ t. omega (arith, sum (has_ticket t), no_ticket book origin t v idle, no_ticket book origin t kept idle, no_ticket book origin t given refl, r.tickets t);
        line = omega (arith, sum (λ (u : N). u.queued), r.line);
        shares = omega (arith, sum (λ (u : N). u.share), r.shares);
        once = λ k. omega (arith, sum (λ (u : N). how_often k u.places), r.once k);
        lies = lies_still book origin s.homes s.views (vs ++ given ∷ []) r.now r.base (omega (arith, sum (λ (u : N). u.inside))) (omega (arith, sum (λ (u : N). u.emptied))) r.lies;
        each = λ j u there. ⊎_elim
            (λ h. each_set book origin (Fits book origin r.ended r.now r.base) s.views id kept record {
              emptied_inside = mine.emptied_inside;
              inside_queued = mine.inside_queued;
              one_ticket = mine.one_ticket;
              queued_share = omega arith;
              served = λ h. absurd (omega arith);
              seen = mine.seen;
              told = mine.told;
              own = mine.own;
              spent_has_none = λ h. absurd (omega arith);
              origin_is = λ h. mine.origin_is (omega arith);
            } (λ k z _ e. r.each k z e) j u h)
            (λ (h : given ≡ u). subst (Fits book origin r.ended r.now r.base) h fits) (at_snoc vs given u j there);
      }

  pub joins : (id : ℕ) (v : N) (other : ℕ) (u : N) → v.queued ≡ 0 → v.inside ≡ 0 → v.emptied ≡ 0 → u.queued ≡ 0 → u.inside ≡ 0 → u.emptied ≡ 0 → 0 < v.share
      → Joins K id v other u (notes_joined v u) spent
  joins id v other u idle out full idle' out' full' some_share s r at apart there =
      let one : N = notes_joined v u in
      let vs : List N = set s.views id one in
      let ws : List N = set vs other spent in
      let was : get_elem? s.views other ≡ some u = sym (set_else s.views id other one apart) ∙ there in
      let mine = r.each id v at in
      let theirs = r.each other u was in
      let sum : (f : N → ℕ) → total f ws + f v + f u ≡ total f s.views + f one + f spent = λ f. omega (arith, total-set f vs other u spent there, total-set f s.views id v one at) in
      let long = longer_is v.seen u.seen in
      record {
        ended = r.ended;
        drawn = r.drawn;
        now = r.now;
        base = r.base;
        others = r.others;
        words = r.words;
        tickets = λ t. omega (arith, sum (has_ticket t), no_ticket book origin t v idle, no_ticket book origin t u idle', no_ticket book origin t one idle, no_ticket book origin t spent refl, r.tickets t);
        line = omega (arith, sum (λ (z : N). z.queued), r.line);
        shares = omega (arith, sum (λ (z : N). z.share), r.shares);
        once = λ k. omega (arith, sum (λ (z : N). how_often k z.places), total-append (is_it k) v.places u.places, r.once k);
        lies = lies_still book origin s.homes s.views ws r.now r.base (omega (arith, sum (λ (z : N). z.inside))) (omega (arith, sum (λ (z : N). z.emptied))) r.lies;
        each = each_set book origin (Fits book origin r.ended r.now r.base) vs other spent record {
          emptied_inside = omega arith;
          inside_queued = omega arith;
          one_ticket = omega arith;
          queued_share = omega arith;
          served = λ h. absurd (omega arith);
          seen = (r.now, refl);
          told = ([], refl);
          own = λ k has. absurd (omega arith);
          spent_has_none = λ h. refl;
          origin_is = λ h. absurd (omega arith);
        } (λ j y _ e. each_set book origin (Fits book origin r.ended r.now r.base) s.views id one record {
          emptied_inside = mine.emptied_inside;
          inside_queued = mine.inside_queued;
          one_ticket = mine.one_ticket;
          queued_share = omega arith;
          served = λ h. absurd (omega arith);
          seen = ⊎_elim (λ is. subst (λ (l : List E). IsPrefix l r.now) (sym is) mine.seen) (λ is. subst (λ (l : List E). IsPrefix l r.now) (sym is) theirs.seen) long.0;
          told = shorter_begins v.seen u.seen r.now mine.seen theirs.seen;
          own = λ k has. dite (ℕ_discrete (how_often k v.places) 0)
              (λ z. omega (arith, theirs.own k (omega (arith, total-append (is_it k) v.places u.places)), long.2))
              (λ n. omega (arith, mine.own k (omega arith), long.1));
          spent_has_none = λ h. absurd (omega arith);
          origin_is = λ h. mine.origin_is some_share;
        } (λ k z _ e'. r.each k z e') j y e);
      }

  -- at the end, the pass with the whole share has seen the value's book, and has all its places
  abbrev pub IsAll : N → T → Type 0
  IsAll v x = (book x ≡ v.seen) × (v.origin ≡ Some (origin x)) × ((k : ℕ) → how_often k v.places ≡ once_below k (length (book x)))

  pub all_at_end : (id : ℕ) (v : N) (ws : List ℕ) (xs : List (Option T)) → v.queued ≡ 0 → v.inside ≡ 0 → v.share ≡ 64 → Final (Seen K id v) ws xs
      → (x : T) × (get_elem? xs 0 ≡ some (Some x)) × IsAll v x
  all_at_end id v ws xs idle out whole f =
      let s = f.0 in
      let r : K s = f.1.0 in
      let at = f.1.1 in
      let mine = r.each id v at in
      let none_left : (k : ℕ) (u : N) → k ≢ id → get_elem? s.views k ≡ some u → u.share ≡ 0 = λ k u apart e. omega (arith, two-le-total (λ (z : N). z.share) s.views id k v u apart at e, r.shares) in
      let nobody : total (λ (u : N). u.inside) s.views ≡ 0 = the_only (λ (u : N). u.inside) s.views id v at (λ k u apart e. let fits = r.each k u e in omega (arith, none_left k u apart e, fits.inside_queued, fits.queued_share)) ∙ out in
      let own : (k : ℕ) → how_often k v.places ≡ once_below k (length r.now) = λ k. sym (the_only (λ (u : N). how_often k u.places) s.views id v at (λ j u apart e. ap (how_often k) ((r.each j u e).spent_has_none (none_left j u apart e)))) ∙ r.once k in
      let all : length r.now ≤ length v.seen = dite (dec_le (length r.now) (length v.seen)) (λ h. h)
      (λ h. let k = length v.seen in absurd (omega (arith, mine.own k (omega (arith, own k, once_below-within k (length r.now) (omega arith)))))) in
      let same : v.seen ≡ r.now = begins_whole v.seen r.now mine.seen all in
      ⊎_elim
      (λ h. (h.0, f.4 0 (Some h.0) (ap (λ (l : List (Maybe (Option T))). get_elem? l 0) h.1), (cc (h.2, same), mine.origin_is (omega arith) ∙ ap Some (sym h.3), λ k. own k ∙ ap (λ (l : List E). once_below k (length l)) (sym h.2))))
      (λ rest. ⊎_elim (λ (h : IsOut {T = T} s.homes s.views). absurd (omega (arith, h.1, nobody))) (λ (h : IsEmptied {T = T} s.homes s.views). absurd (omega (arith, h.1, nobody))) rest) r.lies

  -- the slot of a closed lock has a value
  pub value_there : (id : ℕ) (v : N) (ws : List ℕ) (xs : List (Option T)) (y : Option T) → v.queued ≡ 0 → v.inside ≡ 0 → v.share ≡ 64 → Final (Seen K id v) ws xs → get_elem? xs 0 ≡ some y
      → (x : T) × (y ≡ Some x)
  value_there id v ws xs y idle out whole f e = let t = all_at_end id v ws xs idle out whole f in (t.0, some-injective y (Some t.0) (sym e ∙ t.1))

  abbrev value_of : T → Option T → T
  value_of other (Some x) = x
  value_of other None = other

  pub value_is : (id : ℕ) (v : N) (ws : List ℕ) (xs : List (Option T)) (y : Option T) (x : T) → v.queued ≡ 0 → v.inside ≡ 0 → v.share ≡ 64 → Final (Seen K id v) ws xs → get_elem? xs 0 ≡ some y → y ≡ Some x → IsAll v x
  value_is id v ws xs y x idle out whole f e is =
      let t = all_at_end id v ws xs idle out whole f in
      subst (IsAll v) (ap (value_of x) (sym (some-injective y (Some t.0) (sym e ∙ t.1)) ∙ is)) t.2

  -- what the closing pass knows of the value
  abbrev pub KnowsAll : Known E O → T → Type 0
  KnowsAll p x = (book x ≡ p.seen) × ((k : ℕ) → k < length (book x) → how_often k p.places ≡ 1) × ((k : ℕ) → length (book x) ≤ k → how_often k p.places ≡ 0) × (p.origin ≡ Some (origin x))

  pub knows_all : (lock : TableId) (views : List N) (v : N) (p : Known E O) (x : T) → known lock views ≡ p → views ≡ v ∷ [] → IsAll v x → KnowsAll p x
  knows_all lock views v p x is one all = subst (λ q. KnowsAll q x) (ap (known lock) (sym one) ∙ is) (
    all.0,
    (λ k within. all.2 k ∙ once_below-within k (length (book x)) within),
    (λ k beyond. all.2 k ∙ once_below-beyond k (length (book x)) beyond),
    all.1,
  )

  no_second : {A : Type 0} (a b : A) (j : ℕ) → j ≢ 0 → get_elem? (a ∷ []) j ≢ some b
  no_second a b zero n e = n refl
  no_second a b (suc j) n e = some-ne-none b (sym e)

  pub begins : (x : T) (others : List ℕ) → book x ≡ [] → K (opening (0 ∷ 0 ∷ others) (Some x ∷ []) (first_notes (origin x)))
  begins x others empty =
      let v : N = first_notes (origin x) in
      record {
        ended = 0;
        drawn = 0;
        now = [];
        base = origin x;
        others = others;
        words = refl;
        tickets = λ t. omega (arith, no_ticket book origin t v refl);
        line = refl;
        shares = refl;
        once = λ k. refl;
        lies = inl (x, refl, empty, refl, refl);
        each = each_set book origin (Fits book origin 0 [] (origin x)) (v ∷ []) 0 v record {
          emptied_inside = omega arith;
          inside_queued = omega arith;
          one_ticket = omega arith;
          queued_share = omega arith;
          served = λ h. absurd (omega arith);
          seen = ([], refl);
          told = ([], refl);
          own = λ k has. absurd (omega arith);
          spent_has_none = λ h. refl;
          origin_is = λ h. refl;
        } (λ j u n e. absurd (no_second v u j n e));
      }
