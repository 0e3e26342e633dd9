-- What the rule says of the passes in line.
use Rattle.std.proofs.Common.{◌≡◌, ◌≢◌, ℕ, ◌+◌, ◌<◌, ◌≤◌, ◌⊎◌, cond, List, set, sym, refl, ap, ◌∙◌, subst, ⊎_elim, arith, Option, eq-eqb, ne_eqb}
use mathlib.Core.Logic.{dite}
use mathlib.Core.Option.{some, some-injective}
use native.Mathlib.Decide.{ℕ_discrete, dec_le}
use lib.ListN.{get_elem?}
use Rattle.atomic_table.specs.Table.{State}
use Rattle.atomic_table.proofs.Lists.{at_set}
use Rattle.mt_turn.specs.declared.rule.Notes.{Notes}
use Rattle.mt_turn.specs.Counts.{total}
use Rattle.mt_turn.specs.Rule.{has_ticket, IsHome, IsOut, IsEmptied, IsKept}
use Rattle.mt_turn.proofs.Sums.{one-le-total, two-le-total, some_item, total-le, once_below-within, once_below-beyond}

module _ {T E O : Type 0} (book : T → List E) (origin : T → O) where
  abbrev N : Type 0
  N = Notes E O

  abbrev S : Type 0
  S = State (Option T) N

  abbrev K : S → Type 0
  K = IsKept book origin

  pub no_ticket : (t : ℕ) (v : N) → v.queued ≡ 0 → has_ticket t v ≡ 0
  no_ticket t v idle = dite (ℕ_discrete v.ticket t) (λ e. ap (λ b. cond b v.queued 0) (eq-eqb v.ticket t e) ∙ idle) (λ n. ap (λ b. cond b v.queued 0) (ne_eqb v.ticket t n))

  pub own_ticket : (v : N) → v.queued ≡ 1 → has_ticket v.ticket v ≡ 1
  own_ticket v one = ap (λ b. cond b v.queued 0) (eq-eqb v.ticket v.ticket refl) ∙ one

  -- one pass has new notes
  pub each_set : (P : N → Type 0) (vs : List N) (id : ℕ) (w : N) → P w → ((j : ℕ) (u : N) → j ≢ id → get_elem? vs j ≡ some u → P u)
      → (j : ℕ) (u : N) → get_elem? (set vs id w) j ≡ some u → P u
  each_set P vs id w mine others j u there = ⊎_elim (λ (h : (j ≡ id) × (w ≡ u)). subst P h.1 mine)
      (λ (h : (j ≢ id) × (get_elem? vs j ≡ some u)). others j u h.0 h.1) (at_set vs id j w u there)

  -- a ticket in line is one of at most 64 that follow one another
  pub ticket_range : (s : S) (r : K s) (id : ℕ) (v : N) → get_elem? s.views id ≡ some v → v.queued ≡ 1 → (r.ended ≤ v.ticket) × (v.ticket < r.drawn) × (r.drawn ≤ r.ended + 64)
  ticket_range s r id v at one =
      let t = v.ticket in
      let mine : 1 ≤ total (has_ticket t) s.views = omega (arith, one-le-total (has_ticket t) s.views id v at, own_ticket v one) in
      let few = total-le (λ (u : N). u.queued) (λ (u : N). u.share) s.views (λ j u there. (r.each j u there).queued_share) in
      let below : t < r.drawn = dite (dec_le r.drawn t) (λ h. absurd (omega (arith, mine, r.tickets t, once_below-beyond t r.drawn h))) (λ h. omega arith) in
      let from : r.ended ≤ t = dite (dec_le r.ended t) (λ h. h) (λ h. absurd (omega (arith, mine, r.tickets t, once_below-within t r.ended (omega arith), once_below-within t r.drawn below))) in
      (from, below, omega (arith, few, r.line, r.shares))

  -- two passes do not have one ticket
  pub one_holder : (s : S) (r : K s) (j k : ℕ) (v u : N) → get_elem? s.views j ≡ some v → get_elem? s.views k ≡ some u → v.queued ≡ 1 → u.queued ≡ 1 → v.ticket ≡ u.ticket → k ≡ j
  one_holder s r j k v u at there one one' same = dite (ℕ_discrete k j) (λ h. h) (λ apart.
      let t = v.ticket in
      let theirs : has_ticket t u ≡ 1 = subst (λ (n : ℕ). has_ticket n u ≡ 1) (sym same) (own_ticket u one') in
      absurd (omega (arith, two-le-total (has_ticket t) s.views j k v u apart at there, theirs, own_ticket v one, r.tickets t, once_below-within t r.drawn (ticket_range s r j v at one).1)))

  -- while a pass is inside the value is not at home
  pub not_home : (s : S) (r : K s) (id : ℕ) (v : N) → get_elem? s.views id ≡ some v → v.inside ≡ 1 → IsOut s.homes s.views ⊎ IsEmptied s.homes s.views
  not_home s r id v at is_in = ⊎_elim (λ h. absurd (omega (arith, h.4, one-le-total (λ (u : N). u.inside) s.views id v at))) (λ h. h) r.lies

  -- a pass that is inside and has not given the slot back has it
  pub slot_is_out : (s : S) (r : K s) (id : ℕ) (v : N) → get_elem? s.views id ≡ some v → v.inside ≡ 1 → v.emptied ≡ 0 → IsOut s.homes s.views
  slot_is_out s r id v at is_in full = ⊎_elim (λ h. h)
      (λ (h : IsEmptied s.homes s.views).
      let other = some_item (λ (u : N). u.emptied) s.views (omega (arith, h.2)) in
      let u : N = other.1 in
      let fits = r.each other.0 u other.2 in
      let apart : other.0 ≢ id = λ e.
      let same : some u ≡ some v = sym other.2 ∙ (ap (get_elem? s.views) e ∙ at) in
      absurd (omega (arith, other.3, ap (λ (z : N). z.emptied) (some-injective u v same), full)) in
      absurd (omega (arith, h.1, two-le-total (λ (u : N). u.inside) s.views id other.0 v u apart at other.2, fits.emptied_inside, other.3, is_in)))
      (not_home s r id v at is_in)

  -- one that has given it back left it empty
  pub slot_is_empty : (s : S) (r : K s) (id : ℕ) (v : N) → get_elem? s.views id ≡ some v → v.inside ≡ 1 → v.emptied ≡ 1 → IsEmptied s.homes s.views
  slot_is_empty s r id v at is_in empty = ⊎_elim
      (λ (h : IsOut s.homes s.views). absurd (omega (arith, h.2, one-le-total (λ (u : N). u.emptied) s.views id v at, empty)))
      (λ h. h) (not_home s r id v at is_in)

  -- who is served and not inside finds the value at home
  pub served_at_home : (s : S) (r : K s) (id : ℕ) (v : N) → get_elem? s.views id ≡ some v → v.queued ≡ 1 → v.inside ≡ 0 → v.ticket ≡ r.ended → IsHome book origin s.homes s.views r.now r.base
  served_at_home s r id v at one out served =
      let busy : total (λ (u : N). u.inside) s.views ≡ 1 → IsHome book origin s.homes s.views r.now r.base = λ one_in.
      let other = some_item (λ (u : N). u.inside) s.views (omega (arith, one_in)) in
      let u : N = other.1 in
      let fits = r.each other.0 u other.2 in
      let is_in : u.inside ≡ 1 = omega (arith, other.3, fits.inside_queued, fits.one_ticket) in
      let in_line' : u.queued ≡ 1 = omega (arith, other.3, fits.inside_queued, fits.one_ticket) in
      let same = one_holder s r id other.0 v u at other.2 one in_line' (served ∙ sym (fits.served is_in).0) in
      let notes : some v ≡ some u = sym at ∙ (ap (get_elem? s.views) (sym same) ∙ other.2) in
      absurd (omega (arith, ap (λ (z : N). z.inside) (some-injective v u notes), out, is_in)) in
      ⊎_elim (λ h. h) (λ (rest : IsOut s.homes s.views ⊎ IsEmptied s.homes s.views). ⊎_elim (λ (h : IsOut s.homes s.views). busy h.1) (λ (h : IsEmptied s.homes s.views). busy h.1) rest) r.lies
