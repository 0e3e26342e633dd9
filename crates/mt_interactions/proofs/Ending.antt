-- Which exchanges a resend step closes, by the time from when on each closes.
use Rattle.std.proofs.Common.{◌≡◌, ℕ, ◌+◌, ◌<◌, ◌≤◌, ◌++◌, ◌||◌, ◌⊎◌, ◌&&◌, arith, ap, filter, inl, inr, map, min, nat_le, refl, sym, ◌∙◌, ◌==◌, Bool, true, false, List, [], ◌∷◌, Option, None, Some, if◌then◌else◌}
use Rattle.std.specs.List.{list_any}
use Rattle.std.specs.Option.{option_to_list}
use Rattle.std.proofs.Math.Nat.{le-min, min-le_left, min-le_right}
use Rattle.std.proofs.lemmas.Bool.{le-leb, lt-leb}
use Rattle.std.proofs.lemmas.Bool.Decides.{leb_tells}
use Rattle.std.proofs.lemmas.List.{map-append}
use Rattle.std.proofs.lemmas.List.Concat.{flat_map-cons}
use Rattle.std.proofs.lemmas.List.Elements.{filter-append}
use Rattle.mt_model.specs.declared.limits.TheConstants.{LAST_WAIT, SENDINGS}
use Rattle.mt_exchange.specs.Resending.{close_of, closes, earlier, end_in, end_of, end_time, end_times, end_with, ended_of, is_spent}
use Rattle.mt_exchange.specs.declared.exchange.Owed.{Owed}
use Rattle.mt_exchange.specs.declared.lists.EndTime.{EndTime}
use Rattle.mt_interactions.specs.Deeds.{EndsAreByTime, ended_at, has_come}

-- the earlier of two times has come where one of them has
least_by : (a b ms : ℕ) → ((nat_le a ms ≡ true) × (a ≤ ms)) ⊎ ((nat_le a ms ≡ false) × (ms < a)) → ((nat_le b ms ≡ true) × (b ≤ ms)) ⊎ ((nat_le b ms ≡ false) × (ms < b)) → nat_le (min a b) ms ≡ (nat_le a ms || nat_le b ms)
least_by a b ms (inl p) others = le-leb (min a b) ms (omega (arith, min-le_left a b, p.1)) ∙ sym (ap (λ t. t || nat_le b ms) p.0)
least_by a b ms (inr p) (inl q) = le-leb (min a b) ms (omega (arith, min-le_right a b, q.1)) ∙ sym (ap (λ t. t || nat_le b ms) p.0 ∙ q.0)
least_by a b ms (inr p) (inr q) = lt-leb (min a b) ms (le-min p.1 q.1) ∙ sym (ap (λ t. t || nat_le b ms) p.0 ∙ q.0)

least : (a b ms : ℕ) → nat_le (min a b) ms ≡ (nat_le a ms || nat_le b ms)
least a b ms = least_by a b ms (leb_tells a ms) (leb_tells b ms)

or_false : (b : Bool) → (b || false) ≡ b
or_false true = refl
or_false false = refl

or_over : (a b c : Bool) → ((a || b) || c) ≡ (a || (b || c))
or_over true b c = refl
or_over false b c = refl

-- a time that is no later than the last that can be told
closed_by_now : (o : Owed) (ms : ℕ) → ms < 18446744073709551615 → nat_le (close_of o) ms ≡ nat_le (o.last + LAST_WAIT) ms
closed_by_now o ms early = least (o.last + LAST_WAIT) 18446744073709551615 ms ∙ ap (λ t. nat_le (o.last + LAST_WAIT) ms || t) (lt-leb 18446744073709551615 ms early) ∙ or_false (nat_le (o.last + LAST_WAIT) ms)

abbrev pub is_by : ℕ → Option ℕ → Bool
is_by ms None = false
is_by ms (Some end) = nat_le end ms

by_earlier : (found : Option ℕ) (end ms : ℕ) → is_by ms (earlier found end) ≡ (is_by ms found || nat_le end ms)
by_earlier None end ms = refl
by_earlier (Some before) end ms = least before end ms

by_one : (found : Option ℕ) (o : Owed) (ms : ℕ) (often : Bool) (close : ℕ) → is_by ms (if often then earlier found close else found) ≡ (is_by ms found || (if often then nat_le close ms else false))
by_one found o ms true close = by_earlier found close ms
by_one found o ms false close = sym (or_false (is_by ms found))

spent_is : (often late : Bool) → (if often then late else false) ≡ (often && late)
spent_is true late = refl
spent_is false late = refl

by_with : (found : Option ℕ) (o : Owed) (ms : ℕ) → ms < 18446744073709551615 → is_by ms (end_with found o) ≡ (is_by ms found || is_spent ms o)
by_with found o ms early =
    by_one found o ms (o.sendings == SENDINGS) (close_of o)
    ∙ ap (λ t. is_by ms found || (if o.sendings == SENDINGS then t else false)) (closed_by_now o ms early)
    ∙ ap (λ t. is_by ms found || t) (spent_is (o.sendings == SENDINGS) (nat_le (o.last + LAST_WAIT) ms))

by_all : (found : Option ℕ) (os : List Owed) (ms : ℕ) → ms < 18446744073709551615 → is_by ms (end_in found os) ≡ (is_by ms found || list_any (is_spent ms) os)
by_all found [] ms early = sym (or_false (is_by ms found))
by_all found (o ∷ os) ms early =
    by_all (end_with found o) os ms early
    ∙ ap (λ t. t || list_any (is_spent ms) os) (by_with found o ms early)
    ∙ or_over (is_by ms found) (is_spent ms o) (list_any (is_spent ms) os)

-- one exchange

where_come : (subscription end ms : ℕ) (closing : Bool) → nat_le end ms ≡ closing → (if closing then subscription ∷ [] else []) ≡ ended_at ms (record { subscription = subscription; ms = end } ∷ [])
where_come subscription end ms true is = rw is refl
where_come subscription end ms false is = rw is refl

one_ends : (subscription end : Option ℕ) (ms : ℕ) (closing : Bool) → is_by ms end ≡ closing → (if closing then option_to_list subscription else []) ≡ ended_at ms (end_time subscription end)
one_ends None end ms true is = refl
one_ends None end ms false is = refl
one_ends (Some subscription) None ms true is = absurd (cc)
one_ends (Some subscription) None ms false is = refl
one_ends (Some subscription) (Some end) ms closing is = where_come subscription end ms closing is

-- and all of them

ended_more : (ms : ℕ) (xs ys : List EndTime) → ended_at ms (xs ++ ys) ≡ ended_at ms xs ++ ended_at ms ys
ended_more ms xs ys = ap (map (λ (end : EndTime). end.subscription)) (filter-append (has_come ms) xs ys) ∙ map-append (λ (end : EndTime). end.subscription) (filter (has_come ms) xs) (filter (has_come ms) ys)

pub ends_by_time : EndsAreByTime
ends_by_time ms [] early = refl
ends_by_time ms (x ∷ xs) early =
    let one : ended_of ms x ≡ ended_at ms (end_of x) = one_ends x.subscription (end_in None x.owed) ms (closes ms x) (by_all None x.owed ms early) in
    flat_map-cons (ended_of ms) x xs
    ∙ (λ i. one i ++ ends_by_time ms xs early i)
    ∙ sym (ended_more ms (end_of x) (end_times xs))
    ∙ sym (ap (ended_at ms) (flat_map-cons end_of x xs))
