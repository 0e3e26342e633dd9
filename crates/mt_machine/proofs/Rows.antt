-- Rows as a fabric sees them: what stays as it is, and what is left of a fabric's own rows and of the others' once they
-- are told apart.
use Rattle.std.proofs.Common.{◌≡◌, ℕ, Bool, true, false, not, ◌||◌, ◌==◌, List, [], ◌∷◌, ◌++◌, cond, refl, ap, ◌∙◌, filter, map, arith}
use Rattle.std.proofs.lemmas.List.{append-nil, map-append}
use Rattle.std.proofs.lemmas.List.Elements.{filter-append}
use Rattle.mt_tlv.specs.Tree.{Elements, none, more}
use Rattle.mt_tlv.specs.declared.value.Value.{Value}
use Rattle.mt_tlv.specs.declared.value.Value.TheVariants as values
use Rattle.mt_model.specs.rows.Sight.{bare_elements, bare_value, is_sensitive, same_place, seen_by, stands_at}
use Rattle.mt_model.specs.declared.rows.place.Place.{Place}
use Rattle.mt_model.specs.declared.rows.place.Row.{Row}
use Rattle.mt_machine.specs.Isolation.{owns}

-- What is seen once is seen so again.

bare-test : (place : Place) (kept whole : Elements) (s : Bool) → bare_elements place kept ≡ kept → bare_elements place whole ≡ cond s kept whole → bare_elements place (cond s kept whole) ≡ cond s kept whole
bare-test place kept whole true h w = h
bare-test place kept whole false h w = w

bare-twice : (place : Place) (es : Elements) → bare_elements place (bare_elements place es) ≡ bare_elements place es
bare-twice place none = refl
bare-twice place (more tag v es) =
    let kept = bare_elements place es in
    bare-test place kept (more tag v kept) (is_sensitive place tag) (bare-twice place es) (ap (λ (w : Elements). cond (is_sensitive place tag) w (more tag v w)) (bare-twice place es))

value-twice : (place : Place) (value : Value) → bare_value place (bare_value place value) ≡ bare_value place value
value-twice place (values.Struct es) = ap values.Struct (bare-twice place es)
value-twice place value = refl

-- a row that is bare or not
abbrev seen_if : Bool → Row → Row
seen_if whole row = cond whole row (record row { value = bare_value row.place row.value })

pub seen-fabric : (fabric : ℕ) (row : Row) → (seen_by fabric row).fabric ≡ row.fabric
seen-fabric fabric row = by_test (row.fabric == fabric || row.fabric == 0)
  where
    by_test : (whole : Bool) → (seen_if whole row).fabric ≡ row.fabric
    by_test true = refl
    by_test false = refl

pub seen-place : (fabric : ℕ) (row : Row) → (seen_by fabric row).place ≡ row.place
seen-place fabric row = by_test (row.fabric == fabric || row.fabric == 0)
  where
    by_test : (whole : Bool) → (seen_if whole row).place ≡ row.place
    by_test true = refl
    by_test false = refl

pub seen-twice : (fabric : ℕ) (row : Row) → seen_by fabric (seen_by fabric row) ≡ seen_by fabric row
seen-twice fabric row = by_test (row.fabric == fabric || row.fabric == 0) refl
  where
    by_test : (whole : Bool) → (row.fabric == fabric || row.fabric == 0) ≡ whole → seen_by fabric (seen_if whole row) ≡ seen_if whole row
    by_test true e = rw e refl
    by_test false e = rw (e, value-twice row.place row.value) refl

at-seen : (place : Place) (fabric : ℕ) (row : Row) → stands_at place (seen_by fabric row) ≡ stands_at place row
at-seen place fabric row = ap (λ (p : Place). same_place p place) (seen-place fabric row)

-- A fabric's own rows, and the others' as it sees them.

abbrev pub others : ℕ → List Row → List Row
others fabric rows = map (seen_by fabric) (filter (λ (row : Row). not (owns fabric row)) rows)

module _ (fabric : ℕ) (place : Place) where
  abbrev pub mine : Row → Bool
  mine row = owns fabric row

  abbrev pub of : (ℕ → Bool) → Row → Bool
  of test row = test row.fabric

  abbrev pub is_its : ℕ → Bool
  is_its n = n == fabric

  none_of_own : (test : ℕ → Bool) (rows : List Row) → test fabric ≡ false → filter (of test) (filter (stands_at place) (filter mine rows)) ≡ []
  none_of_own test [] h = refl
  none_of_own test (row ∷ rows) h = grind (arith, none_of_own test rows h)

  others_again : (test : ℕ → Bool) (rows : List Row) → test fabric ≡ false
      → map (seen_by fabric) (filter (of test) (filter (stands_at place) (others fabric rows))) ≡ map (seen_by fabric) (filter (of test) (filter (stands_at place) rows))
  others_again test [] h = refl
  others_again test (row ∷ rows) h = grind (arith, others_again test rows h, seen-fabric fabric row, at-seen place fabric row, seen-twice fabric row)

  -- a fabric has its rows among its own

  own_again : (rows : List Row) → (fabric == 0) ≡ false → filter (of is_its) (filter (stands_at place) (filter mine rows)) ≡ filter (of is_its) (filter (stands_at place) rows)
  own_again [] h = refl
  own_again (row ∷ rows) h = grind (arith, own_again rows h)

  none_of_others : (rows : List Row) → (fabric == 0) ≡ false → filter (of is_its) (filter (stands_at place) (others fabric rows)) ≡ []
  none_of_others [] h = refl
  none_of_others (row ∷ rows) h = grind (arith, none_of_others rows h, seen-fabric fabric row)

  -- nobody has nothing, and sees the rows of nobody as they stand

  none_of_nobody : (rows : List Row) → (fabric == 0) ≡ true → filter (of is_its) (filter (stands_at place) (filter mine rows)) ≡ []
  none_of_nobody [] h = refl
  none_of_nobody (row ∷ rows) h = grind (arith, none_of_nobody rows h)

  nobodys_again : (rows : List Row) → (fabric == 0) ≡ true
      → map (seen_by fabric) (filter (of is_its) (filter (stands_at place) (others fabric rows))) ≡ map (seen_by fabric) (filter (of is_its) (filter (stands_at place) rows))
  nobodys_again [] h = refl
  nobodys_again (row ∷ rows) h = grind (arith, nobodys_again rows h, seen-fabric fabric row, at-seen place fabric row, seen-twice fabric row)

-- What is seen of rows whose fabric passes a test.
abbrev pub passed : ℕ → (ℕ → Bool) → List Row → List Row
passed fabric test rows = map (seen_by fabric) (filter (λ (row : Row). test row.fabric) rows)

pub passed-append : (fabric : ℕ) (test : ℕ → Bool) (xs ys : List Row) → passed fabric test (xs ++ ys) ≡ passed fabric test xs ++ passed fabric test ys
passed-append fabric test xs ys = ap (map (seen_by fabric)) (filter-append (λ (row : Row). test row.fabric) xs ys) ∙ map-append (seen_by fabric) (filter (λ (row : Row). test row.fabric) xs) (filter (λ (row : Row). test row.fabric) ys)

-- a fabric's own rows, and then the others' as it sees them
abbrev pub apart : ℕ → List Row → List Row
apart fabric rows = filter (owns fabric) rows ++ others fabric rows

passed-apart : (fabric : ℕ) (place : Place) (test : ℕ → Bool) (rows : List Row) → passed fabric test (filter (stands_at place) (apart fabric rows))
    ≡ passed fabric test (filter (stands_at place) (filter (owns fabric) rows)) ++ passed fabric test (filter (stands_at place) (others fabric rows))
passed-apart fabric place test rows =
    ap (passed fabric test) (filter-append (stands_at place) (filter (owns fabric) rows) (others fabric rows))
    ∙ passed-append fabric test (filter (stands_at place) (filter (owns fabric) rows)) (filter (stands_at place) (others fabric rows))

pub apart-own : (fabric : ℕ) (place : Place) (rows : List Row) → passed fabric (λ n. n == fabric) (filter (stands_at place) (apart fabric rows)) ≡ passed fabric (λ n. n == fabric) (filter (stands_at place) rows)
apart-own fabric place rows = passed-apart fabric place (λ n. n == fabric) rows ∙ by_test (fabric == 0) refl
  where
    by_test : (nobody : Bool) → (fabric == 0) ≡ nobody
        → passed fabric (λ n. n == fabric) (filter (stands_at place) (filter (owns fabric) rows)) ++ passed fabric (λ n. n == fabric) (filter (stands_at place) (others fabric rows))
        ≡ passed fabric (λ n. n == fabric) (filter (stands_at place) rows)
    by_test true is = λ i. map (seen_by fabric) (none_of_nobody fabric place rows is i) ++ nobodys_again fabric place rows is i
    by_test false is =
        (λ i. map (seen_by fabric) (own_again fabric place rows is i) ++ map (seen_by fabric) (none_of_others fabric place rows is i))
        ∙ append-nil (passed fabric (λ n. n == fabric) (filter (stands_at place) rows))

pub apart-others : (fabric : ℕ) (place : Place) (test : ℕ → Bool) (rows : List Row) → test fabric ≡ false → passed fabric test (filter (stands_at place) (apart fabric rows)) ≡ passed fabric test (filter (stands_at place) rows)
apart-others fabric place test rows h =
    passed-apart fabric place test rows
    ∙ (λ i. map (seen_by fabric) (none_of_own fabric place test rows h i) ++ others_again fabric place test rows h i)
