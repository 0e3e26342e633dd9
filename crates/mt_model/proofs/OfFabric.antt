-- The entries of a fabric in ascending entries are a part of them.
use Rattle.std.proofs.Common.{◌≡◌, ℕ, zero, suc, ◌+◌, ◌<◌, ◌≤◌, ◌==◌, ◌&&◌, nat_le, nat_lt, Bool, true, false, not, List, [], ◌∷◌, refl, sym, ap, length, get_or, drop, add-one, drop-cons, arith}
use Rattle.std.specs.List.Sorted.{IsPartitionedBy}
use Rattle.std.proofs.lemmas.Bool.{and_from, and_parts, leb-true, le-leb}
use Rattle.mt_model.specs.texts.Config.{ascend_from}
use Rattle.mt_model.specs.declared.tables.access.AclEntry.{AclEntry}

-- whether an entry's fabric is lower than this, is this, and is not higher
abbrev pub is_lower : ℕ → AclEntry → Bool
is_lower fabric entry = nat_lt entry.fabric fabric

abbrev pub is_own : ℕ → AclEntry → Bool
is_own fabric entry = entry.fabric == fabric

abbrev pub is_no_higher : ℕ → AclEntry → Bool
is_no_higher fabric entry = not (nat_lt fabric entry.fabric)

no_lower : (least : ℕ) (es : List AclEntry) → ascend_from least es ≡ true → (j : ℕ) (d : AclEntry) → j < length es → least ≤ (get_or es j d).fabric
no_lower least [] up j d h = absurd (omega arith)
no_lower least (e ∷ es) up zero d h = leb-true _ _ (and_parts _ _ up).0
no_lower least (e ∷ es) up (suc j) d h =
    let first : least ≤ e.fabric = leb-true _ _ (and_parts _ _ up).0 in
    let rest : e.fabric ≤ (get_or es j d).fabric = no_lower e.fabric es (and_parts _ _ up).1 j d (omega arith) in
    omega (arith, first, rest)

pairs_ascend : (least : ℕ) (es : List AclEntry) → ascend_from least es ≡ true → (i j : ℕ) (d : AclEntry) → i ≤ j → j < length es → (get_or es i d).fabric ≤ (get_or es j d).fabric
pairs_ascend least [] up i j d le h = absurd (omega arith)
pairs_ascend least (e ∷ es) up zero zero d le h = omega arith
pairs_ascend least (e ∷ es) up zero (suc j) d le h = no_lower e.fabric es (and_parts _ _ up).1 j d (omega arith)
pairs_ascend least (e ∷ es) up (suc i) zero d le h = absurd (omega arith)
pairs_ascend least (e ∷ es) up (suc i) (suc j) d le h = pairs_ascend e.fabric es (and_parts _ _ up).1 i j d (omega arith) (omega arith)

lower_back : (fabric : ℕ) (a b : AclEntry) → a.fabric ≤ b.fabric → is_lower fabric b ≡ true → is_lower fabric a ≡ true
lower_back fabric a b le x = grind (arith, le, x)

no_higher_back : (fabric : ℕ) (a b : AclEntry) → a.fabric ≤ b.fabric → is_no_higher fabric b ≡ true → is_no_higher fabric a ≡ true
no_higher_back fabric a b le x = grind (arith, le, x)

pub lower_parts : (fabric least : ℕ) (es : List AclEntry) → ascend_from least es ≡ true → IsPartitionedBy (is_lower fabric) es
lower_parts fabric least es up i j d le h x = lower_back fabric (get_or es i d) (get_or es j d) (pairs_ascend least es up i j d le h) x

pub no_higher_parts : (fabric least : ℕ) (es : List AclEntry) → ascend_from least es ≡ true → IsPartitionedBy (is_no_higher fabric) es
no_higher_parts fabric least es up i j d le h x = no_higher_back fabric (get_or es i d) (get_or es j d) (pairs_ascend least es up i j d le h) x

pub lower_is_no_higher : (fabric : ℕ) (e : AclEntry) → is_lower fabric e ≡ true → is_no_higher fabric e ≡ true
lower_is_no_higher fabric e x = grind (arith, x)

pub lower_is_other : (fabric : ℕ) (e : AclEntry) → is_lower fabric e ≡ true → is_own fabric e ≡ false
lower_is_other fabric e x = grind (arith, x)

pub higher_is_other : (fabric : ℕ) (e : AclEntry) → is_no_higher fabric e ≡ false → is_own fabric e ≡ false
higher_is_other fabric e x = grind (arith, x)

pub between_is_own : (fabric : ℕ) (e : AclEntry) → is_lower fabric e ≡ false → is_no_higher fabric e ≡ true → is_own fabric e ≡ true
between_is_own fabric e x y = grind (arith, x, y)

-- what is left of ascending entries ascends
pub ascending-drop : (n least : ℕ) (es : List AclEntry) → ascend_from least es ≡ true → ascend_from 0 (drop n es) ≡ true
ascending-drop zero least [] up = refl
ascending-drop zero least (e ∷ es) up = and_from (nat_le 0 e.fabric) (ascend_from e.fabric es) (le-leb 0 e.fabric (omega arith)) (and_parts _ _ up).1
ascending-drop (suc n) least [] up = refl
ascending-drop (suc n) least (e ∷ es) up = ascending-drop n e.fabric es (and_parts _ _ up).1

-- entries from one on ascend where it is no lower and those behind it ascend
pub ascends_at : (entries : List AclEntry) (i before : ℕ) (entry : AclEntry) → i < length entries → entry ≡ get_or entries i entry
    → ascend_from before (drop i entries) ≡ (nat_le before entry.fabric && ascend_from entry.fabric (drop (i + 1) entries))
ascends_at entries i before entry lt is = rw (add-one, drop-cons entries i entry lt) (ap (λ (e : AclEntry). nat_le before e.fabric && ascend_from e.fabric (drop (suc i) entries)) (sym is))
