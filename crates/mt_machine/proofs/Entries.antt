-- The access control list as a fabric sees it: of others' entries whose they are.
use Rattle.std.proofs.Common.{◌≡◌, ℕ, Bool, true, false, not, ◌&&◌, ◌||◌, ◌==◌, ◌≤◌, nat_le, List, [], ◌∷◌, ◌++◌, refl, ap, ◌∙◌, filter, map, arith}
use Rattle.std.proofs.lemmas.List.Elements.{filter-append}
use borrow.Author.Tests.{leb-true}
use Rattle.std.proofs.lemmas.List.{append-nil, map-append}
use Rattle.mt_model.specs.texts.Config.{ascend_from}
use Rattle.mt_model.specs.rows.Sight.{seen_by}
use Rattle.mt_model.specs.declared.tables.access.AclEntry.{AclEntry}
use Rattle.mt_model.specs.declared.rows.place.Place.{Place}
use Rattle.mt_model.specs.declared.rows.place.Row.{Row}
use Rattle.mt_apps.specs.AccessControl.{entry_row}
use Rattle.mt_model.specs.rows.Seen.{own_entries}
use Rattle.mt_machine.specs.Isolation.{bare_entry}
use Rattle.mt_machine.proofs.Rows.{passed, passed-append}

abbrev pub acl_place : ℕ → Place
acl_place endpoint = record { endpoint = endpoint; cluster = 0x1f; leaf = 0 }

pub both_true : (a b : Bool) → (a && b) ≡ true → (a ≡ true) × (b ≡ true)
both_true true b h = (refl, h)
both_true false b h = absurd (cc)

pub is_other : (n fabric : ℕ) → (n == fabric) ≡ false → 1 ≤ n → (n == fabric || n == 0) ≡ false
is_other n fabric h positive = grind arith

-- another's entry is seen as one of which nothing but its fabric is known
entry-bare : (endpoint fabric : ℕ) (e : AclEntry) → (e.fabric == fabric || e.fabric == 0) ≡ false
    → seen_by fabric (entry_row (acl_place endpoint) (bare_entry e.fabric)) ≡ seen_by fabric (entry_row (acl_place endpoint) e)
entry-bare endpoint fabric e h = rw h refl

-- others' entries, bare
abbrev pub bare_others : ℕ → List AclEntry → List AclEntry
bare_others fabric es = map bare_entry (map (λ (e : AclEntry). e.fabric) (filter (λ (e : AclEntry). not (e.fabric == fabric)) es))

abbrev pub apart : ℕ → List AclEntry → List AclEntry
apart fabric es = own_entries fabric es ++ bare_others fabric es

module _ (endpoint fabric : ℕ) where
  abbrev rows : List AclEntry → List Row
  rows es = map (entry_row (acl_place endpoint)) es

  abbrev is_own : ℕ → Bool
  is_own n = n == fabric

  none_of_own : (test : ℕ → Bool) (es : List AclEntry) → test fabric ≡ false → passed fabric test (rows (own_entries fabric es)) ≡ []
  none_of_own test [] h = refl
  none_of_own test (e ∷ es) h = grind (arith, none_of_own test es h)

  own_again : (es : List AclEntry) → passed fabric is_own (rows (own_entries fabric es)) ≡ passed fabric is_own (rows es)
  own_again [] = refl
  own_again (e ∷ es) = grind (arith, own_again es)

  none_of_others : (es : List AclEntry) → passed fabric is_own (rows (bare_others fabric es)) ≡ []
  none_of_others [] = refl
  none_of_others (e ∷ es) = grind (arith, none_of_others es)

  others_step : (test : ℕ → Bool) (e : AclEntry) (es : List AclEntry) (own : Bool) → (e.fabric == fabric) ≡ own → 1 ≤ e.fabric → test fabric ≡ false
      → passed fabric test (rows (bare_others fabric es)) ≡ passed fabric test (rows es)
      → passed fabric test (rows (bare_others fabric (e ∷ es))) ≡ passed fabric test (rows (e ∷ es))
  others_step test e es true is positive h again = grind (arith, again)
  others_step test e es false is positive h again = grind (arith, again, entry-bare endpoint fabric e (is_other e.fabric fabric is positive))

  others_again : (test : ℕ → Bool) (least : ℕ) (es : List AclEntry) → test fabric ≡ false → 1 ≤ least → ascend_from least es ≡ true
      → passed fabric test (rows (bare_others fabric es)) ≡ passed fabric test (rows es)
  others_again test least [] h room up = refl
  others_again test least (e ∷ es) h room up =
      let both = both_true (nat_le least e.fabric) (ascend_from e.fabric es) up in
      let positive : 1 ≤ e.fabric = omega (arith, leb-true least e.fabric both.0) in
      others_step test e es (e.fabric == fabric) refl positive h (others_again test e.fabric es h positive both.1)

  pub entries-own : (es : List AclEntry) → passed fabric is_own (rows (apart fabric es)) ≡ passed fabric is_own (rows es)
  entries-own es =
      ap (passed fabric is_own) (map-append (entry_row (acl_place endpoint)) (own_entries fabric es) (bare_others fabric es))
      ∙ passed-append fabric is_own (rows (own_entries fabric es)) (rows (bare_others fabric es))
      ∙ (λ i. own_again es i ++ none_of_others es i)
      ∙ append-nil (passed fabric is_own (rows es))

  pub entries-others : (test : ℕ → Bool) (es : List AclEntry) → test fabric ≡ false → ascend_from 1 es ≡ true → passed fabric test (rows (apart fabric es)) ≡ passed fabric test (rows es)
  entries-others test es h up =
      ap (passed fabric test) (map-append (entry_row (acl_place endpoint)) (own_entries fabric es) (bare_others fabric es))
      ∙ passed-append fabric test (rows (own_entries fabric es)) (rows (bare_others fabric es))
      ∙ (λ i. none_of_own test es h i ++ others_again test 1 es h (omega arith) up i)

-- An answer's own entries are those of the veil.

none_among : (fabric : ℕ) (es : List AclEntry) → own_entries fabric (bare_others fabric es) ≡ []
none_among fabric [] = refl
none_among fabric (e ∷ es) = grind (arith, none_among fabric es)

own_twice : (fabric : ℕ) (es : List AclEntry) → own_entries fabric (own_entries fabric es) ≡ own_entries fabric es
own_twice fabric [] = refl
own_twice fabric (e ∷ es) = grind (arith, own_twice fabric es)

pub own_entries-apart : (fabric : ℕ) (es : List AclEntry) → own_entries fabric (apart fabric es) ≡ own_entries fabric es
own_entries-apart fabric es =
    filter-append (λ (e : AclEntry). e.fabric == fabric) (own_entries fabric es) (bare_others fabric es)
    ∙ (λ i. own_twice fabric es i ++ none_among fabric es i)
    ∙ append-nil (own_entries fabric es)
