-- The parts of marks, and marks that are the same.
use Rattle.std.proofs.Common.{◌≡◌, ◌↔◌, ◌&&◌, Bool, true, false, if◌then◌else◌, Option, Some, None, refl, sym, ap, subst, ◌∙◌, ◌==◌, inl, inr}
use Rattle.std.proofs.lemmas.Bool.{and_parts, cases_Bool}
use Rattle.mt_model.specs.declared.texts.recording.Event.{Event}
use Rattle.mt_runs.specs.Isolation.{OwnPart, PublicPart}
use Rattle.mt_runs.specs.Marks.{Mark, Unanswered, born, gone, reopened, seen}
use Rattle.mt_marks.specs.declared.difference.Part.{Part}
use Rattle.mt_marks.specs.declared.difference.Part.TheVariants as parts
use Rattle.mt_marks.specs.differences.Difference.{born_part, part_between, reopened_part}
use Rattle.mt_marks.specs.differences.Laws.{IsFirstPart}
use Rattle.mt_marks.specs.differences.Codes.{are_same, of_changes, of_events, of_fabrics, of_failsafe, of_happened, of_networks, of_own, of_owners, of_roots, of_rows, of_unanswered, of_versions}
use Rattle.mt_marks.specs.differences.Parts.{IsSameSeen, is_same_seen, seen_part}
use Rattle.mt_marks.proofs.Codes.{CodesTellThemselves, number_same, told_same}
use Rattle.mt_marks.proofs.Placing.{first_is_found, found_is_first, none_differs, none_is_found}

-- One part.

both : (a b : Bool) → a ≡ true → b ≡ true → (a && b) ≡ true
both a b holds too = rw (holds, too) refl

pub same_parts : CodesTellThemselves → (part : Part) (event other : Event) (p q : PublicPart) → (is_same_seen part event p other q ≡ true) ↔ IsSameSeen part event p other q
same_parts law parts.Event event other p q = told_same law of_events event other
same_parts law parts.Born event other p q = (λ holds. tt, λ same. refl)
same_parts law parts.Rows event other p q =
    let rows = told_same law of_rows p.node.rows q.node.rows in
    let owners = told_same law of_owners p.node.owners q.node.owners in (
      λ holds. (let told = and_parts (are_same of_rows p.node.rows q.node.rows) (are_same of_owners p.node.owners q.node.owners) holds in (rows.0 told.0, owners.0 told.1)),
      λ same. both _ _ (rows.1 same.0) (owners.1 same.1),
    )
same_parts law parts.Fabrics event other p q = told_same law of_fabrics p.node.fabrics q.node.fabrics
same_parts law parts.Roots event other p q = told_same law of_roots p.node.roots q.node.roots
same_parts law parts.Networks event other p q = told_same law of_networks p.node.networks q.node.networks
same_parts law parts.Failsafe event other p q = told_same law of_failsafe p.node.armed q.node.armed
same_parts law parts.Versions event other p q =
    let versions = told_same law of_versions p.node.versions q.node.versions in
    let changes = told_same law of_changes p.node.changes q.node.changes in (
      λ holds. (let told = and_parts (are_same of_versions p.node.versions q.node.versions) (are_same of_changes p.node.changes q.node.changes) holds in (versions.0 told.0, changes.0 told.1)),
      λ same. both _ _ (versions.1 same.0) (changes.1 same.1),
    )
same_parts law parts.Events event other p q = told_same law of_happened p.events.shared q.events.shared
same_parts law parts.Numbers event other p q = number_same p.events.next q.events.next
same_parts law parts.Boot event other p q = number_same p.node.boot q.node.boot
same_parts law parts.Now event other p q = number_same p.node.clock q.node.clock

-- The first that differs.

not_same : (b : Bool) → b ≡ false → b ≡ true → ⊥
not_same b fails holds = let clash : false ≡ true = sym fails ∙ holds in absurd (cc)

is_not : (b : Bool) → (b ≡ true → ⊥) → b ≡ false
is_not true fails = absurd (fails refl)
is_not false fails = refl

module _ (law : CodesTellThemselves) (event other : Event) (p q : PublicPart) where
  abbrev same : Part → Bool
  same part = is_same_seen part event p other q

  pub parts_in_order : (part : Part) → (seen_part event p other q ≡ Some part) ↔ IsFirstPart event other p q part
  parts_in_order part = (
    λ found. (let first = found_is_first same part found in record {
      differs = λ is. not_same (same part) first.0 ((same_parts law part event other p q).1 is);
      first = λ before to. (same_parts law before event other p q).0 (first.1 before to);
    }),
    λ first. first_is_found same part (is_not (same part) (λ holds. first.differs ((same_parts law part event other p q).0 holds))) (λ before to. (same_parts law before event other p q).1 (first.first before to)),
  )

  -- nothing differs where all is the same: what happened, and what is public
  pub same_where_none : seen_part event p other q ≡ None → (event ≡ other) × (p ≡ q)
  same_where_none none =
      let is = λ (part : Part). (same_parts law part event other p q).0 (none_differs same none part) in
      let rows = is parts.Rows in
      let versions = is parts.Versions in (
        is parts.Event,
        λ i. record {
          node = record {
            rows = rows.0 i;
            owners = rows.1 i;
            fabrics = is parts.Fabrics i;
            roots = is parts.Roots i;
            networks = is parts.Networks i;
            armed = is parts.Failsafe i;
            versions = versions.0 i;
            changes = versions.1 i;
            boot = is parts.Boot i;
            clock = is parts.Now i;
          };
          events = record { shared = is parts.Events i; next = is parts.Numbers i };
        },
      )

  pub seen_same : seen_part event p other q ≡ None → seen event p ≡ seen other q
  seen_same none = let are = same_where_none none in λ i. seen (are.0 i) (are.1 i)

self_same : (event : Event) (p : PublicPart) (part : Part) → IsSameSeen part event p event p
self_same event p parts.Event = refl
self_same event p parts.Born = tt
self_same event p parts.Rows = (refl, refl)
self_same event p parts.Fabrics = refl
self_same event p parts.Roots = refl
self_same event p parts.Networks = refl
self_same event p parts.Failsafe = refl
self_same event p parts.Versions = (refl, refl)
self_same event p parts.Events = refl
self_same event p parts.Numbers = refl
self_same event p parts.Boot = refl
self_same event p parts.Now = refl

self_none : CodesTellThemselves → (event : Event) (p : PublicPart) → seen_part event p event p ≡ None
self_none law event p = none_is_found (λ (part : Part). is_same_seen part event p event p) (λ part. (same_parts law part event event p p).1 (self_same event p part))

-- Own parts.

pub own_differ : CodesTellThemselves → (one other : OwnPart) → (born_part one other ≡ None) ↔ (one ≡ other)
own_differ law one other =
    let told = told_same law of_own one other in (
      λ none. elim (cases_Bool (are_same of_own one other)) [
        | inl holds ↦ told.0 holds
        | inr fails ↦
            let is : born_part one other ≡ Some parts.Born = rw fails refl in
            absurd (let clash : Some parts.Born ≡ None = sym is ∙ none in cc)
      ],
      λ same. rw (told.1 same) refl,
    )

-- Reopenings.

-- where no part is found, what was left unanswered is the same, and so is the rest
unless : (b : Bool) (part : Option Part) → (if b then part else Some parts.Event) ≡ None → (b ≡ true) × (part ≡ None)
unless true part none = (refl, none)
unless false part none = absurd (cc)

reopened_same : CodesTellThemselves → (line other : Event) (p q : PublicPart) (left too : Option Unanswered) → reopened_part line p left other q too ≡ None → reopened line p left ≡ reopened other q too
reopened_same law line other p q left too none =
    let both = unless (are_same of_unanswered left too) (seen_part line p other q) none in
    let are = same_where_none law line other p q both.1 in
    let unanswered = (told_same law of_unanswered left too).0 both.0 in
    λ i. reopened (are.0 i) (are.1 i) (unanswered i)

reopened_none : CodesTellThemselves → (line : Event) (p : PublicPart) (left : Option Unanswered) → reopened_part line p left line p left ≡ None
reopened_none law line p left =
    ap (λ (b : Bool). if b then seen_part line p line p else Some parts.Event) ((told_same law of_unanswered left left).1 refl) ∙ self_none law line p

-- Marks.

between_self : CodesTellThemselves → (one : Mark) → part_between one one ≡ None
between_self law (seen event p) = self_none law event p
between_self law (reopened line p left) = reopened_none law line p left
between_self law (born own) = (own_differ law own own).1 refl
between_self law gone = refl

between_none : CodesTellThemselves → (one other : Mark) → part_between one other ≡ None → one ≡ other
between_none law (seen event p) (seen other q) none = seen_same law event other p q none
between_none law (seen event p) (reopened other q left) none = absurd (cc)
between_none law (seen event p) (born other) none = absurd (cc)
between_none law (seen event p) gone none = absurd (cc)
between_none law (reopened line p left) (seen other q) none = absurd (cc)
between_none law (reopened line p left) (reopened other q too) none = reopened_same law line other p q left too none
between_none law (reopened line p left) (born other) none = absurd (cc)
between_none law (reopened line p left) gone none = absurd (cc)
between_none law (born one) (seen other q) none = absurd (cc)
between_none law (born one) (reopened other q left) none = absurd (cc)
between_none law (born one) (born other) none = ap born ((own_differ law one other).0 none)
between_none law (born one) gone none = absurd (cc)
between_none law gone (seen other q) none = absurd (cc)
between_none law gone (reopened other q left) none = absurd (cc)
between_none law gone (born other) none = absurd (cc)
between_none law gone gone none = refl

pub marks_have_no_part : CodesTellThemselves → (one other : Mark) → (part_between one other ≡ None) ↔ (one ≡ other)
marks_have_no_part law one other = (between_none law one other, λ same. subst (λ (m : Mark). part_between one m ≡ None) same (between_self law one))
