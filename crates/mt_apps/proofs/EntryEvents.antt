-- Two lists that are compared by position: one step on, and behind the shorter one, what is left of the longer.
use Rattle.std.proofs.Common.{◌≡◌, ◌++◌, ◌<◌, ◌+◌, ℕ, List, [], ◌∷◌, map, min, drop, length, refl, sym, ap, ◌∙◌, arith}
use Rattle.std.proofs.Math.ListN.{get_or}
use Rattle.std.proofs.lemmas.List.{append-nil, drop_more}
use Rattle.mt_model.specs.declared.node.action.NodeStep.{NodeStep}
use Rattle.mt_model.specs.declared.tables.access.AclEntry.{AclEntry}
use Rattle.mt_model.specs.declared.tables.access.Actor.{Actor}
use Rattle.mt_apps.specs.EntryEvents.{entry_event, events_between, if_changed}

all-added : (actor : Actor) (others : List AclEntry) → events_between actor [] others ≡ map (entry_event actor 1) others
all-added actor [] = refl
all-added actor (new ∷ others) = ap (λ (events : List NodeStep). entry_event actor 1 new ∷ events) (all-added actor others)

all-removed : (actor : Actor) (entries : List AclEntry) → events_between actor entries [] ≡ map (entry_event actor 2) entries
all-removed actor [] = refl
all-removed actor (old ∷ entries) = ap (λ (events : List NodeStep). entry_event actor 2 old ∷ events) (all-removed actor entries)

-- one of two lists has ended
pub ended : (actor : Actor) (entries others : List AclEntry) → min (length entries) (length others) ≡ 0
    → events_between actor entries others ≡ map (entry_event actor 1) others ++ map (entry_event actor 2) entries
ended actor [] others is = all-added actor others ∙ sym (append-nil (map (entry_event actor 1) others))
ended actor (old ∷ entries) [] is = all-removed actor (old ∷ entries)
ended actor (old ∷ entries) (new ∷ others) is = absurd (grind (arith, is))

-- one position on
pub next-events : (actor : Actor) (entries others : List AclEntry) (i : ℕ) (old new : AclEntry) → i < length entries → i < length others → get_or entries i old ≡ old → get_or others i new ≡ new
    → events_between actor (drop i entries) (drop i others) ≡ if_changed actor old new ++ events_between actor (drop (i + 1) entries) (drop (i + 1) others)
next-events actor entries others i old new in_entries in_others is_old is_new =
    (λ t. events_between actor ((drop_more entries i old in_entries ∙ ap (λ (e : AclEntry). e ∷ drop (i + 1) entries) is_old) t) ((drop_more others i new in_others ∙ ap (λ (e : AclEntry). e ∷ drop (i + 1) others) is_new) t))
