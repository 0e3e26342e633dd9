-- One saying more: the events that are said, and that each is heard.
use Rattle.std.proofs.Common.{◌≡◌, ◌++◌, ◌∷◌, [], ◌+◌, ◌<◌, ◌≤◌, ◌∙◌, List, ℕ, All, ap, append_assoc, drop, get_or, length, map, subst, sym, take}
use Rattle.std.proofs.lemmas.List.{drop_more, take_all, take_more}
use Rattle.std.proofs.lemmas.List.Elements.{All-append, All-cons, All-nil}
use Rattle.mt_model.specs.declared.texts.recording.Event.{Event}
use Rattle.mt_say.specs.Saying.{IsHeard, event_of}
use Rattle.mt_say.specs.declared.saying.Saying.{Saying}

pub said_more : (events : List Event) (event : Event) (all : List Saying) (i : ℕ) (x : Saying) → i < length all → x ≡ get_or all i x → event ≡ event_of x
    → events ++ map event_of (drop i all) ≡ map event_of all → (events ++ event ∷ []) ++ map event_of (drop (i + 1) all) ≡ map event_of all
said_more events event all i x lt is e h =
    append_assoc events (event ∷ []) (map event_of (drop (i + 1) all))
    ∙ ap (λ (w : List Event). events ++ w)
    (ap (λ (v : Event). v ∷ map event_of (drop (i + 1) all)) e
    ∙ sym (ap (λ (l : List Saying). map event_of l) (drop_more all i x lt ∙ ap (λ (s : Saying). s ∷ drop (i + 1) all) (sym is))))
    ∙ h

pub heard_more : (all : List Saying) (i : ℕ) (x : Saying) → i < length all → x ≡ get_or all i x → All IsHeard (take i all) → IsHeard x → All IsHeard (take (i + 1) all)
heard_more all i x lt is before this =
    subst (λ (l : List Saying). All IsHeard l)
    (sym (take_more all i x lt ∙ ap (λ (s : Saying). take i all ++ s ∷ []) (sym is)))
    (All-append IsHeard (take i all) (x ∷ []) before (All-cons IsHeard x [] this (All-nil IsHeard)))

pub heard_all : (all : List Saying) (i : ℕ) → length all ≤ i → All IsHeard (take i all) → All IsHeard all
heard_all all i le h = subst (λ (l : List Saying). All IsHeard l) (take_all i all le) h
