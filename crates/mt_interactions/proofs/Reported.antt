-- The events among what is replied, where there are none.
use Rattle.std.proofs.Common.{◌≡◌, ℕ, ◌&&◌, Bool, true, false, List, [], ◌∷◌, filter, refl, ap, append-nil}
use Rattle.mt_model.specs.declared.messages.message.Happened.{Happened}
use Rattle.mt_model.specs.declared.messages.message.Item.{Item}
use Rattle.mt_model.specs.declared.messages.message.Reply.{Reply}
use Rattle.mt_model.specs.declared.messages.message.Reply.TheVariants as replies
use Rattle.mt_model.specs.declared.tables.access.AclEntry.{AclEntry}
use Rattle.mt_model.specs.declared.tables.access.Actor.{Actor}
use Rattle.mt_events.specs.Reading.{asking, is_told}
use Rattle.mt_events.specs.Telling.{answered, events_for, fitting}
use Rattle.mt_runs.specs.mt_ledger.HistoryAsking.{with_events}

and_false : (b : Bool) → (b && false) ≡ false
and_false true = refl
and_false false = refl

none_pass : {X : Type 0} (p : X → Bool) (xs : List X) → ((x : X) → p x ≡ false) → filter p xs ≡ []
none_pass p [] none = refl
none_pass p (x ∷ xs) none = rw (none x) (none_pass p xs none)

-- a read that names no events is told none
pub none_asked : (entries : List AclEntry) (actor : Actor) (minimum : ℕ) (rings : List (List Happened)) → answered (asking entries actor minimum []) rings ≡ []
none_asked entries actor minimum rings = ap (fitting 1176) (none_pass (is_told (asking entries actor minimum [])) (events_for actor.fabric rings) (λ e. and_false _))

pub with_none : (reply : Reply) → with_events [] reply ≡ reply
with_none (replies.Status code) = refl
with_none (replies.Report subscription items suppress) = ap (λ (all : List Item). replies.Report subscription all suppress) (append-nil items)
with_none (replies.Subscribed id ceiling) = refl
with_none (replies.Written items) = refl
with_none (replies.Invoked command fields) = refl
with_none (replies.InvokeStatus command code) = refl
with_none (replies.InvokeClusterStatus command code cluster) = refl
with_none replies.Nothing = refl
