-- Nothing is replied over a session that is not live.
use Rattle.std.proofs.Common.{◌≡◌, ap, refl, None, Option, Some}
use Rattle.std.specs.Option.{option_map}
use Rattle.mt_model.specs.declared.tables.access.Actor.{Actor}
use Rattle.mt_node.specs.mt_machine.Step.{session_actor}
use Rattle.mt_runs.specs.Datagrams.{actor_on}
use Rattle.mt_interactions.specs.Deeds.{NobodyIsReplied, confirmed_for}
use Rattle.mt_interactions.specs.declared.deeds.Deed.TheVariants.{Ask, Confirm, Ends, Report, Expire, Nothing}
use Rattle.mt_interactions.proofs.Planned.{nobody_replied}

no_actor : (found : Option Actor) → option_map (λ (actor : Actor). actor.fabric) found ≡ None → found ≡ None
no_actor None none = refl
no_actor (Some actor) none = absurd (cc)

pub unheard : NobodyIsReplied
unheard given s l (Ask session request timed) ms none = nobody_replied given s l ms (actor_on session) request timed (no_actor (session_actor s session) none)
unheard given s l (Confirm session subscription) ms none = ap (confirmed_for l subscription) none
unheard given s l (Ends session at) ms none = refl
unheard given s l (Report fabric subscription) ms none = absurd (cc)
unheard given s l Expire ms none = refl
unheard given s l (Nothing session) ms none = refl
