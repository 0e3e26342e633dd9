use Rattle.std.proofs.Common.{refl, sym, ◌∙◌}
use Rattle.mt_acl.proofs.FirstGrants.{first-position, position-None, unless-Some, granted-Some, granted-None}
use Rattle.mt_acl.proofs.granting.grants.Goals as goal

pub returns-in-Some-clause-first : goal.returns-in-Some-clause-first
returns-in-Some-clause-first c = first-position _ _ _ _ _ (sym c.first_to_grant.ensures ∙ c.in-Some.is)

pub returns-in-Some-clause-none : goal.returns-in-Some-clause-none
returns-in-Some-clause-none c = (λ none. cc, λ none. absurd (unless-Some c.args.entries.now c.args.actor.now c.args.place.now c.args.wanted c.in-Some.index (sym c.first_to_grant.ensures ∙ c.in-Some.is) none.1))

pub returns-in-Some-clause-granted : goal.returns-in-Some-clause-granted
returns-in-Some-clause-granted c = granted-Some c.args.entries.now c.args.actor.now c.args.place.now c.args.wanted c.args.scoped_change c.in-Some.index (sym c.implicit_grants.ensures ∙ c.if-implicit_grants.false) (sym c.first_to_grant.ensures ∙ c.in-Some.is)

pub returns-in-None-clause-none : goal.returns-in-None-clause-none
returns-in-None-clause-none c = (λ none. (sym c.implicit_grants.ensures ∙ c.if-implicit_grants.false, position-None _ _ (sym c.first_to_grant.ensures ∙ c.in-None.is)), λ none. refl)

pub returns-in-None-clause-granted : goal.returns-in-None-clause-granted
returns-in-None-clause-granted c = granted-None c.args.entries.now c.args.actor.now c.args.place.now c.args.wanted c.args.scoped_change (sym c.implicit_grants.ensures ∙ c.if-implicit_grants.false) (sym c.first_to_grant.ensures ∙ c.in-None.is)
