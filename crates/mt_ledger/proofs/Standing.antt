-- Who is there of a fabric, its own part of the state says; so the subscriptions that are left are alike where that is the same.
use Rattle.std.proofs.Common.{◌≡◌, ℕ, ◌==◌, true, List, Option, Some, None, filter, refl, ap, sym, ◌∙◌, subst, eqb-true}
use Rattle.std.specs.List.{list_all, list_any}
use Rattle.std.proofs.lemmas.Bool.{and_parts}
use Rattle.mt_fabrics.specs.Table.{has_index}
use Rattle.mt_model.specs.declared.node.state.NodeSession.{NodeSession}
use Rattle.mt_model.specs.declared.node.state.NodeState.{NodeState}
use Rattle.mt_model.specs.declared.tables.access.Auth.{Auth}
use Rattle.mt_model.specs.declared.tables.access.Auth.TheVariants.{Case, Group, Pase}
use Rattle.mt_model.specs.declared.tables.fabric.Fabric.{Fabric}
use Rattle.mt_subs.specs.Leaving.{is_live_as, is_live_over, is_there, left_in, stands_in}
use Rattle.mt_subs.specs.Subscriptions.{is_of}
use Rattle.mt_subs.specs.declared.subscription.SubState.{SubState}
use Rattle.mt_subs.specs.declared.subscription.Subscription.{Subscription}
use Rattle.mt_machine.specs.Isolation.{Own, own}
use Rattle.mt_ledger.proofs.Alike.{Alike, staying_alike}
use Rattle.mt_ledger.proofs.Filters.{any_within, whole}

-- The subscriptions that are all there stay as they are.
pub all_there : (s : NodeState) (a : SubState) → list_all (stands_in s) a.subscriptions ≡ true → left_in s a ≡ a
all_there s a there = ap (λ (l : List Subscription). record a { subscriptions = l }) (whole (stands_in s) a.subscriptions there)

-- sessions that are live for the fabric are its own
live_own : (fabric id : ℕ) (sessions : List NodeSession) → list_any (is_live_over fabric id) (filter (λ (session : NodeSession). is_live_as fabric session.standing) sessions) ≡ list_any (is_live_over fabric id) sessions
live_own fabric id sessions =
    any_within (is_live_over fabric id) (λ (session : NodeSession). is_live_as fabric session.standing)
    (λ session live. (and_parts (session.session == id) (is_live_as fabric session.standing) live).1)
    sessions

-- and so is the fabric's row of the table
index_own : (fabric : ℕ) (fabrics : List Fabric) → list_any (has_index fabric) (filter (has_index fabric) fabrics) ≡ list_any (has_index fabric) fabrics
index_own fabric fabrics = any_within (has_index fabric) (has_index fabric) (λ f its. its) fabrics

module _ (fabric : ℕ) (s t : NodeState) (same : own fabric s ≡ own fabric t) where
  there_same : (auth : Auth) (session : Option ℕ) → is_there s fabric auth session ≡ is_there t fabric auth session
  there_same auth (Some id) = sym (live_own fabric id s.sessions) ∙ ap (λ (o : Own). list_any (is_live_over fabric id) o.sessions) same ∙ live_own fabric id t.sessions
  there_same Case None = sym (index_own fabric s.fabrics) ∙ ap (λ (o : Own). list_any (has_index fabric) o.fabrics) same ∙ index_own fabric t.fabrics
  there_same Pase None = ap (λ (o : Own). o.is_plain) same
  there_same Group None = refl

  stands_same : (x : Subscription) → is_of fabric x ≡ true → stands_in s x ≡ stands_in t x
  stands_same x its =
      let auth = x.kept.sub.actor.auth in
      let session = x.kept.sub.actor.session in
      subst (λ (g : ℕ). is_there s g auth session ≡ is_there t g auth session) (sym (eqb-true x.fabric fabric its)) (there_same auth session)

  pub left_alike : (a b : SubState) → Alike fabric a b → Alike fabric (left_in s a) (left_in t b)
  left_alike a b alike = staying_alike fabric (stands_in s) (stands_in t) a b stands_same alike

  -- where all are there in the second state, the fabric's own are as they were
  pub left_apart : (a b : SubState) → list_all (stands_in t) b.subscriptions ≡ true → Alike fabric a b → Alike fabric (left_in s a) b
  left_apart a b there alike = subst (λ (c : SubState). Alike fabric (left_in s a) c) (all_there t b there) (left_alike a b alike)
