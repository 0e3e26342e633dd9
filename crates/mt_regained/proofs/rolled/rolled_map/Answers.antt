use Rattle.std.proofs.Common.{◌≤◌, ◌^◌, ◌∙◌, ℕ, subst, sym}
use Rattle.mt_machine.specs.State.{IsValid}
use Rattle.mt_regained.specs.Laws.{IsKeptIn}
use Rattle.mt_regained.specs.Reopened.{HasImage}
use Rattle.mt_regained.proofs.GoesOn.{ceiling_fits}
use Rattle.mt_regained.proofs.rolled.rolled_map.Goals as goal

pub state_of-requires : goal.state_of-requires
state_of-requires c = c.states_are_regained.ensures.valid c.args.map.now c.in-Some.kept (record {
  bytes = rw (sym c.as_slice.ensures.value) c.keys_are_of_bytes.ensures;
  ascend = c.as_slice.ensures.ascend;
  whole = c.as_slice.ensures.whole;
  read = sym c.in_ok-kept.ensures ∙ c.in-Some.is;
  facts = sym c.if-not-facts_hold.ensures;
})

pub rolled_back-requires : goal.rolled_back-requires
rolled_back-requires c = subst IsValid (sym c.in_ok-state.ensures) (state_of-requires c.before.before.before.before)

pub durable_of-requires : goal.durable_of-requires
durable_of-requires c = subst IsValid (sym c.in_ok-behind.ensures) (c.expiries_spare_others.ensures.valid _ (rolled_back-requires c.before.before.before.before))

-- what is durable behind the rollback has an image
pub returns-clause-image : goal.returns-clause-image
returns-clause-image c =
    let is : IsKeptIn c.args.map.now c.in-Some.kept = record {
      bytes = rw (sym c.as_slice.ensures.value) c.keys_are_of_bytes.ensures;
      ascend = c.as_slice.ensures.ascend;
      whole = c.as_slice.ensures.whole;
      read = sym c.in_ok-kept.ensures ∙ c.in-Some.is;
      facts = sym c.if-not-facts_hold.ensures;
    } in
    let state : IsValid c.in_ok-state.state = subst IsValid (sym c.in_ok-state.ensures) (c.states_are_regained.ensures.valid c.args.map.now c.in-Some.kept is) in
    let behind : IsValid c.in_ok-behind.behind = subst IsValid (sym c.in_ok-behind.ensures) (c.expiries_spare_others.ensures.valid _ state) in
    let fits : c.unwrap_or-ceiling.result ≤ 2 ^ 62 = subst (λ (ceiling : ℕ). ceiling ≤ 2 ^ 62) (sym c.unwrap_or-ceiling.ensures) (ceiling_fits c.args.map.now c.in-Some.kept is) in
    subst HasImage (sym c.in_ok-durable_of.ensures) (c.maps_and_changes_are_elements.ensures.maps c.in_ok-behind.behind c.unwrap_or-ceiling.result behind fits)
