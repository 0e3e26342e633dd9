use Rattle.std.proofs.Common.{◌∙◌, subst, sym}
use Rattle.mt_machine.specs.State.{IsValid}
use Rattle.mt_regained.proofs.regained.state_from.Goals as goal

pub state_of-requires : goal.state_of-requires
state_of-requires c = c.states_are_regained.ensures.valid c.args.map.now c.in-Some.kept (record {
  bytes = rw (sym c.as_slice.ensures.value) c.keys_are_of_bytes.ensures;
  ascend = c.as_slice.ensures.ascend;
  whole = c.as_slice.ensures.whole;
  read = sym c.in_ok-kept.ensures ∙ c.in-Some.is;
  facts = sym c.if-not-facts_hold.ensures;
})

pub returns-clause-valid : goal.returns-clause-valid
returns-clause-valid c = subst IsValid (sym c.in_ok-state_of.ensures) (state_of-requires c.before.before.before)
