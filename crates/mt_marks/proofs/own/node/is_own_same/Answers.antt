use Rattle.std.proofs.Common.{refl, ap}
use Rattle.mt_runs.specs.mt_machine.Isolation.{Own, own}
use Rattle.mt_marks.proofs.Owning.{all_same}
use Rattle.mt_marks.proofs.own.node.is_own_same.Goals as goal

pub are_rows_same-requires-clause-one_stored : goal.are_rows_same-requires-clause-one_stored
are_rows_same-requires-clause-one_stored c = c.rows_stand_at_stored_places.ensures.stored c.args.one.now.fabrics c.args.one.now.rows c.requires.one.row_forms

pub are_rows_same-requires-clause-other_stored : goal.are_rows_same-requires-clause-other_stored
are_rows_same-requires-clause-other_stored c = c.rows_stand_at_stored_places.ensures.stored c.args.other.now.fabrics c.args.other.now.rows c.requires.other.row_forms

pub returns-then-not-are_rows_same : goal.returns-then-not-are_rows_same
returns-then-not-are_rows_same c = (λ yes. absurd (cc), λ same. c.if-not-are_rows_same.ensures.1 (ap (λ (o : Own). o.rows) same))

pub returns-then-not-are_entries_same : goal.returns-then-not-are_entries_same
returns-then-not-are_entries_same c = (λ yes. absurd (cc), λ same. c.if-not-are_entries_same.ensures.1 (ap (λ (o : Own). o.entries) same))

pub returns-then-not-are_fabrics_same : goal.returns-then-not-are_fabrics_same
returns-then-not-are_fabrics_same c = (λ yes. absurd (cc), λ same. c.if-not-are_fabrics_same.ensures.1 (ap (λ (o : Own). o.fabrics) same))

pub returns-then-not-are_saved_same : goal.returns-then-not-are_saved_same
returns-then-not-are_saved_same c = (λ yes. absurd (cc), λ same. c.if-not-are_saved_same.ensures.1 (ap (λ (o : Own). o.saved) same))

pub returns-then-not-are_sessions_same : goal.returns-then-not-are_sessions_same
returns-then-not-are_sessions_same c = (λ yes. absurd (cc), λ same. c.if-not-are_sessions_same.ensures.1 (ap (λ (o : Own). o.sessions) same))

pub returns : goal.returns
returns c = (
  λ yes. all_same (own c.args.fabric c.args.one.now) (own c.args.fabric c.args.other.now)
      (c.if-not-are_rows_same.ensures.0 refl, c.if-not-are_entries_same.ensures.0 refl, c.if-not-are_fabrics_same.ensures.0 refl)
      (c.if-not-are_saved_same.ensures.0 refl, c.if-not-are_sessions_same.ensures.0 refl, c.is_plain_same.ensures.0 yes),
  λ same. c.is_plain_same.ensures.1 (ap (λ (o : Own). o.is_plain) same),
)
