use Rattle.std.proofs.Common.{◌≡◌, ap, subst, ℕ, List}
use Rattle.mt_model.specs.declared.node.state.NodeState.{NodeState}
use Rattle.mt_model.specs.declared.texts.config.SessionRow.{SessionRow}
use Rattle.mt_interactions.specs.mt_runs.Whole.{begun_in}
use Rattle.mt_whole.specs.Talks.{AreTalks}
use Rattle.mt_whole.proofs.Listed.{rows_stand}
use Rattle.mt_whole.proofs.Starting.{stands_from}
use Rattle.mt_whole.proofs.whole.Whole.start.Goals as goal

pub begun-requires : goal.begun-requires
begun-requires c = rw c.as_slice.ensures (rows_stand c.args.config.now.sessions c.args.config.now.sessions_are_valid)

pub returns-clause-started : goal.returns-clause-started
returns-clause-started c =
    let config = c.args.config.now in
    let one = c.in_ok-interactions.interactions in
    let talks = c.in_ok-talks.talks in
    let begun = c.in_ok-interactions.ensures.started in
    let at : c.state.result.now.boot ≡ one.state.node.boot = ap (λ (s : NodeState). s.boot) c.state.ensures.same in
    record {
      begun = begun;
      stands = stands_from c.args.map config _ begun
          (subst (λ (boot : ℕ). AreTalks talks.items (begun_in boot config.sessions)) at
          (subst (λ (rows : List SessionRow). AreTalks talks.items (begun_in c.state.result.now.boot rows)) c.as_slice.ensures c.in_ok-talks.ensures));
    }
