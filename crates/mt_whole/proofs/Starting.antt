-- A whole that was started stands for the one that begins in the state behind the map.
use Rattle.std.proofs.Common.{◌≡◌, ◌∙◌, ap, subst, sym, ℕ, List, Option, Some}
use Rattle.std.specs.Prelude.{unwrap_or}
use Rattle.mt_durable.specs.declared.durable.Entry.{Entry}
use Rattle.mt_model.specs.declared.node.state.NodeState.{NodeState}
use Rattle.mt_model.specs.declared.texts.config.Config.{Config}
use Rattle.mt_interactions.specs.mt_regained.Begun.{ceiling_in, next_boot}
use Rattle.mt_interactions.specs.mt_runs.Whole.{begun_in}
use Rattle.mt_interactions.specs.Configured as configured
use Rattle.mt_whole.specs.Plan.{whole_from}
use Rattle.mt_whole.specs.Talks.{AreTalks, IsWholeOf}
use Rattle.mt_whole.specs.declared.whole.Whole as whole

same_state : (s t : NodeState) → Some s ≡ Some t → s ≡ t
same_state s t same = ap (λ (o : Option NodeState). unwrap_or o s) same

pub stands_from : (map : List Entry) (config : Config) (one : whole.Whole) → configured.IsStarted map config one.interactions
    → AreTalks one.talks.items (begun_in one.interactions.state.node.boot config.sessions)
    → (s : NodeState) → next_boot config map ≡ Some s → IsWholeOf one (whole_from s (ceiling_in map) config.sessions)
stands_from map config one begun talks s is =
    let same : one.interactions.state.node ≡ s = same_state one.interactions.state.node s (sym begun.node.state ∙ is) in
    record {
      state = λ i. record { node = same i; deadlines = begun.deadlines i };
      ledger = begun.ledger;
      talks = subst (λ (boot : ℕ). AreTalks one.talks.items (begun_in boot config.sessions)) (ap (λ (t : NodeState). t.boot) same) talks;
    }
