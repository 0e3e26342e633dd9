use Rattle.std.proofs.Common.{◌≡◌, ◌∙◌, List, Some, ℕ, ap, refl, subst}
use Rattle.mt_durable.specs.declared.durable.Entry.{Entry}
use Rattle.mt_opcreds.specs.Judged.{judged_by}
use Rattle.mt_whole.specs.mt_machine.Opened as machine
use Rattle.mt_whole.specs.mt_regained.Begun.{ceiling_in, next_boot}
use Rattle.mt_whole.specs.Plan.{whole_from}
use Rattle.mt_whole.specs.Talks.{IsWholeOf}
use Rattle.mt_play.proofs.Reopening.{may_boot_new}
use Rattle.mt_play.proofs.playing.Playing.start.Goals as goal

pub boot-requires : goal.boot-requires
boot-requires c = record {
  ready = c.in_ok-store.ensures.ready;
  told = c.in_ok-store.ensures.told;
  may = may_boot_new c.states_are_valid.ensures.opens c.reopened_nodes_may_start.ensures.new c.args.config.now c.in_ok-store.map c.in_ok-store.ensures.new;
}

pub returns-clause-journal : goal.returns-clause-journal
returns-clause-journal c = record {
  keeps = c.in_ok-whole.ensures.keeps;
  valid = c.in_ok-whole.ensures.valid;
  within = c.in_ok-whole.ensures.within;
  given = λ i. record {
    judged = judged_by (c.in_ok-new.ensures.roots i) (c.in_ok-new.ensures.csrs i) (c.in_ok-new.ensures.joins i);
    reachable = (c.in_ok-whole.ensures.started.begun.node.configured i).reachable;
  };
}

pub returns-clause-plays : goal.returns-clause-plays
returns-clause-plays c =
    let config = c.args.config.now in
    let as_new = c.reopened_nodes_may_start.ensures.new config in
    let map : List Entry = c.in_ok-store.map in
    let is = c.in_ok-store.ensures.new in
    let begins : next_boot config map ≡ Some (machine.opened config) = ap (next_boot config) is ∙ as_new.state in
    record {
      by = refl;
      rows = refl;
      whole = subst (λ (ceiling : ℕ). IsWholeOf c.in_ok-whole.whole (whole_from (machine.opened config) ceiling config.sessions))
          (ap ceiling_in is ∙ as_new.ceiling)
          (c.in_ok-whole.ensures.started.stands (machine.opened config) begins);
      stop = refl;
    }
