use Rattle.std.proofs.Common.{List, Option, ℕ, ap, refl, subst, unwrap_or}
use Rattle.mt_durable.specs.declared.durable.Entry.{Entry}
use Rattle.mt_model.specs.texts.Contents as configs
use Rattle.mt_outside.specs.MemoryDisk.{contents_of}
use Rattle.mt_whole.specs.mt_regained.Reopening.{reopened_node}
use Rattle.mt_whole.specs.Plan.{whole_from}
use Rattle.mt_whole.specs.Talks.{IsWholeOf}
use Rattle.mt_play.proofs.Reopening.{begins_with, given_again, may_boot}
use Rattle.mt_play.proofs.playing.Playing.reopen.Goals as goal

pub boot-requires : goal.boot-requires
boot-requires c =
    let self = c.args.self.now in
    let disk = self.store.store.journal.disk in
    let config = self.config.now in
    let rests = c.requires.rests.2 in
    record {
      ready = record { keeps = c.in-Ok.ensures.kept (contents_of disk) refl; ready = c.in-Ok.ensures.ready };
      told = ap (λ (rolled : Option (List Entry)). unwrap_or rolled c.reopen.new.self.store.image) c.in-Ok.ensures.told;
      may = may_boot c.states_are_reopened.ensures c.reopenings_roll_back.ensures.valid config c.requires.rests.0 c.requires.rests.1 c.in-Ok.map (contents_of disk) rests.valid rests.within (rests.rests.recovers (configs.contents_of config))
          (c.in-Ok.ensures.recovered (contents_of disk) refl);
    }

pub returns-clause-journal : goal.returns-clause-journal
returns-clause-journal c =
    let self = c.args.self.now in
    record {
      keeps = c.in_ok-whole.ensures.keeps;
      valid = c.in_ok-whole.ensures.valid;
      within = c.in_ok-whole.ensures.within;
      given = given_again self.whole.interactions c.in_ok-whole.whole.interactions (configs.contents_of self.config.now) self.verdicts.roots self.verdicts.csrs self.verdicts.joins c.requires.rests.2.given c.in_ok-whole.ensures.started.begun.node.configured;
    }

pub returns-clause-reopened : goal.returns-clause-reopened
returns-clause-reopened c s ceiling rests =
    let self = c.args.self.now in
    let disk = self.store.store.journal.disk in
    let config = self.config.now in
    let begins = begins_with c.states_are_reopened.ensures config s ceiling c.in-Ok.map (contents_of disk) rests.valid rests.within (rests.rests.recovers (configs.contents_of config)) (c.in-Ok.ensures.recovered (contents_of disk) refl) in
    record {
      whole = subst (λ (stored : ℕ). IsWholeOf c.in_ok-whole.whole (whole_from (reopened_node config.sessions ceiling s) stored config.sessions)) begins.ceiling_is
          (c.in_ok-whole.ensures.started.stands (reopened_node config.sessions ceiling s) begins.state);
      none = refl;
    }
