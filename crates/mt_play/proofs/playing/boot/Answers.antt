use Rattle.std.proofs.Common.{subst, sym}
use Rattle.mt_keeping.specs.Laws.{MayCommit}
use Rattle.mt_keeping.specs.States.{told_map}
use Rattle.mt_whole.specs.mt_interactions.Configured.{IsFirst}
use Rattle.mt_play.proofs.Reopening.{fits_begun, keeps_first, may_commit_first, valid_begun}
use Rattle.mt_play.proofs.playing.boot.Goals as goal

pub start-requires : goal.start-requires
start-requires c =
    let fits = c.in_ok-counts.ensures c.if-not-counts.false in
    c.requires.may.starts fits.0 fits.1

pub commit-requires : goal.commit-requires
commit-requires c =
    let fits = c.in_ok-counts.ensures c.if-not-counts.false in
    let one = c.in_ok-whole.whole.interactions in
    let first : IsFirst c.args.map one c.as_slice.result.now = subst (IsFirst c.args.map one) (sym c.as_slice.ensures) c.in_ok-whole.ensures.first in
    let commits : MayCommit c.as_slice.result.now (told_map c.args.store.now) =
    may_commit_first c.args.config.now c.args.map one c.requires.may fits.0 fits.1 c.in_ok-whole.ensures.started.begun c.states_may_be_committed.ensures.may c.states_may_be_committed.ensures.first c.maps_are_maps.ensures
    c.as_slice.result.now first c.args.store.now c.requires.told in
    record { form = commits.form; room = commits.room; admitted = commits.admitted }

pub returns-clause-keeps : goal.returns-clause-keeps
returns-clause-keeps c =
    let fits = c.in_ok-counts.ensures c.if-not-counts.false in
    let one = c.in_ok-whole.whole.interactions in
    let first : IsFirst c.args.map one c.as_slice.result.now = subst (IsFirst c.args.map one) (sym c.as_slice.ensures) c.in_ok-whole.ensures.first in
    keeps_first c.args.config.now c.args.map one c.requires.may fits.0 fits.1 c.in_ok-whole.ensures.started.begun c.states_may_be_committed.ensures.may c.states_may_be_committed.ensures.first c.maps_are_maps.ensures
    c.as_slice.result.now first c.args.store.now c.requires.told c.commit.new.store c.requires.ready c.in_ok-commit.ensures.keeps

pub returns-clause-valid : goal.returns-clause-valid
returns-clause-valid c =
    let fits = c.in_ok-counts.ensures c.if-not-counts.false in
    valid_begun c.args.config.now c.args.map c.in_ok-whole.whole.interactions c.requires.may fits.0 fits.1 c.in_ok-whole.ensures.started.begun

pub returns-clause-within : goal.returns-clause-within
returns-clause-within c =
    let fits = c.in_ok-counts.ensures c.if-not-counts.false in
    fits_begun c.args.config.now c.args.map c.in_ok-whole.whole.interactions c.requires.may fits.0 fits.1 c.in_ok-whole.ensures.started.begun
