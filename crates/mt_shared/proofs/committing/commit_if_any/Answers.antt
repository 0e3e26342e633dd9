use Rattle.mt_shared.proofs.Commits.{is_empty, is_full, leads_on, leads_to, may_commit, on_err_then, on_ok_then, one_of, stays}
use Rattle.mt_shared.proofs.committing.commit_if_any.Goals as goal

pub commit-requires : goal.commit-requires
commit-requires g c =
    let node = c.args.node.now in
    let change = c.change-change.result.now in
    let all = may_commit c.commits_lead_on.ensures c.states_may_be_committed.ensures.may c.states_may_be_committed.ensures.one c.maps_are_maps.ensures node.state node.ledger c.args.outcome.now c.requires.planned
    g.K.Keeper.admits c.requires.admits change c.change-change.ensures (is_full change c.is_empty.result c.is_empty.ensures c.if-is_empty.false) (g.K.Keeper.map c.args.keeper.now) c.requires.map in
    record { form = all.0; room = all.1; admitted = all.2 }

pub returns-then-is_empty-clause-committed : goal.returns-then-is_empty-clause-committed
returns-then-is_empty-clause-committed g c =
    let node = c.args.node.now in
    let change = c.change-change.result.now in
    stays c.commits_lead_on.ensures c.states_may_be_committed.ensures.may c.states_may_be_committed.ensures.one c.maps_are_maps.ensures node.state node.ledger c.args.outcome.now c.requires.planned
    change c.change-change.ensures (is_empty change c.is_empty.result c.is_empty.ensures c.if-is_empty.true) (g.K.Keeper.map c.args.keeper.now) c.requires.map

pub returns-clause-committed : goal.returns-clause-committed
returns-clause-committed g c =
    let node = c.args.node.now in
    let change = c.change-change.result.now in
    on_ok_then _ _ _ (leads_on c.commits_lead_on.ensures c.states_may_be_committed.ensures.may c.states_may_be_committed.ensures.one c.maps_are_maps.ensures node.state node.ledger c.args.outcome.now c.requires.planned
    change c.change-change.ensures (is_full change c.is_empty.result c.is_empty.ensures c.if-is_empty.false) (g.K.Keeper.map c.args.keeper.now) _ c.requires.map) c.commit.ensures.committed

pub returns-clause-part : goal.returns-clause-part
returns-clause-part g c =
    let node = c.args.node.now in
    let change = c.change-change.result.now in
    on_err_then _ _ _ (one_of c.commits_lead_on.ensures c.states_may_be_committed.ensures.may c.states_may_be_committed.ensures.one c.maps_are_maps.ensures node.state node.ledger c.args.outcome.now c.requires.planned
    change c.change-change.ensures (is_full change c.is_empty.result c.is_empty.ensures c.if-is_empty.false) (g.K.Keeper.map c.args.keeper.now) _ c.requires.map) c.commit.ensures.part

pub returns-clause-between : goal.returns-clause-between
returns-clause-between g c =
    let node = c.args.node.now in
    let change = c.change-change.result.now in
    c.commit.ensures.between _ _ c.requires.runs c.requires.map
    (leads_to c.commits_lead_on.ensures c.states_may_be_committed.ensures.may c.states_may_be_committed.ensures.one c.maps_are_maps.ensures node.state node.ledger c.args.outcome.now c.requires.planned
    c.changes_lead_on.ensures.merged change c.change-change.ensures (is_full change c.is_empty.result c.is_empty.ensures c.if-is_empty.false))
