use Rattle.std.proofs.Common.{◌≡◌, ◌∙◌, ◌++◌, ap, sym}
use Rattle.mt_node.specs.mt_lasting.Changes.{bytes_to_commit, raised}
use Rattle.mt_runs.specs.mt_ledger.History.{History, recorded_all, without_left}
use Rattle.mt_interactions.specs.Configured.{ConfiguredInteractions}
use Rattle.mt_interactions.specs.Recording.{may_record}
use Rattle.mt_interactions.proofs.Committed.{told_between}
use Rattle.mt_interactions.proofs.interactions.Interactions.outcome.Goals as goal

pub returns-clause-made : goal.returns-clause-made
returns-clause-made c = λ i.
    let node = c.args.node in
    let ms = c.args.ms in
    let h : c.self.inside.history ≡ c.args.self.now.ledger.history = ap (λ (kept : ConfiguredInteractions). kept.ledger.history) c.self.view_is in
    let next = c.ceiling_behind-next.ensures ms node.gone
    ∙ (λ j. (recorded_all ms (c.as_slice-2.ensures j) (without_left node.gone (h j))).numbers.ceiling) in
    let ceiling = ap (λ n. n.ceiling) c.numbers-ceiling.ensures ∙ ap (λ (x : History). x.numbers.ceiling) h in
    let change = c.in_ok-change.ensures ∙ (λ j. bytes_to_commit (raised (ceiling j) (next j) ++ c.as_slice-3.ensures.value j)) in
    record { ms = ms; node = node; deadlines = c.args.deadlines; subs = c.args.subs; change = change i }

pub returns-clause-planned : goal.returns-clause-planned
returns-clause-planned c =
    let node = c.args.node in
    let ms = c.args.ms in
    let kept : ConfiguredInteractions = c.args.self.now in
    let h : c.self.inside.history ≡ kept.ledger.history = ap (λ (k : ConfiguredInteractions). k.ledger.history) c.self.view_is in
    let next = c.ceiling_behind-next.ensures ms node.gone
    ∙ (λ j. (recorded_all ms (c.as_slice-2.ensures j) (without_left node.gone (h j))).numbers.ceiling) in
    let ceiling = ap (λ n. n.ceiling) c.numbers-ceiling.ensures ∙ ap (λ (x : History). x.numbers.ceiling) h in
    let change = c.in_ok-change.ensures ∙ (λ j. bytes_to_commit (raised (ceiling j) (next j) ++ c.as_slice-3.ensures.value j)) in
    record {
      node = c.requires;
      recordable = (λ j. may_record (sym c.as_slice.ensures j) (sym h j)) ∙ sym c.if-not-may_record.ensures;
      change = change ∙ told_between c.raised_ceilings_come_first.ensures.first c.raised_ceilings_come_first.ensures.boot kept.state kept.ledger.history node ms c.requires;
    }
