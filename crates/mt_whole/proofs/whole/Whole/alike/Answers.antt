use Rattle.std.proofs.Common.{◌≡◌, sym, ap, ◌∙◌}
use Rattle.mt_whole.specs.Seeing.{OwnStanding}
use Rattle.mt_whole.proofs.Seen.{alike_in, alike_so}
use Rattle.mt_whole.proofs.whole.Whole.alike.Goals as goal

pub returns-then-is_plain_same : goal.returns-then-is_plain_same
returns-then-is_plain_same c w v is its =
    let fabric = c.args.fabric in
    let one = c.args.self.now in
    let other = c.args.other.now in (
      λ alike. alike_so fabric one other w v is its (c.is_plain_same.ensures.0 c.if-is_plain_same.true) (c.are_standings_same.ensures.0 alike),
      λ same. c.are_standings_same.ensures.1 (ap (λ (o : OwnStanding). o.standings) (alike_in fabric one other w v is its same)),
    )

pub returns : goal.returns
returns c w v is its =
    let other_half = λ (same : _). (
    let both = alike_in c.args.fabric c.args.self.now c.args.other.now w v is its same in
    sym c.if-is_plain_same.false ∙ c.is_plain_same.ensures.1 (ap (λ (o : OwnStanding). o.whole) both, ap (λ (o : OwnStanding). o.ledger) both)
    ) in
    (λ yes. absurd (cc), other_half)
