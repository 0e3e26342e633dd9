use Rattle.std.proofs.Common.{rules, ◌∷◌, ap, ◌∙◌, Some, refl}
use Rattle.atomic_table.specs.Table.{rest}
use Rattle.mt_turn.specs.Rule.{slot_out}
use Rattle.mt_turn.proofs.Steps.{takes_out, ends_turn}
use Rattle.mt_turn.proofs.line.end_turn.Goals as goal

pub load-requires : goal.load-requires
load-requires g c =
    let v = c.args.stand.now.me.0 in (
      search rules,
      search rules,
      takes_out _ _ _ _ _ v c.args.stand.now.me (ap (λ z. (v, z)) c.requires.inside.2) c.requires.inside.0 c.requires.inside.1,
    )

pub fetch_add-ended-requires : goal.fetch_add-ended-requires
fetch_add-ended-requires g c = (
  search rules,
  search rules,
  ends_turn _ _ _ _ (slot_out c.args.stand.now.me.0) c.args.value c.exchange.new.seat.me (c.exchange.ensures.3 ∙ ap (λ m. (m.0, (0, Some c.args.value) ∷ rest m.1)) c.load.ensures.2)
      c.requires.inside.0 refl c.requires.origin c.requires.book,
)
