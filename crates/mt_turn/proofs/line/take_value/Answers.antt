use Rattle.std.proofs.Common.{rules, ◌∷◌, ap, sym, ◌∙◌, Some, None}
use Rattle.atomic_table.specs.Table.{rest}
use Rattle.mt_turn.proofs.Steps.{puts_back}
use Rattle.mt_turn.proofs.line.take_value.Goals as goal

pub exchange-requires : goal.exchange-requires
exchange-requires g c = let h = c.requires.out in (search rules, (Some h.0, h.1 ∙ ap (λ z. (0, Some h.0) ∷ z) (ap rest (sym h.1))))

pub load-requires : goal.load-requires
load-requires g c =
    let v = c.args.stand.now.me.0 in (
      search rules,
      search rules,
      puts_back _ _ _ _ _ v c.exchange.new.seat.me (c.exchange.ensures.3 ∙ ap (λ z. (v, (0, None) ∷ rest z)) c.requires.out.1) c.requires.inside.0 c.requires.inside.1,
    )
