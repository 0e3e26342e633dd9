use Rattle.std.proofs.Common.{◌≡◌, List, ap, sym, ◌∙◌, filter, map}
use Rattle.mt_model.specs.declared.node.state.NodeSession.{NodeSession}
use Rattle.mt_subs.specs.Leaving.{is_live_as}
use Rattle.mt_whole.specs.mt_marks.Remembered.{remembered, told_among}
use Rattle.mt_whole.specs.mt_runs.Isolation.{own_part}
use Rattle.mt_play.proofs.Owning.{live, own_told}
use Rattle.mt_play.proofs.remembering.Remembering.has_same_own.Goals as goal

pub returns-then-not-alike : goal.returns-then-not-alike
returns-then-not-alike c given to_other mine theirs g h is its = (
  λ yes. absurd (cc),
  λ same. (
      let stands = ((c.own_parts_are_standings_and_talks.ensures c.args.fabric g.whole h.whole).0 same).0 in
      let clash = sym c.if-not-alike.true ∙ (c.alike.ensures given to_other mine theirs g h is.playing its.playing).1 stands in
      absurd (cc)
      ),
)

pub returns : goal.returns
returns c given to_other mine theirs g h is its =
    let fabric = c.args.fabric in
    let one = c.args.self.now in
    let other = c.args.other.now in
    let law = c.own_parts_are_standings_and_talks.ensures fabric g.whole h.whole in
    let lives = filter (λ (session : NodeSession). is_live_as fabric session.standing) in
    let own : c.deref.result.now ≡ live fabric one.playing.whole.interactions.state = c.deref.ensures.value ∙ c.in_ok-own.ensures ∙ ap lives c.sessions.ensures in
    let others : c.deref-2.result.now ≡ live fabric other.playing.whole.interactions.state = c.deref-2.ensures.value ∙ c.in_ok-others.ensures ∙ ap lives c.sessions-2.ensures in
    let stands = (c.alike.ensures given to_other mine theirs g h is.playing its.playing).0 c.if-not-alike.false in
    let mine_told : told_among c.deref.result.now one.told ≡ map remembered (own_part fabric g.whole).talks =
    ap (λ (among : List NodeSession). told_among among one.told) own ∙ own_told fabric one given mine g is in
    let theirs_told : told_among c.deref-2.result.now other.told ≡ map remembered (own_part fabric h.whole).talks =
    ap (λ (among : List NodeSession). told_among among other.told) others ∙ own_told fabric other to_other theirs h its in (
      λ same. law.1 (stands, sym mine_told ∙ c.are_same_among.ensures.0 same ∙ theirs_told),
      λ same. c.are_same_among.ensures.1 (mine_told ∙ (law.0 same).1 ∙ sym theirs_told),
    )
