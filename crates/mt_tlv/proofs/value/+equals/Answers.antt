use Rattle.std.proofs.Common.{◌≡◌, ap, sym, subst, ◌∙◌, length, IsTrue, arith, rules}
use Rattle.mt_tlv.proofs.Same.{same_members, same_at}
use Rattle.mt_tlv.proofs.value.+equals.Goals as goal

pub Members::equals-returns-then-len : goal.Members::equals-returns-then-len
Members::equals-returns-then-len t c = (
  (λ never. absurd (cc)),
  (λ e.
      let same = same_members c.self.inside.items.items c.other.inside.items.items (c.self.view_is ∙ e ∙ sym c.other.view_is) in
      absurd (omega (arith, ap length same))),
)

-- what stands at the loop's place is the same where the members are
pub Members::equals-returns-then-ne : goal.Members::equals-returns-then-ne
Members::equals-returns-then-ne t c = (
  (λ never. absurd (cc)),
  (λ e.
      let same = same_members c.self.inside.items.items c.other.inside.items.items (c.self.view_is ∙ e ∙ sym c.other.view_is) in
      let here = same_at _ _ c.loop-i.i _ _ same (omega arith) c.index-mine.ensures c.index-theirs.ensures in
      let tags : c.index-mine.result.now.0 ≡ c.index-theirs.result.now.0 = ap (λ m. m.0) here in search rules),
)

pub Members::equals-returns-then-not-equals : goal.Members::equals-returns-then-not-equals
Members::equals-returns-then-not-equals t c = (
  (λ never. absurd (cc)),
  (λ e.
      let same = same_members c.self.inside.items.items c.other.inside.items.items (c.self.view_is ∙ e ∙ sym c.other.view_is) in
      let here = same_at _ _ c.loop-i.i _ _ same (omega arith) c.index-mine.ensures c.index-theirs.ensures in
      subst IsTrue c.if-not-equals.true (c.equals.ensures.1 (ap (λ m. m.1) here))),
)
