use Rattle.std.proofs.Common.{◌≡◌, ◌+◌, ℕ, List, [], ◌∷◌, ◌++◌, take, ap, ◌∙◌, append_assoc}
use Rattle.std.proofs.lemmas.Option.{IfSome_then}
use Rattle.mt_durable.specs.Differences.{gone}
use Rattle.mt_durable.specs.Fronts.{entry_bytes}
use Rattle.mt_durable.proofs.GoneBytes.{gone_bytes}
use Rattle.mt_durable.proofs.difference.add_gone.Goals as goal

pub returns-clause-added : goal.returns-clause-added
returns-clause-added c = λ stands.
    (let front = c.split_at.result.0.now in
    let old = take c.args.at c.args.into.now in
    let parts : front ++ 24 ∷ [] ≡ entry_bytes (gone stands.entry) =
    ap (λ (l : List ℕ). l ++ 24 ∷ []) (c.split_at.ensures.front ∙ ap (λ (n : ℕ). take (3 + n) c.args.entry.now.bytes.now) c.string_length.ensures.exact)
    ∙ gone_bytes stands.entry c.args.entry.now.key.now c.args.entry.now.bytes.now stands.key stands.bytes in
    let all : take c.in_ok-end.end c.add_within.new.into ++ 24 ∷ [] ≡ old ++ entry_bytes (gone stands.entry) =
    ap (λ (l : List ℕ). l ++ 24 ∷ []) c.in_ok-end.ensures.added ∙ append_assoc old front (24 ∷ []) ∙ ap (λ (l : List ℕ). old ++ l) parts in
    IfSome_then c.add_within-2.result c.add_within-2.ensures.added (λ end is. is ∙ all))
