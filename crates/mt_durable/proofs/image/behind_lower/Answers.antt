use Rattle.std.proofs.Common.{◌≡◌, ℕ, true, false, List, [], ◌++◌, refl, ap, sym, ◌∙◌, subst, append_assoc, append-nil, arith}
use Rattle.std.specs.Prelude.{Some, None, option_map}
use Rattle.std.proofs.lemmas.Grind.{common_steps}
use Rattle.mt_durable.specs.Fronts.{IsKeyInFront, entries_said, lower_bytes}
use Rattle.mt_durable.specs.Keys.{is_before}
use Rattle.mt_durable.specs.declared.durable.Entry.{Entry}
use Rattle.mt_durable.proofs.Fronts.{entries_split, fewer_split, lower_left, lower_more, lower_none, no_key_in_front, some_in_front}
use Rattle.mt_durable.proofs.image.behind_lower.Goals as goal

pub lower-init : goal.lower-init
lower-init c = record { entries = c.requires; parts = ([], refl, refl); left = refl }

pub split_front-requires-clause-some : goal.split_front-requires-clause-some
split_front-requires-clause-some c =
    let entries = entries_said c.lower.left.now in
    let is : IsKeyInFront entries (Some c.in-Some.front.now) = subst (λ r. IsKeyInFront entries (option_map (λ key. key.now) r)) c.in-Some.is c.key_in_front.ensures in
    some_in_front entries c.in-Some.front.now is

pub returns-then-not-is_before-clause-parts : goal.returns-then-not-is_before-clause-parts
returns-then-not-is_before-clause-parts c =
    let key = c.args.key.now in
    let entries = entries_said c.lower.left.now in
    let is : IsKeyInFront entries (Some c.in-Some.front.now) = subst (λ r. IsKeyInFront entries (option_map (λ key. key.now) r)) c.in-Some.is c.key_in_front.ensures in
    let not_before : is_before c.in-Some.front.now key ≡ false = grind (arith, common_steps) in
    let parts = c.lower.invariant.parts in
    let all : parts.0 ≡ lower_bytes key (entries_said c.args.image.now) = sym (append-nil parts.0) ∙ ap (λ (l : List ℕ). parts.0 ++ l) (sym (lower_none key entries c.in-Some.front.now is not_before)) ∙ parts.2 in
    parts.1 ∙ ap (λ (l : List ℕ). l ++ c.lower.left.now) all

pub lower-smaller : goal.lower-smaller
lower-smaller c = omega (arith, fewer_split (entries_said c.lower.left.now) c.split_front.result.0.now c.split_front.result.1.now c.split_front.ensures.front)

pub lower-preserved : goal.lower-preserved
lower-preserved c =
    let key = c.args.key.now in
    let entries = entries_said c.lower.left.now in
    let own = c.split_front.result.0.now in
    let rest = c.split_front.result.1.now in
    let split = c.split_front.ensures.front in
    let is : IsKeyInFront entries (Some c.in-Some.front.now) = subst (λ r. IsKeyInFront entries (option_map (λ key. key.now) r)) c.in-Some.is c.key_in_front.ensures in
    let before : is_before c.in-Some.front.now key ≡ true = grind (arith, common_steps) in
    let parts = c.lower.invariant.parts in
    let behind = lower_bytes key (entries_said rest) in
    record {
      entries = entries_split entries own rest split;
      parts = (
        parts.0 ++ own,
        parts.1 ∙ ap (λ (l : List ℕ). parts.0 ++ l) c.split_front.ensures.parts ∙ sym (append_assoc parts.0 own rest),
        append_assoc parts.0 own behind ∙ ap (λ (l : List ℕ). parts.0 ++ l) (sym (lower_more key entries c.in-Some.front.now own rest is split before)) ∙ parts.2,
      );
      left = lower_left key entries c.in-Some.front.now own rest is split before ∙ c.lower.invariant.left;
    }

pub returns-clause-parts : goal.returns-clause-parts
returns-clause-parts c =
    let key = c.args.key.now in
    let entries = entries_said c.lower.left.now in
    let none : c.key_in_front.result ≡ None = grind (arith, common_steps) in
    let empty : entries ≡ [] = no_key_in_front entries (subst (λ r. IsKeyInFront entries (option_map (λ key. key.now) r)) none c.key_in_front.ensures) in
    let parts = c.lower.invariant.parts in
    let all : parts.0 ≡ lower_bytes key (entries_said c.args.image.now) = sym (append-nil parts.0) ∙ ap (λ (l : List Entry). parts.0 ++ lower_bytes key l) (sym empty) ∙ parts.2 in
    parts.1 ∙ ap (λ (l : List ℕ). l ++ c.lower.left.now) all
