-- A map that is read entry by entry.
use Rattle.std.proofs.Common.{◌≡◌, ◌∙◌, sym, ap, ℕ, ◌+◌, ◌<◌, ◌≤◌, List, [], ◌∷◌, Option, Some, None, length, drop, get_or, refl}
use Rattle.std.proofs.lemmas.List.{drop_all}
use Rattle.mt_durable.specs.declared.durable.Entry.{Entry}
use Rattle.mt_grammar.specs.Decoding.{kept_after, with_entry}
use Rattle.mt_grammar.specs.declared.kept.MapContents.{MapContents}
use Rattle.mt_grammar.proofs.Walks.{drop_at}

none_after : (entries : List Entry) → kept_after None entries ≡ None
none_after [] = refl
none_after (entry ∷ entries) = none_after entries

kept_step : (kept : MapContents) (entries : List Entry) (i : ℕ) (entry : Entry) → i < length entries → entry ≡ get_or entries i entry
    → kept_after (Some kept) (drop i entries) ≡ kept_after (with_entry kept entry) (drop (i + 1) entries)
kept_step kept entries i entry lt is = ap (kept_after (Some kept)) (drop_at entries i entry lt is)

-- an entry that is read
pub kept_next : (kept next : MapContents) (entries : List Entry) (i : ℕ) (entry : Entry) (all : Option MapContents) → i < length entries → entry ≡ get_or entries i entry
    → with_entry kept entry ≡ Some next → kept_after (Some kept) (drop i entries) ≡ all → kept_after (Some next) (drop (i + 1) entries) ≡ all
kept_next kept next entries i entry all lt is read here = sym (ap (λ k. kept_after k (drop (i + 1) entries)) read) ∙ sym (kept_step kept entries i entry lt is) ∙ here

-- one that is none
pub kept_bad : (kept : MapContents) (entries : List Entry) (i : ℕ) (entry : Entry) (all : Option MapContents) → i < length entries → entry ≡ get_or entries i entry
    → with_entry kept entry ≡ None → kept_after (Some kept) (drop i entries) ≡ all → all ≡ None
kept_bad kept entries i entry all lt is read here = sym here ∙ kept_step kept entries i entry lt is ∙ ap (λ k. kept_after k (drop (i + 1) entries)) read ∙ none_after (drop (i + 1) entries)

-- behind the last
pub kept_end : (kept : MapContents) (entries : List Entry) (i : ℕ) (all : Option MapContents) → length entries ≤ i
    → kept_after (Some kept) (drop i entries) ≡ all → all ≡ Some kept
kept_end kept entries i all h here = sym here ∙ ap (kept_after (Some kept)) (drop_all i entries h)
