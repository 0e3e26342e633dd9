use Rattle.std.proofs.Common.{◌≡◌, ℕ, List, ap₂, ◌∙◌, codes}
use Rattle.clap.proofs.WalkLemmas.{first_value-rows}
use Rattle.clap.specs.Words.{found_of}
use Rattle.mt_words.specs.Words.{begin_of, count_of, soak_of}
use Rattle.mt_words.proofs.Commanded.{soak_parsed, soak_refused}
use Rattle.mt_words.proofs.Found.{not_missing, same_text, tells_bad, tells_ok}
use Rattle.mt_words.proofs.asked.soak_asked.Goals as goal

pub returns-in-Err-clause-bad : goal.returns-in-Err-clause-bad
returns-in-Err-clause-bad c = λ bad. soak_refused _ c.args.words.now c.in-Ok.ensures (c.in-Err.ensures.bad bad)

pub returns-in_default-get_str-clause-bad : goal.returns-in_default-get_str-clause-bad
returns-in_default-get_str-clause-bad c =
    let soak = soak_parsed _ c.args.words.now _ c.in-Ok.ensures c.in-Ok-parse.ensures.fine c.in-Ok-parse.ensures.found in
    absurd (not_missing soak.begin c.get_str.result (c.get_str.ensures ∙ (first_value-rows (found_of c.in-Ok-parse.found) (codes "begin") ∙ soak.begin_found)) c.in_default-get_str.is)

pub returns-in_default-get_str-2-clause-bad : goal.returns-in_default-get_str-2-clause-bad
returns-in_default-get_str-2-clause-bad c =
    let soak = soak_parsed _ c.args.words.now _ c.in-Ok.ensures c.in-Ok-parse.ensures.fine c.in-Ok-parse.ensures.found in
    absurd (not_missing soak.count c.get_str-2.result (c.get_str-2.ensures ∙ (first_value-rows (found_of c.in-Ok-parse.found) (codes "count") ∙ soak.count_found)) c.in_default-get_str-2.is)

pub returns-clause-ok : goal.returns-clause-ok
returns-clause-ok c =
    let soak = soak_parsed _ c.args.words.now _ c.in-Ok.ensures c.in-Ok-parse.ensures.fine c.in-Ok-parse.ensures.found in
    let begin : soak.begin ≡ c.in-Some.begin.now = same_text soak.begin c.in-Some.begin c.get_str.result (c.get_str.ensures ∙ (first_value-rows (found_of c.in-Ok-parse.found) (codes "begin") ∙ soak.begin_found)) c.in-Some.is in
    let count : soak.count ≡ c.in-Some-get_str.count.now = same_text soak.count c.in-Some-get_str.count c.get_str-2.result (c.get_str-2.ensures ∙ (first_value-rows (found_of c.in-Ok-parse.found) (codes "count") ∙ soak.count_found)) c.in-Some-get_str.is in
    tells_ok _ _ c.soak.result (soak.asks ∙ ap₂ (λ (a b : List ℕ). soak_of (begin_of a) (count_of b)) begin count) c.soak.ensures

pub returns-clause-bad : goal.returns-clause-bad
returns-clause-bad c =
    let soak = soak_parsed _ c.args.words.now _ c.in-Ok.ensures c.in-Ok-parse.ensures.fine c.in-Ok-parse.ensures.found in
    let begin : soak.begin ≡ c.in-Some.begin.now = same_text soak.begin c.in-Some.begin c.get_str.result (c.get_str.ensures ∙ (first_value-rows (found_of c.in-Ok-parse.found) (codes "begin") ∙ soak.begin_found)) c.in-Some.is in
    let count : soak.count ≡ c.in-Some-get_str.count.now = same_text soak.count c.in-Some-get_str.count c.get_str-2.result (c.get_str-2.ensures ∙ (first_value-rows (found_of c.in-Ok-parse.found) (codes "count") ∙ soak.count_found)) c.in-Some-get_str.is in
    tells_bad _ _ c.soak.result (soak.asks ∙ ap₂ (λ (a b : List ℕ). soak_of (begin_of a) (count_of b)) begin count) c.soak.ensures
