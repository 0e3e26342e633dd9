use Rattle.std.proofs.Common.{◌≡◌, ◌∙◌, ap, codes, option_map}
use Rattle.clap.proofs.WalkLemmas.{first_value-rows}
use Rattle.clap.specs.Words.{found_of}
use Rattle.mt_words.specs.Words.{fabric_of}
use Rattle.mt_words.specs.declared.asked.Asked.TheVariants as asks
use Rattle.mt_words.proofs.Commanded.{compare_parsed, compare_refused}
use Rattle.mt_words.proofs.Found.{not_missing, same_text, tells_bad, tells_ok}
use Rattle.mt_words.proofs.asked.compare_asked.Goals as goal

pub returns-in-Err-clause-bad : goal.returns-in-Err-clause-bad
returns-in-Err-clause-bad c = λ bad. compare_refused _ c.args.words.now c.in-Ok.ensures (c.in-Err.ensures.bad bad)

pub returns-in_default-get_str-clause-bad : goal.returns-in_default-get_str-clause-bad
returns-in_default-get_str-clause-bad c =
    let compare = compare_parsed _ c.args.words.now _ c.in-Ok.ensures c.in-Ok-parse.ensures.fine c.in-Ok-parse.ensures.found in
    absurd (not_missing compare.fabric c.get_str.result (c.get_str.ensures ∙ (first_value-rows (found_of c.in-Ok-parse.found) (codes "fabric") ∙ compare.fabric_found)) c.in_default-get_str.is)

pub returns-clause-ok : goal.returns-clause-ok
returns-clause-ok c =
    let compare = compare_parsed _ c.args.words.now _ c.in-Ok.ensures c.in-Ok-parse.ensures.fine c.in-Ok-parse.ensures.found in
    let fabric : compare.fabric ≡ c.in-Some.fabric.now = same_text compare.fabric c.in-Some.fabric c.get_str.result (c.get_str.ensures ∙ (first_value-rows (found_of c.in-Ok-parse.found) (codes "fabric") ∙ compare.fabric_found)) c.in-Some.is in
    tells_ok _ _ c.compare.result (compare.asks ∙ ap (λ word. option_map asks.Compare (fabric_of word)) fabric) c.compare.ensures

pub returns-clause-bad : goal.returns-clause-bad
returns-clause-bad c =
    let compare = compare_parsed _ c.args.words.now _ c.in-Ok.ensures c.in-Ok-parse.ensures.fine c.in-Ok-parse.ensures.found in
    let fabric : compare.fabric ≡ c.in-Some.fabric.now = same_text compare.fabric c.in-Some.fabric c.get_str.result (c.get_str.ensures ∙ (first_value-rows (found_of c.in-Ok-parse.found) (codes "fabric") ∙ compare.fabric_found)) c.in-Some.is in
    tells_bad _ _ c.compare.result (compare.asks ∙ ap (λ word. option_map asks.Compare (fabric_of word)) fabric) c.compare.ensures
