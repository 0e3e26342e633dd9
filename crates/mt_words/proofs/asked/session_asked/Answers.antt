use Rattle.std.proofs.Common.{◌≡◌, ◌∙◌, ap, codes, sym}
use Rattle.clap.proofs.WalkLemmas.{first_value-rows}
use Rattle.clap.specs.Words.{found_of}
use Rattle.mt_words.specs.Words.{session_of}
use Rattle.mt_words.proofs.Found.{not_missing, same_text}
use Rattle.mt_words.proofs.Sessions.{session_parsed, session_refused}
use Rattle.mt_words.proofs.asked.session_asked.Goals as goal

pub returns-in-Err-clause-bad : goal.returns-in-Err-clause-bad
returns-in-Err-clause-bad c = λ bad. session_refused c.args.name.now _ c.args.words.now c.in-Ok.ensures (c.in-Err.ensures.bad bad)

pub returns-in_default-get_str-clause-bad : goal.returns-in_default-get_str-clause-bad
returns-in_default-get_str-clause-bad c =
    let of = session_parsed c.args.name.now _ c.args.words.now _ c.in-Ok.ensures c.in-Ok-parse.ensures.fine c.in-Ok-parse.ensures.found in
    absurd (not_missing of.session c.get_str.result (c.get_str.ensures ∙ (first_value-rows (found_of c.in-Ok-parse.found) (codes "session") ∙ of.session_found)) c.in_default-get_str.is)

pub returns-in-Some-session_of-clause-ok : goal.returns-in-Some-session_of-clause-ok
returns-in-Some-session_of-clause-ok c =
    let of = session_parsed c.args.name.now _ c.args.words.now _ c.in-Ok.ensures c.in-Ok-parse.ensures.fine c.in-Ok-parse.ensures.found in
    let text : of.session ≡ c.in-Some.session.now = same_text of.session c.in-Some.session c.get_str.result (c.get_str.ensures ∙ (first_value-rows (found_of c.in-Ok-parse.found) (codes "session") ∙ of.session_found)) c.in-Some.is in
    of.named ∙ (ap session_of text ∙ sym c.in-Some-session_of.ensures)

pub returns-clause-bad : goal.returns-clause-bad
returns-clause-bad c =
    let of = session_parsed c.args.name.now _ c.args.words.now _ c.in-Ok.ensures c.in-Ok-parse.ensures.fine c.in-Ok-parse.ensures.found in
    let text : of.session ≡ c.in-Some.session.now = same_text of.session c.in-Some.session c.get_str.result (c.get_str.ensures ∙ (first_value-rows (found_of c.in-Ok-parse.found) (codes "session") ∙ of.session_found)) c.in-Some.is in
    λ _. of.named ∙ (ap session_of text ∙ sym c.in-None.ensures)
