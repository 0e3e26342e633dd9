use Rattle.std.proofs.Common.{◌≡◌, ◌≤◌, ◌++◌, ◌∙◌, Some, length, ap, subst}
use Rattle.mt_tlv.specs.Parts.{start}
use Rattle.mt_tlv.specs.Runs.{parts_of, Comes, behind}
use Rattle.mt_soak.specs.Paths.{path_of}
use Rattle.mt_soak.specs.Codes.{codes_on, AreCounted}
use Rattle.mt_soak.proofs.Over.{told_over}
use Rattle.mt_soak.proofs.Short.{element_short}
use Rattle.mt_soak.proofs.codes.counting.count_codes.Goals as goal

pub returns-in-Some-clause-counted : goal.returns-in-Some-clause-counted
returns-in-Some-clause-counted c = λ tag message bytes rest h e.
    let comes : Comes (start c.args.payload.now) (parts_of tag message) (behind (length (bytes ++ rest)) rest) =
    rw e (c.cursor_comes_over_the_element.ensures.parts tag message bytes rest h) in
    let ended = c.cursor_comes_over_the_element.ensures.end (length (bytes ++ rest)) rest in
    let short : length (parts_of tag message) ≤ length c.args.payload.now = rw e (element_short tag message bytes rest h) in
    let counted = c.count_on_path.ensures.counted (parts_of tag message) (behind (length (bytes ++ rest)) rest) comes ended short in
    let path : Some c.in-Some.path.now ≡ path_of c.args.opcode = c.in-Some.ensures in
    subst (λ codes. AreCounted codes c.args.counts.now c.count_on_path.new.counts) (told_over c.in-Some.path.now tag message ∙ ap (λ o. codes_on o message) path) counted
