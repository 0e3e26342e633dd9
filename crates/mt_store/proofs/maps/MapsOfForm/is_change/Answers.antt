use Rattle.std.proofs.Common.{◌≡◌, ◌∙◌, true, List, [], ◌∷◌, ◌++◌, ap, sym}
use Rattle.std.specs.Prelude.{Some}
use Rattle.mt_durable.specs.Reading.{entries_or_none, is_change, is_said, said}
use Rattle.mt_durable.specs.Setting.{with_all}
use Rattle.mt_durable.specs.declared.durable.Entry.{Entry}
use Rattle.mt_store.specs.Leading.{map_of}
use Rattle.mt_store.proofs.Leads.{always, map_more}
use Rattle.mt_store.proofs.maps.MapsOfForm.is_change.Goals as goal

pub returns-clause-told : goal.returns-clause-told
returns-clause-told g c = λ list leads.
    (let bytes = c.args.bytes.now in
    let map = c.args.self.now.map in
    let read = c.in-Ok.ensures.exact in
    let is : is_change bytes ≡ true = ap is_said read in
    let says : said bytes ≡ c.in-Ok.change = ap entries_or_none read in
    let after : with_all (said bytes) map ≡ c.merge.new.self = ap (λ (es : List Entry). with_all es map) says ∙ sym c.in_ok-merge.ensures.one_by_one in
    always c.admits.result (map_of (list ++ bytes ∷ []) ≡ Some c.merge.new.self)
    (map_more [] list bytes map is leads ∙ ap (λ (m : List Entry). Some m) after))
