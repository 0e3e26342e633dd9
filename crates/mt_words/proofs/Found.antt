-- What is asked for by the texts that the parser found.
use Rattle.std.proofs.Common.{◌≡◌, ℕ, List, Bor, Some, None, Option, IfOk, IfErr, Result, option_map}
use Rattle.std.specs.Option.{ok_or}
use Rattle.mt_words.specs.declared.asked.Asked.{Asked}
use Rattle.mt_words.specs.declared.asked.WordsFault.{WordsFault}
use Rattle.mt_words.specs.declared.asked.WordsFault.TheVariants.{Bad}

-- a text that the parser found is there
pub not_missing : (text : List ℕ) (got : Option (Bor (List ℕ))) → option_map (λ s. s.now) got ≡ Some text → got ≡ None → ⊥
not_missing text None is none = cc
not_missing text (Some s) is none = cc

pub same_text : (text : List ℕ) (s : Bor (List ℕ)) (got : Option (Bor (List ℕ))) → option_map (λ s. s.now) got ≡ Some text → got ≡ Some s → text ≡ s.now
same_text text s None is some = cc
same_text text s (Some t) is some = cc

pub tells_ok : (found wanted : Option Asked) (r : Result Asked WordsFault) → wanted ≡ found → r ≡ ok_or found Bad → IfOk r (λ asked. wanted ≡ Some asked)
tells_ok None wanted r same is = rw is tt
tells_ok (Some asked) wanted r same is = rw is same

pub tells_bad : (found wanted : Option Asked) (r : Result Asked WordsFault) → wanted ≡ found → r ≡ ok_or found Bad → IfErr r (λ fault. fault ≡ Bad → wanted ≡ None)
tells_bad None wanted r same is = rw is (λ _. same)
tells_bad (Some asked) wanted r same is = rw is tt
