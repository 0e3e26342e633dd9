-- The last payload.
use Rattle.std.proofs.Common.{◌≡◌, ℕ, Bool, true, false, Option, List, [], ◌∷◌, ◌++◌, map, refl, ap}
use Rattle.mt_im_out.specs.Chunks.{Part, report_payload, report_payloads}

pub last_ends : (subscription : Option ℕ) (suppress : Bool) (parts : List Part) (last : Part)
    → report_payloads subscription suppress (parts ++ last ∷ []) ≡ map (λ part. report_payload subscription part true false) parts ++ report_payload subscription last false suppress ∷ []
last_ends subscription suppress [] last = refl
last_ends subscription suppress (part ∷ []) last = refl
last_ends subscription suppress (part ∷ next ∷ parts) last = ap (λ ps. report_payload subscription part true false ∷ ps) (last_ends subscription suppress (next ∷ parts) last)
