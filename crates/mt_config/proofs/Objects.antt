-- Which bytes are a JSON object.
use Rattle.std.proofs.Common.{◌≡◌, ℕ, Bool, true, false, if◌then◌else◌, List, Option, Some, None, is_some, option_and_then, refl}
use Rattle.std.proofs.lemmas.Str.{is_utf8-from_IsUtf8, IsUtf8-from_is_utf8}
use Rattle.std.specs.Str.{IsUtf8, is_utf8}
use Rattle.serde_json.specs.Data.{Data}
use Rattle.serde_json.specs.Find.{as_object}
use Rattle.serde_json.specs.Read as json
use Rattle.mt_config.specs.Configuration.{if_object, object}

chosen : (utf8 : Bool) (read : Option Data) (d : Data) → utf8 ≡ true → read ≡ Some d → is_some (as_object d) ≡ true → (if utf8 then option_and_then if_object read else None) ≡ Some d
chosen utf8 read d u r o = rw (u, r, o) refl

refused : (utf8 : Bool) (read : Option Data) → (utf8 ≡ true → read ≡ None) → (if utf8 then option_and_then if_object read else None) ≡ None
refused true read r = rw (r refl) refl
refused false read r = refl

pub object_found : (bytes : List ℕ) (d : Data) → IsUtf8 bytes → json.read bytes ≡ Some d → is_some (as_object d) ≡ true → object bytes ≡ Some d
unfolding object
object_found bytes d u r o = chosen (is_utf8 bytes) (json.read bytes) d (is_utf8-from_IsUtf8 bytes u) r o

pub object_refused : (bytes : List ℕ) → (IsUtf8 bytes → json.read bytes ≡ None) → object bytes ≡ None
unfolding object
object_refused bytes r = refused (is_utf8 bytes) (json.read bytes) (λ u. r (IsUtf8-from_is_utf8 bytes u))
