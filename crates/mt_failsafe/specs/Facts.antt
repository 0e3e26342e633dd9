-- What holds of an armed fail-safe at every time: not both of added and updated; what was added is the context; what was
-- updated is owner and context; where nothing was added the context is the owner; credentials are saved exactly where
-- there was an update. Where the table of fabrics is known too, what was added is there, and what is saved is of what was updated.
use Rattle.std.specs.Prelude.{ℕ, ◌==◌, ◌&&◌, not, Bool, true, false, is_some, Option, Some, None}
use Rattle.mt_model.specs.declared.tables.fabric.Credentials.{Credentials}
use Rattle.mt_model.specs.declared.tables.network.Armed.{Armed}

abbrev pub is_added_to : (ℕ → Bool) → Armed → Option ℕ → Bool
is_added_to is_there armed None = armed.context == armed.owner
is_added_to is_there armed (Some fabric) = armed.context == fabric && is_there fabric

abbrev pub is_updated_in : (ℕ → Option Credentials → Bool) → Armed → Option ℕ → Option ℕ → Bool
is_updated_in saves armed added None = not (is_some armed.saved_credentials)
is_updated_in saves armed None (Some fabric) = armed.owner == fabric && (armed.context == fabric && saves fabric armed.saved_credentials)
is_updated_in saves armed (Some added) (Some fabric) = false

-- of any table
abbrev pub keeps_facts : Option Armed → Bool
keeps_facts None = true
keeps_facts (Some armed) = is_added_to (λ fabric. true) armed armed.added && is_updated_in (λ fabric. is_some) armed armed.added armed.updated
