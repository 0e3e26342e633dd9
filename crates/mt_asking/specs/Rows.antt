-- The session that an id names among those of a configuration.
use Rattle.std.specs.Prelude.{◌≢◌, ℕ, ◌==◌, ◌&&◌, Bool, Option, find}
use Rattle.mt_model.specs.declared.tables.access.Auth.TheVariants.{Group}
use Rattle.mt_model.specs.declared.texts.config.SessionRow.{SessionRow}
use Rattle.mt_model.specs.texts.Contents.{Contents}

-- whether a row is of the first boot and has this id
abbrev pub is_named : ℕ → SessionRow → Bool
is_named session row = (row.boot == 1) && (row.session == session)

-- The row of boot 1 with this id. A configuration has one at most.
abbrev pub row_of : ℕ → Contents → Option SessionRow
row_of session contents = find (is_named session) contents.sessions

-- a row as a session needs it: of PASE or CASE, with two ids that are not 0
pub record IsUnicast (row : SessionRow) : Type 0 where
  pub auth : row.auth ≢ Group
  pub session : row.session ≢ 0
  pub peer_session : row.peer_session ≢ 0
