-- What a configuration has.
use Rattle.std.specs.Prelude.{ℕ, List}
use Rattle.mt_model.specs.declared.tables.access.AclEntry.{AclEntry}
use Rattle.mt_model.specs.declared.texts.config.Config.{Config}
use Rattle.mt_model.specs.declared.texts.config.CsrRow.{CsrRow}
use Rattle.mt_model.specs.declared.texts.config.JoinRow.{JoinRow}
use Rattle.mt_model.specs.declared.texts.config.RootRow.{RootRow}
use Rattle.mt_model.specs.declared.texts.config.SessionRow.{SessionRow}
use Rattle.mt_model.specs.declared.tables.fabric.Fabric.{Fabric}

-- a configuration without the facts that it keeps
pub record Contents : Type 0 where
  pub fabrics : List Fabric
  pub entries : List AclEntry
  pub sessions : List SessionRow
  pub roots : List RootRow
  pub csrs : List CsrRow
  pub joins : List JoinRow
  pub reachable : List (List ℕ)

abbrev pub contents_of : Config → Contents
contents_of config = record {
  fabrics = config.fabrics;
  entries = config.entries;
  sessions = config.sessions;
  roots = config.roots;
  csrs = config.csrs;
  joins = config.joins;
  reachable = config.reachable;
}
