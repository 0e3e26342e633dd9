-- Which privilege includes which.
use Rattle.std.specs.Prelude.{Bool, true, false}
use Rattle.mt_model.specs.declared.tables.access.Privilege.{Privilege}
use Rattle.mt_model.specs.declared.tables.access.Privilege.TheVariants.{View, ProxyView, Operate, Manage, Administer}

-- Operate and ProxyView include View, Manage includes Operate and View, Administer includes all.
abbrev pub includes : Privilege → Privilege → Bool
includes View View = true
includes View asked = false
includes ProxyView View = true
includes ProxyView ProxyView = true
includes ProxyView asked = false
includes Operate View = true
includes Operate Operate = true
includes Operate asked = false
includes Manage View = true
includes Manage Operate = true
includes Manage Manage = true
includes Manage asked = false
includes Administer asked = true
