-- A command as the parser has it: so many words that have to be there, no option, no help.
use Rattle.std.specs.Prelude.{List, [], ◌∷◌, codes, map, Some, true}
use Rattle.clap.specs.Simple.{App, new_rule, new_shape}
use Rattle.clap.specs.Walk.{Rule, Text}
use Rattle.clap.specs.declared.builder.action.ArgAction.TheVariants.{Set}

abbrev pub required_rule : Text → Rule
required_rule id = record (new_rule id) { action = Some Set; required = true }

-- the command of this name, which takes a word for each of these
abbrev pub app_with : Text → List Text → App
app_with name ids = record {
  top = record (new_shape name) {
    rules = map required_rule ids;
    disable_help_flag = true;
    disable_version_flag = true;
  };
  subs = [];
}

abbrev pub replay_app : App
replay_app = app_with (codes "replay") (codes "config" ∷ codes "recording" ∷ [])

abbrev pub soak_app : App
soak_app = app_with (codes "soak") (codes "begin" ∷ codes "count" ∷ codes "config" ∷ [])

abbrev pub compare_app : App
compare_app = app_with (codes "compare") (codes "fabric" ∷ codes "config" ∷ codes "first" ∷ codes "second" ∷ [])

abbrev pub settle_app : App
settle_app = app_with (codes "settle") (codes "config" ∷ codes "journal" ∷ [])

-- `ask` and `show`, each of a session
abbrev pub session_app : Text → App
session_app name = app_with name (codes "session" ∷ codes "config" ∷ codes "file" ∷ [])
