use Rattle.std.proofs.Common.{◌≡◌, ◌∙◌, [], ap, ap₂, false, true}
use Rattle.std.proofs.lemmas.Result.{IfOk-weaker}
use Rattle.clap.specs.Words.{AddsArg, App, Rule, Text, app_of, new_app, rule_of, with_rule}
use Rattle.clap.specs.Simple.{app_of_fields, on_top}
use Rattle.clap.specs.declared.builder.arg.Arg.{Arg}
use Rattle.clap.specs.declared.builder.command.Command.{Command}
use Rattle.clap.specs.declared.builder.command.Command.TheViews.{out-Command as fields_of}
use Rattle.mt_words.specs.Parsed.{app_with}
use Rattle.mt_words.proofs.parse.compare_command.Goals as goal

-- a command with no flag for help and version takes no word yet
begun : (first second third : Command) (name : Text) → app_of first ≡ new_app name → fields_of second ≡ record (fields_of first) { disable_help_flag = true }
    → fields_of third ≡ record (fields_of second) { disable_version_flag = true } → app_of third ≡ app_with name []
begun first second third name new help version =
    ap app_of_fields version ∙ (ap (λ f. app_of_fields (record f { disable_version_flag = true })) help
    ∙ ap (on_top (λ s. record s { disable_help_flag = true; disable_version_flag = true })) new)

-- and one word more
further : (old new : Command) (word : Arg) (app : App) (rule : Rule) → app_of old ≡ app → rule_of word ≡ rule → word.global ≡ false → AddsArg old word new → app_of new ≡ with_rule app rule
further old new word app rule is same local adds = adds.shape local ∙ ap₂ with_rule is same

pub returns : goal.returns
returns c =
    let bare = begun _ _ _ _ c.new.ensures.app c.disable_help_flag.ensures c.disable_version_flag.ensures in
    let one = further _ _ _ _ _ bare c.required.ensures.rule c.required.ensures.local c.in_ok-arg.ensures in
    let two = further _ _ _ _ _ one c.required-2.ensures.rule c.required-2.ensures.local c.in_ok-arg-2.ensures in
    let three = further _ _ _ _ _ two c.required-3.ensures.rule c.required-3.ensures.local c.in_ok-arg-3.ensures in
    IfOk-weaker c.arg-4.result _ _ (λ command adds. further _ _ _ _ _ three c.required-4.ensures.rule c.required-4.ensures.local adds) c.arg-4.ensures
