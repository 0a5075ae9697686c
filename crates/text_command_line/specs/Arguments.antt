-- Commands with arguments, and the values that their words give them.
use Rattle.std.specs.Prelude.{Bool, false, true, if◌then◌else◌, List, [], ◌∷◌, Option, Some, None, find, fold, map, option_and_then, option_map}
use Rattle.std.specs.Str.{bytes_eq}
use Rattle.std.specs.String.{string_bytes}
use Rattle.clap.specs.Simple.{App, new_app, new_rule, with_rule}
use Rattle.clap.specs.Walk.{Rule, Text}
use Rattle.clap.specs.declared.builder.action.ArgAction.TheVariants.{SetTrue}
use Rattle.text_command_line.specs.CommandLines.{argument_value}
use Rattle.text_command_line.specs.declared.arguments.Argument.{Argument}
use Rattle.text_command_line.specs.declared.arguments.Form.{Form}
use Rattle.text_command_line.specs.declared.arguments.Form.TheVariants.{Word, Valued, Flag}
use Rattle.text_command_line.specs.declared.arguments.Options.{Options}
use Rattle.text_command_line.specs.declared.arguments.Value.{Value}

-- The one value of an argument that isn't given, if it has one.
abbrev pub default_values : Option Text → List Text
default_values None = []
default_values (Some value) = value ∷ []

-- The argument of this name: an option `--NAME VALUE`, or a word that isn't an option. It may have a value if it isn't
-- given, or be required.
abbrev pub argument_rule : Text → Bool → Option Text → Bool → Rule
argument_rule name is_option default required = record (new_rule name) {
  long = if is_option then Some name else None;
  value_names = if is_option then 1 else 0;
  defaults = default_values default;
  required = required;
}

-- The option `--NAME`, which has no value of its own: clap reads `true` if it is given, and `false` otherwise.
abbrev pub flag_rule : Text → Rule
flag_rule name = record (new_rule name) {
  long = Some name;
  action = Some SetTrue;
}

-- The command with these arguments, and the option for help, which every command has.
unfoldable pub app_with_rules : Text → List Rule → App
app_with_rules name rules = fold with_rule (new_app name) rules

-- The rule of an argument in this form.
abbrev pub rule_in_form : Form → Text → Option Text → Bool → Rule
rule_in_form Word name default required = argument_rule name false default required
rule_in_form (Valued value_name) name default required = argument_rule name true default required
rule_in_form Flag name default required = record (flag_rule name) {
  defaults = default_values default;
  required = required;
}

-- The rule of an argument.
abbrev pub rule_of_argument : Argument → Rule
rule_of_argument argument = rule_in_form argument.form argument.name.now (option_map (λ text. text.now) argument.default) argument.required

-- The command with these options.
abbrev pub app_of_options : Options → App
app_of_options options = app_with_rules options.name.now (map rule_of_argument options.arguments.now)

-- The name of each argument, and its value by this function.
abbrev pub texts_by : (Text → Option Text) → List Argument → List (Text × Option Text)
texts_by value arguments = map (λ argument. (argument.name.now, value argument.name.now)) arguments

-- The name of each argument, and its value in words that clap accepts.
abbrev pub texts_in : Options → List Text → List (Text × Option Text)
texts_in options words = texts_by (argument_value (app_of_options options) words) options.arguments.now

-- The value of the argument with this name.
abbrev pub text_named : List (Text × Option Text) → Text → Option Text
text_named texts name = option_and_then (λ pair. pair.1) (find (λ pair. bytes_eq pair.0 name) texts)

-- The names and values as texts.
abbrev pub texts_of : List Value → List (Text × Option Text)
texts_of values = map (λ value. (value.name.now, option_map string_bytes value.text)) values
