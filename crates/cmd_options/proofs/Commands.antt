-- clap's definitions, computed for each command.
use Rattle.std.proofs.Common.{◌≡◌, refl, true}
use Rattle.clap.specs.Faults.{is_simple_and_free}
use Rattle.clap.proofs.OnLiterals.{clap_on_literals}
use Rattle.text_command_line.specs.Arguments.{app_with_rules}
use Rattle.cmd_options.specs.CellsOptions.{cells_app}
use Rattle.cmd_options.specs.DifferOptions.{differ_app}
use Rattle.cmd_options.specs.ExplainOptions.{explain_app}
use Rattle.cmd_options.specs.FitOptions.{fit_app}
use Rattle.cmd_options.specs.ForwardOptions.{forward_app}
use Rattle.cmd_options.specs.PoliceOptions.{police_app}
use Rattle.cmd_options.specs.WhyOptions.{why_app}

pub cells_is_free : is_simple_and_free cells_app ≡ true
unfolding cells_app app_with_rules clap_on_literals
cells_is_free = refl

pub fit_is_free : is_simple_and_free fit_app ≡ true
unfolding fit_app app_with_rules clap_on_literals
fit_is_free = refl

pub police_is_free : is_simple_and_free police_app ≡ true
unfolding police_app app_with_rules clap_on_literals
police_is_free = refl

pub differ_is_free : is_simple_and_free differ_app ≡ true
unfolding differ_app app_with_rules clap_on_literals
differ_is_free = refl

pub forward_is_free : is_simple_and_free forward_app ≡ true
unfolding forward_app app_with_rules clap_on_literals
forward_is_free = refl

pub why_is_free : is_simple_and_free why_app ≡ true
unfolding why_app app_with_rules clap_on_literals
why_is_free = refl

pub explain_is_free : is_simple_and_free explain_app ≡ true
unfolding explain_app app_with_rules clap_on_literals
explain_is_free = refl
