-- The options are those that clap finds in the words, if their values spell something.
use Rattle.std.proofs.Common.{◌∙◌, ap, map}
use Rattle.std.specs.String.{string_bytes}
use Rattle.text_command_line.specs.Arguments.{texts_of}
use Rattle.cmd_options.specs.DifferOptions.{differ_app, differ_asked, differ_asked_by}
use Rattle.cmd_options.specs.inner.Answered.{differ_spelled}
use Rattle.cmd_options.proofs.Answering.{answers_stop, answers_values}
use Rattle.cmd_options.proofs.Commands.{differ_is_free}
use Rattle.cmd_options.proofs.differ.differ_options.Goals as goal

pub values_of_words-requires : goal.values_of_words-requires
unfolding differ_app
values_of_words-requires c = differ_is_free

pub returns-in_err-values : goal.returns-in_err-values
unfolding differ_app
returns-in_err-values c =
    answers_stop differ_app differ_asked differ_asked_by (map string_bytes c.args.words.items) c.in_err-values.field-0.0 c.from_residual.result
    c.in_err-values.ensures.stopped c.in_err-values.ensures.taken c.from_residual.ensures.1

pub returns : goal.returns
unfolding differ_app
returns c =
    answers_values differ_app differ_asked differ_asked_by (map string_bytes c.args.words.items) (differ_spelled (texts_of c.deref.result.now)) c.read.result
    c.in_ok-values.ensures.faultless
    (ap (λ items. differ_spelled (texts_of items)) c.deref.ensures.value ∙ ap differ_spelled c.in_ok-values.ensures.values) c.read.ensures
