-- A command of the code, in terms of the definitions.
use Rattle.std.specs.Prelude.{ℕ, List, Option, Some, option_map}
use Rattle.text_io.specs.Words.{words_of}
use Rattle.upc_cell.specs.declared.vc.Vc.{Vc}
use Rattle.text_script.specs.ScriptCommands.{Command, load, retire, setup, reload, release, cut, cell, wanted_contracts}
use Rattle.text_script.specs.declared.commands.Command.{Command as Coded}
use Rattle.text_script.specs.declared.commands.Command.TheVariants as coded

-- A setup with the contracts that these octets spell, one word each. None if they are not one to four contracts.
abbrev pub setup_seen : Vc → ℕ → List ℕ → Option Command
setup_seen vc number octets = option_map (λ wanted. setup vc number wanted) (wanted_contracts (words_of octets))

-- The command, with the content of its words. The code keeps the contracts of a setup as words; if these are not one to
-- four contracts, there is no command.
abbrev pub command_seen : Coded → Option Command
command_seen (coded.Load digits) = Some (load digits.now)
command_seen (coded.Retire number) = Some (retire number)
command_seen (coded.Setup vc number words) = setup_seen vc number words.now
command_seen (coded.Reload vc number) = Some (reload vc number)
command_seen (coded.Release vc) = Some (release vc)
command_seen (coded.Cut vc) = Some (cut vc)
command_seen (coded.Cell moment digits) = Some (cell moment digits.now)
