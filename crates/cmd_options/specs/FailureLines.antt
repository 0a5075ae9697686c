-- The messages of devices that fail.
use Rattle.std.specs.Prelude.{ℕ, ◌==◌, if◌then◌else◌, List, ◌++◌, codes, length}
use Rattle.cmd_options.specs.declared.reason.Work.{Work}
use Rattle.cmd_options.specs.declared.reason.Work.TheVariants.{Reading, Writing}

-- What a device did when it failed.
abbrev pub work_text : Work → List ℕ
work_text Reading = codes "upc-lab: reading failed"
work_text Writing = codes "upc-lab: writing failed"

-- The message without a reason.
abbrev pub plain_line : Work → List ℕ
plain_line work = work_text work ++ codes "\n"

-- The message of a device that keeps this line: the line, unless it is empty.
abbrev pub failure_line : Work → List ℕ → List ℕ
failure_line work line = if length line == 0 then plain_line work else line
