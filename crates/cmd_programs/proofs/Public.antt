-- Lemmas for other crates.
use Rattle.std.proofs.Common.{◌≡◌, ℕ, List}
use Rattle.bpf_code.specs.declared.instr.Instr.{Instr}
use Rattle.text_io.specs.declared.ending.Done.{Done}
use Rattle.cmd_programs.specs.Check.{IsCheckText}
use Rattle.cmd_programs.specs.Eval.{IsEvalText}
use Rattle.cmd_programs.specs.Program.{ProgramReading, ChecksAs, ReadsAs}
use Rattle.cmd_programs.proofs.CheckText as check
use Rattle.cmd_programs.proofs.OneText as eval
use Rattle.cmd_programs.specs.inner.ReadingLaws as reading
-- An input has one text of a subcommand for one program, if each code and each later line have one, and so if each cell has one.
pub use Rattle.cmd_programs.proofs.OneProgramText.{AnswersOnce, IsOnce, cells-once, one-program_text, some-program_text}

-- Any octets are a program or refused.
pub reads-as : (octets : List ℕ) → (reading : ProgramReading) × ReadsAs octets reading
reads-as = reading.reads-as

-- They are so in one way only.
pub reads-once : (octets : List ℕ) (one other : ProgramReading) → ReadsAs octets one → ReadsAs octets other → one ≡ other
reads-once = reading.reads-once

-- The same for a code.
pub checks-as : (code : List Instr) → (reading : ProgramReading) × ChecksAs code reading
checks-as = reading.checks-as

pub checks-once : (code : List Instr) (one other : ProgramReading) → ChecksAs code one → ChecksAs code other → one ≡ other
checks-once = reading.checks-once

-- An input has a text of `check`.
pub some-check_text : (octets : List ℕ) → (text : List ℕ) × (done : Done) × IsCheckText octets text done
some-check_text = check.some-check_text

-- It has only one.
pub one-check_text : (octets one other : List ℕ) (ends other_ends : Done) → IsCheckText octets one ends → IsCheckText octets other other_ends → (one ≡ other) × (ends ≡ other_ends)
one-check_text = check.one-check_text

-- An input has a text of `eval`.
pub some-eval_text : (octets : List ℕ) → (text : List ℕ) × (done : Done) × IsEvalText octets text done
some-eval_text = eval.some-eval_text

-- It has only one.
pub one-eval_text : (octets one other : List ℕ) (ends other_ends : Done) → IsEvalText octets one ends → IsEvalText octets other other_ends → (one ≡ other) × (ends ≡ other_ends)
one-eval_text = eval.one-eval_text
