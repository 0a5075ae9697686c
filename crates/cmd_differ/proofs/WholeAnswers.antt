-- Every old text and every input have an answer.
use Rattle.std.proofs.Common.{◌≡◌, ◌⊎◌, ℕ, ◌+◌, ◌≤◌, inl, inr, Bool, List, [], ◌++◌, Option, Some, None, Result, Ok, Err, length, refl, ap, sym, ◌∙◌, subst, arith, append-nil, nat_lt, if◌then◌else◌}
use Rattle.bpf_asm.specs.SourceLines.{source_lines}
use Rattle.rules_text.specs.TextOfRules.{PlacedRulesRead, placed_rules_in}
use Rattle.rules_text.specs.declared.fault.RuleFault.{RuleFault}
use Rattle.text_io.specs.Devices.{TakesEnough}
use Rattle.text_io.specs.Gathered.{gathered, LeavesAfter}
use Rattle.text_io.specs.Limits.{most_ahead}
use Rattle.text_io.specs.declared.ending.Done.{Done}
use Rattle.text_io.specs.declared.ending.Done.TheVariants.{Whole, Ended}
use Rattle.text_words.specs.FaultLines.{too_long}
use Rattle.cmd_rules.specs.RuleFaults.{rule_fault}
use Rattle.cmd_rules.specs.RulesAnswers.{most_rules_octets}
use Rattle.cmd_programs.specs.Program.{ProgramReading, is_program, is_refused}
use Rattle.cmd_differ.specs.DifferText.{FindsSide, IsDifferAnswer, PrintsDiffer, PrintsSideFault, new_mark, not_decided, old_mark}
use Rattle.cmd_differ.specs.Findings.{finding_done}
use Rattle.cmd_differ.specs.declared.finding.Finding.{Finding}
use Rattle.cmd_differ.specs.declared.finding.Finding.TheVariants.{Faulty, Undecided}
use Rattle.cmd_differ.specs.ProgramText.{ReadsProgramText, spoken_lines}
use Rattle.cmd_differ.specs.Sides.{SideRead, side_program, side_rules}
use Rattle.cmd_differ.specs.declared.kinds.TextKind.{TextKind}
use Rattle.cmd_differ.specs.declared.kinds.TextKind.TheVariants.{Rules as OfRules, Program as OfProgram}
use Rattle.cmd_differ.specs.declared.kinds.TextKinds.{TextKinds}
use Rattle.cmd_differ.proofs.ProgramLines.{spoken_read}

-- Some answer to two texts that were found.
abbrev HasAnswer : TextKinds → Bool → Option (List ℕ) → Option (List ℕ) → Type 0
HasAnswer kinds lines old new = (answer : List ℕ) × (finding : Finding) × PrintsDiffer kinds lines old new answer finding

-- A text that was found is a side or has a fault, after any mark.
abbrev IsRead : TextKind → List ℕ → Option (List ℕ) → Type 0
IsRead kind mark found = ((side : SideRead) × FindsSide kind found side) ⊎ ((answer : List ℕ) × PrintsSideFault kind mark found answer)

rules_read_as : (mark text : List ℕ) (read : Result PlacedRulesRead RuleFault) → placed_rules_in text ≡ read → IsRead OfRules mark (Some text)
rules_read_as mark text (Ok placed_rules) same = inl (side_rules placed_rules, (placed_rules, (text, refl, same), refl))
rules_read_as mark text (Err fault) same = inr (mark ++ rule_fault fault, (fault, same, refl))

program_read_as : (mark text : List ℕ) (reading : ProgramReading) → ReadsProgramText text reading → IsRead OfProgram mark (Some text)
program_read_as mark text (is_program code) reads = inl (side_program code, (code, (text, refl, reads), refl))
program_read_as mark text (is_refused fault) reads = inr (mark ++ fault, (fault, reads, refl))

side_read_as : (kind : TextKind) (mark : List ℕ) (found : Option (List ℕ)) → IsRead kind mark found
side_read_as OfRules mark None = inr (mark ++ too_long, refl)
side_read_as OfRules mark (Some text) = rules_read_as mark text (placed_rules_in text) refl
side_read_as OfProgram mark None = inr (mark ++ too_long, refl)
side_read_as OfProgram mark (Some text) = let read = spoken_read (spoken_lines (source_lines text)) in program_read_as mark text read.0 read.1

new_read : (kinds : TextKinds) (lines : Bool) (old new : Option (List ℕ)) (was : SideRead) → FindsSide kinds.old old was → IsRead kinds.new new_mark new → HasAnswer kinds lines old new
new_read kinds lines old new was finds (inl (is, found)) = (not_decided, Undecided, inr (was, finds, inr (is, found, inr (inl refl, refl))))
new_read kinds lines old new was finds (inr (answer, faulty)) = (answer, Faulty, inr (was, finds, inl (faulty, refl)))

both_read : (kinds : TextKinds) (lines : Bool) (old new : Option (List ℕ)) → IsRead kinds.old old_mark old → HasAnswer kinds lines old new
both_read kinds lines old new (inl (was, finds)) = new_read kinds lines old new was finds (side_read_as kinds.new new_mark new)
both_read kinds lines old new (inr (answer, faulty)) = (answer, Faulty, inl (faulty, refl))

pub some_answer : (kinds : TextKinds) (lines : Bool) (old octets : List ℕ) → (answer : List ℕ) × (done : Done) × IsDifferAnswer kinds lines old octets answer done
some_answer kinds lines old octets =
    let was = gathered most_rules_octets old in
    let has = both_read kinds lines was (gathered most_rules_octets octets) (side_read_as kinds.old old_mark was) in
    (has.0, finding_done has.1, (has.1, has.2, refl))

-- One octet more than the limit is over the limit.
pub gathered_none : (octets : List ℕ) → length octets ≡ most_rules_octets + 1 → gathered most_rules_octets octets ≡ None
gathered_none octets sized = ap (λ n. if nat_lt most_rules_octets n then None else Some octets) sized

-- The octets that were read are enough for the answer.
pub enough : (kinds : TextKinds) (lines : Bool) (old octets left : List ℕ) (found : Option (List ℕ)) (answer : List ℕ) (finding : Finding) → found ≡ gathered most_rules_octets octets
    → LeavesAfter most_rules_octets found octets left → PrintsDiffer kinds lines (gathered most_rules_octets old) found answer finding
    → TakesEnough (λ needed. (output : List ℕ) × IsDifferAnswer kinds lines old needed output (finding_done finding)) most_ahead octets left
enough kinds lines old octets left None answer finding is after prints =
    let P : Option (List ℕ) → Type 0 = λ found. PrintsDiffer kinds lines (gathered most_rules_octets old) found answer finding in
    let none : length {A = ℕ} [] ≤ most_ahead = omega arith in
    (after.0, [], after.1, none, (answer, (finding, subst P (sym (gathered_none after.0 after.2)) prints, refl)))
enough kinds lines old octets left (Some text) answer finding is after prints =
    let P : Option (List ℕ) → Type 0 = λ found. PrintsDiffer kinds lines (gathered most_rules_octets old) found answer finding in
    let none : length {A = ℕ} [] ≤ most_ahead = omega arith in
    (octets, [], sym (append-nil octets) ∙ ap (λ xs. octets ++ xs) (sym after), none, (answer, (finding, subst P is prints, refl)))

none_found : (kind : TextKind) (side : SideRead) → FindsSide kind None side → ⊥
none_found OfRules side finds = let bad : None ≡ Some finds.1.0 = finds.1.1 in absurd (cc)
none_found OfProgram side finds = let bad : None ≡ Some finds.1.0 = finds.1.1 in absurd (cc)

-- If texts are the same, the whole input was read.
pub whole_read : (kinds : TextKinds) (lines : Bool) (old found : Option (List ℕ)) (octets left answer : List ℕ) (finding : Finding) → finding_done finding ≡ Whole
    → PrintsDiffer kinds lines old found answer finding → LeavesAfter most_rules_octets found octets left → left ≡ []
whole_read kinds lines old (Some text) octets left answer finding whole prints after = after
whole_read kinds lines old None octets left answer finding whole (inl faulty) after = let bad : Ended ≡ Whole = sym (ap finding_done faulty.1) ∙ whole in absurd (cc)
whole_read kinds lines old None octets left answer finding whole (inr (was, finds, inl faulty)) after = let bad : Ended ≡ Whole = sym (ap finding_done faulty.1) ∙ whole in absurd (cc)
whole_read kinds lines old None octets left answer finding whole (inr (was, finds, inr (is, found, prints))) after = absurd (none_found kinds.new is found)
