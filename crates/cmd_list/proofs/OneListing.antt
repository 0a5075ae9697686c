-- An input has one output of `list`.
use Rattle.std.proofs.Common.{◌≡◌, ℕ, List, ◌++◌, sym, ap, ◌∙◌}
use Rattle.bpf_code.specs.declared.instr.Instr.{Instr}
use Rattle.cmd_list.specs.ListedProgram.{IsListText, IsProgramListing, list_texts, longest_line, program_listing}
use Rattle.cmd_list.specs.inner.ListLaws.{list-each}
use Rattle.cmd_list.specs.inner.LongestRuns.{one-longest}
use Rattle.cmd_programs.proofs.Public.{AnswersOnce, one-program_text, some-program_text}
use Rattle.text_io.specs.declared.ending.Done.{Done}

-- A code has one longest run, and so one listing.
listing-once : (code : List Instr) (text text' : List ℕ) → IsProgramListing code text → IsProgramListing code text' → text ≡ text'
listing-once code text text' p q =
    let same = one-longest code p.0 q.0 p.1 q.1 in
    p.2 ∙ ap (λ (most : ℕ). program_listing code ++ longest_line most) same ∙ sym q.2

list-once : AnswersOnce list_texts
list-once = record { first = listing-once; later = λ code words text text' turn turn' p q. (p.0 ∙ sym q.0, p.1 ∙ sym q.1) }

pub one-list_text : (octets one other : List ℕ) (ends other_ends : Done) → IsListText octets one ends → IsListText octets other other_ends → (one ≡ other) × (ends ≡ other_ends)
one-list_text = one-program_text list_texts list-once

pub some-list_text : (octets : List ℕ) → (text : List ℕ) × (done : Done) × IsListText octets text done
some-list_text = some-program_text list_texts list-each
