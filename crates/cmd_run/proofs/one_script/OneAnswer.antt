-- The view of a card leaves one answer to each line, and one view after it.
use Rattle.std.proofs.Common.{◌≡◌, ℕ, ◌==◌, Bool, true, false, List, [], ◌∷◌, length, codes, Option, Some, None, refl, sym, ap, ◌∙◌, subst}
use Rattle.std.specs.Bool.{MatchBool}
use Rattle.std.specs.Option.{MatchOption}
use Rattle.std.proofs.lemmas.Option.{same_Some}
use Rattle.upc_cell.specs.Connection.{vc_of}
use Rattle.upc_cell.specs.declared.vc.Vc.{Vc}
use Rattle.bpf_code.specs.declared.instr.Instr.{Instr}
use Rattle.bpf_interp.proofs.Public.{Value-unique}
use Rattle.leaky.proofs.Public.{equal_numbers_make_equal_rates}
use Rattle.leaky.specs.declared.contract.Contract.{Contract}
use Rattle.leaky.specs.declared.contract.Contract.TheVariants.{Cbr1, Vbr1, Vbr2, Vbr3}
use Rattle.leaky.specs.declared.gcra.Gcra.{Gcra}
use Rattle.leaky.specs.declared.gcra.GcraFault.{GcraFault}
use Rattle.card_core.specs.Steps.{Gives}
use Rattle.card_core.specs.declared.answer.Answer.{Answer}
use Rattle.text_words.specs.FaultLines.{bad_hex, bad_line, wrong_length}
use Rattle.text_card.specs.CardFaults.{arrive_fault, gcra_fault, no_such_program}
use Rattle.text_words.specs.Hexadecimal.{cell_of_octets, octets_of_digits}
use Rattle.cmd_programs.specs.Program.{ProgramReading, is_program, is_refused}
use Rattle.text_script.specs.Rates.{AreContracts, IsContract, IsRate, first_wanted_fault}
use Rattle.text_card.specs.Replies.{answer_text}
use Rattle.text_script.specs.ScriptCommands.{Command, cell, command_of, cut, load, release, reload, retire, setup}
use Rattle.text_script.specs.declared.script_words.Rate.{Rate}
use Rattle.text_script.specs.declared.script_words.Wanted.{Wanted}
use Rattle.text_script.specs.declared.script_words.Wanted.TheVariants as wanted
use Rattle.cmd_programs.proofs.Public.{reads-once}
use Rattle.cmd_run.proofs.one_script.CellAnswers.{FoundSeen, JudgesSeen, PolicesSeen, judged_text, seen_refusal}
use Rattle.cmd_run.proofs.one_script.CellSteps.{judged_seen, seen_cell}
use Rattle.cmd_run.proofs.one_script.Numbers.{is_number}
use Rattle.cmd_run.proofs.one_script.Seen.{Seen, SeenConnection, found_at}
use Rattle.cmd_run.proofs.one_script.SeenLines.{AsksSeen, LineSeen, LoadsSeen, NamedSeen, ObeysSeen, ReadingSeen, ReloadsSeen, RetiresSeen, SetsUpSeen, SizedSeen, StaysSeen, TakesSeen}

-- The request that gives this contract.
abbrev asked : Contract → Wanted
asked (Cbr1 peak) = wanted.Cbr1 (record { increment = peak.increment; limit = peak.limit })
asked (Vbr1 peak other) = wanted.Vbr1 (record { increment = peak.increment; limit = peak.limit }) (record { increment = other.increment; limit = other.limit })
asked (Vbr2 peak other) = wanted.Vbr2 (record { increment = peak.increment; limit = peak.limit }) (record { increment = other.increment; limit = other.limit })
asked (Vbr3 peak other) = wanted.Vbr3 (record { increment = peak.increment; limit = peak.limit }) (record { increment = other.increment; limit = other.limit })

abbrev rate_of : Gcra → Rate
rate_of gcra = record { increment = gcra.increment; limit = gcra.limit }

rate-is : (rate : Rate) (gcra : Gcra) → IsRate rate gcra → rate_of gcra ≡ rate
rate-is rate gcra is = λ i. record { increment = is.0 i; limit = is.1 i }

asked-is : (ask : Wanted) (contract : Contract) → IsContract ask contract → asked contract ≡ ask
asked-is (wanted.Cbr1 peak) (Cbr1 bucket) is = ap (λ rate. wanted.Cbr1 rate) (rate-is peak bucket is)
asked-is (wanted.Vbr1 peak sustained) (Vbr1 bucket other) is = let one = rate-is peak bucket is.0 in let two = rate-is sustained other is.1 in λ i. wanted.Vbr1 (one i) (two i)
asked-is (wanted.Vbr2 peak sustained) (Vbr2 bucket other) is = let one = rate-is peak bucket is.0 in let two = rate-is sustained other is.1 in λ i. wanted.Vbr2 (one i) (two i)
asked-is (wanted.Vbr3 peak sustained) (Vbr3 bucket other) is = let one = rate-is peak bucket is.0 in let two = rate-is sustained other is.1 in λ i. wanted.Vbr3 (one i) (two i)
asked-is _ _ is = absurd is

rate-once : (one other : Gcra) → rate_of one ≡ rate_of other → one ≡ other
rate-once one other same = equal_numbers_make_equal_rates one other (ap (λ (rate : Rate). rate.increment) same) (ap (λ (rate : Rate). rate.limit) same)

asked-once : (one other : Contract) → asked one ≡ asked other → one ≡ other
asked-once (Cbr1 a) (Cbr1 c) same = ap (λ gcra. Cbr1 gcra) (rate-once a c cc)
asked-once (Vbr1 a b) (Vbr1 c d) same = let one = rate-once a c cc in let two = rate-once b d cc in λ i. Vbr1 (one i) (two i)
asked-once (Vbr2 a b) (Vbr2 c d) same = let one = rate-once a c cc in let two = rate-once b d cc in λ i. Vbr2 (one i) (two i)
asked-once (Vbr3 a b) (Vbr3 c d) same = let one = rate-once a c cc in let two = rate-once b d cc in λ i. Vbr3 (one i) (two i)
asked-once _ _ same = absurd (cc)

-- Requested contracts are made in one way.
pub contracts-once : (asks : List Wanted) (one other : List Contract) → AreContracts asks one → AreContracts asks other → one ≡ other
contracts-once [] [] [] p q = refl
contracts-once [] [] (contract ∷ other) p q = absurd q
contracts-once [] (contract ∷ one) other p q = absurd p
contracts-once (ask ∷ later) [] other p q = absurd p
contracts-once (ask ∷ later) (contract ∷ one) [] p q = absurd q
contracts-once (ask ∷ later) (contract ∷ one) (another ∷ other) p q =
    let first = asked-once contract another (asked-is ask contract p.0 ∙ sym (asked-is ask another q.0)) in
    let rest = contracts-once later one other p.1 q.1 in
    λ i. first i ∷ rest i

-- The texts are equal, and so are the views after them.
abbrev pub Same : List ℕ → List ℕ → Seen → Seen → Type 0
Same one other to to' = (one ≡ other) × (to ≡ to')

takes-once : (found : Option (List ℕ)) (next : Seen) (one other : List ℕ) (to to' : Seen)
    → TakesSeen found next one to → TakesSeen found next other to' → Same one other to to'
takes-once found next one other to to' p q = (same_Some one other (sym p.0 ∙ q.0), p.1 ∙ sym q.1)

stays-once : (s : Seen) (fault one other : List ℕ) (to to' : Seen) → StaysSeen s fault one to → StaysSeen s fault other to' → Same one other to to'
stays-once s fault one other to to' p q = (p.0 ∙ sym q.0, p.1 ∙ sym q.1)

reading-once : (s : Seen) (reading : ProgramReading) (one other : List ℕ) (to to' : Seen)
    → ReadingSeen s reading one to → ReadingSeen s reading other to' → Same one other to to'
reading-once s (is_program code) one other to to' p q = takes-once _ _ one other to to' p q
reading-once s (is_refused fault) one other to to' p q = stays-once s fault one other to to' p q

load-once : (s : Seen) (octets : Option (List ℕ)) (one other : List ℕ) (to to' : Seen)
    → MatchOption octets (StaysSeen s bad_hex one to) (λ found. LoadsSeen s found one to)
    → MatchOption octets (StaysSeen s bad_hex other to') (λ found. LoadsSeen s found other to') → Same one other to to'
load-once s None one other to to' p q = stays-once s bad_hex one other to to' p q
load-once s (Some octets) one other to to' p q =
    let P : ProgramReading → Type 0 = λ reading. ReadingSeen s reading other to' in
    reading-once s p.0 one other to to' p.2 (subst P (reads-once octets q.0 p.0 q.1 p.1) q.2)

named-once : (s : Seen) (AnswersSeen : List ℕ → Seen → Type 0) (one other : List ℕ) (to to' : Seen)
    → (AnswersSeen one to → AnswersSeen other to' → Same one other to to') → (b : Bool)
    → MatchBool b (AnswersSeen one to) (StaysSeen s no_such_program one to)
    → MatchBool b (AnswersSeen other to') (StaysSeen s no_such_program other to') → Same one other to to'
named-once s AnswersSeen one other to to' once true p q = once p q
named-once s AnswersSeen one other to to' once false p q = stays-once s no_such_program one other to to' p q

asks-once : (s : Seen) (vc : Vc) (number : ℕ) (asks : List Wanted) (one other : List ℕ) (to to' : Seen)
    → AsksSeen s vc number asks one to → AsksSeen s vc number asks other to' → Same one other to to'
asks-once s vc number asks one other to to' p q =
    let P : List Contract → Type 0 = λ contracts. SetsUpSeen s vc number contracts other to' in
    takes-once _ _ one other to to' p.2 (subst P (contracts-once asks q.0 p.0 q.1 p.1) q.2)

setup-once : (s : Seen) (vc : Vc) (number : ℕ) (asks : List Wanted) (found : Option GcraFault) (one other : List ℕ) (to to' : Seen)
    → MatchOption found (NamedSeen s number (AsksSeen s vc number asks) one to) (λ fault. StaysSeen s (gcra_fault fault) one to)
    → MatchOption found (NamedSeen s number (AsksSeen s vc number asks) other to') (λ fault. StaysSeen s (gcra_fault fault) other to')
    → Same one other to to'
setup-once s vc number asks None one other to to' p q =
    named-once s (AsksSeen s vc number asks) one other to to' (asks-once s vc number asks one other to to') (is_number s.programs number) p q
setup-once s vc number asks (Some fault) one other to to' p q = stays-once s (gcra_fault fault) one other to to' p q

judges-once : (s : Seen) (vc : Vc) (connection : SeenConnection) (moment : ℕ) (octets : List ℕ) (value : ℕ) (found : Option Answer) (one other : List ℕ) (to to' : Seen)
    → MatchOption found ((one ≡ judged_text s.shape.side vc connection octets moment value) × (to ≡ judged_seen s vc connection (seen_cell octets moment value)))
    (λ given. (answer_text s.shape.side [] vc given ≡ Some one) × (to ≡ s))
    → MatchOption found ((other ≡ judged_text s.shape.side vc connection octets moment value) × (to' ≡ judged_seen s vc connection (seen_cell octets moment value)))
    (λ given. (answer_text s.shape.side [] vc given ≡ Some other) × (to' ≡ s))
    → Same one other to to'
judges-once s vc connection moment octets value None one other to to' p q = (p.0 ∙ sym q.0, p.1 ∙ sym q.1)
judges-once s vc connection moment octets value (Some given) one other to to' p q = (same_Some one other (sym p.0 ∙ q.0), p.1 ∙ sym q.1)

found-once : (s : Seen) (vc : Vc) (connection : SeenConnection) (moment : ℕ) (octets : List ℕ) (one other : List ℕ) (to to' : Seen)
    → FoundSeen s vc connection moment octets one to → FoundSeen s vc connection moment octets other to' → Same one other to to'
found-once s vc connection moment octets one other to to' p q =
    let codes : q.0 ≡ p.0 = same_Some q.0 p.0 (sym q.2 ∙ p.2) in
    let gives : Gives p.0 octets q.1 = subst (λ (code : List Instr). Gives code octets q.1) codes q.3 in
    let values : q.1 ≡ p.1 = (Value-unique p.0 octets q.1 p.1 gives.0 p.3.0 gives.1 p.3.1).0 in
    judges-once s vc connection moment octets p.1 (seen_refusal s connection moment) one other to to' p.4
    (subst (λ value. JudgesSeen s vc connection moment octets value other to') values q.4)

polices-once : (s : Seen) (vc : Vc) (moment : ℕ) (octets : List ℕ) (found : Option SeenConnection) (one other : List ℕ) (to to' : Seen)
    → MatchOption found ((one ≡ arrive_fault (codes "1 NoConnection")) × (to ≡ s)) (λ connection. FoundSeen s vc connection moment octets one to)
    → MatchOption found ((other ≡ arrive_fault (codes "1 NoConnection")) × (to' ≡ s)) (λ connection. FoundSeen s vc connection moment octets other to')
    → Same one other to to'
polices-once s vc moment octets None one other to to' p q = (p.0 ∙ sym q.0, p.1 ∙ sym q.1)
polices-once s vc moment octets (Some connection) one other to to' p q = found-once s vc connection moment octets one other to to' p q

sized-once : (s : Seen) (moment : ℕ) (octets : List ℕ) (b : Bool) (one other : List ℕ) (to to' : Seen)
    → MatchBool b (PolicesSeen s moment octets one to) (StaysSeen s (wrong_length (length octets)) one to)
    → MatchBool b (PolicesSeen s moment octets other to') (StaysSeen s (wrong_length (length octets)) other to')
    → Same one other to to'
sized-once s moment octets true one other to to' p q =
    polices-once s (vc_of s.shape.side octets) moment octets (found_at s.connections (vc_of s.shape.side octets)) one other to to' p q
sized-once s moment octets false one other to to' p q = stays-once s (wrong_length (length octets)) one other to to' p q

cell-once : (s : Seen) (moment : ℕ) (octets : Option (List ℕ)) (one other : List ℕ) (to to' : Seen)
    → MatchOption octets (StaysSeen s bad_hex one to) (λ found. SizedSeen s moment (cell_of_octets found) one to)
    → MatchOption octets (StaysSeen s bad_hex other to') (λ found. SizedSeen s moment (cell_of_octets found) other to')
    → Same one other to to'
cell-once s moment None one other to to' p q = stays-once s bad_hex one other to to' p q
cell-once s moment (Some octets) one other to to' p q = sized-once s moment (cell_of_octets octets) (length (cell_of_octets octets) == 52) one other to to' p q

obeys-once : (s : Seen) (command : Command) (one other : List ℕ) (to to' : Seen)
    → ObeysSeen s command one to → ObeysSeen s command other to' → Same one other to to'
obeys-once s (load digits) one other to to' p q = load-once s (octets_of_digits digits) one other to to' p q
obeys-once s (retire number) one other to to' p q =
    named-once s (RetiresSeen s number) one other to to' (λ a b. takes-once _ _ one other to to' a b) (is_number s.programs number) p q
obeys-once s (setup vc number asks) one other to to' p q = setup-once s vc number asks (first_wanted_fault asks) one other to to' p q
obeys-once s (reload vc number) one other to to' p q =
    named-once s (ReloadsSeen s vc number) one other to to' (λ a b. takes-once _ _ one other to to' a b) (is_number s.programs number) p q
obeys-once s (release vc) one other to to' p q = takes-once _ _ one other to to' p q
obeys-once s (cut vc) one other to to' p q = takes-once _ _ one other to to' p q
obeys-once s (cell moment digits) one other to to' p q = cell-once s moment (octets_of_digits digits) one other to to' p q

words-once : (s : Seen) (found : Option Command) (one other : List ℕ) (to to' : Seen)
    → MatchOption found (StaysSeen s bad_line one to) (λ command. ObeysSeen s command one to)
    → MatchOption found (StaysSeen s bad_line other to') (λ command. ObeysSeen s command other to') → Same one other to to'
words-once s None one other to to' p q = stays-once s bad_line one other to to' p q
words-once s (Some command) one other to to' p q = obeys-once s command one other to to' p q

pub line-once : (s : Seen) (words : List (List ℕ)) (one other : List ℕ) (to to' : Seen)
    → LineSeen s words one to → LineSeen s words other to' → Same one other to to'
line-once s words one other to to' p q = words-once s (command_of s.shape.side words) one other to to' p q
