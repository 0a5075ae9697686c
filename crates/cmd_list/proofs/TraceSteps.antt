-- The invariant of the trace's loop, and what one step adds to it.
use Rattle.std.proofs.Common.{◌≡◌, ℕ, zero, suc, ◌+◌, ◌-◌, ◌<◌, List, [], ◌∷◌, ◌++◌, length, drop, get_or, codes, decimal, Option, refl, sym, ap, subst, ◌∙◌, arith, append_assoc, append-nil}
use Rattle.std.proofs.lemmas.List.{get_or-drop}
use Rattle.std.proofs.lemmas.Option.{slice_get_within, slice_get-get_or, same_Some}
use Rattle.std.specs.declared.ops.ControlFlow.TheVariants.{Continue}
use Rattle.bpf_asm.specs.SourceLines.{source_lines}
use Rattle.bpf_code.specs.Flow.{IsInstrAt}
use Rattle.bpf_code.specs.Scratch.{ReadsWord}
use Rattle.bpf_code.specs.declared.instr.Instr.{Instr}
use Rattle.bpf_interp.proofs.Public.{Does-unique, Value-some}
use Rattle.bpf_interp.specs.Registers.{HoldsScratch, IsCounted, LeadsFlow, memory_after, state_after}
use Rattle.bpf_interp.specs.ScratchMemory.{word_in}
use Rattle.bpf_interp.specs.State.{State, At, Ended}
use Rattle.bpf_interp.specs.Step.{Does, Step}
use Rattle.bpf_interp.specs.Value.{EndsIn}
use Rattle.bpf_interp.specs.declared.registers.Registers.{Registers}
use Rattle.bpf_verify.proofs.Onward.{successor_forward}
use Rattle.bpf_verify.specs.Accepted.{IsAccepted}
use Rattle.std.specs.Option.{IsSome}
use Rattle.text_io.specs.Devices.{Adds}
use Rattle.text_words.specs.FaultLines.{line}
use Rattle.cmd_list.proofs.Lists.{drop_further}
use Rattle.cmd_list.proofs.WordsRead.{does_reads}
use Rattle.cmd_list.specs.Comments.{commented, listed_lines}
use Rattle.cmd_list.specs.Trace.{GoesThrough, PrintsTrace, instruction_line, result_text, step_line, step_lines}
use Rattle.cmd_list.specs.inner.SoFar.{IsTraced, Joins}

-- A state from which the machine ends, and which hasn't ended, has a next one, from which the machine ends.
goes_on : (code : List Instr) (packet : List ℕ) (pc a x : ℕ) (m : List (ℕ × ℕ)) (value left : ℕ) → EndsIn code packet (At pc a x m) value left
    → (next : State) × Step code packet (At pc a x m) next × ((value : ℕ) × (left : ℕ) × EndsIn code packet next value left)
goes_on code packet pc a x m value zero ends = absurd cc
goes_on code packet pc a x m value (suc left) ends = (ends.0, ends.1, (value, left, ends.2))

-- So its place is in the code.
place_within : (code : List Instr) (packet : List ℕ) (pc a x : ℕ) (m : List (ℕ × ℕ)) (value left : ℕ) → EndsIn code packet (At pc a x m) value left → pc < length code
place_within code packet pc a x m value left ends =
    let on = goes_on code packet pc a x m value left ends in
    slice_get_within code pc on.1.0 on.1.1

-- The last line of a trace.
abbrev value_line : ℕ → ℕ → List ℕ
value_line value steps = line (codes "value " ++ decimal value ++ codes " steps " ++ decimal steps)

-- The instruction that is read at a place of the code.
pub instr_read : (code shown : List Instr) (pc : ℕ) (d : Instr) → shown ≡ code → pc < length code → IsInstrAt code pc (get_or shown pc d)
instr_read code shown pc d same within =
    let P : List Instr → Type 0 = λ some. IsInstrAt code pc (get_or some pc d) in
    subst P (sym same) (slice_get-get_or code pc d within)

module _ (code : List Instr) (packet before : List ℕ) where
  -- The invariant initially.
  pub traced_first : IsAccepted code → (words lines : List ℕ) → source_lines lines ≡ listed_lines code → IsTraced code packet before before (record { pc = 0; a = 0; x = 0; skipped = 0 }) words 0 lines
  traced_first accepted words lines same =
      let value = Value-some code packet accepted in
      record {
        memory = [];
        agrees = λ index value small there. absurd cc;
        ends = (value.0, value.1, value.2);
        within = accepted.sized.least;
        skipped = omega arith;
        counted = omega arith;
        left = same;
        joins = λ later value goes. let same : length later ≡ 0 + length later = omega arith in (later, goes, same, refl);
      }

  module _ (after : List ℕ) (registers : Registers) (words : List ℕ) (steps : ℕ) (lines : List ℕ) (traced : IsTraced code packet before after registers words steps lines) where
    -- The machine's state.
    abbrev here : State
    here = At registers.pc registers.a registers.x traced.memory

    onward : (next : State) × Step code packet here next × ((value : ℕ) × (left : ℕ) × EndsIn code packet next value left)
    onward = goes_on code packet registers.pc registers.a registers.x traced.memory traced.ends.0 traced.ends.1 traced.ends.2

    module _ (i : Instr) (instr_there : IsInstrAt code registers.pc i) where
      begun : Does packet i registers.pc registers.a registers.x traced.memory onward.0
      begun =
          let same : onward.1.0 ≡ i = same_Some onward.1.0 i (sym onward.1.1 ∙ instr_there) in
          subst (λ (j : Instr). Does packet j registers.pc registers.a registers.x traced.memory onward.0) same onward.1.2

      -- The scratch memory has each word that the instruction reads.
      pub reads_written : (index : ℕ) → ReadsWord i index → IsSome (word_in traced.memory index)
      reads_written = does_reads packet i registers.pc registers.a registers.x traced.memory onward.0 begun

      module _ (s : State) (does : Does packet i registers.pc registers.a registers.x traced.memory s) where
        ends_there : (value : ℕ) × (left : ℕ) × EndsIn code packet s value left
        ends_there =
            let same = Does-unique packet i registers.pc registers.a registers.x traced.memory onward.0 s begun does in
            subst (λ (t : State). (value : ℕ) × (left : ℕ) × EndsIn code packet t value left) same onward.2

        stepped : Step code packet here s
        stepped = (i, instr_there, does)

        -- The line that was added is that of the step.
        line_same : (listed : List ℕ) → listed ≡ get_or (source_lines lines) 0 [] → commented listed (result_text i s) ≡ step_line code here s
        line_same listed first =
            let zero_more : registers.pc + 0 ≡ registers.pc = omega arith in
            let found : listed ≡ get_or (listed_lines code) registers.pc [] =
            first ∙ ap (λ (ls : List (List ℕ)). get_or ls 0 []) traced.left ∙ get_or-drop registers.pc (listed_lines code) 0 []
            ∙ ap (λ (n : ℕ). get_or (listed_lines code) n []) zero_more in
            let printed : commented listed (result_text i s) ≡ commented (get_or (listed_lines code) registers.pc []) (result_text i s) =
            ap (λ (l : List ℕ). commented l (result_text i s)) found in
            printed ∙ sym (ap (λ (o : Option Instr). instruction_line code registers.pc o s) instr_there)

        -- The states from here on, with the line of the step.
        joined : (now : List ℕ) → now ≡ after ++ step_line code here s → (later : List State) (value : ℕ) → GoesThrough code packet s later value
            → Joins code packet s (steps + 1) before now later value
        joined now added later value goes =
            let whole = traced.joins (s ∷ later) value (stepped, goes) in
            let count : length whole.0 ≡ steps + suc (length later) = whole.2 in
            let counted : length whole.0 ≡ steps + 1 + length later = omega arith in
            let lines_joined : after ++ (step_line code here s ++ step_lines code s later) ≡ now ++ step_lines code s later =
            sym (append_assoc after (step_line code here s) (step_lines code s later)) ∙ ap (λ (ts : List ℕ). ts ++ step_lines code s later) (sym added) in
            (whole.0, whole.1, counted, whole.3 ∙ lines_joined)

      -- After an instruction that continues, the invariant holds again.
      pub traced_on : (next : Registers) (listed now left words' : List ℕ)
          → Does packet i registers.pc registers.a registers.x traced.memory (state_after (Continue next) (memory_after i registers.a registers.x traced.memory))
          → listed ≡ get_or (source_lines lines) 0 []
          → now ≡ after ++ commented listed (result_text i (state_after (Continue next) (memory_after i registers.a registers.x traced.memory)))
          → LeadsFlow registers.pc i (Continue next) → IsCounted registers (Continue next)
          → source_lines left ≡ drop (next.pc - registers.pc) (source_lines lines)
          → HoldsScratch (memory_after i registers.a registers.x traced.memory) words'
          → IsTraced code packet before now next words' (steps + 1) left
      traced_on next listed now left words' does first added leads one_on passed agrees =
          let s = state_after (Continue next) (memory_after i registers.a registers.x traced.memory) in
          let counted = traced.counted in
          let skips = traced.skipped in
          let forward : registers.pc < next.pc = successor_forward code registers.pc next.pc (i, instr_there, leads) in
          let on : next.pc + registers.skipped ≡ registers.pc + 1 + next.skipped = one_on in
          let far : registers.pc + (next.pc - registers.pc) ≡ next.pc = omega arith in
          record {
            memory = memory_after i registers.a registers.x traced.memory;
            agrees = agrees;
            ends = ends_there s does;
            within = let ends = ends_there s does in place_within code packet next.pc next.a next.x (memory_after i registers.a registers.x traced.memory) ends.0 ends.1 ends.2;
            skipped = omega arith;
            counted = omega arith;
            left = passed ∙ drop_further registers.pc (next.pc - registers.pc) (listed_lines code) (source_lines lines) traced.left
                ∙ ap (λ (n : ℕ). drop n (listed_lines code)) far;
            joins = joined s does now (added ∙ ap (λ (l : List ℕ). after ++ l) (line_same s does listed first));
          }

      -- After an instruction that ends the program, the trace is complete.
      pub traced_out : (value : ℕ) (listed now : List ℕ)
          → Does packet i registers.pc registers.a registers.x traced.memory (Ended value)
          → listed ≡ get_or (source_lines lines) 0 []
          → now ≡ after ++ commented listed (result_text i (Ended value))
          → (printed : List ℕ) → printed ≡ now ++ value_line value (steps + 1)
          → Adds (PrintsTrace code packet) before printed
      traced_out value listed now does first added printed ended =
          let whole = joined (Ended value) does now (added ∙ ap (λ (l : List ℕ). after ++ l) (line_same (Ended value) does listed first)) [] value refl in
          let count : length whole.0 ≡ steps + 1 + 0 = whole.2 in
          let counted : steps + 1 ≡ length whole.0 = omega arith in
          let all : before ++ step_lines code (At 0 0 0 []) whole.0 ≡ now = whole.3 ∙ append-nil now in
          let text = step_lines code (At 0 0 0 []) whole.0 ++ value_line value (length whole.0) in
          let same : printed ≡ before ++ text =
          ended ∙ ap (λ (ts : List ℕ). ts ++ value_line value (steps + 1)) (sym all)
          ∙ append_assoc before (step_lines code (At 0 0 0 []) whole.0) (value_line value (steps + 1))
          ∙ ap (λ (n : ℕ). before ++ (step_lines code (At 0 0 0 []) whole.0 ++ value_line value n)) counted in
          (text, same, (whole.0, value, whole.1, refl))
