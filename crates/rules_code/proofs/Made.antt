-- The functions that put code in front return what the definitions have.
use Rattle.std.proofs.Common.{◌≡◌, ℕ, ◌+◌, ◌-◌, ◌<◌, Option, List, [], ◌∷◌, length, drop, get_or, refl, sym, ap, subst, ◌∙◌}
use Rattle.std.proofs.lemmas.List.{drop_more}
use Rattle.bpf_code.specs.declared.instr.By.TheVariants.{Imm}
use Rattle.bpf_code.specs.declared.instr.Instr.{Instr}
use Rattle.bpf_code.specs.declared.instr.Instr.TheVariants.{Branch}
use Rattle.bpf_code.specs.declared.instr.Test.{Test}
use Rattle.rules_code.specs.Labels.{Tested, near_code, near_label, branched}
use Rattle.rules_code.specs.TestCode.{spans_code, spans_from}
use Rattle.rules_code.specs.inner.Making.{IsMade}
use Rattle.rules_code.specs.declared.draft.Ways.{Ways}
use Rattle.rules_code.specs.declared.packet_part.Span.{Span}

-- The labels of a test are those with the same three places.
pub ways_are : (e m u e' m' u' : ℕ) → e ≡ e' → m ≡ m' → u ≡ u'
    → ◌≡◌ {A = Ways} (record { entry = e; met = m; unmet = u }) (record { entry = e'; met = m'; unmet = u' })
ways_are e m u e' m' u' p q r = cc

pub made_branched : (test : Test) (k : ℕ) (code c1 c2 c3 : List Instr) (met unmet m u jt jf entry : ℕ)
    → c1 ≡ near_code code met → m ≡ near_label code met → c2 ≡ near_code c1 unmet → u ≡ near_label c1 unmet
    → jt ≡ length c2 - m → jf ≡ length c2 - u → c3 ≡ Branch test (Imm k) jt jf ∷ c2 → entry ≡ length c3
    → IsMade (branched test k code met unmet) c3 (record { entry = entry; met = m; unmet = u })
unfolding branched
made_branched test k code c1 c2 c3 met unmet m u jt jf entry e1 em e2 eu ej ef e3 ee =
    let entry_is = ee ∙ ap length e3 in
    record {
      code_is = cc;
      ways_are = cc;
    }

-- A code and labels that are those of a test are that test's.
pub tested_is : (t : Tested) (code : List Instr) (ways : Ways) → IsMade t code ways → ◌≡◌ {A = Tested} (record { code = code; ways = ways }) t
tested_is t code ways made =
    let p = made.code_is in
    let q = made.ways_are in
    λ i. record { code = p i; ways = q i }

-- No spans.
pub made_no_spans : (mask : Option ℕ) (spans : List Span) (code : List Instr) (met unmet : ℕ) → spans ≡ [] → IsMade (spans_code mask spans code met unmet) code (record { entry = unmet; met = met; unmet = unmet })
unfolding spans_code
made_no_spans mask spans code met unmet e =
    subst (λ (xs : List Span). IsMade (spans_code mask xs code met unmet) code (record { entry = unmet; met = met; unmet = unmet })) (sym e)
    (record { code_is = refl; ways_are = refl })

-- One more span.
pub made_span : (mask : Option ℕ) (spans : List Span) (span : Span) (more : List Span) (code : List Instr) (met unmet : ℕ) (c1 c2 : List Instr) (w1 w2 : Ways) → spans ≡ span ∷ more
    → IsMade (spans_code mask more code met unmet) c1 w1 → IsMade (spans_from mask span (record { code = c1; ways = w1 })) c2 w2 → IsMade (spans_code mask spans code met unmet) c2 w2
unfolding spans_code
made_span mask spans span more code met unmet c1 c2 w1 w2 e before made =
    let same = tested_is (spans_code mask more code met unmet) c1 w1 before in
    let there = subst (λ (t : Tested). IsMade (spans_from mask span t) c2 w2) same made in
    subst (λ (xs : List Span). IsMade (spans_code mask xs code met unmet) c2 w2) (sym e) there

-- One more span, taken from the end.
pub made_span_at : (mask : Option ℕ) (spans : List Span) (i left : ℕ) (d : Span) (code : List Instr) (met unmet : ℕ) (c1 c2 : List Instr) (w1 w2 : Ways) → i < length spans → i + 1 ≡ left
    → IsMade (spans_code mask (drop left spans) code met unmet) c1 w1 → IsMade (spans_from mask (get_or spans i d) (record { code = c1; ways = w1 })) c2 w2 → IsMade (spans_code mask (drop i spans) code met unmet) c2 w2
made_span_at mask spans i left d code met unmet c1 c2 w1 w2 within next before made =
    let cut = drop_more spans i d within ∙ ap (λ n. get_or spans i d ∷ drop n spans) next in
    made_span mask (drop i spans) (get_or spans i d) (drop left spans) code met unmet c1 c2 w1 w2 cut before made
