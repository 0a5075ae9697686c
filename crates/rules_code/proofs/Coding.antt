-- What the loops over lines keep.
use Rattle.std.proofs.Common.{◌≡◌, ℕ, zero, suc, ◌+◌, ◌-◌, ◌<◌, Bool, if◌then◌else◌, List, [], ◌∷◌, ◌++◌, length, drop, get_or, Option, Some, None, refl, sym, ap, subst, ◌∙◌, arith}
use Rattle.std.proofs.lemmas.List.{drop_more}
use Rattle.std.specs.List.{slice_get}
use Rattle.std.proofs.lemmas.Bool.{eq-eqb, ne_eqb}
use Rattle.bpf_code.specs.declared.instr.Instr.{Instr}
use Rattle.bpf_code.specs.declared.instr.Instr.TheVariants.{Jump, RetK}
use Rattle.rules_code.specs.LineCode.{Coded, known_after_line, line_code, lines_coded, with_entry_jump, lines_code}
use Rattle.rules_code.specs.inner.Held.{held_at}
use Rattle.rules_code.specs.declared.lines.Line.{Line}
use Rattle.rules_code.specs.declared.packet_part.Part.{Part}

-- One more element of a list that agrees with a function of the place.
pub pushed : {X : Type 0} (xs : List X) (x : X) (P : ℕ → X) (n : ℕ) → length xs ≡ n → ((at : ℕ) → at < n → slice_get xs at ≡ Some (P at)) → x ≡ P n → (at : ℕ) → at < n + 1 → slice_get (xs ++ x ∷ []) at ≡ Some (P at)
pushed [] x P n e all last zero lt = ap Some (last ∙ ap P (sym e))
pushed [] x P n e all last (suc at) lt = absurd (omega arith)
pushed (y ∷ ys) x P n e all last zero lt = all 0 (omega arith)
pushed (y ∷ ys) x P n e all last (suc at) lt =
    let m : n ≡ suc (n - 1) = omega arith in
    pushed ys x (λ k. P (suc k)) (n - 1) (omega arith) (λ k l. all (suc k) (omega arith)) (last ∙ ap P m) at (omega arith)

pub held_step : (lines : List Line) (held : Option Part) (at : ℕ) (d : Line) → at < length lines → held_at lines held (at + 1) ≡ known_after_line (get_or lines at d) (held_at lines held at)
unfolding held_at
held_step [] held at d lt = absurd (omega arith)
held_step (line ∷ lines) held zero d lt = refl
held_step (line ∷ lines) held (suc at) d lt =
    let more : suc at + 1 ≡ suc (at + 1) = omega arith in
    ap (λ n. held_at (line ∷ lines) held n) more ∙ held_step lines (known_after_line line held) at d (omega arith)

pub held_first : (lines : List Line) (held : Option Part) → held ≡ held_at lines held 0
unfolding held_at
held_first lines held = refl

-- The code of the lines from one on.
pub lines_step : (lines : List Line) (at left : ℕ) (d : Line) (held : Option Part) (otherwise : ℕ) (before after : Coded) → at < length lines → at + 1 ≡ left
    → before ≡ lines_coded (drop left lines) (held_at lines held left) otherwise → after ≡ line_code (get_or lines at d) (held_at lines held at) before
    → after ≡ lines_coded (drop at lines) (held_at lines held at) otherwise
unfolding lines_coded
lines_step lines at left d held otherwise before after lt e was is =
    let line = get_or lines at d in
    let cut = drop_more lines at d lt ∙ ap (λ n. line ∷ drop n lines) e in
    let known = ap (λ n. held_at lines held n) (sym e) ∙ held_step lines held at d lt in
    let there = was ∙ ap (λ (h : Option Part). lines_coded (drop left lines) h otherwise) known in
    is ∙ (ap (λ (r : Coded). line_code line (held_at lines held at) r) there ∙ ap (λ (ls : List Line). lines_coded ls (held_at lines held at) otherwise) (sym cut))

pub lines_none : (lines : List Line) (held held' : Option Part) (otherwise : ℕ) (coded : Coded) → lines ≡ [] → coded ≡ lines_coded [] held otherwise → coded ≡ lines_coded lines held' otherwise
unfolding lines_coded
lines_none lines held held' otherwise coded e is = is ∙ ap (λ (ls : List Line). lines_coded ls held' otherwise) (sym e)

pub lines_all : (lines : List Line) (held : Option Part) (left otherwise : ℕ) (coded : Coded) → left ≡ 0 → coded ≡ lines_coded (drop left lines) (held_at lines held left) otherwise → coded ≡ lines_coded lines held otherwise
unfolding held_at
lines_all lines held left otherwise coded e is = is ∙ ap (λ n. lines_coded (drop n lines) (held_at lines held n) otherwise) e

-- The element of a list that agrees with a function of the place.
pub read_at : {X : Type 0} (xs : List X) (i : ℕ) (d y : X) → slice_get xs i ≡ Some y → get_or xs i d ≡ y
read_at [] i d y e = absurd cc
read_at (x ∷ xs) zero d y e = cc
read_at (x ∷ xs) (suc i) d y e = read_at xs i d y e

-- The code without lines.
pub coded_first : (code : List Instr) (after : List ℕ) (otherwise : ℕ) → code ≡ RetK otherwise ∷ [] → after ≡ []
    → ◌≡◌ {A = Coded} (record { code = code; entry = 1; after = after }) (lines_coded [] None otherwise)
unfolding lines_coded
coded_first code after otherwise p q = λ i. record { code = p i; entry = 1; after = q i }

-- The code from its first instruction on, where the lines begin there and where they don't.
pub begun_same : (coded : Coded) (code : List Instr) → coded.entry ≡ length coded.code → code ≡ coded.code → code ≡ with_entry_jump coded
begun_same coded code front is =
    let P : Bool → Type 0 = λ b. code ≡ (if b then coded.code else Jump (length coded.code - coded.entry) ∷ coded.code) in
    subst P (sym (eq-eqb coded.entry (length coded.code) front)) is

pub begun_other : (coded : Coded) (code : List Instr) → (coded.entry ≡ length coded.code → ⊥) → code ≡ Jump (length coded.code - coded.entry) ∷ coded.code → code ≡ with_entry_jump coded
begun_other coded code apart is =
    let P : Bool → Type 0 = λ b. code ≡ (if b then coded.code else Jump (length coded.code - coded.entry) ∷ coded.code) in
    subst P (sym (ne_eqb coded.entry (length coded.code) apart)) is

pub begun_lines : (lines : List Line) (otherwise : ℕ) (coded : Coded) (code : List Instr) → coded ≡ lines_coded lines None otherwise → code ≡ with_entry_jump coded → code ≡ lines_code lines otherwise
unfolding lines_code
begun_lines lines otherwise coded code p q = q ∙ ap with_entry_jump p

-- A line with what is known of A there.
pub put_at : (lines : List Line) (parts : List (Option Part)) (i : ℕ) (d : Option Part) (line : Line) (held : Option Part) (before after : Coded) → slice_get parts i ≡ Some held
    → after ≡ line_code line (get_or parts i d) before → after ≡ line_code line held before
put_at lines parts i d line held before after at is = is ∙ ap (λ (h : Option Part). line_code line h before) (read_at parts i d held at)

pub held_next : (lines : List Line) (first : Option Part) (at : ℕ) (line : Line) (held next : Option Part) → at < length lines → line ≡ get_or lines at line
    → held ≡ held_at lines first at → next ≡ known_after_line line held → next ≡ held_at lines first (at + 1)
held_next lines first at line held next lt is here left =
    left ∙ (ap (known_after_line line) here ∙ (ap (λ (l : Line). known_after_line l (held_at lines first at)) is ∙ sym (held_step lines first at line lt)))

-- One more line, as the loop puts it.
pub lines_put : (lines : List Line) (at left : ℕ) (line : Line) (held : Option Part) (otherwise : ℕ) (before after : Coded) → at < length lines → at + 1 ≡ left
    → before ≡ lines_coded (drop left lines) (held_at lines None left) otherwise → line ≡ get_or lines at line → held ≡ held_at lines None at → after ≡ line_code line held before
    → after ≡ lines_coded (drop at lines) (held_at lines None at) otherwise
lines_put lines at left line held otherwise before after lt e was there known is =
    lines_step lines at left line None otherwise before after lt e was
    (is ∙ (ap (λ (h : Option Part). line_code line h before) known ∙ ap (λ (l : Line). line_code l (held_at lines None at) before) there))
