-- The numbers of instructions from each line on, as the loop over lines makes them.
use Rattle.std.proofs.Common.{◌≡◌, ℕ, ◌+◌, ◌<◌, List, [], ◌∷◌, length, drop, get_or, Option, sym, ap, ◌∙◌}
use Rattle.std.proofs.lemmas.List.{drop_more}
use Rattle.rules_code.specs.LineCode.{Coded, lines_coded}
use Rattle.rules_code.specs.LinePlaces.{starts_where_held}
use Rattle.rules_code.specs.inner.Held.{held_at}
use Rattle.rules_code.specs.declared.lines.Line.{Line}
use Rattle.rules_code.specs.declared.packet_part.Part.{Part}
use Rattle.rules_code.proofs.Coding.{held_step}

-- No lines.
pub lengths_none : (lines : List Line) (held : Option Part) (otherwise : ℕ) → lines ≡ [] → [] ≡ starts_where_held lines held otherwise
unfolding starts_where_held
lengths_none lines held otherwise e = sym (ap (λ (ls : List Line). starts_where_held ls held otherwise) e)

-- One more line in front.
pub lengths_put : (lines : List Line) (at left : ℕ) (d : Line) (held : Option Part) (otherwise count : ℕ) (coded : Coded) (more new : List ℕ) → at < length lines → at + 1 ≡ left
    → coded ≡ lines_coded (drop at lines) (held_at lines held at) otherwise → count ≡ length coded.code
    → more ≡ starts_where_held (drop left lines) (held_at lines held left) otherwise → new ≡ count ∷ more
    → new ≡ starts_where_held (drop at lines) (held_at lines held at) otherwise
unfolding starts_where_held
lengths_put lines at left d held otherwise count coded more new lt e is counted rest made =
    let line = get_or lines at d in
    let cut = drop_more lines at d lt ∙ ap (λ n. line ∷ drop n lines) e in
    let known = ap (λ n. held_at lines held n) (sym e) ∙ held_step lines held at d lt in
    let here = counted ∙ ap (λ (c : Coded). length c.code) is ∙ ap (λ (ls : List Line). length (lines_coded ls (held_at lines held at) otherwise).code) cut in
    let after = rest ∙ ap (λ (h : Option Part). starts_where_held (drop left lines) h otherwise) known in
    made ∙ ap (λ (n : ℕ). n ∷ more) here
    ∙ ap (λ (ns : List ℕ). length (lines_coded (line ∷ drop left lines) (held_at lines held at) otherwise).code ∷ ns) after
    ∙ ap (λ (ls : List Line). starts_where_held ls (held_at lines held at) otherwise) (sym cut)

-- All lines.
pub lengths_all : (lines : List Line) (held : Option Part) (left otherwise : ℕ) (numbers : List ℕ) → left ≡ 0
    → numbers ≡ starts_where_held (drop left lines) (held_at lines held left) otherwise → numbers ≡ starts_where_held lines held otherwise
unfolding held_at
lengths_all lines held left otherwise numbers e is = is ∙ ap (λ n. starts_where_held (drop n lines) (held_at lines held n) otherwise) e
