-- The table is right for every octet.
use Rattle.std.proofs.Common.{◌≡◌, ℕ, ◌==◌, ◌<◌, Bool, true, false, map, cond, get_or, refl, ap, ◌∙◌, arith}
use Rattle.std.proofs.lemmas.List.FromFn.{get_or-map-range_with_len}
use Rattle.std.specs.List.{range_with_len}
use Rattle.bpf_asm.specs.Tokens.{is_word}
use Rattle.bpf_asm.specs.declared.token.TheConstants.{WORD_OCTETS}
use Rattle.bpf_asm.proofs.token.word_octet.Goals as goal

abbrev entry : ℕ → ℕ
entry octet = cond (is_word octet) 1 0

table_is : WORD_OCTETS ≡ map entry (range_with_len 0 256)
table_is = refl

entered : (t : Bool) → (cond t 1 0 == 1) ≡ t
entered true = refl
entered false = refl

read : (octet : ℕ) → octet < 256 → (get_or WORD_OCTETS octet 0 == 1) ≡ is_word octet
read octet h =
    ap (λ (n : ℕ). n == 1) (ap (λ t. get_or t octet 0) table_is ∙ get_or-map-range_with_len entry 0 256 octet octet 0 h (omega arith))
    ∙ entered (is_word octet)

pub returns : goal.returns
returns c = rw c.from.ensures (read c.args.octet (omega arith))
