-- A listing, line by line.
use Rattle.std.proofs.Common.{◌≡◌, ℕ, ◌+◌, ◌<◌, ◌≤◌, List, ◌∷◌, ◌++◌, length, get_or, drop, refl, sym, ap, ◌∙◌, append_assoc, append-nil}
use Rattle.std.proofs.lemmas.List.{at_drop_more, at_drop_all}
use Rattle.bpf_asm.specs.Listing.{line_text, listing_from}
use Rattle.bpf_code.specs.declared.instr.Instr.{Instr}

pub listing_from-cons : (place : ℕ) (i : Instr) (code : List Instr) → listing_from place (i ∷ code) ≡ line_text place i ++ listing_from (place + 1) code
unfolding listing_from
listing_from-cons place i code = refl

-- One more line is written.
pub written_more : (text whole : List ℕ) (code : List Instr) (at : ℕ) (d : Instr) → at < length code → text ++ listing_from at (drop at code) ≡ whole → (text ++ line_text at (get_or code at d)) ++ listing_from (at + 1) (drop (at + 1) code) ≡ whole
written_more text whole code at d h e =
    append_assoc text (line_text at (get_or code at d)) (listing_from (at + 1) (drop (at + 1) code))
    ∙ ap (λ (rest : List ℕ). text ++ rest) (sym (at_drop_more (listing_from at) code at d h ∙ listing_from-cons at (get_or code at d) (drop (at + 1) code)))
    ∙ e

-- All lines are written.
pub written_all : (text whole : List ℕ) (code : List Instr) (at : ℕ) → length code ≤ at → text ++ listing_from at (drop at code) ≡ whole → text ≡ whole
unfolding listing_from
written_all text whole code at h e = sym (append-nil text) ∙ ap (λ (rest : List ℕ). text ++ rest) (sym (at_drop_all (listing_from at) code at h)) ∙ e
