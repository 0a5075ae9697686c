-- Tokens cut from the front of a text.
use Rattle.std.proofs.Common.{◌≡◌, ◌≢◌, ℕ, ◌-◌, ◌%◌, ◌^◌, true, false, ◌&&◌, ◌==◌, if◌then◌else◌, List, [], ◌∷◌, Some, None, refl, ap, ◌∙◌, eq-eqb}
use Rattle.std.proofs.lemmas.Bool.{ne_eqb}
use Rattle.bpf_asm.specs.inner.Reading.{cut_mark, cut_name, cut_number, is_ended}
use Rattle.bpf_asm.specs.inner.Seen.{token_seen}
use Rattle.bpf_asm.specs.declared.token.LentToken.{LentToken}
use Rattle.bpf_asm.specs.declared.token.LentToken.TheVariants.{Name, Number, Faulty, Mark}
use Rattle.std.specs.Borrow.{Bor}
use Rattle.bpf_asm.specs.Tokens.{Token, name, number, faulty, mark, signed, signed_after, tokens_of, tokens_read}

-- A text without tokens.
pub read_none : (text : List ℕ) → tokens_of text ≡ [] → tokens_read text ≡ []
unfolding tokens_read signed
read_none text e = ap signed e

-- One token, and those after it.
pub read_cons : (text rest : List ℕ) (token : Token) → tokens_of text ≡ token ∷ tokens_of rest → tokens_read text ≡ signed_after token (tokens_read rest)
unfolding tokens_read signed
read_cons text rest token e = ap signed e

-- A mark other than `#` remains at the front, whatever follows.
pub cut_mark-found : (octet : ℕ) (tokens : List Token) → octet ≢ 35 → signed_after (mark octet) tokens ≡ mark octet ∷ tokens
cut_mark-found octet [] h = refl
cut_mark-found octet (name octets ∷ tokens) h = refl
cut_mark-found octet (number value ∷ tokens) h = refl
cut_mark-found octet (faulty ∷ tokens) h = refl
cut_mark-found octet (mark minus ∷ []) h = refl
cut_mark-found octet (mark minus ∷ name octets ∷ tokens) h = refl
cut_mark-found octet (mark minus ∷ faulty ∷ tokens) h = refl
cut_mark-found octet (mark minus ∷ mark other ∷ tokens) h = refl
cut_mark-found octet (mark minus ∷ number value ∷ tokens) h = rw (ne_eqb octet 35 h) refl

pub mark_after : (found octet : ℕ) (tokens : List Token) → (found == octet) ≡ false → cut_mark octet (signed_after (mark found) tokens) ≡ None
mark_after found octet [] h = rw h refl
mark_after found octet (name octets ∷ tokens) h = rw h refl
mark_after found octet (number value ∷ tokens) h = rw h refl
mark_after found octet (faulty ∷ tokens) h = rw h refl
mark_after found octet (mark minus ∷ []) h = rw h refl
mark_after found octet (mark minus ∷ name octets ∷ tokens) h = rw h refl
mark_after found octet (mark minus ∷ faulty ∷ tokens) h = rw h refl
mark_after found octet (mark minus ∷ mark other ∷ tokens) h = rw h refl
mark_after found octet (mark minus ∷ number value ∷ tokens) h =
    elim (found == 35 && minus == 45) as (λ t. cut_mark octet (if t then mark found ∷ number ((2 ^ 32 - value) % 2 ^ 32) ∷ tokens else mark found ∷ mark minus ∷ number value ∷ tokens) ≡ None) [ true ↦ rw h refl | false ↦ rw h refl ]

-- A cut of a text without tokens.
pub mark_none : (octet : ℕ) (text : List ℕ) → tokens_of text ≡ [] → cut_mark octet (tokens_read text) ≡ None
mark_none octet text e = rw (read_none text e) refl

pub number_none : (text : List ℕ) → tokens_of text ≡ [] → cut_number (tokens_read text) ≡ None
number_none text e = rw (read_none text e) refl

pub name_none : (text : List ℕ) → tokens_of text ≡ [] → cut_name (tokens_read text) ≡ None
name_none text e = rw (read_none text e) refl

-- The octet is the one to cut.
pub mark_found : (octet found : ℕ) (text rest : List ℕ) (token : LentToken) → octet ≢ 35 → found ≡ octet → token ≡ Mark found → tokens_of text ≡ token_seen token ∷ tokens_of rest → cut_mark octet (tokens_read text) ≡ Some (tokens_read rest)
mark_found octet found text rest token h f m e =
    let whole : tokens_of text ≡ mark octet ∷ tokens_of rest = e ∙ ap (λ (t : LentToken). token_seen t ∷ tokens_of rest) m ∙ ap (λ (n : ℕ). mark n ∷ tokens_of rest) f in
    rw (read_cons text rest (mark octet) whole, cut_mark-found octet (tokens_read rest) h, eq-eqb octet octet refl) refl

-- The octet is another one.
pub mark_other : (octet found : ℕ) (text rest : List ℕ) (token : LentToken) → (found ≡ octet → ⊥) → token ≡ Mark found → tokens_of text ≡ token_seen token ∷ tokens_of rest → cut_mark octet (tokens_read text) ≡ None
mark_other octet found text rest token f m e =
    let whole : tokens_of text ≡ mark found ∷ tokens_of rest = e ∙ ap (λ (t : LentToken). token_seen t ∷ tokens_of rest) m in
    rw (read_cons text rest (mark found) whole) (mark_after found octet (tokens_read rest) (ne_eqb found octet f))

-- The token isn't an octet.
pub mark_default : (octet : ℕ) (text rest : List ℕ) (token : LentToken) → ((found : ℕ) → token ≡ Mark found → ⊥) → tokens_of text ≡ token_seen token ∷ tokens_of rest → cut_mark octet (tokens_read text) ≡ None
mark_default octet text rest (Name octets) h e = rw (read_cons text rest (name octets.now) e) refl
mark_default octet text rest (Number value) h e = rw (read_cons text rest (number value) e) refl
mark_default octet text rest Faulty h e = rw (read_cons text rest faulty e) refl
mark_default octet text rest (Mark found) h e = absurd (h found refl)

pub number_found : (value : ℕ) (text rest : List ℕ) (token : LentToken) → token ≡ Number value → tokens_of text ≡ token_seen token ∷ tokens_of rest → cut_number (tokens_read text) ≡ Some (value, tokens_read rest)
number_found value text rest token m e =
    let whole : tokens_of text ≡ number value ∷ tokens_of rest = e ∙ ap (λ (t : LentToken). token_seen t ∷ tokens_of rest) m in
    rw (read_cons text rest (number value) whole) refl

pub number_after : (found : ℕ) (tokens : List Token) → cut_number (signed_after (mark found) tokens) ≡ None
number_after found [] = refl
number_after found (name octets ∷ tokens) = refl
number_after found (number value ∷ tokens) = refl
number_after found (faulty ∷ tokens) = refl
number_after found (mark minus ∷ []) = refl
number_after found (mark minus ∷ name octets ∷ tokens) = refl
number_after found (mark minus ∷ faulty ∷ tokens) = refl
number_after found (mark minus ∷ mark other ∷ tokens) = refl
number_after found (mark minus ∷ number value ∷ tokens) =
    elim (found == 35 && minus == 45) as (λ t. cut_number (if t then mark found ∷ number ((2 ^ 32 - value) % 2 ^ 32) ∷ tokens else mark found ∷ mark minus ∷ number value ∷ tokens) ≡ None) [ true ↦ refl | false ↦ refl ]

pub number_default : (text rest : List ℕ) (token : LentToken) → ((value : ℕ) → token ≡ Number value → ⊥) → tokens_of text ≡ token_seen token ∷ tokens_of rest → cut_number (tokens_read text) ≡ None
number_default text rest (Name octets) h e = rw (read_cons text rest (name octets.now) e) refl
number_default text rest (Number value) h e = absurd (h value refl)
number_default text rest Faulty h e = rw (read_cons text rest faulty e) refl
number_default text rest (Mark found) h e = rw (read_cons text rest (mark found) e) (number_after found (tokens_read rest))

pub name_found : (octets : Bor (List ℕ)) (text rest : List ℕ) (token : LentToken) → token ≡ Name octets → tokens_of text ≡ token_seen token ∷ tokens_of rest → cut_name (tokens_read text) ≡ Some (octets.now, tokens_read rest)
name_found octets text rest token m e =
    let whole : tokens_of text ≡ name octets.now ∷ tokens_of rest = e ∙ ap (λ (t : LentToken). token_seen t ∷ tokens_of rest) m in
    rw (read_cons text rest (name octets.now) whole) refl

pub name_after : (found : ℕ) (tokens : List Token) → cut_name (signed_after (mark found) tokens) ≡ None
name_after found [] = refl
name_after found (name octets ∷ tokens) = refl
name_after found (number value ∷ tokens) = refl
name_after found (faulty ∷ tokens) = refl
name_after found (mark minus ∷ []) = refl
name_after found (mark minus ∷ name octets ∷ tokens) = refl
name_after found (mark minus ∷ faulty ∷ tokens) = refl
name_after found (mark minus ∷ mark other ∷ tokens) = refl
name_after found (mark minus ∷ number value ∷ tokens) =
    elim (found == 35 && minus == 45) as (λ t. cut_name (if t then mark found ∷ number ((2 ^ 32 - value) % 2 ^ 32) ∷ tokens else mark found ∷ mark minus ∷ number value ∷ tokens) ≡ None) [ true ↦ refl | false ↦ refl ]

pub name_default : (text rest : List ℕ) (token : LentToken) → ((octets : Bor (List ℕ)) → token ≡ Name octets → ⊥) → tokens_of text ≡ token_seen token ∷ tokens_of rest → cut_name (tokens_read text) ≡ None
name_default text rest (Name octets) h e = absurd (h octets refl)
name_default text rest (Number value) h e = rw (read_cons text rest (number value) e) refl
name_default text rest Faulty h e = rw (read_cons text rest faulty e) refl
name_default text rest (Mark found) h e = rw (read_cons text rest (mark found) e) (name_after found (tokens_read rest))

-- After `#`.
pub hash_found : (found : ℕ) (text rest : List ℕ) (token : LentToken) → found ≡ 35 → token ≡ Mark found → tokens_of text ≡ token_seen token ∷ tokens_of rest → tokens_read text ≡ signed_after (mark 35) (tokens_read rest)
hash_found found text rest token f m e =
    let whole : tokens_of text ≡ mark 35 ∷ tokens_of rest = e ∙ ap (λ (t : LentToken). token_seen t ∷ tokens_of rest) m ∙ ap (λ (n : ℕ). mark n ∷ tokens_of rest) f in
    read_cons text rest (mark 35) whole

some_mark : (found : ℕ) (tokens : List Token) → is_ended (signed_after (mark found) tokens) ≡ false
some_mark found [] = refl
some_mark found (name octets ∷ tokens) = refl
some_mark found (number value ∷ tokens) = refl
some_mark found (faulty ∷ tokens) = refl
some_mark found (mark minus ∷ []) = refl
some_mark found (mark minus ∷ name octets ∷ tokens) = refl
some_mark found (mark minus ∷ faulty ∷ tokens) = refl
some_mark found (mark minus ∷ mark other ∷ tokens) = refl
some_mark found (mark minus ∷ number value ∷ tokens) =
    elim (found == 35 && minus == 45) as (λ t. is_ended (if t then mark found ∷ number ((2 ^ 32 - value) % 2 ^ 32) ∷ tokens else mark found ∷ mark minus ∷ number value ∷ tokens) ≡ false) [ true ↦ refl | false ↦ refl ]

pub some_after : (token : Token) (tokens : List Token) → is_ended (signed_after token tokens) ≡ false
some_after (name octets) tokens = refl
some_after (number value) tokens = refl
some_after faulty tokens = refl
some_after (mark found) tokens = some_mark found tokens
