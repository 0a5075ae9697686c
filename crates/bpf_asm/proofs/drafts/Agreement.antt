-- The map of labels, line by line.
use Rattle.std.proofs.Common.{◌≡◌, ◌⊎◌, ℕ, zero, suc, ◌+◌, Bool, true, false, if◌then◌else◌, List, [], ◌∷◌, ◌++◌, length, Option, Some, None, Result, Ok, Err, IfOk, refl, sym, ap, ◌∙◌, subst, inl, inr, append_assoc, length-append}
use Rattle.std.specs.Str.{bytes_eq}
use Rattle.std.specs.Option.{is_none}
use Rattle.std.proofs.lemmas.List.Elements.{filter_map-append}
use Rattle.std.proofs.lemmas.Slice.Eq.{bytes_eq-Decides}
use Rattle.bpf_asm.specs.Grammar.{AreLines, IsSourceLine, SourceLine}
use Rattle.bpf_asm.specs.Labels.{EachLabelOnce, HasLabel, NamesPlace, statements_of}
use Rattle.bpf_asm.specs.inner.Counts.{statement_count}
use Rattle.bpf_asm.specs.StatementSpelling.{Statement}
use Rattle.bpf_asm.specs.inner.Drafts.{AgreesWith, IsReadTo, IsTwice}

-- Equal optional lines are equal lines.
pub some_line : (one other : SourceLine) → Some one ≡ Some other → one ≡ other
some_line one other e = cc

-- Equal optional names are equal names.
pub some_name : (one other : List ℕ) → Some one ≡ Some other → one ≡ other
some_name one other e = cc

some_place : (one other : ℕ) → Some one ≡ Some other → one ≡ other
some_place one other e = cc

some_none : (place : ℕ) → Some place ≡ None → ⊥
some_none place e = cc

-- A name isn't None.
pub no_name : (name : List ℕ) → Some name ≡ None → ⊥
no_name name e = cc

-- The statements of lines and more lines.
pub statements_of-append : (lines more : List SourceLine) → statements_of (lines ++ more) ≡ statements_of lines ++ statements_of more
unfolding statements_of
statements_of-append lines more = filter_map-append (λ (line : SourceLine). line.statement) lines more

-- A line of a prefix is a line of the whole.
pub label_kept : (lines more : List SourceLine) (at : ℕ) (name : List ℕ) → HasLabel lines at name → HasLabel (lines ++ more) at name
label_kept [] more at name h = cc
label_kept (line ∷ lines) more zero name h = h
label_kept (line ∷ lines) more (suc at) name h = label_kept lines more at name h

-- A line of the whole is the last or one before it.
pub label_split : (lines : List SourceLine) (line : SourceLine) (at : ℕ) (name : List ℕ) → HasLabel (lines ++ line ∷ []) at name → HasLabel lines at name ⊎ ((at ≡ length lines) × (line.label ≡ Some name))
label_split [] line zero name h = let same : line ≡ h.0 = some_line _ _ h.1 in inr (refl, ap (λ (l : SourceLine). l.label) same ∙ h.2)
label_split [] line (suc at) name h = cc
label_split (first ∷ lines) line zero name h = inl h
label_split (first ∷ lines) line (suc at) name h =
    elim (label_split lines line at name h) [ inl f ↦ inl f | inr l ↦ inr (ap suc l.0, l.1) ]

-- A label of a prefix names the same place in the whole.
pub holds_kept : (lines more : List SourceLine) (name : List ℕ) (place : ℕ) → NamesPlace lines name place → NamesPlace (lines ++ more) name place
holds_kept lines more name place s = record {
  before = s.before;
  here = s.here;
  after = s.after ++ more;
  split = ap (λ (ls : List SourceLine). ls ++ more) s.split ∙ append_assoc s.before (s.here ∷ s.after) more;
  named = s.named;
  counted = s.counted;
}

-- The last line's label names the place after the statements before it.
holds_last : (lines : List SourceLine) (line : SourceLine) (name : List ℕ) → line.label ≡ Some name → NamesPlace (lines ++ line ∷ []) name (length (statements_of lines))
holds_last lines line name e = record { before = lines; here = line; after = []; split = refl; named = e; counted = refl }

-- The number of statements of one line.
pub statements_one : (line : SourceLine) (s : Option Statement) → line.statement ≡ s → length (statements_of (line ∷ [])) ≡ statement_count s
unfolding statements_of
statements_one line None e = rw e refl
statements_one line (Some s) e = rw e refl

-- One more line.
pub count_more : (lines : List SourceLine) (line : SourceLine) → length (statements_of (lines ++ line ∷ [])) ≡ length (statements_of lines) + statement_count line.statement
count_more lines line =
    ap length (statements_of-append lines (line ∷ [])) ∙ length-append (statements_of lines) (statements_of (line ∷ [])) ∙ ap (λ (n : ℕ). length (statements_of lines) + n) (statements_one line line.statement refl)

-- If the last line has no label, each label is one of an earlier line.
pub no_last : (lines : List SourceLine) (line : SourceLine) (at : ℕ) (name : List ℕ) → line.label ≡ None → HasLabel (lines ++ line ∷ []) at name → HasLabel lines at name
no_last lines line at name n h = elim (label_split lines line at name h) [ inl f ↦ f | inr l ↦ absurd (no_name name (sym l.1 ∙ n)) ]

-- If the last line's label is new, no label occurs twice.
pub both_once : (lines : List SourceLine) (line : SourceLine) (label : List ℕ) (one other : ℕ) (name : List ℕ) → line.label ≡ Some label → ((at : ℕ) → ¬ HasLabel lines at label) → EachLabelOnce lines → HasLabel lines one name ⊎ ((one ≡ length lines) × (line.label ≡ Some name)) → HasLabel lines other name ⊎ ((other ≡ length lines) × (line.label ≡ Some name)) → one ≡ other
both_once lines line label one other name is new once (inl f) (inl g) = once one other name f g
both_once lines line label one other name is new once (inl f) (inr g) = let same : name ≡ label = some_name _ _ (sym g.1 ∙ is) in absurd (new one (rw same at f))
both_once lines line label one other name is new once (inr f) (inl g) = let same : name ≡ label = some_name _ _ (sym f.1 ∙ is) in absurd (new other (rw same at g))
both_once lines line label one other name is new once (inr f) (inr g) = f.0 ∙ sym g.0

put_holds : (lines : List SourceLine) (line : SourceLine) (label name : List ℕ) (places place : ℕ) → line.label ≡ Some label → places ≡ length (statements_of lines) → (old : Option ℕ) → (old ≡ Some place → NamesPlace lines name place) → (t : Bool) → bytes_eq label name ≡ t → (if t then Some places else old) ≡ Some place → NamesPlace (lines ++ line ∷ []) name place
put_holds lines line label name places place is counted old holds true b e =
    let same : label ≡ name = (bytes_eq-Decides label name).0 b in
    let at : place ≡ length (statements_of lines) = sym (some_place places place e) ∙ counted in
    rw at (holds_last lines line name (is ∙ ap (λ (n : List ℕ). Some n) same))
put_holds lines line label name places place is counted old holds false b e = holds_kept lines (line ∷ []) name place (holds e)

put_unknown : (lines : List SourceLine) (line : SourceLine) (label name : List ℕ) (places at : ℕ) → line.label ≡ Some label → (old : Option ℕ) → (old ≡ None → ¬ HasLabel lines at name) → (t : Bool) → bytes_eq label name ≡ t → (if t then Some places else old) ≡ None → HasLabel lines at name ⊎ ((at ≡ length lines) × (line.label ≡ Some name)) → ⊥
put_unknown lines line label name places at is old unknown true b e h = some_none places e
put_unknown lines line label name places at is old unknown false b e (inl f) = unknown e f
put_unknown lines line label name places at is old unknown false b e (inr l) =
    let same : label ≡ name = some_name _ _ (sym is ∙ l.1) in
    let both : false ≡ true = sym b ∙ (bytes_eq-Decides label name).1 same in
    cc

-- The line at which a list is split has its label.
pub holds_label : (before : List SourceLine) (here : SourceLine) (after : List SourceLine) (name : List ℕ) → here.label ≡ Some name → HasLabel (before ++ here ∷ after) (length before) name
holds_label [] here after name e = (here, refl, e)
holds_label (first ∷ before) here after name e = holds_label before here after name e

-- A label that names a place is the label of some line.
pub holds_has : (lines : List SourceLine) (name : List ℕ) (place : ℕ) → NamesPlace lines name place → (at : ℕ) × HasLabel lines at name
holds_has lines name place s = (length s.before, subst (λ (ls : List SourceLine). HasLabel ls (length s.before) name) (sym s.split) (holds_label s.before s.here s.after name s.named))

twice_by : (lines : List SourceLine) (line : SourceLine) (label : List ℕ) (old : Option ℕ) → line.label ≡ Some label → is_none old ≡ false → ((place : ℕ) → old ≡ Some place → NamesPlace lines label place) → IsTwice lines line
twice_by lines line label None is o holds = cc
twice_by lines line label (Some place) is o holds = let h = holds_has lines label place (holds place refl) in (label, is, h.0, h.1)

are_more : (done : List (List ℕ)) (lines : List SourceLine) (octets : List ℕ) (line : SourceLine) → IsSourceLine octets line → AreLines done lines → AreLines (done ++ octets ∷ []) (lines ++ line ∷ [])
are_more [] [] octets line is a = (is, refl)
are_more [] (first ∷ lines) octets line is a = cc
are_more (one ∷ done) [] octets line is a = absurd a
are_more (one ∷ done) (first ∷ lines) octets line is a = (a.0, are_more done lines octets line is a.1)

-- No lines.
pub agrees_none : (find : List ℕ → Option ℕ) → ((name : List ℕ) → find name ≡ None) → AgreesWith [] find 0
unfolding statements_of
agrees_none find none = record {
  counted = refl;
  once = λ one other label a b. cc;
  holds = λ name place e. absurd (some_none place (sym e ∙ none name));
  unknown = λ name e at h. cc;
}

-- A line without a label.
pub agrees_plain : (lines : List SourceLine) (line : SourceLine) (find : List ℕ → Option ℕ) (places : ℕ) → line.label ≡ None → AgreesWith lines find places → AgreesWith (lines ++ line ∷ []) find (places + statement_count line.statement)
agrees_plain lines line find places n a = record {
  counted = ap (λ (m : ℕ). m + statement_count line.statement) a.counted ∙ sym (count_more lines line);
  once = λ one other label f g. a.once one other label (no_last lines line one label n f) (no_last lines line other label n g);
  holds = λ name place e. holds_kept lines (line ∷ []) name place (a.holds name place e);
  unknown = λ name e at h. a.unknown name e at (no_last lines line at name n h);
}

-- A line with a new label.
pub agrees_label : (lines : List SourceLine) (line : SourceLine) (label : List ℕ) (find found : List ℕ → Option ℕ) (places : ℕ) → line.label ≡ Some label → find label ≡ None → ((name : List ℕ) → found name ≡ (if bytes_eq label name then Some places else find name)) → AgreesWith lines find places → AgreesWith (lines ++ line ∷ []) found (places + statement_count line.statement)
agrees_label lines line label find found places is new put a = record {
  counted = ap (λ (m : ℕ). m + statement_count line.statement) a.counted ∙ sym (count_more lines line);
  once = λ one other name f g. both_once lines line label one other name is (a.unknown label new) a.once (label_split lines line one name f) (label_split lines line other name g);
  holds = λ name place e. put_holds lines line label name places place is a.counted (find name) (a.holds name place) (bytes_eq label name) refl (sym (put name) ∙ e);
  unknown = λ name e at h. put_unknown lines line label name places at is (find name) (λ f. a.unknown name f at) (bytes_eq label name) refl (sym (put name) ∙ e) (label_split lines line at name h);
}

-- A line with an old label.
pub twice_is : (lines : List SourceLine) (line : SourceLine) (label : List ℕ) (find : List ℕ → Option ℕ) (places : ℕ) → line.label ≡ Some label → is_none (find label) ≡ false → AgreesWith lines find places → IsTwice lines line
twice_is lines line label find places is old a = twice_by lines line label (find label) is old (a.holds label)

-- No line is read.
pub read_none : (source : List (List ℕ)) → IsReadTo source source [] 0
read_none source = record { done = []; split = refl; spelled = refl; counted = refl }

-- One more line is read.
pub read_more : (source left : List (List ℕ)) (octets : List ℕ) (lines : List SourceLine) (line : SourceLine) (count : ℕ) → IsSourceLine octets line → IsReadTo source (octets ∷ left) lines count → IsReadTo source left (lines ++ line ∷ []) (count + 1)
read_more source left octets lines line count is r = record {
  done = r.done ++ octets ∷ [];
  split = r.split ∙ sym (append_assoc r.done (octets ∷ []) left);
  spelled = are_more r.done lines octets line is r.spelled;
  counted = ap (λ (n : ℕ). n + 1) r.counted ∙ sym (length-append r.done (octets ∷ []));
}

-- A clause about a result implies another.
pub if_ok : {A E : Type 0} (r : Result A E) (P Q : A → Type 0) → ((v : A) → P v → Q v) → IfOk r P → IfOk r Q
if_ok (Ok v) P Q f h = f v h
if_ok (Err e) P Q f h = tt

-- Two clauses about a result imply another.
pub if_ok_both : {A E : Type 0} (r : Result A E) (P R Q : A → Type 0) → ((v : A) → P v → R v → Q v) → IfOk r P → IfOk r R → IfOk r Q
if_ok_both (Ok v) P R Q f h g = f v h g
if_ok_both (Err e) P R Q f h g = tt

-- There is no value.
pub none_is : {A : Type 0} (o : Option A) → is_none o ≡ true → o ≡ None
none_is None e = refl
none_is (Some v) e = cc
