-- The words that clap accepts for a command whose subcommands take no arguments, if no level has an option except the
-- help that clap adds.
use Rattle.std.proofs.Common.{◌≡◌, ◌∙◌, ◌&&◌, ◌||◌, ◌⊎◌, ◌==◌, ℕ, Bool, cond, codes, true, false, not, zero, suc, refl, sym, ap, subst, inl, inr, List, [], ◌∷◌, ◌++◌, append_assoc, append-nil, fold, find, length, Option, Some, None, IfSome, is_some, option_map, true≢false}
use Rattle.std.specs.Prelude.{slice_get}
use Rattle.std.specs.List.{list_all}
use Rattle.std.specs.Option.{option_map_or}
use Rattle.std.specs.Str.{bytes_eq, chars}
use Rattle.std.proofs.lemmas.Slice.Eq.{bytes_eq-Decides}
use Rattle.clap.specs.Lexer.{long_of, short_of}
use Rattle.clap.specs.Values.{is_request}
use Rattle.clap.specs.Walk.{Held, Names, Rule, Step, Text, Walk, action_of, after_flag, after_step, answers_to, arg_by_index, arg_by_short, bundle_met, bundle_step, idle, is_empty, long_or_other, nothing_held, plain, short_or_plain, subcommand_met, subcommand_or_other, takes_values, trailing, value, walk_from, walked, walked_from, word_met}
use Rattle.clap.specs.Simple.{App, Shape, argument_words, built, entered, label_of, names_of, rows_at, subcommand_of}
use Rattle.clap.specs.Kinds.{Kinds, or_else, request_kinds}
use Rattle.clap.specs.Faults.{bundle_fault, built_fault, bundle_step_fault, entered_fault, fault_of, flag_word_fault, flags_fault, level_fault, long_fault, other_fault, react_fault, short_fault, step_fault, stray_fault, turn_fault, walk_fault, word_fault}
use Rattle.clap.specs.declared.builder.action.ArgAction.{ArgAction}
use Rattle.clap.specs.declared.builder.action.ArgAction.TheVariants as action
use Rattle.clap.specs.declared.error.kind.ErrorKind.TheVariants.{DisplayHelp, InvalidSubcommand}
use Rattle.clap.proofs.FaultLemmas.{request_fault}
use Rattle.clap.proofs.SimpleLemmas.{is_nil}
use Rattle.clap.proofs.WalkLemmas.{both, find-map}
use Rattle.text_command_line.specs.PlainCommands.{has_requests_alone, is_plain_subcommand, is_request_rule}
use Rattle.text_command_line.specs.Subcommands.{IsEnd}

-- ---- tests and lists

neither : (a b : Kinds) → or_else a b ≡ [] → (a ≡ []) × (b ≡ [])
neither [] b e = (refl, e)
neither (k ∷ ks) b e = cc

pub is_off : (b : Bool) → not b ≡ true → b ≡ false
is_off true e = absurd (true≢false (sym e))
is_off false e = refl

otherwise : (b : Bool) (x y : Kinds) → b ≡ false → cond b x y ≡ [] → y ≡ []
otherwise true x y off e = absurd (true≢false off)
otherwise false x y off e = e

find_first : {X : Type 0} (P : X → Type 0) (b : Bool) (x : X) (rest : Option X) → (b ≡ true → P x) → IfSome rest P → IfSome (cond b (Some x) rest) P
find_first P true x rest here later = here refl
find_first P false x rest here later = later

pub find_both : {X : Type 0} (q p : X → Bool) (xs : List X) → list_all q xs ≡ true → IfSome (find p xs) (λ x. (q x ≡ true) × (p x ≡ true))
find_both q p [] each = tt
find_both q p (x ∷ xs) each =
    let parts = both (q x) (list_all q xs) each in
    find_first _ (p x) x _ (λ hit. (parts.0, hit)) (find_both q p xs parts.1)

-- ---- an option that only requests something, as help does

record IsRequestRule (a : Rule) : Type 0 where
  pub index : is_some a.index ≡ false
  pub values : takes_values a ≡ false
  pub asks : is_request (action_of a) ≡ true

request_rule : (a : Rule) → is_request_rule a ≡ true → IsRequestRule a
request_rule a e =
    let outer = both (not (is_some a.index)) _ e in
    let inner = both (not (takes_values a)) _ outer.1 in
    record { index = is_off _ outer.0; values = is_off _ inner.0; asks = inner.1 }

requested : (x : ArgAction) → is_request x ≡ true → request_kinds x ≡ [] → ⊥
requested action.Set asks e = true≢false (sym asks)
requested action.Append asks e = true≢false (sym asks)
requested action.SetTrue asks e = true≢false (sym asks)
requested action.SetFalse asks e = true≢false (sym asks)
requested action.Count asks e = true≢false (sym asks)
requested action.Help asks e = cc
requested action.HelpShort asks e = cc
requested action.HelpLong asks e = cc
requested action.Version asks e = cc

react_fails : (c : List Rule) (again : Bool) (a : Rule) (h : Held) → IsRequestRule a → react_fault c again a [] h ≡ [] → ⊥
react_fails c again a h is e =
    let used = (neither _ _ e).1 in
    requested (action_of a) is.asks (request_fault (action_of a) again a _ _ is.asks ∙ (neither _ _ used).1)

found : (c : List Rule) (p : Rule → Bool) → list_all is_request_rule c ≡ true → IfSome (find p c) IsRequestRule
found c p alone = go (find p c) (find_both is_request_rule p c alone)
  where
    go : (a : Option Rule) → IfSome a (λ x. (is_request_rule x ≡ true) × (p x ≡ true)) → IfSome a IsRequestRule
    go None h = tt
    go (Some a) h = request_rule a h.0

long_fails : (c : List Rule) (again : Bool) (a : Option Rule) (v : Option Text) (h : Held) → IfSome a IsRequestRule → long_fault c again a v h ≡ [] → ⊥
long_fails c again None v h is e = cc
long_fails c again (Some a) (Some v) h is e =
    let bad = otherwise (takes_values a) _ _ is.values e in cc
long_fails c again (Some a) None h is e = react_fails c again a h is (otherwise (takes_values a) _ _ is.values e)

short_fails : (c : List Rule) (again : Bool) (a : Option Rule) (rest : Text) (h : Held) (more : Held → Kinds) → IfSome a IsRequestRule → short_fault c again a rest h more ≡ [] → ⊥
short_fails c again None rest h more is e = cc
short_fails c again (Some a) rest h more is e =
    react_fails c again a h is (neither _ _ (otherwise (takes_values a) _ _ is.values e)).0

-- A bundle of letters without an error has no letter.
bundle_plain : (c : List Rule) (again : Bool) (k : ℕ) (flags : Text) (h : Held) → list_all is_request_rule c ≡ true → flags_fault c again k flags 0 h ≡ []
    → (bundle_met c k flags 0 plain h).1 ≡ plain
unfolding bundle_met flags_fault
bundle_plain c again zero flags h alone e = refl
bundle_plain c again (suc k) flags h alone e = go (slice_get (chars flags) 0) e
  where
    go : (x : Option ℕ) → bundle_step_fault c again x flags 0 h (flags_fault c again k) ≡ [] → (bundle_step c x flags 0 plain h (bundle_met c k)).1 ≡ plain
    go None bad = refl
    go (Some x) bad = absurd (short_fails c again (arg_by_short c x) _ h _ (found c _ alone) bad)

-- ---- a word that no positional takes

stray_fails : (s : Shape) → stray_fault s ≡ [] → ⊥
stray_fails s e = go s.is_leaf e
  where
    go : (b : Bool) → cond b (stray_fault (record s { is_leaf = true })) (stray_fault (record s { is_leaf = false })) ≡ [] → ⊥
    go true bad = cc
    go false bad = cc

no_place : (c : List Rule) (i : ℕ) → list_all is_request_rule c ≡ true → arg_by_index c i ≡ None
no_place [] i alone = refl
no_place (a ∷ rest) i alone =
    let parts = both (is_request_rule a) (list_all is_request_rule rest) alone in
    first a.index (request_rule a parts.0).index (arg_by_index rest i) (no_place rest i parts.1)
  where
    first : (index : Option ℕ) → is_some index ≡ false → (later : Option Rule) → later ≡ None → cond (option_map_or (λ k. k == i) index false) (Some a) later ≡ None
    first None off later e = e
    first (Some k) off later e = absurd (true≢false off)

none_left : {X : Type 0} (f : X → Kinds) (o : Option X) (d : Kinds) → o ≡ None → option_map_or f o d ≡ [] → d ≡ []
none_left f None d none e = e
none_left f (Some x) d none e = cc

value_fails : (s : Shape) (position : ℕ) (h : Held) (step : Step) → has_requests_alone s ≡ true → step ≡ value → step_fault s position h step ≡ [] → ⊥
value_fails s position h step alone is e =
    let here : step_fault s position h value ≡ [] = ap (step_fault s position h) (sym is) ∙ e in
    stray_fails s (none_left _ (arg_by_index s.rules position) (stray_fault s) (no_place s.rules position alone) here)

-- ---- the first word of a level, and the words after it

abbrev mark : Text
mark = codes "--"

abbrev start : Walk
start = walk_from nothing_held

-- A word that is neither a subcommand nor `--` has an error.
other_fails : (s : Shape) (word : Text) → has_requests_alone s ≡ true
    → or_else (flag_word_fault s.rules s.args_override_self (long_of word) word nothing_held)
    (step_fault s 1 (long_or_other s.rules idle word (long_of word) nothing_held).0 (long_or_other s.rules idle word (long_of word) nothing_held).1) ≡ [] → ⊥
other_fails s word alone e = go (long_of word) e
  where
    short : (flags : Option Text) → or_else (option_map_or (λ f. bundle_fault s.rules s.args_override_self f nothing_held) flags [])
        (step_fault s 1 (short_or_plain s.rules idle word flags nothing_held).0 (short_or_plain s.rules idle word flags nothing_held).1) ≡ [] → ⊥
    short None bad = value_fails s 1 nothing_held value alone refl bad
    short (Some flags) bad =
        let step = short_or_plain s.rules idle word (Some flags) nothing_held in
        let parts = neither (bundle_fault s.rules s.args_override_self flags nothing_held) (step_fault s 1 step.0 step.1) bad in
        let none = bundle_plain s.rules s.args_override_self (length flags) flags nothing_held alone parts.0 in
        let bundle = bundle_met s.rules (length flags) flags 0 plain nothing_held in
        value_fails s 1 step.0 step.1 alone (ap (λ o. (after_flag s.rules idle word bundle.0 o).1) none) parts.1

    go : (p : Option (Text × Option Text)) → or_else (flag_word_fault s.rules s.args_override_self p word nothing_held)
        (step_fault s 1 (long_or_other s.rules idle word p nothing_held).0 (long_or_other s.rules idle word p nothing_held).1) ≡ [] → ⊥
    go (Some p) bad = long_fails s.rules s.args_override_self _ p.1 nothing_held (found s.rules _ alone) (neither _ _ bad).0
    go None bad = short (short_of word) bad

-- The first word is a subcommand, which is accepted, or `--`.
abbrev FirstIs : Shape → Option Text → Text → Type 0
FirstIs s met word = ((name : Text) × (met ≡ Some name) × (other_fault s (Some name) word nothing_held ≡ [])) ⊎ ((met ≡ None) × (word ≡ mark))

first_word : (s : Shape) (names : Names) (word : Text) → has_requests_alone s ≡ true → turn_fault s names start word ≡ [] → FirstIs s (subcommand_met names idle word) word
first_word s names word alone e = go (subcommand_met names idle word) e
  where
    marked : (b : Bool) → bytes_eq word mark ≡ b → or_else (cond b [] (flag_word_fault s.rules s.args_override_self (long_of word) word nothing_held))
        (step_fault s 1 (cond b ((nothing_held, trailing 1)) (long_or_other s.rules idle word (long_of word) nothing_held)).0
        (cond b ((nothing_held, trailing 1)) (long_or_other s.rules idle word (long_of word) nothing_held)).1) ≡ [] → word ≡ mark
    marked true is bad = (bytes_eq-Decides word mark).0 is
    marked false is bad = absurd (other_fails s word alone bad)

    go : (met : Option Text) → or_else (other_fault s met word nothing_held)
        (step_fault s 1 (subcommand_or_other s.rules met idle 1 word nothing_held).0 (subcommand_or_other s.rules met idle 1 word nothing_held).1) ≡ [] → FirstIs s met word
    go (Some name) bad = inl (name, refl, (neither _ _ bad).0)
    go None bad = inr (refl, marked (bytes_eq word mark) refl bad)

-- After `--` no word is accepted.
mark_ends : (s : Shape) (names : Names) (w : Walk) (words : List Text) → has_requests_alone s ≡ true → w.stopped ≡ None → w.is_trailing ≡ true
    → walk_fault s names w words ≡ [] → words ≡ []
unfolding walk_fault
mark_ends s names w [] alone going rest_after e = refl
mark_ends s names w (word ∷ rest) alone going rest_after e = absurd (go w.stopped w.is_trailing going rest_after (neither _ _ e).0)
  where
    go : (stopped : Option (Text × List Text)) (is_trailing : Bool) → stopped ≡ None → is_trailing ≡ true
        → cond (is_some stopped) [] (or_else (word_fault s names is_trailing w.waiting word w.held)
        (step_fault s w.position (word_met s.rules names is_trailing w.waiting w.position word w.held).0 (word_met s.rules names is_trailing w.waiting w.position word w.held).1)) ≡ []
        → ⊥
    go (Some p) is_trailing on here bad = cc
    go None false on here bad = true≢false (sym here)
    go None true on here bad = value_fails s w.position w.held value alone refl bad

-- The state after `--`.
mark_is : (s : Shape) (names : Names) → subcommand_met names idle mark ≡ None
    → ((walked s.rules names start mark).stopped ≡ None) × ((walked s.rules names start mark).is_trailing ≡ true)
unfolding walked
mark_is s names none = go (subcommand_met names idle mark) none
  where
    go : (met : Option Text) → met ≡ None → let after = subcommand_or_other s.rules met idle 1 mark nothing_held in
        ((after_step s.rules mark start after.0 after.1).stopped ≡ None) × ((after_step s.rules mark start after.0 after.1).is_trailing ≡ true)
    go None e = (refl, refl)
    go (Some name) e = (cc, cc)

mark_at : (s : Shape) (names : Names) (word : Text) → word ≡ mark → subcommand_met names idle word ≡ None
    → ((walked s.rules names start word).stopped ≡ None) × ((walked s.rules names start word).is_trailing ≡ true)
mark_at s names word is =
    let P : Text → Type 0 = λ x. subcommand_met names idle x ≡ None
    → ((walked s.rules names start x).stopped ≡ None) × ((walked s.rules names start x).is_trailing ≡ true) in
    subst P (sym is) (mark_is s names)

stays : (c : List Rule) (names : Names) (w : Walk) (name : Text) (before rest : List Text) → w.stopped ≡ Some (name, before)
    → (fold (walked c names) w rest).stopped ≡ Some (name, before ++ rest)
unfolding walked
stays c names w name before [] e = e ∙ ap (λ xs. Some (name, xs)) (sym (append-nil before))
stays c names w name before (word ∷ rest) e =
    stays c names (walked c names w word) name (before ++ word ∷ []) rest (ap (λ o. (walked_from c names o w word).stopped) e)
    ∙ ap (λ xs. Some (name, xs)) (append_assoc before (word ∷ []) rest)

enters : (s : Shape) (names : Names) (word name : Text) → subcommand_met names idle word ≡ Some name → (walked s.rules names start word).stopped ≡ Some (name, [])
unfolding walked
enters s names word name met =
    ap (λ m. (after_step s.rules word start (subcommand_or_other s.rules m idle 1 word nothing_held).0 (subcommand_or_other s.rules m idle 1 word nothing_held).1).stopped) met

abbrev stop_at : Shape → Names → List Text → Option (Text × List Text)
stop_at s names words = (fold (walked s.rules names) start words).stopped

record Enters (s : Shape) (names : Names) (words : List Text) : Type 0 where
  pub word : Text
  pub rest : List Text
  pub name : Text
  pub is : words ≡ word ∷ rest
  pub met : subcommand_met names idle word ≡ Some name
  pub stop : stop_at s names words ≡ Some (name, rest)
  pub taken : other_fault s (Some name) word nothing_held ≡ []

level : (s : Shape) (names : Names) (words : List Text) → has_requests_alone s ≡ true → walk_fault s names start words ≡ []
    → (IsEnd words × (stop_at s names words ≡ None)) ⊎ Enters s names words
unfolding walk_fault
level s names [] alone e = inl (inl refl, refl)
level s names (word ∷ rest) alone e =
    let parts = neither (turn_fault s names start word) (walk_fault s names (walked s.rules names start word) rest) e in
    first (first_word s names word alone parts.0) parts.1
  where
    first : FirstIs s (subcommand_met names idle word) word → walk_fault s names (walked s.rules names start word) rest ≡ []
        → (IsEnd (word ∷ rest) × (stop_at s names (word ∷ rest) ≡ None)) ⊎ Enters s names (word ∷ rest)
    first (inl h) later = inr (record {
      word = word;
      rest = rest;
      name = h.0;
      is = refl;
      met = h.1;
      stop = stays s.rules names (walked s.rules names start word) h.0 [] rest (enters s names word h.0 h.1);
      taken = h.2;
    })
    first (inr h) later =
        let after = mark_at s names word h.1 h.0 in
        let none : rest ≡ [] = mark_ends s names (walked s.rules names start word) rest alone after.0 after.1 later in
        inl (inr (ap (λ x. x ∷ rest) h.1 ∙ ap (λ xs. mark ∷ xs) none), ap (λ xs. stop_at s names (word ∷ xs)) none ∙ after.0)

-- ---- the subcommand that is entered

not_help : (is off : Bool) → off ≡ false → cond (is && not off) (DisplayHelp ∷ InvalidSubcommand ∷ []) [] ≡ [] → is ≡ false
not_help false off on e = refl
not_help true true on e = absurd (true≢false on)
not_help true false on e = cc

one_left : (a b : Bool) → (a || b) ≡ true → b ≡ false → a ≡ true
one_left true b e off = refl
one_left false b e off = absurd (true≢false (sym e ∙ off))

no_alias : (s : Shape) (word : Text) (aliases : List Text) → is_empty aliases ≡ true → answers_to word (s.name, aliases) ≡ true → s.name ≡ word
no_alias s word [] none e = (bytes_eq-Decides s.name word).0 (go (bytes_eq s.name word) e)
  where
    go : (b : Bool) → (b || false) ≡ true → b ≡ true
    go true e = refl
    go false e = e
no_alias s word (x ∷ xs) none e =
    let bad : x ∷ xs ≡ [] = is_nil (x ∷ xs) none in cc

-- What clap finds in words without an error: no subcommand and no words, or a known one and nothing more.
abbrev pub Finds : (Text → Bool) → List Text → Option Text → Type 0
Finds known words found = (IsEnd words × (found ≡ None))
    ⊎ ((name : Text) × (rest : List Text) × (words ≡ name ∷ rest) × (found ≡ Some name) × (known name ≡ true) × IsEnd rest)

leaf_ends : (s : Shape) (rest : List Text) → has_requests_alone s ≡ true → level_fault s [] nothing_held rest false [] ≡ [] → IsEnd rest
leaf_ends s rest alone e = go (level s [] rest alone (neither _ _ e).0)
  where
    go : (IsEnd rest × (stop_at s [] rest ≡ None)) ⊎ Enters s [] rest → IsEnd rest
    go (inl h) = h.0
    go (inr h) = let bad : None ≡ Some h.name = h.met in cc

record Entered (known : Text → Bool) (s : Shape) (word : Text) : Type 0 where
  pub name : s.name ≡ word
  pub plain : is_plain_subcommand known s ≡ true

entered_at : (known : Text → Bool) (subs : List Shape) (word : Text) → list_all (is_plain_subcommand known) subs ≡ true
    → IfSome (find (λ s. answers_to word (label_of s)) subs) (λ s. Entered known s word)
entered_at known subs word each = go (find (λ s. answers_to word (label_of s)) subs) (find_both (is_plain_subcommand known) (λ s. answers_to word (label_of s)) subs each)
  where
    go : (o : Option Shape) → IfSome o (λ s. (is_plain_subcommand known s ≡ true) × (answers_to word (label_of s) ≡ true)) → IfSome o (λ s. Entered known s word)
    go None h = tt
    go (Some s) h = record { name = no_alias s word s.aliases (both (is_empty s.aliases) _ h.0).0 h.1; plain = h.0 }

name_is : (known : Text → Bool) (o : Option Shape) (word name : Text) → IfSome o (λ s. Entered known s word) → option_map (λ l. l.0) (option_map label_of o) ≡ Some name → name ≡ word
name_is known None word name h met = cc
name_is known (Some s) word name h met =
    let same : s.name ≡ name = cc in sym same ∙ h.name

last : (known : Text → Bool) (o : Option Shape) (word name : Text) (rest : List Text) → IfSome o (λ s. Entered known s word) → option_map (λ l. l.0) (option_map label_of o) ≡ Some name
    → bytes_eq word (codes "help") ≡ false → option_map_or (λ s. level_fault s [] nothing_held rest false []) o [] ≡ []
    → (option_map (λ p. p.0) (option_map (λ s. rows_at s rest) o) ≡ Some word) × (known word ≡ true) × IsEnd rest
last known None word name rest h met other e = cc
last known (Some s) word name rest h met other e =
    let halves = both (is_empty s.aliases) ((known s.name && has_requests_alone s) || bytes_eq s.name (codes "help")) h.plain in
    let parts = both (known s.name) (has_requests_alone s) (one_left _ _ halves.1 (ap (λ n. bytes_eq n (codes "help")) h.name ∙ other)) in
    (ap (λ n. Some n) h.name, ap known (sym h.name) ∙ parts.0, leaf_ends s rest parts.1 e)

entering : (known : Text → Bool) (b : App) (words : List Text) → list_all (is_plain_subcommand known) b.subs ≡ true → b.top.disable_help_subcommand ≡ false
    → (h : Enters b.top (names_of b) words) → entered_fault b (stop_at b.top (names_of b) words) ≡ []
    → Finds known words (option_map (λ p. p.0) (entered b (stop_at b.top (names_of b) words)))
entering known b words each on h below =
    let o = find (λ s. answers_to h.word (label_of s)) b.subs in
    let at = entered_at known b.subs h.word each in
    let met : option_map (λ l. l.0) (option_map label_of o) ≡ Some h.name = ap (option_map (λ l. l.0)) (find-map (answers_to h.word) label_of b.subs) ∙ h.met in
    let same : h.name ≡ h.word = name_is known o h.word h.name at met in
    let other : bytes_eq h.word (codes "help") ≡ false = ap (λ n. bytes_eq n (codes "help")) (sym same) ∙ not_help (bytes_eq h.name (codes "help")) _ on h.taken in
    let stop : stop_at b.top (names_of b) words ≡ Some (h.word, h.rest) = h.stop ∙ ap (λ n. Some (n, h.rest)) same in
    let end = last known o h.word h.name h.rest at met other (ap (entered_fault b) (sym stop) ∙ below) in
    inr (h.word, h.rest, h.is, ap (λ p. option_map (λ q. q.0) (entered b p)) stop ∙ end.0, end.1, end.2)

finds_built : (known : Text → Bool) (b : App) (words : List Text) → list_all (is_plain_subcommand known) b.subs ≡ true → has_requests_alone b.top ≡ true
    → b.top.disable_help_subcommand ≡ false → built_fault b nothing_held words ≡ []
    → Finds known words (option_map (λ p. p.0) (entered b (stop_at b.top (names_of b) words)))
finds_built known b words each alone on e =
    let outer = neither (walk_fault b.top (names_of b) start words) _ e in
    let below = neither (entered_fault b (stop_at b.top (names_of b) words)) _ outer.1 in
    go (level b.top (names_of b) words alone outer.0) below.0
  where
    go : (IsEnd words × (stop_at b.top (names_of b) words ≡ None)) ⊎ Enters b.top (names_of b) words → entered_fault b (stop_at b.top (names_of b) words) ≡ []
        → Finds known words (option_map (λ p. p.0) (entered b (stop_at b.top (names_of b) words)))
    go (inl h) below = inl (h.0, ap (λ p. option_map (λ q. q.0) (entered b p)) h.1)
    go (inr h) below = entering known b words each on h below

pub finds : (known : Text → Bool) (a : App) (words : List Text) → list_all (is_plain_subcommand known) (built a).subs ≡ true → has_requests_alone (built a).top ≡ true
    → (built a).top.disable_help_subcommand ≡ false → fault_of a words ≡ []
    → Finds known (argument_words a words) (option_map (λ p. p.0) (subcommand_of a words))
finds known a words each alone on e = finds_built known (built a) (argument_words a words) each alone on e
