-- The code of lines gives their value.
use Rattle.std.proofs.Common.{◌≡◌, ℕ, zero, suc, ◌-◌, ◌≤◌, ◌==◌, Bool, true, false, if◌then◌else◌, List, [], ◌∷◌, length, Option, None, refl, sym, subst, arith}
use Rattle.std.proofs.lemmas.Bool.{eqb-true}
use Rattle.bpf_code.specs.declared.instr.Instr.{Instr}
use Rattle.bpf_code.specs.declared.instr.Instr.TheVariants.{Jump, RetK}
use Rattle.bpf_interp.proofs.Public.{Value-unique}
use Rattle.rules_code.specs.inner.Suffixes.{suffix_at}
use Rattle.rules_code.specs.Lines.{value_from, value_of_lines}
use Rattle.rules_code.specs.LineCode.{Coded, first_after, later_after, line_code, lines_coded, lines_code}
use Rattle.rules_code.specs.PlainTests.{holds}
use Rattle.rules_code.specs.Promise.{Classifies}
use Rattle.rules_code.specs.TestCode.{known_after, test_code}
use Rattle.rules_code.specs.declared.lines.Line.{Line}
use Rattle.rules_code.specs.declared.lines.Line.TheVariants.{Rule, Block, End}
use Rattle.rules_code.specs.declared.packet_part.Part.{Part}
use Rattle.rules_code.specs.declared.plain_test.PlainTest.{PlainTest}
use Rattle.rules_code.proofs.Suffixes.{Gives, gives_return, gives_jump, gives_whole, gives_from_whole}
use Rattle.rules_code.proofs.Growing.{IsLabel, AreSound, IsSoundBefore, extends_one, extends_more, gives_kept, label_front, label_kept}
use Rattle.rules_code.proofs.Loads.{IsHeld}
use Rattle.rules_code.proofs.Tests.{test_well, test_right}

-- The label after the end of this number, counted from 0.
abbrev label_after : List ℕ → ℕ → ℕ
label_after [] k = 1
label_after (label ∷ more) zero = label
label_after (label ∷ more) (suc k) = label_after more k

first_is : (after : List ℕ) → label_after after 0 ≡ first_after after
first_is [] = refl
first_is (label ∷ more) = refl

later_is : (after : List ℕ) (k : ℕ) → label_after after (suc k) ≡ label_after (later_after after) k
later_is [] k = refl
later_is (label ∷ more) k = refl

-- The code of lines is sound, ends with the last return, and leads to their value from each of its labels.
pub record IsFit (lines : List Line) (held : Option Part) (otherwise : ℕ) (d : Coded) : Type 0 where
  pub sound : AreSound d.code
  pub last : suffix_at d.code 1 ≡ RetK otherwise ∷ []
  pub entry_is : IsLabel d.code d.entry
  pub after_is : (k : ℕ) → IsLabel d.code (label_after d.after k)
  pub gives : (packet : List ℕ) (a : ℕ) → length packet ≡ 52 → IsHeld packet held a → Gives packet (suffix_at d.code d.entry) a (value_from lines 0 otherwise packet)
  pub skips : (packet : List ℕ) (k a : ℕ) → length packet ≡ 52 → Gives packet (suffix_at d.code (label_after d.after k)) a (value_from lines (suc k) otherwise packet)

none_fit : (held : Option Part) (otherwise : ℕ) → IsFit [] held otherwise (record { code = RetK otherwise ∷ []; entry = 1; after = [] })
none_fit held otherwise = record {
  sound = (tt, tt);
  last = refl;
  entry_is = record { positive = omega arith; within = omega arith };
  after_is = λ k. record { positive = omega arith; within = omega arith };
  gives = λ packet a whole h. gives_return packet [] a otherwise;
  skips = λ packet k a whole. gives_return packet [] a otherwise;
}

module _ (rest : List Line) (otherwise : ℕ) (test : PlainTest) (held : Option Part) where
  -- ---- a rule
  rule_on : (x : Bool) (packet : List ℕ) (code : List Instr) (met unmet b value later : ℕ) (one other : Option Part) → IsHeld packet (if x then one else other) b
      → Gives packet (suffix_at code met) b value → (IsHeld packet other b → Gives packet (suffix_at code unmet) b later)
      → Gives packet (suffix_at code (if x then met else unmet)) b (if x then value else later)
  rule_on true packet code met unmet b value later one other h p q = p
  rule_on false packet code met unmet b value later one other h p q = q h

  rule_fit : (value : ℕ) (d : Coded) → IsFit rest (known_after test held).unmet otherwise d → IsFit (Rule test value ∷ rest) held otherwise (line_code (Rule test value) held d)
  unfolding line_code
  rule_fit value d f =
      let code = RetK value ∷ d.code in
      let met = suc (length d.code) in
      let e = extends_one (RetK value) d.code tt in
      let unmet_is = label_kept d.code code d.entry e f.entry_is in
      let met_is = label_front (RetK value) d.code in
      let t = test_code test held code met d.entry in
      let w = test_well test held code met d.entry met_is unmet_is in
      let all = extends_more d.code code t.code e w.extends in
      let first = f.entry_is.positive in
      let within = f.entry_is.within in
      let one : 1 ≤ length d.code = omega arith in
      record {
        sound = all.sound f.sound;
        last = subst (λ (s : List Instr). s ≡ RetK otherwise ∷ []) (sym (all.kept 1 one)) f.last;
        entry_is = w.entry;
        after_is = λ k. label_kept d.code t.code (label_after d.after k) all (f.after_is k);
        gives = λ packet a whole h.
            let r = test_right packet whole test held code met d.entry met_is unmet_is in
            let x = holds test packet in
            r.gives a (if x then value else value_from rest 0 otherwise packet) h (λ b hb.
            rule_on x packet code met d.entry b value (value_from rest 0 otherwise packet) (known_after test held).met (known_after test held).unmet hb
            (gives_whole packet code b value (gives_return packet d.code b value))
            (λ known. gives_kept packet d.code code d.entry b (value_from rest 0 otherwise packet) e f.entry_is (f.gives packet b whole known)));
        skips = λ packet k a whole. gives_kept packet d.code t.code (label_after d.after k) a (value_from rest (suc k) otherwise packet) all (f.after_is k) (f.skips packet k a whole);
      }

  -- ---- the head of a block
  block_on : (x : Bool) (packet : List ℕ) (code : List Instr) (met unmet b inside past : ℕ) (one other : Option Part) → IsHeld packet (if x then one else other) b
      → (IsHeld packet one b → Gives packet (suffix_at code met) b inside) → Gives packet (suffix_at code unmet) b past
      → Gives packet (suffix_at code (if x then met else unmet)) b (if x then inside else past)
  block_on true packet code met unmet b inside past one other h p q = p h
  block_on false packet code met unmet b inside past one other h p q = q

  block_fit : (d : Coded) → IsFit rest (known_after test held).met otherwise d → IsFit (Block test ∷ rest) held otherwise (line_code (Block test) held d)
  unfolding line_code
  block_fit d f =
      let unmet = first_after d.after in
      let unmet_is = subst (λ (label : ℕ). IsLabel d.code label) (first_is d.after) (f.after_is 0) in
      let t = test_code test held d.code d.entry unmet in
      let w = test_well test held d.code d.entry unmet f.entry_is unmet_is in
      let first = f.entry_is.positive in
      let within = f.entry_is.within in
      let one : 1 ≤ length d.code = omega arith in
      record {
        sound = w.extends.sound f.sound;
        last = subst (λ (s : List Instr). s ≡ RetK otherwise ∷ []) (sym (w.extends.kept 1 one)) f.last;
        entry_is = w.entry;
        after_is = λ k. label_kept d.code t.code (label_after (later_after d.after) k) w.extends (subst (λ (label : ℕ). IsLabel d.code label) (later_is d.after k) (f.after_is (suc k)));
        gives = λ packet a whole h.
            let r = test_right packet whole test held d.code d.entry unmet f.entry_is unmet_is in
            let x = holds test packet in
            r.gives a (if x then value_from rest 0 otherwise packet else value_from rest 1 otherwise packet) h (λ b hb.
            block_on x packet d.code d.entry unmet b (value_from rest 0 otherwise packet) (value_from rest 1 otherwise packet) (known_after test held).met (known_after test held).unmet hb
            (λ known. f.gives packet b whole known)
            (subst (λ (label : ℕ). Gives packet (suffix_at d.code label) b (value_from rest 1 otherwise packet)) (first_is d.after) (f.skips packet 0 b whole)));
        skips = λ packet k a whole.
            gives_kept packet d.code t.code (label_after (later_after d.after) k) a (value_from rest (suc (suc k)) otherwise packet) w.extends
            (subst (λ (label : ℕ). IsLabel d.code label) (later_is d.after k) (f.after_is (suc k)))
            (subst (λ (label : ℕ). Gives packet (suffix_at d.code label) a (value_from rest (suc (suc k)) otherwise packet)) (later_is d.after k) (f.skips packet (suc k) a whole));
      }

-- ---- the end of a block
module _ (rest : List Line) (otherwise : ℕ) (d : Coded) (f : IsFit rest None otherwise d) where
  end_labels : (k : ℕ) → IsLabel d.code (label_after (d.entry ∷ d.after) k)
  end_labels zero = f.entry_is
  end_labels (suc k) = f.after_is k

  end_skips : (packet : List ℕ) (k a : ℕ) → length packet ≡ 52 → Gives packet (suffix_at d.code (label_after (d.entry ∷ d.after) k)) a (value_from (End ∷ rest) (suc k) otherwise packet)
  end_skips packet zero a whole = f.gives packet a whole tt
  end_skips packet (suc k) a whole = f.skips packet k a whole

  end_fit : (held : Option Part) → IsFit (End ∷ rest) held otherwise (line_code End held d)
  unfolding line_code
  end_fit held = record {
    sound = f.sound;
    last = f.last;
    entry_is = f.entry_is;
    after_is = end_labels;
    gives = λ packet a whole h. f.gives packet a whole tt;
    skips = end_skips;
  }

pub lines_fit : (lines : List Line) (held : Option Part) (otherwise : ℕ) → IsFit lines held otherwise (lines_coded lines held otherwise)
unfolding lines_coded
lines_fit [] held otherwise = none_fit held otherwise
lines_fit (Rule test value ∷ rest) held otherwise =
    rule_fit rest otherwise test held value (lines_coded rest (known_after test held).unmet otherwise) (lines_fit rest (known_after test held).unmet otherwise)
lines_fit (Block test ∷ rest) held otherwise =
    block_fit rest otherwise test held (lines_coded rest (known_after test held).met otherwise) (lines_fit rest (known_after test held).met otherwise)
lines_fit (End ∷ rest) held otherwise = end_fit rest otherwise (lines_coded rest None otherwise) (lines_fit rest None otherwise) held

-- ---- from the first instruction on

pub record IsWhole (lines : List Line) (otherwise : ℕ) (code : List Instr) : Type 0 where
  pub sound : AreSound code
  pub last : suffix_at code 1 ≡ RetK otherwise ∷ []
  pub some : 1 ≤ length code
  pub gives : (packet : List ℕ) (a : ℕ) → length packet ≡ 52 → Gives packet code a (value_of_lines lines otherwise packet)

begun_whole : (b : Bool) (lines : List Line) (otherwise : ℕ) (d : Coded) → IsFit lines None otherwise d → (b ≡ true → d.entry ≡ length d.code)
    → IsWhole lines otherwise (if b then d.code else Jump (length d.code - d.entry) ∷ d.code)
begun_whole true lines otherwise d f e =
    let front = e refl in
    let first = f.entry_is.positive in
    record {
      sound = f.sound;
      last = f.last;
      some = omega arith;
      gives = λ packet a whole.
          gives_from_whole packet d.code a (value_of_lines lines otherwise packet) (subst (λ (label : ℕ). Gives packet (suffix_at d.code label) a (value_of_lines lines otherwise packet)) front (f.gives packet a whole tt));
    }
begun_whole false lines otherwise d f e =
    let first = f.entry_is.positive in
    let within = f.entry_is.within in
    let before : IsSoundBefore (Jump (length d.code - d.entry)) (length d.code) = omega arith in
    let one : 1 ≤ length d.code = omega arith in
    let more = extends_one (Jump (length d.code - d.entry)) d.code before in
    record {
      sound = more.sound f.sound;
      last = subst (λ (s : List Instr). s ≡ RetK otherwise ∷ []) (sym (more.kept 1 one)) f.last;
      some = omega arith;
      gives = λ packet a whole. gives_jump packet (length d.code - d.entry) d.code a (value_of_lines lines otherwise packet) (f.gives packet a whole tt);
    }

pub lines_whole : (lines : List Line) (otherwise : ℕ) → IsWhole lines otherwise (lines_code lines otherwise)
unfolding lines_code
lines_whole lines otherwise =
    let d = lines_coded lines None otherwise in
    begun_whole (d.entry == length d.code) lines otherwise d (lines_fit lines None otherwise) (eqb-true d.entry (length d.code))

-- The code classifies every packet of 52 octets.
pub lines_classify : (lines : List Line) (otherwise : ℕ) → Classifies lines otherwise (lines_code lines otherwise)
lines_classify lines otherwise =
    let code = lines_code lines otherwise in
    let w = lines_whole lines otherwise in
    record {
      gives = λ packet whole. let given = w.gives packet 0 whole in given.ends code 0 0 [] refl;
      only = λ packet value steps whole there.
          let given = w.gives packet 0 whole in
          let found = given.ends code 0 0 [] refl in
          let same = Value-unique code packet value (value_of_lines lines otherwise packet) steps found.0 there found.1 in
          same.0;
    }
