-- Facts from a log about the codes.
use Rattle.std.proofs.Common.{◌≡◌, ◌≢◌, true, false, cond, List, [], ◌∷◌, ◌++◌, Some, None, refl, sym, ap, ◌∙◌, subst, inl, inr}
use Rattle.bpf_code.specs.declared.instr.Instr.{Instr}
use Rattle.gen_arena.specs.declared.id.Id.{Id}
use Rattle.gen_arena.specs.SameId.{is_same_id}
use Rattle.gen_arena.proofs.Public.{id_itself, id_differs, id_cases}
use Rattle.card_core.specs.declared.reply.Reply.{Reply}
use Rattle.card_core.specs.declared.reply.Reply.TheVariants.{Retired}
use Rattle.card_core.specs.declared.step.Step.{Step}
use Rattle.card_core.specs.declared.step.Step.TheVariants.{Load, Retire}
use Rattle.card_core.specs.World.{World, Loading, code_in, without_code}
use Rattle.card_core.specs.Log.{Event}
use Rattle.card_core.specs.Headline.{Never, loads, retires, loading, IsLoadedOnce}
use Rattle.card_core.proofs.Sound.{WorldInvariant}
use Rattle.card_core.proofs.LogLemmas.{event_of, cut-more, never-nothing, never-more}
use Rattle.card_core.proofs.Effects.{StoreEffects, store_same, store_loaded, store_retired}
use Rattle.card_core.proofs.CodeLemmas.{code-cases, without_code-was}

-- One more event that loads nothing under the id.
pub loaded-more : (log : List Event) (event : Event) (id : Id) (code : List Instr) → IsLoadedOnce log id code
    → loads id event ≡ false → IsLoadedOnce (log ++ event ∷ []) id code
loaded-more log event id code known none = record {
  earlier = known.earlier;
  later = known.later ++ event ∷ [];
  cut = cut-more log known.earlier known.later (loading code id) event known.cut;
  first = known.first;
  last = never-more (loads id) known.later event known.last none;
}

-- The event that loads the code, under a new id.
loaded-now : (log : List Event) (id : Id) (code : List Instr) → Never (loads id) log
    → IsLoadedOnce (log ++ loading code id ∷ []) id code
loaded-now log id code new = record {
  earlier = log;
  later = [];
  cut = refl;
  first = new;
  last = never-nothing (loads id);
}

-- Facts from a log about the codes that were given and those that are live.
pub record KnowsCodes (log : List Event) (given live : List Loading) : Type 0 where
  pub loaded : (id : Id) (code : List Instr) → code_in given id ≡ Some code → IsLoadedOnce log id code
  pub unloaded : (id : Id) → code_in given id ≡ None → Never (loads id) log
  pub kept : (id : Id) (code : List Instr) → code_in live id ≡ Some code → Never (retires id) log
  pub untouched : (id : Id) → code_in given id ≡ None → Never (retires id) log

-- An id without a code has none after a load under another id.
none-given : (given : List Loading) (id other : Id) (code : List Instr)
    → code_in (record { id = id; code = code } ∷ given) other ≡ None → (other ≢ id) × (code_in given other ≡ None)
none-given given id other code e = elim (id_cases other id) [
  | inl same ↦
      let at : is_same_id other id ≡ true = subst (λ (i : Id). is_same_id other i ≡ true) same (id_itself other) in
      let some : cond (is_same_id other id) (Some code) (code_in given other) ≡ Some code =
      ap (λ b. cond b (Some code) (code_in given other)) at in
      absurd (cc)
  | inr apart ↦ (apart, ap (λ b. cond b (Some code) (code_in given other)) (sym (id_differs other id apart)) ∙ e)
]

pub codes-step : (log : List Event) (before after : World) (step : Step) (reply : Reply) → WorldInvariant before
    → KnowsCodes log before.loaded before.live → StoreEffects before after step reply
    → KnowsCodes (log ++ event_of step reply ∷ []) after.loaded after.live
codes-step log before after step reply sound known (store_same given live none_loaded none_retired) =
    let event : Event = event_of step reply in
    subst (λ (g : List Loading). KnowsCodes (log ++ event ∷ []) g after.live) (sym given)
    (subst (λ (l : List Loading). KnowsCodes (log ++ event ∷ []) before.loaded l) (sym live) (record {
      loaded = λ id code e. loaded-more log event id code (known.loaded id code e) (none_loaded id);
      unloaded = λ id e. never-more (loads id) log event (known.unloaded id e) (none_loaded id);
      kept = λ id code e. never-more (retires id) log event (known.kept id code e) (none_retired id);
      untouched = λ id e. never-more (retires id) log event (known.untouched id e) (none_retired id);
    }))
codes-step log before after step reply sound known (store_loaded id code step_is reply_is given live new) =
    let first : Loading = record { id = id; code = code } in
    let event : Event = loading code id in
    let now : KnowsCodes (log ++ event ∷ []) (first ∷ before.loaded) (first ∷ before.live) = record {
      loaded = λ other found e. elim (code-cases first before.loaded other found e) [
        | inl here ↦
            subst (λ (i : Id). IsLoadedOnce (log ++ event ∷ []) i found) (sym here.0)
            (subst (λ (c : List Instr). IsLoadedOnce (log ++ event ∷ []) id c) here.1 (loaded-now log id code (known.unloaded id new)))
        | inr there ↦ loaded-more log event other found (known.loaded other found there.1) (id_differs other id there.0)
      ];
      unloaded = λ other e.
          let none = none-given before.loaded id other code e in
          never-more (loads other) log event (known.unloaded other none.1) (id_differs other id none.0);
      kept = λ other found e. elim (code-cases first before.live other found e) [
        | inl here ↦
            let none : code_in before.loaded other ≡ None = subst (λ (i : Id). code_in before.loaded i ≡ None) (sym here.0) new in
            never-more (retires other) log event (known.untouched other none) refl
        | inr there ↦ never-more (retires other) log event (known.kept other found there.1) refl
      ];
      untouched = λ other e.
          never-more (retires other) log event (known.untouched other (none-given before.loaded id other code e).1) refl;
    } in
    subst (λ (s : Step). KnowsCodes (log ++ event_of s reply ∷ []) after.loaded after.live) (sym step_is)
    (subst (λ (r : Reply). KnowsCodes (log ++ event_of (Load code) r ∷ []) after.loaded after.live) (sym reply_is)
    (subst (λ (g : List Loading). KnowsCodes (log ++ event ∷ []) g after.live) (sym given)
    (subst (λ (l : List Loading). KnowsCodes (log ++ event ∷ []) (first ∷ before.loaded) l) (sym live) now)))
codes-step log before after step reply sound known (store_retired id code step_is reply_is given live was) =
    let event : Event = event_of (Retire id) (Retired code) in
    let now : KnowsCodes (log ++ event ∷ []) before.loaded (without_code before.live id) = record {
      loaded = λ other found e. loaded-more log event other found (known.loaded other found e) refl;
      unloaded = λ other e. never-more (loads other) log event (known.unloaded other e) refl;
      kept = λ other found e.
          let there = without_code-was before.live id other found e in
          never-more (retires other) log event (known.kept other found there.1) (id_differs other id there.0);
      untouched = λ other e.
          let apart : other ≢ id = λ same.
          let given_too = sound.programs.live_given id code was in
          let none : code_in before.loaded id ≡ None = subst (λ (i : Id). code_in before.loaded i ≡ None) same e in
          absurd (cc) in
          never-more (retires other) log event (known.untouched other e) (id_differs other id apart);
    } in
    subst (λ (s : Step). KnowsCodes (log ++ event_of s reply ∷ []) after.loaded after.live) (sym step_is)
    (subst (λ (r : Reply). KnowsCodes (log ++ event_of (Retire id) r ∷ []) after.loaded after.live) (sym reply_is)
    (subst (λ (g : List Loading). KnowsCodes (log ++ event ∷ []) g after.live) (sym given)
    (subst (λ (l : List Loading). KnowsCodes (log ++ event ∷ []) before.loaded l) (sym live) now)))
